-- What was in an arena when it was shared keeps its bytes until it is settled.
use Rattle.std.proofs.Common.{◌≡◌, ◌<◌, ℕ, not, List, [], length, Option, Some, refl, sym, ap, ◌∙◌, inl, inr, ⊎_elim, arith, subst}
use Rattle.arena_list.proofs.Words.Lists.{at_below}
use Rattle.std.specs.Prelude.{IsSome, IfSome}
use Rattle.std.specs.FinMap as fin
use Rattle.std.proofs.lemmas.Bool.{cases_Bool}
use mathlib.Core.Option.{some}
use lib.ListN.{get_elem?}
use Rattle.arena_mem.specs.declared.place.Place.{Place}
use Rattle.arena_mem.specs.declared.place.Buffer.{Buffer}
use Rattle.serial_arena.specs.Serial.{SerialState, places_of, buffers_of}
use Rattle.arena_list.specs.declared.entry.Entry.{Entry}
use Rattle.arena_list.specs.Closing.Closed.{entry}
use Rattle.arena_list.specs.Rule.Founded.{has}
use Rattle.arena_list.proofs.Rule.Opening.{filter_keeps, has_at}
use Rattle.dyn_message.specs.declared.msg_ref.MsgRef.{MsgRef}
use Rattle.dyn_message.specs.Feet.{InPlace, InBuffer, KeepsOthers}
use Rattle.life_ids.specs.Cache.{CacheState}
use Rattle.ts_arena.proofs.Whole.{buffer_there, buffers_of_part, place_there, places_of_part}
use Rattle.ts_arena.specs.Arena.{ArenaState, IsArena}
use Rattle.ts_arena.specs.declared.pass.Pass.{Pass}
use Rattle.ts_arena.specs.Passes.{SharedState, AreFirstPasses, IsSharedFrom, slot_of}
use Rattle.ts_arena.specs.Places.{IsPartOf}
use Rattle.ts_arena.specs.Settling.{IsSettledFrom}
use Rattle.ts_arena.specs.Sole.{arena_buffers, arena_places}
use Rattle.parse_pool.specs.declared.pool_end.PoolEnd.{PoolEnd}
use Rattle.parse_pool.specs.Phased.{HasRun}
use Rattle.parse_pool.specs.Phases.{PhaseState}
use Rattle.parse_pool.specs.Starting.{AreCounted}
use Rattle.parse_pool.proofs.AtWork.{at_work, grown_of}
use Rattle.parse_pool.proofs.Picked.{own_number}

-- what is live or kept in a part keeps its bytes in an arena
pub record KeepsPart (s : SerialState) (b : ArenaState) : Type 0 where
  pub places : (x : Place) (v : List ℕ) → x.region ≡ s.region → fin.get (places_of s) x ≡ Some v → fin.get (arena_places b) x ≡ Some v
  pub buffers : (x : Buffer) (v : List ℕ) → x.region ≡ s.region → fin.get (buffers_of s) x ≡ Some v → fin.get (arena_buffers b) x ≡ Some v

-- a part of the arena
pub kept_as_is : (b : ArenaState) → IsArena b → (s : SerialState) → IsPartOf b s → KeepsPart s b
kept_as_is b is s there = record {
  places = λ x v same at. places_of_part b is s there x same ∙ at;
  buffers = λ x v same at. buffers_of_part b is s there x same ∙ at;
}

-- a part that grew, and is one of the arena then
pub kept_grown : (b : ArenaState) → IsArena b → (s g : SerialState) → IsPartOf b g → g.region ≡ s.region → KeepsOthers (places_of s) (buffers_of s) (places_of g) (buffers_of g) [] → KeepsPart s b
kept_grown b is s g there region_is others = record {
  places = λ x v same at. places_of_part b is g there x (same ∙ sym region_is) ∙ others (InPlace x) v refl at;
  buffers = λ x v same at. buffers_of_part b is g there x (same ∙ sym region_is) ∙ others (InBuffer x) v refl at;
}

pub joined_as_before : (o p : Option ℕ) (at : ℕ) → o ≡ Some at → IfSome o (λ slot. p ≡ Some slot) → IsSome p
joined_as_before o p at is same = let told = subst (λ x. IfSome x (λ slot. p ≡ Some slot)) is same in subst (λ x. IsSome x) (sym told) refl

pub some_live : {A : Type 0} (o : Option A) (v : A) → o ≡ Some v → IsSome o
some_live o v is = subst (λ x. IsSome x) (sym is) refl

module _ (ph : PhaseState) (passes passes' : List Pass) (caches caches' : List CacheState) (messages : List MsgRef) (end : PoolEnd) (run : HasRun ph passes passes' caches caches' messages end) (long : length caches ≡ length passes)
    (a b : ArenaState) (sh : SharedState) (numbers : List ℕ) (shared : IsSharedFrom a numbers sh) (first : AreFirstPasses a numbers sh passes) (counted : AreCounted numbers) (settled : IsSettledFrom sh passes' b) (is_a : IsArena a) (is_b : IsArena b) where
  -- an owner's part
  owner_kept : (e : Entry SerialState) (i : ℕ) → get_elem? a.owners i ≡ some e → KeepsPart e.part b
  owner_kept e i at = ⊎_elim
      (λ t.
      let j = has_at numbers e.caller t in
      let k = e.caller in
      let same : k ≡ j.0 = counted j.0 k j.1 in
      let low : k < length numbers = omega (arith, at_below numbers j.0 k j.1, same) in
      let w = at_work ph passes passes' caches caches' messages end run long k (omega (arith, low, first.count)) in
      let own = (first.each k k w.first (own_number a sh numbers passes first counted k low) w.first_there).own i e at refl in
      let g = grown_of ph passes passes' caches caches' messages end run a b sh numbers first counted settled is_b k low w e.part own.1 (joined_as_before (slot_of w.first) (slot_of w.last) e.slot own.0 w.turned.slot) in
      kept_grown b is_b e.part g.grown (inl (g.index, entry g.at k g.grown, g.there, refl)) g.region_is g.parsed.changes.others)
      (λ f.
      let among = filter_keeps (λ (x : Entry SerialState). not (has numbers x.caller)) a.owners i e at (ap not f) in
      let there = settled.rested e (among.0, ap (λ (es : List (Entry SerialState)). get_elem? es among.0) shared.resting_are ∙ among.1) in
      kept_as_is b is_b e.part (inl (there.0, e, there.1, refl)))
      (cases_Bool (has numbers e.caller))

  part_kept : (s : SerialState) → IsPartOf a s → KeepsPart s b
  part_kept s there = ⊎_elim
      (λ o. subst (λ (x : SerialState). KeepsPart x b) o.3 (owner_kept o.1 o.0 o.2))
      (λ o. kept_as_is b is_b s (inr (o.0, ap (λ (ss : List SerialState). get_elem? ss o.0) (settled.adopted_are ∙ shared.adopted_are) ∙ o.1)))
      there

  pub arena_kept : KeepsOthers (arena_places a) (arena_buffers a) (arena_places b) (arena_buffers b) []
  arena_kept (InPlace x) v none is =
      let s = place_there a x (some_live (fin.get (arena_places a) x) v is) in
      (part_kept s.0 s.1).places x v (sym s.2) (sym (places_of_part a is_a s.0 s.1 x (sym s.2)) ∙ is)
  arena_kept (InBuffer x) v none is =
      let s = buffer_there a x (some_live (fin.get (arena_buffers a) x) v is) in
      (part_kept s.0 s.1).buffers x v (sym s.2) (sym (buffers_of_part a is_a s.0 s.1 x (sym s.2)) ∙ is)
