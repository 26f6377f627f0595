-- A message of a phase, in the arena that is settled behind it.
use Rattle.std.proofs.Common.{◌≡◌, ◌<◌, ℕ, false, List, [], length, map, Option, None, Some, refl, sym, ap, ◌∙◌, inl, ⊎_elim, arith, subst}
use Rattle.std.specs.FinMap as fin
use Rattle.std.proofs.lemmas.Bool.{false≢true}
use mathlib.Core.Option.{some}
use Rattle.arena_mem.specs.declared.place.Place.{Place}
use Rattle.arena_mem.specs.declared.place.Buffer.{Buffer}
use Rattle.arena_mem.proofs.Entries.{stands}
use Rattle.arena_mem.proofs.Maps.{buffers_total, exact_buffers}
use Rattle.serial_arena.specs.Serial.{SerialState, places_of, buffers_of, numbered}
use Rattle.serial_arena.proofs.Names.{live_at}
use Rattle.arena_list.specs.Rule.Founded.{has, slot}
use Rattle.arena_list.proofs.Rule.Opening.{at_has}
use Rattle.arena_list.proofs.Words.Few.{at_map}
use Rattle.dyn_message.specs.Feet.{Foot, InPlace, InBuffer, KeepsOthers, foot_bytes}
use Rattle.ts_arena.proofs.Whole.{buffer_named, buffer_there, place_named, place_there}
use Rattle.ts_arena.specs.Arena.{ArenaState, IsArena}
use Rattle.ts_arena.specs.Places.{IsPartOf}
use Rattle.ts_arena.specs.Sharing.{empty_part}
use Rattle.ts_arena.specs.Sole.{arena_buffers, arena_places}
use Rattle.parse_pool.proofs.Kept.{KeepsPart, some_live}
use Rattle.parse_pool.proofs.Picked.{LooksAs, Whose, Owned, New, looks_as_part}

-- THE REGION OF A FOOT

abbrev pub foot_region : Foot → ℕ
foot_region (InPlace p) = p.region
foot_region (InBuffer b) = b.region

pub foot_named : (s : SerialState) (foot : Foot) (v : List ℕ) → foot_bytes (places_of s) (buffers_of s) foot ≡ Some v → foot_region foot ≡ s.region
foot_named s (InPlace p) v is = place_named s p v is
foot_named s (InBuffer b) v is = buffer_named s b v is

pub looks_at_foot : (a : ArenaState) (part : SerialState) → LooksAs a part → (foot : Foot) → foot_region foot ≡ part.region → foot_bytes (arena_places a) (arena_buffers a) foot ≡ foot_bytes (places_of part) (buffers_of part) foot
looks_at_foot a part looks (InPlace p) same = looks.places p same
looks_at_foot a part looks (InBuffer b) same = looks.buffers b same

pub part_keeps_all : (s : SerialState) (b : ArenaState) → KeepsPart s b → KeepsOthers (places_of s) (buffers_of s) (arena_places b) (arena_buffers b) []
part_keeps_all s b keeps (InPlace x) v none is = keeps.places x v (place_named s x v is) is
part_keeps_all s b keeps (InBuffer x) v none is = keeps.buffers x v (buffer_named s x v is) is

-- A NEW PART

none_of : {A : Type 0} (o : Option A) → ((v : A) → o ≡ Some v → ⊥) → o ≡ None
none_of None none = refl
none_of (Some v) none = absurd (none v refl)

no_part : (a : ArenaState) → IsArena a → (at : ℕ) → has (map slot a.owners) at ≡ false → at < 64 → (s : SerialState) → IsPartOf a s → s.region ≡ at → ⊥
no_part a is at free small s there same = ⊎_elim
    (λ o. let keyed = (is.owners.held.each o.0 o.1 o.2).keyed in
    let mine : o.1.slot ≡ at = sym keyed.region_is ∙ ap (λ (x : SerialState). x.region) o.3 ∙ same in
    false≢true (sym free ∙ at_has (map slot a.owners) o.0 at (at_map slot a.owners o.0 o.1 o.2 ∙ ap (λ (n : ℕ). some n) mine)))
    (λ o. let high = (is.adopted.each o.0 s o.1).high in omega (arith, high, same, small))
    there

no_place : (s : SerialState) → s.placements ≡ [] → (x : Place) → fin.get (places_of s) x ≡ None
no_place s none x = none_of (fin.get (places_of s) x) (λ v found. let at = live_at s x v found in omega (arith, at.1, ap (λ (xs : _). length xs) none))

no_buffer : (s : SerialState) → s.kept ≡ [] → (x : Buffer) → fin.get (buffers_of s) x ≡ None
no_buffer s none x = none_of (fin.get (buffers_of s) x) (λ v found.
    let at = stands buffers_total exact_buffers no_entry (numbered s.region 0 s.kept) x v found in
    omega (arith, at.1, ap (λ (xs : List (List ℕ)). length (numbered s.region 0 xs)) none))
  where
    no_entry : Buffer × List ℕ
    no_entry = (record { region = 0; number = 0 }, [])

-- where no owner has its slot an arena has nothing at the names of its region
pub looks_as_none : (a : ArenaState) → IsArena a → (k at : ℕ) (part : SerialState) → part ≡ empty_part a.policy a.life k at → has (map slot a.owners) at ≡ false → at < 64 → LooksAs a part
looks_as_none a is k at part new free small = record {
  places = λ x same. none_of (fin.get (arena_places a) x) (λ v found. let s = place_there a x (some_live (fin.get (arena_places a) x) v found) in no_part a is at free small s.0 s.1 (s.2 ∙ same ∙ region_is))
      ∙ sym (no_place part (ap (λ (s : SerialState). s.placements) new) x);
  buffers = λ x same. none_of (fin.get (arena_buffers a) x) (λ v found. let s = buffer_there a x (some_live (fin.get (arena_buffers a) x) v found) in no_part a is at free small s.0 s.1 (s.2 ∙ same ∙ region_is))
      ∙ sym (no_buffer part (ap (λ (s : SerialState). s.kept) new) x);
}
  where
    region_is : part.region ≡ at
    region_is = ap (λ (s : SerialState). s.region) new

pub looks_as_whose : (a : ArenaState) → IsArena a → (k : ℕ) (part : SerialState) → Whose a k part → part.region < 64 → LooksAs a part
looks_as_whose a is k part (Owned e i there who same) small = subst (λ (s : SerialState). LooksAs a s) same (looks_as_part a is e.part (inl (i, e, there, refl)))
looks_as_whose a is k part (New at new free) small = looks_as_none a is k at part new free (omega (arith, small, ap (λ (s : SerialState). s.region) new))
