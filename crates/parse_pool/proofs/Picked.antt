-- What a worker's part of the arena is when the arena is shared: the owner's, or a new one that has nothing.
use Rattle.std.proofs.Common.{◌≡◌, ◌<◌, ℕ, false, not, List, ◌++◌, map, length, take, refl, sym, ap, ◌∙◌, ⊎_elim}
use Rattle.std.specs.FinMap as fin
use Rattle.std.proofs.lemmas.Bool.{cases_Bool, false≢true}
use Rattle.std.proofs.lemmas.List.{map-append}
use mathlib.Core.Option.{some}
use lib.ListN.{get_elem?}
use Rattle.arena_mem.specs.declared.place.Place.{Place}
use Rattle.arena_mem.specs.declared.place.Buffer.{Buffer}
use Rattle.serial_arena.specs.Serial.{SerialState, places_of, buffers_of}
use Rattle.arena_list.specs.declared.entry.Entry.{Entry}
use Rattle.arena_list.specs.Rule.Founded.{caller, has, slot}
use Rattle.arena_list.proofs.Rule.Opening.{at_has, filter_keeps, has_at}
use Rattle.arena_list.proofs.Words.Few.{at_mapped}
use Rattle.arena_list.proofs.Words.Lists.{at_more, at_there}
use Rattle.ts_arena.proofs.Whole.{buffers_of_part, places_of_part}
use Rattle.ts_arena.specs.Arena.{ArenaState, IsArena}
use Rattle.ts_arena.specs.declared.pass.Pass.{Pass}
use Rattle.ts_arena.specs.Passes.{SharedState, AreFirstPasses, HasPart}
use Rattle.ts_arena.specs.Places.{IsPartOf}
use Rattle.ts_arena.specs.Sharing.{empty_part}
use Rattle.ts_arena.specs.Sole.{arena_buffers, arena_places}
use Rattle.parse_pool.specs.Starting.{AreCounted}

-- at the names of its region an arena has what this part has
pub record LooksAs (a : ArenaState) (part : SerialState) : Type 0 where
  pub places : (x : Place) → x.region ≡ part.region → fin.get (arena_places a) x ≡ fin.get (places_of part) x
  pub buffers : (x : Buffer) → x.region ≡ part.region → fin.get (arena_buffers a) x ≡ fin.get (buffers_of part) x

pub looks_as_part : (a : ArenaState) → IsArena a → (s : SerialState) → IsPartOf a s → LooksAs a s
looks_as_part a is s there = record { places = λ x same. places_of_part a is s there x same; buffers = λ x same. buffers_of_part a is s there x same }

-- the part is an owner's, or it has nothing and no owner has its slot
pub data Whose (a : ArenaState) (k : ℕ) (part : SerialState) : Type 0 where
  Owned : (e : Entry SerialState) (i : ℕ) → get_elem? a.owners i ≡ some e → e.caller ≡ k → e.part ≡ part → Whose a k part
  New : (at : ℕ) → part ≡ empty_part a.policy a.life k at → has (map slot a.owners) at ≡ false → Whose a k part

-- the part that a pass has when the arena is shared
pub record Picked (a : ArenaState) (k : ℕ) (p : Pass) : Type 0 where
  pub part : SerialState
  pub has_part : HasPart p part
  pub whose : Whose a k part

-- a number that isn't among all isn't among the first
not_in_front : (xs ys : List ℕ) (x : ℕ) → has (xs ++ ys) x ≡ false → has xs x ≡ false
not_in_front xs ys x none = ⊎_elim (λ t. let at = has_at xs x t in absurd (false≢true (sym none ∙ at_has (xs ++ ys) at.0 x (at_more xs ys at.0 x at.1)))) (λ f. f) (cases_Bool (has xs x))

module _ (a : ArenaState) (sh : SharedState) (numbers : List ℕ) (passes : List Pass) (first : AreFirstPasses a numbers sh passes) (counted : AreCounted numbers) where
  pub own_number : (k : ℕ) → k < length numbers → get_elem? numbers k ≡ some k
  own_number k low = let at = at_there numbers k low in at.1 ∙ ap (λ (x : ℕ). some x) (counted k at.0 at.1)

  -- the spare entry of a caller that owns nothing
  spare_of : (k : ℕ) → k < length numbers → has (map caller a.owners) k ≡ false → (j : ℕ) × (e : Entry SerialState) × (get_elem? first.spares j ≡ some e) × (e.caller ≡ k)
  spare_of k low none =
      let test = λ (c : ℕ). not (has (map caller a.owners) c) in
      let among = filter_keeps test numbers k k (own_number k low) (ap not none) in
      let at = at_mapped (λ (e : Entry SerialState). e.caller) first.spares among.0 k (ap (λ (ks : List ℕ). get_elem? ks among.0) first.spares_are.callers_are ∙ among.1) in
      (among.0, at.0, at.1, at.2)

  pub picked : (k : ℕ) (p : Pass) → k < length numbers → get_elem? passes k ≡ some p → Picked a k p
  picked k p low there =
      let is = first.each k k p (own_number k low) there in
      ⊎_elim
      (λ t. let j = has_at (map caller a.owners) k t in let e = at_mapped (λ (e : Entry SerialState). e.caller) a.owners j.0 k j.1 in record {
        part = e.0.part;
        has_part = (is.own j.0 e.0 e.1 e.2).1;
        whose = Owned e.0 j.0 e.1 e.2 refl;
      })
      (λ f. let s = spare_of k low f in let free = (first.spares_are.slots_are s.0 s.1 s.2).free in record {
        part = s.1.part;
        has_part = (is.beside s.0 s.1 s.2 s.3).2;
        whose = New s.1.slot (first.spares_are.empty s.0 s.1 s.2 ∙ ap (λ (c : ℕ). empty_part a.policy a.life c s.1.slot) s.3) (not_in_front (map slot a.owners) (map slot (take s.0 first.spares)) s.1.slot (ap (λ (xs : List ℕ). has xs s.1.slot) (sym (map-append slot a.owners (take s.0 first.spares))) ∙ free));
      })
      (cases_Bool (has (map caller a.owners) k))
