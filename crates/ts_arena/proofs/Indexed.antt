-- The index of adopted regions, and the table of slots.
use Rattle.std.proofs.Common.{◌≡◌, ◌≢◌, ℕ, ◌<◌, false, List, [], ◌∷◌, ◌++◌, length, set, Some, sym, ap, subst, ◌∙◌, ⊎_elim}
use Rattle.std.specs.Ordering.{nat_cmp, is_eq}
use Rattle.std.specs.FinMap.{nat_cmp-IsAntisymmetric}
use Rattle.std.proofs.lemmas.Bool.{false_from_ne_true}
use Rattle.std.proofs.lemmas.Option.{same_Some}
use Rattle.arena_mem.proofs.Entries.{one_key}
use Rattle.std.specs.BTreeMap.{BTreeMap, get, Updates}
use mathlib.Core.Option.{some}
use lib.ListN.{get_elem?}
use Rattle.serial_arena.specs.Serial.{SerialState}
use Rattle.arena_list.proofs.Words.Lists.{at_end, at_below}
use Rattle.ts_arena.specs.Parts.{no_part, region_at, HasRegion, IsIndexed}
use Rattle.ts_arena.proofs.Spots.{at_or, or_at, at_set}

-- another part of the same number in the place of one
pub index_kept : (index : BTreeMap ℕ ℕ) (ss : List SerialState) (k : ℕ) (t : SerialState) → IsIndexed index ss → k < length ss → t.region ≡ (region_at ss k).region → IsIndexed index (set ss k t)
index_kept index ss k t is h same = record {
  each = λ i s at. ⊎_elim
      (λ w. subst (λ (n : ℕ). get nat_cmp index s.region ≡ Some n) (sym w.0) (ap (λ (r : ℕ). get nat_cmp index r) (ap (λ (x : SerialState). x.region) w.1 ∙ same) ∙ is.each k (region_at ss k) (at_or ss k no_part h)))
      (λ w. is.each i s w.1)
      (at_set ss k t i s at);
}

-- one region more
pub index_more : (index now : BTreeMap ℕ ℕ) (ss : List SerialState) (s : SerialState) (n : ℕ) → IsIndexed index ss → n ≡ length ss → Updates nat_cmp index now s.region (Some n)
    → ((k : ℕ) (x : SerialState) → get_elem? ss k ≡ some x → x.region ≢ s.region) → IsIndexed now (ss ++ s ∷ [])
index_more index now ss s n is count updates new = record {
  each = λ k x at. ⊎_elim
      (λ t. updates.2 x.region (test_other s.region x.region (λ e. new k x t (sym e))) ∙ is.each k x t)
      (λ t. ap (λ (r : ℕ). get nat_cmp now r) (ap (λ (y : SerialState). y.region) (sym t.1)) ∙ updates.1 ∙ ap (λ (m : ℕ). Some m) (count ∙ sym t.0))
      (at_end ss s x k at);
} where
  test_other : (p q : ℕ) → p ≢ q → is_eq (nat_cmp p q) ≡ false
  test_other p q other = false_from_ne_true _ (λ e. other (one_key nat_cmp-IsAntisymmetric p q e))

-- where the index finds a region
pub index_there : (index : BTreeMap ℕ ℕ) (ss : List SerialState) (number at : ℕ) → IsIndexed index ss → HasRegion ss number → get nat_cmp index number ≡ Some at → (at < length ss) × ((region_at ss at).region ≡ number)
index_there index ss number at is has found =
    let here : at ≡ has.0 = same_Some at has.0 (sym found ∙ ap (λ (r : ℕ). get nat_cmp index r) (sym has.3) ∙ is.each has.0 has.1 has.2) in (
      subst (λ (n : ℕ). n < length ss) (sym here) (at_below ss has.0 has.1 has.2),
      ap (λ (n : ℕ). (region_at ss n).region) here ∙ ap (λ (x : SerialState). x.region) (or_at ss has.0 has.1 no_part has.2) ∙ has.3,
    )
