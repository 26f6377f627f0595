-- Searches from the front of a list.
use Rattle.std.proofs.Common.{◌≡◌, ℕ, zero, suc, ◌+◌, ◌<◌, ◌≤◌, ◌≢◌, Bool, true, false, cond, List, [], ◌∷◌, length, get_or, sym, refl, ap, subst, ◌∙◌, arith, Option, Some, None, eq-eqb, ne_eqb}
use Rattle.std.specs.Option.{option_map}
use mathlib.Core.Option.{some, some-injective, some-ne-none}
use mathlib.Core.Logic.{dite}
use native.Mathlib.Decide.{ℕ_discrete}
use lib.ListN.{get_elem?}
use Rattle.atomic_table.proofs.Lists.{at_index}
use Rattle.arena_list.specs.declared.entry.Entry.{Entry}
use Rattle.arena_list.specs.Rule.Founded.{entry_of, hand_from, or_else, fresh}
use Rattle.arena_list.proofs.Words.Lists.{at_below, at_one}

module _ {A : Type 0} (P : A → Type 0) (l : List A) where
  -- what held below i and holds at i holds below the next
  pub and_here : (i : ℕ) (a : A) → i < length l → a ≡ get_or l i a → ((k : ℕ) (x : A) → k < i → get_elem? l k ≡ some x → P x) → P a → (k : ℕ) (x : A) → k < i + 1 → get_elem? l k ≡ some x → P x
  and_here i a low is before here k x h e = dite (ℕ_discrete k i)
      (λ (same : k ≡ i). subst P (at_one l i a x (at_index l i a low is) (ap (get_elem? l) (sym same) ∙ e)) here)
      (λ (ne : k ≢ i). before k x (omega arith) e)

  pub and_all : (i : ℕ) → length l ≤ i → ((k : ℕ) (x : A) → k < i → get_elem? l k ≡ some x → P x) → (k : ℕ) (x : A) → get_elem? l k ≡ some x → P x
  and_all i high before k x e = before k x (let b = at_below l k x e in omega arith) e

module _ {V : Type 0} where
  pub entry_first : (es : List (Entry V)) (who i : ℕ) (e : Entry V) → ((k : ℕ) (x : Entry V) → k < i → get_elem? es k ≡ some x → x.caller ≢ who) → get_elem? es i ≡ some e → e.caller ≡ who → entry_of es who ≡ Some e
  entry_first [] who i e before at own = absurd (some-ne-none e (sym at))
  entry_first (x ∷ xs) who zero e before at own = let same : x ≡ e = some-injective x e at in ap (λ (b : Bool). cond b (Some x) (entry_of xs who)) (eq-eqb x.caller who (ap (λ (z : Entry V). z.caller) same ∙ own)) ∙ ap Some same
  entry_first (x ∷ xs) who (suc i) e before at own = ap (λ (b : Bool). cond b (Some x) (entry_of xs who)) (ne_eqb x.caller who (before 0 x (omega arith) refl)) ∙ entry_first xs who i e (λ k y h t. before (suc k) y (omega arith) t) at own

  pub entry_absent : (es : List (Entry V)) (who : ℕ) → ((k : ℕ) (x : Entry V) → get_elem? es k ≡ some x → x.caller ≢ who) → entry_of es who ≡ None
  entry_absent [] who none_there = refl
  entry_absent (x ∷ xs) who none_there = ap (λ (b : Bool). cond b (Some x) (entry_of xs who)) (ne_eqb x.caller who (none_there 0 x refl)) ∙ entry_absent xs who (λ k y t. none_there (suc k) y t)

  module _ (linked spare : List (Entry V)) (who : ℕ) where
    pub hand_linked : (e : Entry V) → entry_of linked who ≡ Some e → hand_from linked spare who ≡ fresh true e
    hand_linked e is = ap (λ (o : Option (Entry V)). or_else (option_map (fresh true) o) (option_map (fresh false) (entry_of spare who))) is

    pub hand_spare : (e : Entry V) → entry_of linked who ≡ None → entry_of spare who ≡ Some e → hand_from linked spare who ≡ fresh false e
    hand_spare e none_there is = (λ i. or_else (option_map (fresh true) (none_there i)) (option_map (fresh false) (is i)))

    pub hand_none : entry_of linked who ≡ None → entry_of spare who ≡ None → hand_from linked spare who ≡ or_else None None
    hand_none a b = (λ i. or_else (option_map (fresh true) (a i)) (option_map (fresh false) (b i)))
