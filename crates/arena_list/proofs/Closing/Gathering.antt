-- All seats of a list are joined into one.
use Rattle.std.proofs.Common.{◌≡◌, ℕ, zero, suc, ◌+◌, ◌<◌, ◌≤◌, Bool, true, false, cond, List, [], ◌∷◌, ◌++◌, length, get_or, map, reverse, sym, refl, ap, subst, ◌∙◌, inl, inr, ⊎_elim, arith}
use Rattle.std.specs.Prelude.{max, slice_index}
use Rattle.std.proofs.lemmas.Bool.{false≢true}
use Rattle.std.proofs.lemmas.List.{append_assoc, append-nil, length-append, reverse-append}
use mathlib.Core.Option.{some, some-injective}
use lib.ListN.{get_elem?}
use Rattle.arena_list.specs.declared.list.ListSeat.{ListSeat}
use Rattle.arena_list.specs.declared.for_clauses.view.Node.{Node}
use Rattle.arena_list.specs.declared.for_clauses.mark.Mark.{Mark}
use Rattle.arena_list.specs.declared.for_clauses.view.View.{View}
use Rattle.arena_list.specs.Steps.Tales.{both, greater}
use Rattle.arena_list.specs.Calls.Seats.{view}
use Rattle.arena_list.specs.Closing.Closed.{AreAtMost, HasTold, hand_of, slots_of}
use Rattle.arena_list.proofs.Words.Lists.{at_only, at_more}
use Rattle.arena_list.proofs.Steps.Seats.{at_end_of}
use Rattle.arena_list.proofs.Steps.Keeps.{hands_are}

-- these seats of the list are joined, and `todo` are to come
pub record IsGathering (start todo : List ListSeat) (spares : List (ℕ × ℕ)) (v : View Mark) : Type 0 where
  pub gone : List ListSeat
  pub split : start ≡ todo ++ gone
  pub hands : v.hands ≡ reverse (map hand_of gone)
  pub some_hand : 0 < length v.hands
  pub told : (k : ℕ) (s : ListSeat) → get_elem? gone k ≡ some s → HasTold v (view s).seen
  pub sizes : (k : ℕ) (s : ListSeat) → get_elem? gone k ≡ some s → AreAtMost (view s).sizes v.sizes
  pub slots : spares ≡ reverse (slots_of gone)

greater_most : (xs ys : List ℕ) (i : ℕ) → i < length (greater xs ys) → (i < length xs) × (slice_index xs i ≤ slice_index (greater xs ys) i) × (slice_index ys i ≤ slice_index (greater xs ys) i)
greater_most [] ys i h = absurd (omega arith)
greater_most (x ∷ xs) [] i h = absurd (omega arith)
greater_most (x ∷ xs) (y ∷ ys) zero h = ((let z : 0 < suc (length xs) = omega arith in z), (let z : x ≤ max x y = omega arith in z), (let z : y ≤ max x y = omega arith in z))
greater_most (x ∷ xs) (y ∷ ys) (suc i) h = let r = greater_most xs ys i (omega arith) in let a = r.0 in ((let z : suc i < suc (length xs) = omega arith in z), r.1, r.2)

module _ {V : Type 0} where
  told_both : (v w : View V) (nodes : List Node) → HasTold v nodes → HasTold (both v w) nodes
  told_both v w nodes t = ⊎_elim (λ e. inr (0, ap (λ (l : List Node). some l) e)) (λ p. inr (suc (suc p.0), at_more v.pasts w.pasts p.0 nodes p.1)) t

module _ where
  slots_more : (s : ListSeat) (gone : List ListSeat) → reverse (slots_of gone) ++ slots_of (s ∷ []) ≡ reverse (slots_of (s ∷ gone))
  slots_more s gone = by s.linked where
    by : (b : Bool) → reverse (slots_of gone) ++ cond b [] ((s.slot, s.caller) ∷ []) ≡ reverse (cond b (slots_of gone) ((s.slot, s.caller) ∷ slots_of gone))
    by true = append-nil (reverse (slots_of gone))
    by false = sym (reverse-append ((s.slot, s.caller) ∷ []) (slots_of gone))

  slots_one : (s : ListSeat) → slots_of (s ∷ []) ≡ reverse (slots_of (s ∷ []))
  slots_one s = by s.linked where
    by : (b : Bool) → cond {A = List (ℕ × ℕ)} b [] ((s.slot, s.caller) ∷ []) ≡ reverse (cond {A = List (ℕ × ℕ)} b [] ((s.slot, s.caller) ∷ []))
    by true = refl
    by false = refl

  pub slots_few : (s : ListSeat) → length (slots_of (s ∷ [])) ≤ 1
  slots_few s = by s.linked where
    by : (b : Bool) → length (cond {A = List (ℕ × ℕ)} b [] ((s.slot, s.caller) ∷ [])) ≤ 1
    by true = omega arith
    by false = omega arith

  pub gather_first : (start rest : List ListSeat) (s : ListSeat) (spares : List (ℕ × ℕ)) → start ≡ rest ++ s ∷ [] → spares ≡ slots_of (s ∷ []) → IsGathering start rest spares (view s)
  gather_first start rest s spares is slots = record {
    gone = s ∷ [];
    split = is;
    hands = hands_are (view s).hands s.seated.one;
    some_hand = (let o = s.seated.one in omega arith);
    told = λ k t e. inl (ap (λ (x : ListSeat). (view x).seen) (at_only s t k e).1);
    sizes = λ k t e. subst (λ (x : ListSeat). AreAtMost (view x).sizes (view s).sizes) (at_only s t k e).1 (λ i low. omega arith);
    slots = slots ∙ slots_one s;
  }

  pub gather_more : (start todo rest : List ListSeat) (s : ListSeat) (spares spares' : List (ℕ × ℕ)) (v v' : View Mark) → IsGathering start todo spares v → todo ≡ rest ++ s ∷ [] → spares' ≡ spares ++ slots_of (s ∷ []) → v' ≡ both v (view s) → IsGathering start rest spares' v'
  gather_more start todo rest s spares spares' v v' o is slots after = record {
    gone = s ∷ o.gone;
    split = o.split ∙ ap (λ (l : List ListSeat). l ++ o.gone) is ∙ append_assoc rest (s ∷ []) o.gone;
    hands = ap (λ (x : View Mark). x.hands) after ∙ (λ i. o.hands i ++ hands_are (view s).hands s.seated.one i) ∙ sym (reverse-append (hand_of s ∷ []) (map hand_of o.gone));
    some_hand = (let h = ap (λ (x : View Mark). length x.hands) after in let l : length (v.hands ++ (view s).hands) ≡ length v.hands + length (view s).hands = length-append v.hands (view s).hands in let a = o.some_hand in omega arith);
    told = told_now;
    sizes = sizes_now;
    slots = slots ∙ ap (λ (l : List (ℕ × ℕ)). l ++ slots_of (s ∷ [])) o.slots ∙ slots_more s o.gone;
  } where
    told_now : (k : ℕ) (t : ListSeat) → get_elem? (s ∷ o.gone) k ≡ some t → HasTold v' (view t).seen
    told_now zero t e = subst (λ (x : View Mark). HasTold x (view t).seen) (sym after) (inr (1, ap (λ (x : ListSeat). some (view x).seen) (some-injective s t e)))
    told_now (suc k) t e = subst (λ (x : View Mark). HasTold x (view t).seen) (sym after) (told_both v (view s) (view t).seen (o.told k t e))

    sizes_now : (k : ℕ) (t : ListSeat) → get_elem? (s ∷ o.gone) k ≡ some t → AreAtMost (view t).sizes v'.sizes
    sizes_now zero t e = subst (λ (x : View Mark). AreAtMost (view t).sizes x.sizes) (sym after) (subst (λ (x : ListSeat). AreAtMost (view x).sizes (greater v.sizes (view s).sizes)) (some-injective s t e) (λ i low. (greater_most v.sizes (view s).sizes i low).2))
    sizes_now (suc k) t e = subst (λ (x : View Mark). AreAtMost (view t).sizes x.sizes) (sym after)
        (λ i low. let b = greater_most v.sizes (view s).sizes i low in let a = o.sizes k t e i b.0 in let c = b.1 in omega arith)

  pub all_gone : (start todo : List ListSeat) (spares : List (ℕ × ℕ)) (v : View Mark) (o : IsGathering start todo spares v) → todo ≡ [] → start ≡ o.gone
  all_gone start todo spares v o none_left = o.split ∙ ap (λ (l : List ListSeat). l ++ o.gone) none_left

  -- the next seat is one of all
  pub next_there : (start todo rest : List ListSeat) (s : ListSeat) (spares : List (ℕ × ℕ)) (v : View Mark) (o : IsGathering start todo spares v) → todo ≡ rest ++ s ∷ [] → get_elem? start (length rest) ≡ some s
  next_there start todo rest s spares v o is = ap (λ (l : List ListSeat). get_elem? l (length rest)) o.split ∙ at_more todo o.gone (length rest) s (ap (λ (l : List ListSeat). get_elem? l (length rest)) is ∙ at_end_of rest s)

-- a place that is full is one of the places
pub filled_low : (l : List Bool) (n : ℕ) → get_or l n false ≡ true → n < length l
filled_low [] n e = absurd (false≢true e)
filled_low (x ∷ xs) zero e = omega arith
filled_low (x ∷ xs) (suc n) e = let r = filled_low xs n e in omega arith
