-- There are at most as many nodes as slots.
use Rattle.std.proofs.Common.{◌≡◌, ℕ, zero, suc, ◌+◌, ◌<◌, ◌≤◌, ◌≢◌, ◌⊎◌, true, ◌||◌, eqb, List, [], ◌∷◌, ◌++◌, map, length, get_or, sym, refl, ap, ◌∙◌, inl, inr, ⊎_elim, arith, subst}
use Rattle.std.specs.List.{list_any}
use Rattle.std.proofs.lemmas.Map.Steps.{length-le_from_distinct_below}
use Rattle.std.proofs.lemmas.Map.Keys.{IsDistinct-from_apart}
use Rattle.std.proofs.lemmas.Bool.{cases_Bool, eqb-true, false_from_ne_true, false≢true}
use Rattle.std.proofs.lemmas.List.{length-append}
use mathlib.Core.Option as maybe
use mathlib.Core.Option.{some, none, some-injective, some-ne-none}
use lib.ListN.{get_elem?}
use Rattle.arena_list.specs.declared.for_clauses.view.Node.{Node}
use Rattle.arena_list.specs.Words.Nodes.{node, slot_of}
use Rattle.arena_list.specs.Words.Core.{IsListed, CallersDiffer, slot_count}
use Rattle.arena_list.specs.Rule.Founded.{Differ}
use Rattle.arena_list.proofs.Words.Lists.{at_there, at_end}

pub len_map : {A B : Type 0} (f : A → B) (l : List A) → length (map f l) ≡ length l
len_map f [] = refl
len_map f (x ∷ xs) = ap suc (len_map f xs)

module _ {A : Type 0} where
  pub or_at : (l : List A) (i : ℕ) (d a : A) → get_elem? l i ≡ some a → get_or l i d ≡ a
  or_at [] i d a e = absurd (some-ne-none a (sym e))
  or_at (x ∷ xs) zero d a e = some-injective x a e
  or_at (x ∷ xs) (suc i) d a e = or_at xs i d a e

  pub at_mapped : {B : Type 0} (f : A → B) (l : List A) (i : ℕ) (b : B) → get_elem? (map f l) i ≡ some b → (a : A) × (get_elem? l i ≡ some a) × (f a ≡ b)
  at_mapped f [] i b e = absurd (some-ne-none b (sym e))
  at_mapped f (x ∷ xs) zero b e = (x, refl, some-injective (f x) b e)
  at_mapped f (x ∷ xs) (suc i) b e = at_mapped f xs i b e

  pub at_map : {B : Type 0} (f : A → B) (l : List A) (i : ℕ) (a : A) → get_elem? l i ≡ some a → get_elem? (map f l) i ≡ some (f a)
  at_map f [] i a e = absurd (some-ne-none a (sym e))
  at_map f (x ∷ xs) zero a e = ap (λ (y : A). some (f y)) (some-injective x a e)
  at_map f (x ∷ xs) (suc i) a e = at_map f xs i a e

either_way : (q x : ℕ) (xs : List ℕ) → ((eqb q x || list_any (eqb q) xs) ≡ true) → (q ≡ x) ⊎ (list_any (eqb q) xs ≡ true)
either_way q x xs e = ⊎_elim (λ t. inl (eqb-true q x t)) (λ f. inr (subst (λ b. (b || list_any (eqb q) xs) ≡ true) f e)) (cases_Bool (eqb q x))

any_at : (q : ℕ) (xs : List ℕ) → list_any (eqb q) xs ≡ true → (i : ℕ) × (get_elem? xs i ≡ some q)
any_at q [] e = absurd (false≢true e)
any_at q (x ∷ xs) e = ⊎_elim (λ t. (0, ap (λ (y : ℕ). some y) (sym t))) (λ r. let t = any_at q xs r in (suc t.0, t.1)) (either_way q x xs e)

-- numbers below n that differ are at most n
pub few : (n : ℕ) (xs : List ℕ) → Differ xs → ((i x : ℕ) → get_elem? xs i ≡ some x → x < n) → length xs ≤ n
few n xs differ small = length-le_from_distinct_below xs n
    (IsDistinct-from_apart eqb xs (λ i j d before within.
    let a = at_there xs i (omega arith) in let b = at_there xs j within in
    let x = or_at xs i d a.0 a.1 in let y = or_at xs j d b.0 b.1 in
    false_from_ne_true _ (λ t. let same : a.0 ≡ b.0 = sym x ∙ eqb-true _ _ t ∙ y in
    let one : i ≡ j = differ i j a.0 a.1 (b.1 ∙ ap (λ (z : ℕ). some z) (sym same)) in omega arith)))
    (λ q t. let p = any_at q xs t in small p.0 q p.1)

module _ (holder : ℕ → maybe.Option ℕ) (nodes : List Node) (listed : (i : ℕ) (n : Node) → get_elem? nodes i ≡ some n → IsListed holder n) (callers : CallersDiffer nodes) where
  pub slots_differ : Differ (map slot_of nodes)
  slots_differ i j x a b = let p = at_mapped slot_of nodes i x a in let q = at_mapped slot_of nodes j x b in
      let same : p.0.slot ≡ q.0.slot = p.2 ∙ sym q.2 in
      let who : p.0.caller ≡ q.0.caller = some-injective _ _ (sym (listed i p.0 p.1).held ∙ ap holder same ∙ (listed j q.0 q.1).held) in
      callers i j p.0 q.0 p.1 q.1 who

  pub few_nodes : length nodes ≤ slot_count
  few_nodes = let f = few slot_count (map slot_of nodes) slots_differ (λ i x a. let p = at_mapped slot_of nodes i x a in subst (λ (y : ℕ). y < slot_count) p.2 ((listed i p.0 p.1).slot)) in let l = len_map slot_of nodes in omega arith

-- the list with one more node, of a caller that has none in it
module _ (holder : ℕ → maybe.Option ℕ) (nodes : List Node) (slot who : ℕ) where
  pub listed_more : ((i : ℕ) (n : Node) → get_elem? nodes i ≡ some n → IsListed holder n) → IsListed holder (node slot who) → (i : ℕ) (n : Node) → get_elem? (nodes ++ node slot who ∷ []) i ≡ some n → IsListed holder n
  listed_more listed new i n e = ⊎_elim (λ t. listed i n t) (λ t. subst (λ (n : Node). IsListed holder n) t.1 new) (at_end nodes (node slot who) n i e)

  pub callers_more : CallersDiffer nodes → ((i : ℕ) (n : Node) → get_elem? nodes i ≡ some n → n.caller ≢ who) → CallersDiffer (nodes ++ node slot who ∷ [])
  callers_more callers none_yet i j n o a b same = ⊎_elim
      (λ p. ⊎_elim (λ q. callers i j n o p q same) (λ q. absurd (none_yet i n p (same ∙ ap (λ (n : Node). n.caller) (sym q.1)))) (at_end nodes (node slot who) o j b))
      (λ p. ⊎_elim (λ q. absurd (none_yet j o q (sym same ∙ ap (λ (n : Node). n.caller) (sym p.1)))) (λ q. p.0 ∙ sym q.0) (at_end nodes (node slot who) o j b))
      (at_end nodes (node slot who) n i a)

  pub fewer_nodes : ((i : ℕ) (n : Node) → get_elem? nodes i ≡ some n → IsListed holder n) → IsListed holder (node slot who) → CallersDiffer nodes → ((i : ℕ) (n : Node) → get_elem? nodes i ≡ some n → n.caller ≢ who) → length nodes < slot_count
  fewer_nodes listed new callers none_yet = let f = few_nodes holder (nodes ++ node slot who ∷ []) (listed_more listed new) (callers_more callers none_yet) in
      let l : length (nodes ++ node slot who ∷ []) ≡ length nodes + 1 = length-append nodes (node slot who ∷ []) in omega arith
