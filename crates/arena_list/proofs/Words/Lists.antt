-- Lists read by `get_elem?`.
use Rattle.std.proofs.Common.{◌≡◌, ℕ, zero, suc, ◌+◌, ◌<◌, ◌≤◌, ◌≢◌, ◌⊎◌, Bool, true, cond, List, [], ◌∷◌, ◌++◌, length, set, sym, refl, ap, ◌∙◌, inl, inr, ⊎_elim, arith}
use Rattle.std.proofs.lemmas.List.{length-append}
use Rattle.std.specs.Prelude.{filter}
use mathlib.Core.Option.{some, some-injective, some-ne-none}
use lib.ListN.{get_elem?}
use Rattle.arena_list.specs.declared.for_clauses.view.Node.{Node}
use Rattle.arena_list.specs.Words.Nodes.{Begins}
use Rattle.arena_list.specs.Rule.Holds.{total}

module _ {A : Type 0} where
  pub at_only : (a b : A) (i : ℕ) → get_elem? (a ∷ []) i ≡ some b → (i ≡ 0) × (a ≡ b)
  at_only a b zero e = (refl, some-injective a b e)
  at_only a b (suc i) e = absurd (some-ne-none b (sym e))

  pub at_below : (l : List A) (i : ℕ) (a : A) → get_elem? l i ≡ some a → i < length l
  at_below [] i a e = absurd (some-ne-none a (sym e))
  at_below (x ∷ xs) zero a e = omega arith
  at_below (x ∷ xs) (suc i) a e = let r = at_below xs i a e in omega arith

  pub at_there : (l : List A) (i : ℕ) → i < length l → (a : A) × (get_elem? l i ≡ some a)
  at_there [] i h = absurd (omega arith)
  at_there (x ∷ xs) zero h = (x, refl)
  at_there (x ∷ xs) (suc i) h = at_there xs i (omega arith)

  pub at_one : (l : List A) (i : ℕ) (a b : A) → get_elem? l i ≡ some a → get_elem? l i ≡ some b → a ≡ b
  at_one l i a b p q = some-injective a b (sym p ∙ q)

  -- an element of a list with one more is one of the list, or the last
  pub at_end : (l : List A) (a b : A) (j : ℕ) → get_elem? (l ++ a ∷ []) j ≡ some b → (get_elem? l j ≡ some b) ⊎ ((j ≡ length l) × (a ≡ b))
  at_end [] a b zero e = inr (refl, some-injective a b e)
  at_end [] a b (suc j) e = absurd (some-ne-none b (sym e))
  at_end (x ∷ xs) a b zero e = inl e
  at_end (x ∷ xs) a b (suc j) e = ⊎_elim (λ t. inl t) (λ t. inr (ap suc t.0, t.1)) (at_end xs a b j e)

  -- two lists of one length
  pub same_elements : (xs ys : List A) → length xs ≡ length ys → ((k : ℕ) (a : A) → get_elem? xs k ≡ some a → get_elem? ys k ≡ some a) → xs ≡ ys
  same_elements [] [] l h = refl
  same_elements [] (y ∷ ys) l h = absurd (omega arith)
  same_elements (x ∷ xs) [] l h = absurd (omega arith)
  same_elements (x ∷ xs) (y ∷ ys) l h = let p : y ≡ x = some-injective y x (h 0 x refl) in let r = same_elements xs ys (omega arith) (λ k a e. h (suc k) a e) in (λ i. sym p i ∷ r i)

  -- a filter that keeps all
  pub all_kept : (p : A → Bool) (l : List A) → ((k : ℕ) (a : A) → get_elem? l k ≡ some a → p a ≡ true) → filter p l ≡ l
  all_kept p [] h = refl
  all_kept p (x ∷ xs) h = ap (λ (b : Bool). cond b (x ∷ filter p xs) (filter p xs)) (h 0 x refl) ∙ ap (λ (l : List A). x ∷ l) (all_kept p xs (λ k a e. h (suc k) a e))

  pub at_more : (l m : List A) (i : ℕ) (a : A) → get_elem? l i ≡ some a → get_elem? (l ++ m) i ≡ some a
  at_more [] m i a e = absurd (some-ne-none a (sym e))
  at_more (x ∷ xs) m zero a e = e
  at_more (x ∷ xs) m (suc i) a e = at_more xs m i a e

  pub at_replaced : (l : List A) (i : ℕ) (a b : A) → get_elem? l i ≡ some a → get_elem? (set l i b) i ≡ some b
  at_replaced [] i a b e = absurd (some-ne-none a (sym e))
  at_replaced (x ∷ xs) zero a b e = refl
  at_replaced (x ∷ xs) (suc i) a b e = at_replaced xs i a b e

  pub total-set : (f : A → ℕ) (l : List A) (i : ℕ) (a b : A) → get_elem? l i ≡ some a → total f (set l i b) + f a ≡ total f l + f b
  total-set f [] i a b e = absurd (some-ne-none a (sym e))
  total-set f (x ∷ xs) zero a b e = let is : f x ≡ f a = ap f (some-injective x a e) in omega arith
  total-set f (x ∷ xs) (suc i) a b e = let r = total-set f xs i a b e in omega arith

  pub total-more : (f : A → ℕ) (l : List A) (a : A) → total f (l ++ a ∷ []) ≡ total f l + f a
  total-more f [] a = omega arith
  total-more f (x ∷ xs) a = let r = total-more f xs a in omega arith

  pub total-one : (f : A → ℕ) (l : List A) (i : ℕ) (a : A) → get_elem? l i ≡ some a → f a ≤ total f l
  total-one f [] i a e = absurd (some-ne-none a (sym e))
  total-one f (x ∷ xs) zero a e = let is : f x ≡ f a = ap f (some-injective x a e) in omega arith
  total-one f (x ∷ xs) (suc i) a e = let r = total-one f xs i a e in omega arith

  -- two elements' numbers are at most the total
  pub total-two : (f : A → ℕ) (l : List A) (i j : ℕ) (a b : A) → get_elem? l i ≡ some a → get_elem? l j ≡ some b → j ≢ i → f a + f b ≤ total f l
  total-two f [] i j a b p q n = absurd (some-ne-none a (sym p))
  total-two f (x ∷ xs) zero zero a b p q n = absurd (n refl)
  total-two f (x ∷ xs) zero (suc j) a b p q n = let is : f x ≡ f a = ap f (some-injective x a p) in let r = total-one f xs j b q in omega arith
  total-two f (x ∷ xs) (suc i) zero a b p q n = let is : f x ≡ f b = ap f (some-injective x b q) in let r = total-one f xs i a p in omega arith
  total-two f (x ∷ xs) (suc i) (suc j) a b p q n = let r = total-two f xs i j a b p q (λ e. n (ap suc e)) in omega arith

pub begins_itself : (xs : List Node) → Begins xs xs
begins_itself xs = record { short = omega arith; same = λ k n e. e }

pub begins_more : (xs ys : List Node) → Begins xs (xs ++ ys)
begins_more xs ys = record { short = omega (arith, length-append xs ys); same = λ k n e. at_more xs ys k n e }

pub begins_on : {xs ys zs : List Node} → Begins xs ys → Begins ys zs → Begins xs zs
begins_on p q = let a = p.short in let b = q.short in record { short = omega arith; same = λ k n e. q.same k n (p.same k n e) }
