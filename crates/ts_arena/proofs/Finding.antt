-- Searches in lists of numbers.
use Rattle.std.proofs.Common.{◌≡◌, ◌≢◌, ℕ, zero, suc, ◌+◌, ◌<◌, ◌≤◌, Bool, true, false, cond, eqb, ◌||◌, List, [], ◌∷◌, ◌++◌, map, length, take, get_or, sym, refl, ap, subst, ◌∙◌, ⊎_elim, arith}
use Rattle.std.specs.List.{range_with_len}
use Rattle.std.proofs.lemmas.Bool.{cases_Bool, eqb-true, false≢true}
use mathlib.Core.Logic.{dite}
use native.Mathlib.Decide.{ℕ_discrete}
use mathlib.Core.Option.{some, some-injective, some-ne-none}
use lib.ListN.{get_elem?}
use Rattle.arena_list.specs.Rule.Founded.{Differ, has}
use Rattle.arena_list.proofs.Words.Lists.{at_one, at_below, at_end}
use Rattle.arena_list.proofs.Words.Few.{at_map, at_mapped, len_map, few}
use Rattle.arena_list.proofs.Rule.Opening.{has_at, at_has}

module _ {A : Type 0} where
  pub at_index : (l : List A) (i : ℕ) (a : A) → i < length l → a ≡ get_or l i a → get_elem? l i ≡ some a
  at_index [] i a h e = absurd (omega arith)
  at_index (x ∷ xs) zero a h e = ap (λ (y : A). some y) (sym e)
  at_index (x ∷ xs) (suc i) a h e = at_index xs i a (omega arith) e

  pub at_take : (l : List A) (n i : ℕ) (a : A) → get_elem? (take n l) i ≡ some a → (get_elem? l i ≡ some a) × (i < n)
  at_take l zero i a e = absurd (some-ne-none a (sym e))
  at_take [] (suc n) i a e = absurd (some-ne-none a (sym e))
  at_take (x ∷ xs) (suc n) zero a e = (e, omega arith)
  at_take (x ∷ xs) (suc n) (suc i) a e = let r = at_take xs n i a e in let s = r.1 in (r.0, omega arith)

  take_suc : (l : List A) (i : ℕ) (a : A) → get_elem? l i ≡ some a → take (suc i) l ≡ take i l ++ a ∷ []
  take_suc [] i a e = absurd (some-ne-none a (sym e))
  take_suc (x ∷ xs) zero a e = ap (λ (y : A). y ∷ []) (some-injective x a e)
  take_suc (x ∷ xs) (suc i) a e = ap (λ (ys : List A). x ∷ ys) (take_suc xs i a e)

  pub take_more : (l : List A) (i : ℕ) (a : A) → get_elem? l i ≡ some a → take (i + 1) l ≡ take i l ++ a ∷ []
  take_more l i a e = ap (λ (n : ℕ). take n l) (let z : i + 1 ≡ suc i = omega arith in z) ∙ take_suc l i a e

  pub take_all : (l : List A) (n : ℕ) → length l ≤ n → take n l ≡ l
  take_all [] zero h = refl
  take_all [] (suc n) h = refl
  take_all (x ∷ xs) zero h = absurd (omega arith)
  take_all (x ∷ xs) (suc n) h = ap (λ (ys : List A). x ∷ ys) (take_all xs n (omega arith))

module _ {A : Type 0} (P : A → Type 0) (l : List A) where
  -- what held below i and holds at i holds below the next
  pub and_next : (i : ℕ) (a : A) → get_elem? l i ≡ some a → ((k : ℕ) (x : A) → k < i → get_elem? l k ≡ some x → P x) → P a → (k : ℕ) (x : A) → k < i + 1 → get_elem? l k ≡ some x → P x
  and_next i a at before here k x h e = dite (ℕ_discrete k i)
      (λ (same : k ≡ i). subst P (at_one l i a x at (ap (get_elem? l) (sym same) ∙ e)) here)
      (λ (ne : k ≢ i). before k x (omega arith) e)

-- numbers that differ, and one more
pub differ_more : (xs : List ℕ) (x : ℕ) → Differ xs → ((k : ℕ) → get_elem? xs k ≡ some x → ⊥) → Differ (xs ++ x ∷ [])
differ_more xs x differ new i j y a b = ⊎_elim
    (λ p. ⊎_elim (λ q. differ i j y p q) (λ q. absurd (new i (p ∙ ap (λ (z : ℕ). some z) (sym q.1)))) (at_end xs x y j b))
    (λ p. ⊎_elim (λ q. absurd (new j (q ∙ ap (λ (z : ℕ). some z) (sym p.1)))) (λ q. p.0 ∙ sym q.0) (at_end xs x y j b))
    (at_end xs x y i a)

module _ {A : Type 0} (f : A → ℕ) (xs : List A) (q : ℕ) where
  -- the number stands where one was found
  pub found : (i : ℕ) (a : A) → i < length xs → a ≡ get_or xs i a → f a ≡ q → has (map f xs) q ≡ true
  found i a low is same = at_has (map f xs) i q (at_map f xs i a (at_index xs i a low is) ∙ ap (λ (y : ℕ). some y) same)

  -- and nowhere else
  pub missing : ((k : ℕ) (a : A) → get_elem? xs k ≡ some a → f a ≢ q) → has (map f xs) q ≡ false
  missing none_there = ⊎_elim (λ t. let p = has_at (map f xs) q t in let a = at_mapped f xs p.0 q p.1 in absurd (none_there p.0 a.0 a.1 a.2)) (λ e. e) (cases_Bool (has (map f xs) q))

-- where a number stands first
abbrev pos : List ℕ → ℕ → ℕ
pos [] q = 0
pos (x ∷ xs) q = cond (eqb x q) 0 (suc (pos xs q))

at_pos : (xs : List ℕ) (q : ℕ) → has xs q ≡ true → get_elem? xs (pos xs q) ≡ some q
at_pos [] q e = absurd (false≢true e)
at_pos (x ∷ xs) q e = ⊎_elim
    (λ t. ap (λ (b : Bool). get_elem? (x ∷ xs) (cond b 0 (suc (pos xs q)))) t ∙ ap (λ (z : ℕ). some z) (eqb-true x q t))
    (λ n. ap (λ (b : Bool). get_elem? (x ∷ xs) (cond b 0 (suc (pos xs q)))) n ∙ at_pos xs q (sym (ap (λ (b : Bool). b || has xs q) n) ∙ e))
    (cases_Bool (eqb x q))

range_at : (a n i : ℕ) (x : ℕ) → get_elem? (range_with_len a n) i ≡ some x → (x ≡ a + i) × (i < n)
range_at a zero i x e = absurd (some-ne-none x (sym e))
range_at a (suc n) zero x e = let p : a ≡ x = some-injective a x e in (omega arith, omega arith)
range_at a (suc n) (suc i) x e = let r = range_at (a + 1) n i x e in let s = r.0 in let t = r.1 in (omega arith, omega arith)

range_long : (a n : ℕ) → length (range_with_len a n) ≡ n
range_long a zero = refl
range_long a (suc n) = ap suc (range_long (a + 1) n)

-- a list in which all numbers below n stand has n elements at least
pub all_there : (n : ℕ) (xs : List ℕ) → ((q : ℕ) → q < n → has xs q ≡ true) → n ≤ length xs
all_there n xs there =
    let ps = map (pos xs) (range_with_len 0 n) in
    let own : (i y : ℕ) → get_elem? ps i ≡ some y → get_elem? xs y ≡ some i =
    λ i y e. let m = at_mapped (pos xs) (range_with_len 0 n) i y e in let r = range_at 0 n i m.0 m.1 in
    let same : m.0 ≡ i = (let z : m.0 ≡ 0 + i = r.0 in omega arith) in
    subst (λ (z : ℕ). get_elem? xs z ≡ some i) (ap (pos xs) (sym same) ∙ m.2) (at_pos xs i (there i r.1)) in
    let l = few (length xs) ps
    (λ i j y a b. some-injective i j (sym (own i y a) ∙ own j y b))
    (λ i y a. at_below xs y i (own i y a)) in
    let m = len_map (pos xs) (range_with_len 0 n) in let r = range_long 0 n in omega arith
