-- Sums over the workers of a phase and over its frames.
use Rattle.std.proofs.Common.{◌≡◌, ◌⊎◌, ◌+◌, ◌*◌, ◌%◌, ◌<◌, ◌≤◌, ℕ, zero, suc, true, false, Bool, cond, eqb, not, List, [], ◌∷◌, filter, length, refl, sym, ap, ◌∙◌, inl, inr, ⊎_elim, arith}
use Rattle.std.specs.Prelude.{sum_by}
use Rattle.std.proofs.lemmas.Bool.{cases_Bool, eqb-true, eq-eqb, false≢true, ne_eqb}
use Rattle.std.proofs.lemmas.List.Sums.{sum_by-cons}
use Rattle.std.proofs.lemmas.Nat.{mod-mul-add, mod_below, mul-le}
use mathlib.Core.Option.{some, some-ne-none}
use lib.ListN.{get_elem?}
use Rattle.arena_list.specs.Rule.Founded.{Differ}
use Rattle.arena_list.proofs.Rule.Opening.{differ_filter, differ_tail, filter_tells}
use Rattle.arena_list.proofs.Words.Lists.{all_kept}

-- the sum over all numbers below this one
abbrev pub sum_to : ℕ → (ℕ → ℕ) → ℕ
sum_to zero f = 0
sum_to (suc n) f = sum_to n f + f n

sum_same : (n : ℕ) (f g : ℕ → ℕ) → ((k : ℕ) → k < n → f k ≡ g k) → sum_to n f ≡ sum_to n g
sum_same zero f g same = refl
sum_same (suc n) f g same = omega (arith, sum_same n f g (λ k low. same k (omega (arith, low))), same n (omega arith))

pub sum_most : (n : ℕ) (f g : ℕ → ℕ) → ((k : ℕ) → k < n → f k ≤ g k) → sum_to n f ≤ sum_to n g
sum_most zero f g most = omega arith
sum_most (suc n) f g most = omega (arith, sum_most n f g (λ k low. most k (omega (arith, low))), most n (omega arith))

sum_plus : (n : ℕ) (f g : ℕ → ℕ) → sum_to n (λ k. f k + g k) ≡ sum_to n f + sum_to n g
sum_plus zero f g = refl
sum_plus (suc n) f g = omega (arith, sum_plus n f g)

sum_none : (n : ℕ) → sum_to n (λ k. 0) ≡ 0
sum_none zero = refl
sum_none (suc n) = omega (arith, sum_none n)

pub same_or_less : (m n : ℕ) → m < suc n → (m ≡ n) ⊎ (m < n)
same_or_less zero zero below = inl refl
same_or_less zero (suc n) below = inr (omega arith)
same_or_less (suc m) zero below = absurd (omega (arith, below))
same_or_less (suc m) (suc n) below = ⊎_elim (λ e. inl (ap suc e)) (λ l. inr (omega (arith, l))) (same_or_less m n (omega (arith, below)))

-- one of them counts, and no other
sum_one : (n m v : ℕ) → m < n → sum_to n (λ k. cond (eqb m k) v 0) ≡ v
sum_one zero m v low = absurd (omega (arith, low))
sum_one (suc n) m v low = ⊎_elim
    (λ t. let is : m ≡ n = eqb-true m n t in
    omega (arith, sum_same n (λ k. cond (eqb m k) v 0) (λ k. 0) (λ k below. ap (λ b. cond b v 0) (ne_eqb m k (λ e. omega (arith, e, is, below)))), sum_none n, ap (λ b. cond b v 0) t))
    (λ f. omega (arith, sum_one n m v (smaller m n low f), ap (λ b. cond b v 0) f))
    (cases_Bool (eqb m n))
  where
    smaller : (m n : ℕ) → m < suc n → eqb m n ≡ false → m < n
    smaller m n below differ = ⊎_elim (λ e. absurd (false≢true (sym differ ∙ eq-eqb m n e))) (λ l. l) (same_or_less m n below)

-- the sum over the front of a list, from its first on
sum_first : (n : ℕ) (f : ℕ → ℕ) → sum_to (suc n) f ≡ f 0 + sum_to n (λ k. f (suc k))
sum_first zero f = omega arith
sum_first (suc n) f = omega (arith, sum_first n f)

pub sum_list : {A : Type 0} (f : A → ℕ) (xs : List A) (g : ℕ → ℕ) → ((i : ℕ) (x : A) → get_elem? xs i ≡ some x → g i ≡ f x) → sum_to (length xs) g ≡ sum_by f xs
sum_list f [] g same = refl
sum_list f (x ∷ xs) g same = omega (arith, sum_first (length xs) g, sum_by-cons f x xs, same 0 x refl, sum_list f xs (λ k. g (suc k)) (λ i y at. same (suc i) y at))

-- OWNERS

-- a list grew, each element by so much at most; elements that are new are no more than that
pub sum_grows : {A : Type 0} (f x : A → ℕ) (ds bs : List A) → length ds ≤ length bs → ((i : ℕ) (d e : A) → get_elem? ds i ≡ some d → get_elem? bs i ≡ some e → f e ≤ f d + x e) → ((i : ℕ) (e : A) → length ds ≤ i → get_elem? bs i ≡ some e → f e ≤ x e) → sum_by f bs ≤ sum_by f ds + sum_by x bs
sum_grows f x [] [] short old new = omega arith
sum_grows f x [] (e ∷ bs) short old new = omega (arith, sum_by-cons f e bs, sum_by-cons x e bs, new 0 e (omega arith) refl, sum_grows f x [] bs (omega arith) (λ i d y a b. absurd (some-ne-none d (sym a))) (λ i y low at. new (suc i) y (omega arith) at))
sum_grows f x (d ∷ ds) [] short old new = absurd (omega (arith, short))
sum_grows f x (d ∷ ds) (e ∷ bs) short old new = omega (arith, sum_by-cons f e bs, sum_by-cons f d ds, sum_by-cons x e bs, old 0 d e refl refl, sum_grows f x ds bs (omega (arith, short)) (λ i c y a b. old (suc i) c y a b) (λ i y low at. new (suc i) y (omega (arith, low)) at))

-- what some numbers count without this one
sum_without : (x : ℕ → ℕ) (n : ℕ) (ks : List ℕ) → Differ ks → sum_by x ks ≤ x n + sum_by x (filter (λ k. not (eqb k n)) ks)
sum_without x n [] differ = omega arith
sum_without x n (k ∷ ks) differ = ⊎_elim
    (λ t.
    let test = λ (j : ℕ). not (eqb j n) in
    let is : k ≡ n = eqb-true k n t in
    let none : (i a : ℕ) → get_elem? ks i ≡ some a → test a ≡ true = λ i a at. ap not (ne_eqb a n (λ e. let z : 0 ≡ suc i = differ 0 (suc i) k refl (at ∙ ap (λ (y : ℕ). some y) (e ∙ sym is)) in omega (arith, z))) in
    let whole : filter test (k ∷ ks) ≡ ks = ap (λ (b : Bool). cond (not b) (k ∷ filter test ks) (filter test ks)) t ∙ all_kept test ks none in
    omega (arith, sum_by-cons x k ks, ap x is, ap (λ (l : List ℕ). sum_by x l) whole))
    (λ f.
    let test = λ (j : ℕ). not (eqb j n) in
    let whole : filter test (k ∷ ks) ≡ k ∷ filter test ks = ap (λ (b : Bool). cond (not b) (k ∷ filter test ks) (filter test ks)) f in
    omega (arith, sum_by-cons x k ks, sum_by-cons x k (filter test ks), ap (λ (l : List ℕ). sum_by x l) whole, sum_without x n ks (differ_tail k ks differ)))
    (cases_Bool (eqb k n))

-- what some of the numbers below this one count is no more than what all of them do, where none stands twice
pub sum_some : (n : ℕ) (x : ℕ → ℕ) (ks : List ℕ) → Differ ks → ((i k : ℕ) → get_elem? ks i ≡ some k → k < n) → sum_by x ks ≤ sum_to n x
sum_some zero x [] differ low = omega arith
sum_some zero x (k ∷ ks) differ low = absurd (omega (arith, low 0 k refl))
sum_some (suc n) x ks differ low =
    let test = λ (k : ℕ). not (eqb k n) in
    let rest = sum_some n x (filter test ks) (differ_filter test ks differ) (λ i k at.
    let r = filter_tells test ks i k at in
    ⊎_elim (λ e. absurd (false≢true (ap not (sym (eq-eqb k n e)) ∙ r.2))) (λ l. l) (same_or_less k n (low r.0 k r.1))) in
    omega (arith, rest, sum_without x n ks differ)

-- FRAMES

-- what the frames below this one count that this worker takes, where there are so many workers
unfoldable pub dealt : ℕ → (ℕ → ℕ) → ℕ → ℕ → ℕ
dealt n g zero k = 0
dealt n g (suc m) k = dealt n g m k + cond (eqb (m % n) k) (g m) 0

-- each frame is one worker's
pub all_dealt : (most n : ℕ) (g : ℕ → ℕ) (m : ℕ) → 1 ≤ n → n ≤ most → sum_to most (dealt n g m) ≡ sum_to m g
unfolding dealt
all_dealt most n g zero some_worker few = sum_none most
all_dealt most n g (suc m) some_worker few =
    let low = mod_below m n some_worker in
    omega (arith, sum_plus most (dealt n g m) (λ k. cond (eqb (m % n) k) (g m) 0), all_dealt most n g m some_worker few, sum_one most (m % n) (g m) (omega (arith, low, few)))

-- the worker of the frame of a turn
pub mod_of : (k t n : ℕ) → k < n → (k + t * n) % n ≡ k
mod_of k t n low = ap (λ (i : ℕ). i % n) (let z : k + t * n ≡ t * n + k = omega arith in z) ∙ mod-mul-add t n k low

-- the frames of a worker's turns are among these
pub in_dealt : (n : ℕ) (g : ℕ → ℕ) (k : ℕ) → k < n → (m turns : ℕ) → ((t : ℕ) → t < turns → k + t * n < m) → sum_to turns (λ t. g (k + t * n)) ≤ dealt n g m k
unfolding dealt
in_dealt n g k low zero zero within = omega arith
in_dealt n g k low zero (suc turns) within = absurd (omega (arith, within turns (omega arith)))
in_dealt n g k low (suc m) zero within = omega arith
in_dealt n g k low (suc m) (suc turns) within = ⊎_elim
    (λ e.
    let own : m % n ≡ k = ap (λ i. i % n) (sym e) ∙ mod_of k turns n low in
    let here = ap (λ (b : Bool). cond b (g m) 0) (eq-eqb (m % n) k own) in
    let before = in_dealt n g k low m turns (λ t less. let more = mul-le (suc t) n turns n (omega (arith, less)) (omega arith) in omega (arith, e, more, low)) in
    omega (arith, before, here, ap g e))
    (λ l.
    let before = in_dealt n g k low m (suc turns) (λ t less. let more = mul-le t n turns n (omega (arith, less)) (omega arith) in omega (arith, l, more)) in
    omega (arith, before))
    (same_or_less (k + turns * n) m (within turns (omega arith)))
