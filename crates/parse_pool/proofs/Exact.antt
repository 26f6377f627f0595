-- Sums over workers that are exactly those over frames.
use Rattle.std.proofs.Common.{◌≡◌, ◌⊎◌, ◌+◌, ◌*◌, ◌/◌, ◌%◌, ◌<◌, ◌≤◌, ℕ, zero, suc, true, false, Bool, cond, eqb, not, List, [], ◌∷◌, filter, length, refl, sym, ap, ◌∙◌, inl, inr, ⊎_elim, arith}
use Rattle.std.specs.Prelude.{sum_by}
use Rattle.std.proofs.lemmas.Bool.{cases_Bool, cases_lt, eq-eqb, eqb-true, false≢true, ne_eqb}
use Rattle.std.proofs.lemmas.List.Sums.{sum_by-cons}
use Rattle.std.proofs.lemmas.Nat.{div-add-mod', mod-mul-add, mod_below, mul-le}
use mathlib.Core.Option.{some, some-injective, some-ne-none}
use lib.ListN.{get_elem?}
use Rattle.arena_list.specs.Rule.Founded.{Differ}
use Rattle.arena_list.proofs.Rule.Opening.{differ_filter, differ_tail, filter_keeps, filter_tells}
use Rattle.arena_list.proofs.Words.Lists.{all_kept}
use Rattle.parse_pool.proofs.Bounds.{dealt, mod_of, same_or_less, sum_to}

-- OWNERS

-- a list grew, each element by so much; elements that are new are just that
pub sum_equals : {A : Type 0} (f x : A → ℕ) (ds bs : List A) → length ds ≤ length bs → ((i : ℕ) (d e : A) → get_elem? ds i ≡ some d → get_elem? bs i ≡ some e → f e ≡ f d + x e) → ((i : ℕ) (e : A) → length ds ≤ i → get_elem? bs i ≡ some e → f e ≡ x e) → sum_by f bs ≡ sum_by f ds + sum_by x bs
sum_equals f x [] [] short old new = refl
sum_equals f x [] (e ∷ bs) short old new = omega (arith, sum_by-cons f e bs, sum_by-cons x e bs, new 0 e (omega arith) refl, sum_equals f x [] bs (omega arith) (λ i d y a b. absurd (some-ne-none d (sym a))) (λ i y low at. new (suc i) y (omega arith) at))
sum_equals f x (d ∷ ds) [] short old new = absurd (omega (arith, short))
sum_equals f x (d ∷ ds) (e ∷ bs) short old new = omega (arith, sum_by-cons f e bs, sum_by-cons f d ds, sum_by-cons x e bs, old 0 d e refl refl, sum_equals f x ds bs (omega (arith, short)) (λ i c y a b. old (suc i) c y a b) (λ i y low at. new (suc i) y (omega (arith, low)) at))

-- one of some numbers
abbrev pub IsNumberIn : List ℕ → ℕ → Type 0
IsNumberIn ks k = (i : ℕ) × (get_elem? ks i ≡ some k)

-- what some numbers count, of which this is one, or counts nothing
sum_apart : (x : ℕ → ℕ) (n : ℕ) (ks : List ℕ) → Differ ks → IsNumberIn ks n ⊎ (x n ≡ 0) → sum_by x ks ≡ x n + sum_by x (filter (λ k. not (eqb k n)) ks)
sum_apart x n [] differ there = ⊎_elim (λ i. absurd (some-ne-none n (sym i.1))) (λ none. omega (arith, none)) there
sum_apart x n (k ∷ ks) differ there = ⊎_elim
    (λ t.
    let test = λ (j : ℕ). not (eqb j n) in
    let is : k ≡ n = eqb-true k n t in
    let none : (i a : ℕ) → get_elem? ks i ≡ some a → test a ≡ true = λ i a at. ap not (ne_eqb a n (λ e. let z : 0 ≡ suc i = differ 0 (suc i) k refl (at ∙ ap (λ (y : ℕ). some y) (e ∙ sym is)) in omega (arith, z))) in
    let whole : filter test (k ∷ ks) ≡ ks = ap (λ (b : Bool). cond (not b) (k ∷ filter test ks) (filter test ks)) t ∙ all_kept test ks none in
    omega (arith, sum_by-cons x k ks, ap x is, ap (λ (l : List ℕ). sum_by x l) whole))
    (λ f.
    let test = λ (j : ℕ). not (eqb j n) in
    let whole : filter test (k ∷ ks) ≡ k ∷ filter test ks = ap (λ (b : Bool). cond (not b) (k ∷ filter test ks) (filter test ks)) f in
    let later : IsNumberIn ks n ⊎ (x n ≡ 0) = ⊎_elim (λ i. in_tail i.0 i.1 f) (λ none. inr none) there in
    omega (arith, sum_by-cons x k ks, sum_by-cons x k (filter test ks), ap (λ (l : List ℕ). sum_by x l) whole, sum_apart x n ks (differ_tail k ks differ) later))
    (cases_Bool (eqb k n))
  where
    in_tail : (i : ℕ) → get_elem? (k ∷ ks) i ≡ some n → eqb k n ≡ false → IsNumberIn ks n ⊎ (x n ≡ 0)
    in_tail zero at other = absurd (false≢true (sym other ∙ eq-eqb k n (some-injective k n at)))
    in_tail (suc i) at other = inl (i, at)

-- what numbers below this one count is what all of them do, where each that counts something stands there, and none twice
pub sum_all : (n : ℕ) (x : ℕ → ℕ) (ks : List ℕ) → Differ ks → ((i k : ℕ) → get_elem? ks i ≡ some k → k < n) → ((k : ℕ) → k < n → IsNumberIn ks k ⊎ (x k ≡ 0)) → sum_by x ks ≡ sum_to n x
sum_all zero x [] differ low all = refl
sum_all zero x (k ∷ ks) differ low all = absurd (omega (arith, low 0 k refl))
sum_all (suc n) x ks differ low all =
    let test = λ (k : ℕ). not (eqb k n) in
    let rest = sum_all n x (filter test ks) (differ_filter test ks differ)
    (λ i k at.
    let r = filter_tells test ks i k at in
    ⊎_elim (λ e. absurd (false≢true (ap not (sym (eq-eqb k n e)) ∙ r.2))) (λ l. l) (same_or_less k n (low r.0 k r.1)))
    (λ k less. ⊎_elim
    (λ i. inl (filter_keeps test ks i.0 k i.1 (ap not (ne_eqb k n (λ e. omega (arith, e, less))))))
    (λ none. inr none)
    (all k (omega (arith, less)))) in
    omega (arith, rest, sum_apart x n ks differ (all n (omega arith)))

-- FRAMES

-- a frame between two turns of a worker is another one's
not_own : (m k turns n : ℕ) → m < k + turns * n → k + turns * n < m + n → m % n ≡ k → ⊥
not_own m k turns n before behind own =
    let whole = div-add-mod' m n in
    ⊎_elim
    (λ l. let more = mul-le (suc (m / n)) n turns n (omega (arith, l)) (omega arith) in omega (arith, more, whole, own, behind))
    (λ g. let more = mul-le turns n (m / n) n g (omega arith) in omega (arith, more, whole, own, before))
    (cases_lt (m / n) turns)

-- what the frames count that a worker takes that isn't there
pub none_dealt : (n : ℕ) (g : ℕ → ℕ) (m k : ℕ) → 1 ≤ n → n ≤ k → dealt n g m k ≡ 0
unfolding dealt
none_dealt n g zero k some_worker high = refl
none_dealt n g (suc m) k some_worker high =
    let low = mod_below m n some_worker in
    let other = ap (λ (b : Bool). cond b (g m) 0) (ne_eqb (m % n) k (λ e. omega (arith, e, low, high))) in
    omega (arith, none_dealt n g m k some_worker high, other)

-- the frames of all of a worker's turns are just these
pub is_dealt : (n : ℕ) (g : ℕ → ℕ) (k : ℕ) → k < n → (m turns : ℕ) → ((t : ℕ) → t < turns → k + t * n < m) → m ≤ k + turns * n → sum_to turns (λ t. g (k + t * n)) ≡ dealt n g m k
unfolding dealt
is_dealt n g k low zero zero within past = refl
is_dealt n g k low zero (suc turns) within past = absurd (omega (arith, within turns (omega arith)))
is_dealt n g k low (suc m) zero within past =
    let before = is_dealt n g k low m zero (λ t less. absurd (omega (arith, less))) (omega (arith, past)) in
    let other = ap (λ (b : Bool). cond b (g m) 0) (ne_eqb (m % n) k (not_own m k 0 n (omega (arith, past)) (omega (arith, low)))) in
    omega (arith, before, other)
is_dealt n g k low (suc m) (suc turns) within past = ⊎_elim
    (λ e.
    let own : m % n ≡ k = ap (λ i. i % n) (sym e) ∙ mod_of k turns n low in
    let here = ap (λ (b : Bool). cond b (g m) 0) (eq-eqb (m % n) k own) in
    let before = is_dealt n g k low m turns (λ t less. let more = mul-le (suc t) n turns n (omega (arith, less)) (omega arith) in omega (arith, e, more, low)) (omega (arith, e)) in
    omega (arith, before, here, ap g e))
    (λ l.
    let before = is_dealt n g k low m (suc turns) (λ t less. let more = mul-le t n turns n (omega (arith, less)) (omega arith) in omega (arith, l, more)) (omega (arith, past)) in
    let other = ap (λ (b : Bool). cond b (g m) 0) (ne_eqb (m % n) k (not_own m k (suc turns) n (omega (arith, past)) (omega (arith, l)))) in
    omega (arith, before, other))
    (same_or_less (k + turns * n) m (within turns (omega arith)))
