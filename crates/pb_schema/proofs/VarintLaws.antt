-- Laws of varints: one reading, found exactly, and the shortest spelling.
use Rattle.std.proofs.Common.{◌≡◌, ℕ, zero, suc, ◌+◌, ◌*◌, ◌/◌, ◌%◌, ◌^◌, ◌<◌, ◌≤◌, List, [], ◌∷◌, ◌++◌, length, take, drop, Some, option_map, refl, sym, ap, ◌∙◌, subst, ⊎_elim, arith, length-take-le, take-append-drop, pow-add}
use Rattle.std.proofs.lemmas.Bool.{cases_lt}
use Rattle.std.proofs.lemmas.List.{take_at}
use Rattle.std.proofs.lemmas.Option.{none-some, same_Some}
use Rattle.std.proofs.Math.Nat.{mod-le, mod-eq_of_lt}
use Rattle.pb_schema.specs.Varint.{IsContinued, Varint, seven_bits, varint_bytes, varint_at, groups, varint_of}
use Rattle.pb_schema.proofs.Steps.{option_map_some, varint_bytes_last, varint_bytes_more, varint_bytes_within, varint_at_parts, groups_last, groups_more, seven_bits_below}

pub same_cons : {A : Type 0} (a b : A) (s t : List A) → a ∷ s ≡ b ∷ t → (a ≡ b) × (s ≡ t)
same_cons a b s t e = (cc, cc)

-- no varint begins another
one_front : (s t x y : List ℕ) → IsContinued s → IsContinued t → s ++ x ≡ t ++ y → s ≡ t
one_front [] t x y p q e = absurd p
one_front (a ∷ s) [] x y p q e = absurd q
one_front (a ∷ []) (b ∷ []) x y p q e = ap (λ n. n ∷ []) (same_cons a b x y e).0
one_front (a ∷ []) (b ∷ d ∷ t) x y p q e = let same = (same_cons a b x (d ∷ t ++ y) e).0 in absurd (omega (arith, p, q.0, same))
one_front (a ∷ c ∷ s) (b ∷ []) x y p q e = let same = (same_cons a b (c ∷ s ++ x) y e).0 in absurd (omega (arith, p.0, q, same))
one_front (a ∷ c ∷ s) (b ∷ d ∷ t) x y p q e =
    let same = same_cons a b (c ∷ s ++ x) (d ∷ t ++ y) e in
    let rest = one_front (c ∷ s) (d ∷ t) x y p.1 q.1 same.1 in
    ap (λ n. n ∷ c ∷ s) same.0 ∙ ap (λ r. b ∷ r) rest

pub one_varint : (s t x y : List ℕ) (most v w : ℕ) → Varint s most v → Varint t most w → s ++ x ≡ t ++ y → (s ≡ t) × (v ≡ w)
one_varint s t x y most v w p q e =
    let same = one_front s t x y p.continued q.continued e in
    (same, p.value ∙ (ap (λ r. seven_bits r % 2 ^ 64) same ∙ sym q.value))

continued_cons : (b : ℕ) (s : List ℕ) → 128 ≤ b → IsContinued s → IsContinued (b ∷ s)
continued_cons b [] h p = absurd p
continued_cons b (c ∷ s) h p = (h, p)

varint_bytes_continued : (most : ℕ) (s : List ℕ) (n : ℕ) → varint_bytes most s ≡ Some n → IsContinued (take n s)
varint_bytes_continued zero s n e = absurd (none-some n e)
varint_bytes_continued (suc most) [] n e = absurd (none-some n e)
varint_bytes_continued (suc most) (b ∷ s) n e =
    ⊎_elim
    (λ (h : b < 128). subst (λ k. IsContinued (take k (b ∷ s))) (same_Some 1 n (sym (varint_bytes_last most b s h) ∙ e)) h)
    (λ (h : 128 ≤ b).
    option_map_some suc (varint_bytes most s) n (sym (varint_bytes_more most b s h) ∙ e)
    λ m was is. subst (λ k. IsContinued (take k (b ∷ s))) is (continued_cons b (take m s) h (varint_bytes_continued most s m was)))
    (cases_lt b 128)

-- the front that continues is found
varint_bytes_front : (most : ℕ) (s x : List ℕ) → IsContinued s → length s ≤ most → varint_bytes most (s ++ x) ≡ Some (length s)
varint_bytes_front most [] x p h = absurd p
varint_bytes_front zero (b ∷ s) x p h = absurd (omega arith)
varint_bytes_front (suc most) (b ∷ []) x p h = varint_bytes_last most b x p
varint_bytes_front (suc most) (b ∷ c ∷ s) x p h =
    varint_bytes_more most b (c ∷ s ++ x) p.0 ∙ ap (λ o. option_map suc o) (varint_bytes_front most (c ∷ s) x p.1 (omega arith))

-- the varint that stands at the front is found, whatever follows
pub varint_at_front : (most : ℕ) (s x : List ℕ) (v : ℕ) → Varint s most v → varint_at most (s ++ x) ≡ Some (v, length s)
varint_at_front most s x v p =
    ap (λ o. option_map (λ n. (seven_bits (take n (s ++ x)) % 2 ^ 64, n)) o) (varint_bytes_front most s x p.continued p.most_bytes)
    ∙ ap (λ k. Some (k, length s)) (ap (λ r. seven_bits r % 2 ^ 64) (take_at s x (length s) refl) ∙ sym p.value)

-- what is found is a varint
pub varint_at_found : (most : ℕ) (s : List ℕ) (v n : ℕ) → varint_at most s ≡ Some (v, n) → (n ≤ length s) × Varint (take n s) most v
varint_at_found most s v n e =
    varint_at_parts most s v n e
    λ was is.
    let within = varint_bytes_within most s n was in
    let size = length-take-le n s within.2 in
    (within.2, record { continued = varint_bytes_continued most s n was; most_bytes = omega (arith, size, within.1); value = is })

pub varint_at_exact : (most : ℕ) (s : List ℕ) (v n : ℕ) → (n ≤ length s) × Varint (take n s) most v → varint_at most s ≡ Some (v, n)
varint_at_exact most s v n p =
    ap (varint_at most) (sym (take-append-drop n s))
    ∙ (varint_at_front most (take n s) (drop n s) v p.1
    ∙ ap (λ k. Some (v, k)) (length-take-le n s p.0))

-- the bits of one group more
pub groups_power : (k : ℕ) → 2 ^ (7 * suc k) ≡ 128 * 2 ^ (7 * k)
groups_power k = let longer : 7 * suc k ≡ 7 + 7 * k = omega arith in ap (λ n. 2 ^ n) longer ∙ pow-add 2 7 (7 * k)

groups_continued : (more v : ℕ) → v < 2 ^ (7 * suc more) → IsContinued (groups more v)
groups_continued zero v h = h
groups_continued (suc more) v h =
    ⊎_elim
    (λ (low : v < 128). subst IsContinued (sym (groups_last (suc more) v low)) low)
    (λ (high : 128 ≤ v).
    subst IsContinued (sym (groups_more more v high))
    (continued_cons (v % 128 + 128) (groups more (v / 128)) (omega arith)
    (groups_continued more (v / 128) (omega (arith, groups_power (suc more))))))
    (cases_lt v 128)

seven_bits-groups : (more v : ℕ) → v < 2 ^ (7 * suc more) → seven_bits (groups more v) ≡ v
seven_bits-groups zero v h = omega arith
seven_bits-groups (suc more) v h =
    ⊎_elim
    (λ (low : v < 128). let one = ap seven_bits (groups_last (suc more) v low) in omega (arith, one))
    (λ (high : 128 ≤ v).
    let one = ap seven_bits (groups_more more v high) in
    let rest = seven_bits-groups more (v / 128) (omega (arith, groups_power (suc more))) in
    omega (arith, one, rest))
    (cases_lt v 128)

-- what is written for a number below 2 ^ 64 is a varint of it
pub varint_of_is : (v most : ℕ) → v < 2 ^ 64 → length (varint_of v) ≤ most → Varint (varint_of v) most v
varint_of_is v most h size =
    let spelled = seven_bits-groups 9 v (omega arith) in
    record {
      continued = groups_continued 9 v (omega arith);
      most_bytes = size;
      value = sym (mod-eq_of_lt h) ∙ ap (λ n. n % 2 ^ 64) (sym spelled);
    }

-- k bytes are enough for a number of 7 k bits
pub groups_short : (more v k : ℕ) → v < 2 ^ (7 * suc k) → length (groups more v) ≤ suc k
groups_short zero v k h = omega arith
groups_short (suc more) v zero h = let one = ap length (groups_last (suc more) v h) in omega (arith, one)
groups_short (suc more) v (suc k) h =
    ⊎_elim
    (λ (low : v < 128). let one = ap length (groups_last (suc more) v low) in omega (arith, one))
    (λ (high : 128 ≤ v).
    let one = ap length (groups_more more v high) in
    let rest = groups_short more (v / 128) k (omega (arith, groups_power (suc k))) in
    omega (arith, one, rest))
    (cases_lt v 128)

-- no varint of the number has fewer bytes
pub varint_of_shortest : (s : List ℕ) (most v : ℕ) → Varint s most v → length (varint_of v) ≤ length s
varint_of_shortest [] most v p = absurd p.continued
varint_of_shortest (b ∷ s) most v p = groups_short 9 v (length s) (omega (arith, p.value, seven_bits_below (b ∷ s), mod-le (seven_bits (b ∷ s)) (2 ^ 64)))
