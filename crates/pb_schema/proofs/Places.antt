-- The definition of a varint, byte by byte.
use Rattle.std.proofs.Common.{◌≡◌, ℕ, zero, suc, ◌+◌, ◌-◌, ◌*◌, ◌%◌, ◌^◌, ◌<◌, ◌≤◌, List, [], ◌∷◌, length, get_or, take, map, sum, refl, sym, ap, ◌∙◌, subst, arith, take_all, pow-suc}
use Rattle.std.specs.List.{range_with_len}
use Rattle.std.proofs.lemmas.List.FromFn.{sum_by-map-range_with_len_more}
use Rattle.pb_schema.specs.Varint.{IsContinued, Varint, seven_bits}
use Rattle.pb_schema.proofs.Steps.{seven_bits_more}
use Rattle.pb_schema.proofs.VarintLaws.{groups_power}

continued_not_empty : (s : List ℕ) → IsContinued s → 0 < length s
continued_not_empty [] p = absurd p
continued_not_empty (b ∷ s) p = omega arith

continued_before : (s : List ℕ) (i : ℕ) → IsContinued s → i + 1 < length s → 128 ≤ get_or s i 0
continued_before [] i p h = absurd p
continued_before (b ∷ []) i p h = absurd (omega arith)
continued_before (b ∷ c ∷ s) zero p h = p.0
continued_before (b ∷ c ∷ s) (suc i) p h = continued_before (c ∷ s) i p.1 (omega arith)

last_is : (b c : ℕ) (s : List ℕ) → get_or (b ∷ c ∷ s) (length (b ∷ c ∷ s) - 1) 0 ≡ get_or (c ∷ s) (length (c ∷ s) - 1) 0
last_is b c s = let same : length (b ∷ c ∷ s) - 1 ≡ suc (length (c ∷ s) - 1) = omega arith in ap (λ n. get_or (b ∷ c ∷ s) n 0) same

continued_last : (s : List ℕ) → IsContinued s → get_or s (length s - 1) 0 < 128
continued_last [] p = absurd p
continued_last (b ∷ []) p = let same : length (b ∷ []) - 1 ≡ 0 = omega arith in subst (λ n. get_or (b ∷ []) n 0 < 128) (sym same) p
continued_last (b ∷ c ∷ s) p = subst (λ n. n < 128) (sym (last_is b c s)) (continued_last (c ∷ s) p.1)

continued_from : (s : List ℕ) → 0 < length s → ((i : ℕ) → i + 1 < length s → 128 ≤ get_or s i 0) → get_or s (length s - 1) 0 < 128 → IsContinued s
continued_from [] h p q = absurd (omega arith)
continued_from (b ∷ []) h p q = let same : length (b ∷ []) - 1 ≡ 0 = omega arith in subst (λ n. get_or (b ∷ []) n 0 < 128) same q
continued_from (b ∷ c ∷ s) h p q =
    (p 0 (omega arith), continued_from (c ∷ s) (omega arith) (λ i l. p (suc i) (omega arith)) (subst (λ n. n < 128) (last_is b c s) q))

-- seven bits more are a factor of 128
seven_bits_power : (k : ℕ) → 128 ^ k ≡ 2 ^ (7 * k)
seven_bits_power zero = refl
seven_bits_power (suc k) = omega (arith, pow-suc 128 k, groups_power k, seven_bits_power k)

-- the sum over the first i places
spelled : (s : List ℕ) (i : ℕ) → i ≤ length s → sum (map (λ k. get_or s k 0 % 128 * 128 ^ k) (range_with_len 0 i)) ≡ seven_bits (take i s)
spelled s zero h = refl
spelled s (suc i) h =
    let f : ℕ → ℕ = λ k. get_or s k 0 % 128 * 128 ^ k in
    let next : suc i ≡ i + 1 = omega arith in
    ap (λ n. sum (map f (range_with_len 0 n))) next
    ∙ (sum_by-map-range_with_len_more (λ x. x) f 0 i i (omega arith)
    ∙ (ap (λ n. n + f i) (spelled s i (omega arith))
    ∙ (ap (λ n. seven_bits (take i s) + get_or s i 0 % 128 * n) (seven_bits_power i)
    ∙ (sym (seven_bits_more s i (omega arith)) ∙ ap (λ n. seven_bits (take n s)) (sym next)))))

spelled_all : (s : List ℕ) → sum (map (λ k. get_or s k 0 % 128 * 128 ^ k) (range_with_len 0 (length s))) ≡ seven_bits s
spelled_all s = spelled s (length s) (omega arith) ∙ ap seven_bits (take_all (length s) s (omega arith))

-- the bytes of a varint at their places, and its value as a sum over them
abbrev pub ByPlaces : List ℕ → ℕ → ℕ → Type 0
ByPlaces s most v = (0 < length s) × (length s ≤ most) × ((i : ℕ) → i + 1 < length s → 128 ≤ get_or s i 0) × (get_or s (length s - 1) 0 < 128) × (v ≡ sum (map (λ i. get_or s i 0 % 128 * 128 ^ i) (range_with_len 0 (length s))) % 2 ^ 64)

pub places_of_varint : (s : List ℕ) (most v : ℕ) → Varint s most v → ByPlaces s most v
places_of_varint s most v p =
    (continued_not_empty s p.continued, p.most_bytes, λ i h. continued_before s i p.continued h, continued_last s p.continued, p.value ∙ ap (λ n. n % 2 ^ 64) (sym (spelled_all s)))

pub varint_of_places : (s : List ℕ) (most v : ℕ) → ByPlaces s most v → Varint s most v
varint_of_places s most v p = record { continued = continued_from s p.0 p.2 p.3; most_bytes = p.1; value = p.4 ∙ ap (λ n. n % 2 ^ 64) (spelled_all s) }
