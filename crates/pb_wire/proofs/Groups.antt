-- A varint that is written group by group, with more groups behind each, until the last is put in its place.
use Rattle.std.proofs.Common.{◌≡◌, ◌+◌, ◌-◌, ◌*◌, ◌/◌, ◌%◌, ◌^◌, ◌<◌, ◌≤◌, ℕ, zero, suc, List, [], ◌∷◌, ◌++◌, length, take, set, refl, sym, ap, ◌∙◌, subst, append_assoc, length-append, arith, pow-add, pow_mono}
use Rattle.std.proofs.Math.Nat.{div-div-eq-div-mul, div-one}
use Rattle.std.proofs.lemmas.Nat.{le-div, div_below, pow_pos}
use Rattle.std.proofs.Math.Seq.{take-append-add}
use Rattle.std.proofs.lemmas.List.{take_more_set, take-take}
use Rattle.pb_schema.specs.Varint.{groups, varint_of}
use Rattle.pb_schema.proofs.Steps.{groups_more, groups_last}
use Rattle.pb_schema.proofs.VarintLaws.{groups_power}

-- the lowest groups of a number, more behind each
abbrev pub continued : ℕ → ℕ → List ℕ
continued zero v = []
continued (suc k) v = (v % 128 + 128) ∷ continued k (v / 128)

one_group_down : (k v : ℕ) → v / 128 / 2 ^ (7 * k) ≡ v / 2 ^ (7 * suc k)
one_group_down k v = div-div-eq-div-mul v 128 (2 ^ (7 * k)) ∙ ap (λ m. v / m) (sym (groups_power k))

continued_more : (k v : ℕ) → continued (suc k) v ≡ continued k v ++ (v / 2 ^ (7 * k) % 128 + 128) ∷ []
continued_more zero v = ap (λ r. (r % 128 + 128) ∷ []) (sym (div-one v))
continued_more (suc k) v =
    ap (λ gs. (v % 128 + 128) ∷ gs) (continued_more k (v / 128) ∙ ap (λ r. continued k (v / 128) ++ (r % 128 + 128) ∷ []) (one_group_down k v))

take_continued : (k n v : ℕ) → k ≤ n → take k (continued n v) ≡ continued k v
take_continued zero n v fits = refl
take_continued (suc k) zero v fits = absurd (omega (arith, fits))
take_continued (suc k) (suc n) v fits = ap (λ gs. (v % 128 + 128) ∷ gs) (take_continued k n (v / 128) (omega (arith, fits)))

-- the last group stands where the value's highest bit lies
groups_end : (more k v : ℕ) → k ≤ more → 2 ^ (7 * k) ≤ v → v < 2 ^ (7 * suc k) → groups more v ≡ continued k v ++ (v / 2 ^ (7 * k)) ∷ []
groups_end more zero v fits below above = groups_last more v above ∙ ap (λ r. r ∷ []) (sym (div-one v))
groups_end zero (suc k) v fits below above = absurd (omega (arith, fits))
groups_end (suc more) (suc k) v fits below above =
    let one_up = groups_power k in
    let two_up = groups_power (suc k) in
    groups_more more v (omega (arith, below, one_up, pow_pos (7 * k)))
    ∙ ap
    (λ gs. (v % 128 + 128) ∷ gs)
    (groups_end more k (v / 128) (omega (arith, fits)) (le-div (2 ^ (7 * k)) v 128 (omega arith) (omega (arith, below, one_up)))
    (div_below v 128 (2 ^ (7 * suc k)) (omega arith) (omega (arith, above, two_up)))
    ∙ ap (λ r. continued k (v / 128) ++ r ∷ []) (one_group_down k v))

-- ONE MORE, AND THE LAST

suc_more : (k : ℕ) → suc k ≡ k + 1
suc_more k = omega arith

pub one_group_more : (was buffer : List ℕ) (start k v rest : ℕ) → start + k < length buffer → take (start + k) buffer ≡ was ++ continued k v → rest ≡ v / 2 ^ (7 * k)
    → take (start + (k + 1)) (set buffer (start + k) (rest % 128 + 128)) ≡ was ++ continued (k + 1) v
one_group_more was buffer start k v rest room so_far left =
    ap (λ n. take n (set buffer (start + k) (rest % 128 + 128))) (omega arith) ∙ take_more_set buffer (start + k) (rest % 128 + 128) room
    ∙ ap (λ bs. bs ++ (rest % 128 + 128) ∷ []) so_far ∙ append_assoc was (continued k v) ((rest % 128 + 128) ∷ [])
    ∙ ap (λ gs. was ++ gs) (ap (λ r. continued k v ++ (r % 128 + 128) ∷ []) left ∙ sym (continued_more k v) ∙ ap (λ n. continued n v) (suc_more k))

more_power : (k : ℕ) → 2 ^ (7 * k) * 128 ≡ 2 ^ (7 * (k + 1))
more_power k = sym (pow-add 2 (7 * k) 7) ∙ ap (λ n. 2 ^ n) (omega arith)

pub rest_of_more : (k v rest : ℕ) → rest ≡ v / 2 ^ (7 * k) → rest / 128 ≡ v / 2 ^ (7 * (k + 1))
rest_of_more k v rest left =
    ap (λ r. r / 128) left ∙ div-div-eq-div-mul v (2 ^ (7 * k)) 128 ∙ ap (λ m. v / m) (more_power k)

pub last_is_small : (k v : ℕ) → v < 2 ^ (7 * (k + 1)) → v / 2 ^ (7 * k) < 128
last_is_small k v above = div_below v (2 ^ (7 * k)) 128 (pow_pos (7 * k)) (omega (arith, above, more_power k))

pub last_group_put : (was buffer : List ℕ) (start k v : ℕ) → length was ≡ start → start + 10 ≤ length buffer → take (start + 10) buffer ≡ was ++ continued 10 v → k ≤ 9
    → 2 ^ (7 * k) ≤ v → v < 2 ^ (7 * (k + 1)) → take (start + k + 1) (set buffer (start + k) (v / 2 ^ (7 * k))) ≡ was ++ varint_of v
last_group_put was buffer start k v here room so_far fits below above =
    take_more_set buffer (start + k) (v / 2 ^ (7 * k)) (omega (arith, room, fits))
    ∙ ap
    (λ bs. bs ++ (v / 2 ^ (7 * k)) ∷ [])
    (sym (take-take (start + k) (start + 10) buffer (omega (arith, fits))) ∙ ap (take (start + k)) so_far ∙ ap (λ n. take (n + k) (was ++ continued 10 v)) (sym here)
    ∙ take-append-add was (continued 10 v) k ∙ ap (λ gs. was ++ gs) (take_continued k 10 v (omega (arith, fits))))
    ∙ append_assoc was (continued k v) ((v / 2 ^ (7 * k)) ∷ [])
    ∙ ap (λ gs. was ++ gs) (sym (groups_end 9 k v fits below (subst (λ n. v < 2 ^ (7 * n)) (omega arith) above)))

-- HOW MANY THERE ARE

length-continued : (k v : ℕ) → length (continued k v) ≡ k
length-continued zero v = refl
length-continued (suc k) v = ap suc (length-continued k (v / 128))

-- how many groups there are
pub groups_count : (k v : ℕ) → k ≤ 9 → 2 ^ (7 * k) ≤ v → v < 2 ^ (7 * (k + 1)) → k + 1 ≡ length (varint_of v)
groups_count k v fits below above =
    let last = (v / 2 ^ (7 * k)) ∷ [] in
    sym (ap length (groups_end 9 k v fits below (subst (λ n. v < 2 ^ (7 * n)) (sym (suc_more k)) above)) ∙ (length-append (continued k v) last ∙ ap (λ n. n + 1) (length-continued k v)))

-- a value of one group
pub one_group : (v : ℕ) → v < 128 → varint_of v ≡ v ∷ []
one_group v h = groups_last 9 v h

-- WHERE THE HIGHEST BIT LIES

pub group_below : (zeros j v : ℕ) → zeros + suc j ≡ 64 → 2 ^ j ≤ v → 2 ^ (7 * ((63 - zeros) / 7)) ≤ v
group_below zeros j v top below =
    let power = pow_mono {i = 7 * ((63 - zeros) / 7)} {j = j} (omega (arith, top)) in omega (arith, power, below)

pub group_above : (zeros j v : ℕ) → zeros + suc j ≡ 64 → v < 2 ^ suc j → v < 2 ^ (7 * ((63 - zeros) / 7 + 1))
group_above zeros j v top above =
    let power = pow_mono {i = suc j} {j = 7 * ((63 - zeros) / 7 + 1)} (omega (arith, top)) in omega (arith, power, above)
