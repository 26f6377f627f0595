-- A kind reads what it writes: each pattern is written as a number that its wire type holds, and that number as bytes which are read as the pattern.
use Rattle.std.proofs.Common.{◌≡◌, ℕ, zero, suc, ◌+◌, ◌-◌, ◌*◌, ◌/◌, ◌%◌, ◌^◌, ◌<◌, ◌≤◌, cond, refl, sym, ap, ◌∙◌, subst, ⊎_elim, arith, pow-suc}
use Rattle.std.proofs.lemmas.Bool.{cases_lt, lt-ltb, le-ltb, eq-eqb, ne_eqb}
use Rattle.pb_schema.specs.declared.kind.Kind.{Kind}
use Rattle.pb_schema.specs.declared.kind.Kind.TheVariants as kinds
use Rattle.pb_schema.specs.Varint.{value_bytes}
use Rattle.pb_schema.specs.Kinds.{Coding, ValueType, Scalar, value_type_of, wire_numbers, low_32, sign_extended, truth, zigzag, unzigzag}
use Rattle.pb_schema.specs.Text.{low_first, number_text}
use Rattle.pb_schema.specs.TreeOf.{little_endian, number_in, pattern_in}
use Rattle.pb_schema.proofs.Steps.{length-varint_of}
use Rattle.pb_schema.proofs.VarintLaws.{varint_of_is}

-- PATTERNS

-- a pattern is written as a number of the wire type, which is read as the pattern
abbrev pub IsReadBack : Coding → ℕ → Type 0
IsReadBack coding p = (coding.kept (coding.spelled p) ≡ p) × (coding.spelled p < wire_numbers coding.wire)

abbrev ReadsBack : ValueType → Type 0
ReadsBack (Scalar coding) = (p : ℕ) → p < coding.patterns → IsReadBack coding p
ReadsBack _ = Unit {0}

truth_back : (p : ℕ) → p < 2 → (truth p ≡ p) × (p < 2 ^ 64)
truth_back zero h = (refl, omega arith)
truth_back (suc zero) h = (refl, omega arith)
truth_back (suc (suc p)) h = absurd (omega (arith, h))

low_back : (p : ℕ) → p < 2 ^ 32 → (low_32 p ≡ p) × (p < 2 ^ 64)
low_back p h = (omega (arith, h), omega (arith, h))

signed_back : (p : ℕ) → p < 2 ^ 32 → (low_32 (sign_extended p) ≡ p) × (sign_extended p < 2 ^ 64)
signed_back p h =
    ⊎_elim
    (λ (low : p < 2 ^ 31).
    let is : sign_extended p ≡ p = ap (λ b. cond b p (p + (2 ^ 64 - 2 ^ 32))) (lt-ltb p (2 ^ 31) low) in
    (ap low_32 is ∙ (low_back p h).0, omega (arith, is, h)))
    (λ (high : 2 ^ 31 ≤ p).
    let is : sign_extended p ≡ p + (2 ^ 64 - 2 ^ 32) = ap (λ b. cond b p (p + (2 ^ 64 - 2 ^ 32))) (le-ltb p (2 ^ 31) high) in
    (ap low_32 is ∙ (let same : (p + (2 ^ 64 - 2 ^ 32)) % 2 ^ 32 ≡ p = omega (arith, h) in same), omega (arith, is, h)))
    (cases_lt p (2 ^ 31))

zigzag_back : (patterns half p : ℕ) → patterns ≡ 2 * half → p < patterns → (unzigzag patterns (zigzag patterns p) ≡ p) × (zigzag patterns p < patterns)
zigzag_back patterns half p double h =
    ⊎_elim
    (λ (low : p < patterns / 2).
    let is : zigzag patterns p ≡ 2 * p = ap (λ b. cond b (2 * p) (2 * (patterns - p) - 1)) (lt-ltb p (patterns / 2) low) in
    let even : 2 * p % 2 ≡ 0 = omega arith in
    let back : 2 * p / 2 ≡ p = omega arith in
    (ap (unzigzag patterns) is ∙ (ap (λ b. cond b (2 * p / 2) (patterns - (2 * p + 1) / 2)) (eq-eqb (2 * p % 2) 0 even) ∙ back), omega (arith, is, low, double)))
    (λ (high : patterns / 2 ≤ p).
    let v = 2 * (patterns - p) - 1 in
    let is : zigzag patterns p ≡ v = ap (λ b. cond b (2 * p) v) (le-ltb p (patterns / 2) high) in
    let back : patterns - (v + 1) / 2 ≡ p = omega (arith, h) in
    (ap (unzigzag patterns) is ∙ (ap (λ b. cond b (v / 2) (patterns - (v + 1) / 2)) (ne_eqb (v % 2) 0 (λ even. absurd (omega (arith, even, h)))) ∙ back), omega (arith, is, high, double, h)))
    (cases_lt p (patterns / 2))

zigzag_32 : (p : ℕ) → p < 2 ^ 32 → (unzigzag (2 ^ 32) (low_32 (zigzag (2 ^ 32) p)) ≡ p) × (zigzag (2 ^ 32) p < 2 ^ 64)
zigzag_32 p h =
    let back = zigzag_back (2 ^ 32) (2 ^ 31) p refl h in
    let below = back.1 in
    (ap (unzigzag (2 ^ 32)) (low_back (zigzag (2 ^ 32) p) below).0 ∙ back.0, omega (arith, below))

reads_back : (kind : Kind) → ReadsBack (value_type_of kind)
reads_back kinds.Double = λ p h. (refl, h)
reads_back kinds.Float = λ p h. (refl, h)
reads_back kinds.Int64 = λ p h. (refl, h)
reads_back kinds.UInt64 = λ p h. (refl, h)
reads_back kinds.Int32 = signed_back
reads_back kinds.Fixed64 = λ p h. (refl, h)
reads_back kinds.Fixed32 = λ p h. (refl, h)
reads_back kinds.Bool = truth_back
reads_back kinds.Text = tt
reads_back (kinds.Message type_no) = tt
reads_back kinds.Bytes = tt
reads_back kinds.UInt32 = low_back
reads_back kinds.Enumeration = signed_back
reads_back kinds.SFixed32 = λ p h. (refl, h)
reads_back kinds.SFixed64 = λ p h. (refl, h)
reads_back kinds.SInt32 = zigzag_32
reads_back kinds.SInt64 = λ p h. zigzag_back (2 ^ 64) (2 ^ 63) p refl h

pub kind_back : (kind : Kind) (coding : Coding) (p : ℕ) → value_type_of kind ≡ Scalar coding → p < coding.patterns → IsReadBack coding p
kind_back kind coding p e h = (subst ReadsBack e (reads_back kind)) p h

-- BYTES

low_back_by : (n v : ℕ) → v < 256 ^ n → little_endian (low_first n v) ≡ v
low_back_by zero v h = omega (arith, h)
low_back_by (suc n) v h =
    let below : v / 256 < 256 ^ n = omega (arith, h, pow-suc 256 n) in
    omega (arith, low_back_by n (v / 256) below)

-- a number that the wire type holds is read from its bytes
number_back : (wire v : ℕ) → v < wire_numbers wire → number_in wire (number_text wire v) ≡ v
number_back zero v h = sym (varint_of_is v value_bytes h (length-varint_of v)).value
number_back (suc zero) v h = low_back_by 8 v h
number_back (suc (suc wire)) v h = low_back_by 4 v h

-- so the bytes that are written for a pattern are read as the pattern
pub pattern_back : (kind : Kind) (coding : Coding) (p : ℕ) → value_type_of kind ≡ Scalar coding → p < coding.patterns → pattern_in coding (number_text coding.wire (coding.spelled p)) ≡ p
pattern_back kind coding p e h =
    let back = kind_back kind coding p e h in
    ap coding.kept (number_back coding.wire (coding.spelled p) back.1) ∙ back.0
