-- Numbers as they are found in bytes: where none is whole, and the pattern of one that is.
use Rattle.std.proofs.Common.{◌≡◌, ℕ, ◌-◌, ◌^◌, ◌<◌, List, length, take, drop, true, false, leb, Result, Ok, Err, refl, sym, ap, ◌∙◌, subst, arith, take_all}
use Rattle.std.specs.Prelude.{IsErr}
use Rattle.std.proofs.lemmas.Bool.{cond-false, leb-true, false_from_ne_true}
use Rattle.pb_schema.specs.declared.kind.Kind.{Kind}
use Rattle.pb_schema.specs.declared.wire_fault.WireKind.TheVariants.{Cut}
use Rattle.pb_schema.specs.declared.wire_fault.WireFault.{WireFault}
use Rattle.pb_schema.specs.Varint.{value_bytes}
use Rattle.pb_schema.specs.Reads.{◌>>=◌}
use Rattle.pb_schema.specs.Form.{read_bytes, read_scalar, read_varint}
use Rattle.pb_schema.specs.Kinds.{Coding, ValueType, Scalar, Characters, Octets, Nested, value_type_of}
use Rattle.pb_schema.specs.TreeOf.{number_in, pattern_in}
use Rattle.pb_schema.proofs.FitsLaws.{ScalarFacts, scalar_facts, front_below}
use Rattle.pb_wire.specs.Placed.{value_in}
use Rattle.pb_parse.specs.Numbers.{IsFound, KeepsSmall}
use Rattle.pb_parse.proofs.NumberSteps.{scalar_anywhere}

-- NONE

pub bytes_cut : (len at : ℕ) (s : List ℕ) → length s < len → (d : WireFault) × (read_bytes len at s ≡ Err d)
bytes_cut len at s short = (record { kind = Cut; byte = at }, cond-false (leb len (length s)) _ _ (more len (length s) short))
  where
    open_ : (n m : ℕ) → m < n → leb n m ≡ true → ⊥
    open_ n m low e = absurd (omega (arith, low, leb-true n m e))

    more : (n m : ℕ) → m < n → leb n m ≡ false
    more n m low = false_from_ne_true (leb n m) (open_ n m low)

pub err_is : {A : Type 0} (r : Result A WireFault) → IsErr r → (d : WireFault) × (r ≡ Err d)
err_is (Ok x) none = absurd (never none)
  where
    never : IsErr {E = WireFault} (Ok x) → ⊥
    never e = cc
err_is (Err d) none = (d, refl)

pub value_none : (bytes : List ℕ) (at : ℕ) → IsErr (value_in bytes at (length bytes)) → (d : WireFault) × (read_scalar 0 at (drop at bytes) ≡ Err d)
value_none bytes at none =
    let whole : take (length bytes) bytes ≡ bytes = take_all (length bytes) bytes (omega arith) in
    let err = err_is (value_in bytes at (length bytes)) none in
    (err.0, ap (λ r. r >>= λ value. Ok value.1) (sym (ap (λ s. read_varint value_bytes at (drop at s)) whole) ∙ err.1))

-- PATTERNS

abbrev PatternBelow : ValueType → Type 0
PatternBelow (Scalar coding) = (at : ℕ) (s : List ℕ) (n : ℕ) → read_scalar coding.wire at s ≡ Ok n → pattern_in coding (take n s) < coding.patterns
PatternBelow _ = Unit {0}

below_by : (type : ValueType) → ScalarFacts type → PatternBelow type
below_by (Scalar coding) facts = λ at s n e. facts.2 (number_in coding.wire (take n s)) (front_below coding.wire s n (scalar_anywhere coding.wire at 0 s n e))
below_by Characters facts = tt
below_by Octets facts = tt
below_by (Nested type_no) facts = tt

-- a number that is whole has one of the kind's patterns
pub pattern_below : (kind : Kind) (coding : Coding) (at : ℕ) (s : List ℕ) (n : ℕ) → value_type_of kind ≡ Scalar coding → read_scalar coding.wire at s ≡ Ok n → pattern_in coding (take n s) < coding.patterns
pattern_below kind coding at s n is e = (subst PatternBelow is (below_by (value_type_of kind) (scalar_facts kind))) at s n e

-- SMALL ONES

-- a small number of a kind that keeps them
pub small_kept : (coding : Coding) (type : ValueType) (at : ℕ) (s : List ℕ) (v behind : ℕ) → KeepsSmall type → type ≡ Scalar coding → IsFound 0 at s v behind → v < 2 ^ 14
    → (read_scalar coding.wire at s ≡ Ok (behind - at)) × (v ≡ pattern_in coding (take (behind - at) s)) × (v < coding.patterns)
small_kept coding type at s v behind keeps is found small =
    let own = subst KeepsSmall is keeps in
    let kept = own.1 v small in (
      ap (λ w. read_scalar w at s) own.0 ∙ found.read,
      sym kept.0 ∙ (ap coding.kept found.value ∙ ap (λ w. coding.kept (number_in w (take (behind - at) s))) (sym own.0)),
      kept.1,
    )
