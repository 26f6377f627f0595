-- Laws of kinds and of what a field takes: the numbers of a kind, the record that a field takes, and what a group holds.
use Rattle.std.proofs.Common.{◌≡◌, ◌≢◌, ◌⊎◌, ℕ, zero, suc, ◌+◌, ◌-◌, ◌/◌, ◌%◌, ◌^◌, ◌<◌, List, [], ◌∷◌, length, take, Bool, true, false, cond, ◌&&◌, ◌||◌, eqb, Ok, refl, sym, ap, ◌∙◌, subst, inl, inr, ⊎_elim, arith, length-take-le, pow-suc}
use Rattle.std.proofs.lemmas.Bool.{false≢true, eq-eqb, eqb-true, ne_eqb, and_parts, and_left, or_cases, cond-false}
use Rattle.pb_schema.specs.declared.kind.Kind.{Kind}
use Rattle.pb_schema.specs.declared.kind.Kind.TheVariants as kinds
use Rattle.pb_schema.specs.declared.kind.FieldType.{FieldType}
use Rattle.pb_schema.specs.declared.schema.Schema.{Schema}
use Rattle.pb_schema.specs.Kinds.{wire_numbers, ValueType, Scalar, Characters, Octets, Nested, value_type_of, value_wire, is_number, low_32, truth, unzigzag}
use Rattle.pb_schema.specs.Cards.{is_repeated}
use Rattle.pb_schema.specs.Record.{Record}
use Rattle.pb_schema.specs.Fits.{Anything, Message, wire_of, takes, contents_of, fields_within}
use Rattle.pb_schema.specs.Form.{read_scalar}
use Rattle.pb_schema.specs.TreeOf.{little_endian, number_in}
use Rattle.pb_schema.proofs.FormLaws.{read_bytes_ok}

-- NUMBERS

-- as many bytes as a value of the wire type has
abbrev pub IsSized : ℕ → List ℕ → Type 0
IsSized zero s = Unit {0}
IsSized (suc zero) s = length s ≡ 8
IsSized (suc (suc wire)) s = length s ≡ 4

little_below : (s : List ℕ) → little_endian s < 256 ^ length s
little_below [] = omega arith
little_below (b ∷ s) = omega (arith, pow-suc 256 (length s), little_below s)

pub number_below : (wire : ℕ) (s : List ℕ) → IsSized wire s → number_in wire s < wire_numbers wire
number_below zero s p = omega arith
number_below (suc zero) s p = subst (λ n. little_endian s < 256 ^ n) p (little_below s)
number_below (suc (suc wire)) s p = subst (λ n. little_endian s < 256 ^ n) p (little_below s)

pub front_below : (wire : ℕ) (s : List ℕ) (n : ℕ) → read_scalar wire 0 s ≡ Ok n → number_in wire (take n s) < wire_numbers wire
front_below zero s n e = omega arith
front_below (suc zero) s n e = read_bytes_ok 8 0 s n e λ same fits. number_below 1 (take n s) (length-take-le n s (omega (arith, same, fits)) ∙ sym same)
front_below (suc (suc zero)) s n e = let same : 0 ≡ n = cc in subst (λ k. number_in 2 (take k s) < 2 ^ 32) same (omega arith)
front_below (suc (suc (suc zero))) s n e = let same : 0 ≡ n = cc in subst (λ k. number_in 3 (take k s) < 2 ^ 32) same (omega arith)
front_below (suc (suc (suc (suc zero)))) s n e = let same : 0 ≡ n = cc in subst (λ k. number_in 4 (take k s) < 2 ^ 32) same (omega arith)
front_below (suc (suc (suc (suc (suc zero))))) s n e = read_bytes_ok 4 0 s n e λ same fits. number_below 5 (take n s) (length-take-le n s (omega (arith, same, fits)) ∙ sym same)
front_below (suc (suc (suc (suc (suc (suc wire)))))) s n e = let same : 0 ≡ n = cc in subst (λ k. number_in 6 (take k s) < 2 ^ 32) same (omega arith)

-- what the table of kinds says of numbers
abbrev pub ScalarFacts : ValueType → Type 0
ScalarFacts (Scalar coding) = (coding.wire ≢ 2) × (coding.wire ≢ 3) × ((v : ℕ) → v < wire_numbers coding.wire → coding.kept v < coding.patterns)
ScalarFacts Characters = Unit {0}
ScalarFacts Octets = Unit {0}
ScalarFacts (Nested type_no) = Unit {0}

pub truth_below : (v : ℕ) → truth v < 2
truth_below v = cases (eqb v 0)
  where
    cases : (t : Bool) → cond t 0 1 < 2
    cases true = omega arith
    cases false = omega arith

unzigzag_below : (patterns v : ℕ) → v < patterns → unzigzag patterns v < patterns
unzigzag_below patterns v h = cases (eqb (v % 2) 0) refl
  where
    cases : (t : Bool) → eqb (v % 2) 0 ≡ t → cond t (v / 2) (patterns - (v + 1) / 2) < patterns
    cases true e = omega (arith, h)
    cases false e = let odd : v % 2 ≢ 0 = λ z. absurd (false≢true (sym e ∙ eq-eqb (v % 2) 0 z)) in omega (arith, h, odd)

pub low_below : (v : ℕ) → low_32 v < 2 ^ 32
low_below v = omega arith

pub scalar_facts : (kind : Kind) → ScalarFacts (value_type_of kind)
scalar_facts kinds.Double = (λ e. absurd (omega (arith, e)), λ e. absurd (omega (arith, e)), λ v h. h)
scalar_facts kinds.Float = (λ e. absurd (omega (arith, e)), λ e. absurd (omega (arith, e)), λ v h. h)
scalar_facts kinds.Int64 = (λ e. absurd (omega (arith, e)), λ e. absurd (omega (arith, e)), λ v h. h)
scalar_facts kinds.UInt64 = (λ e. absurd (omega (arith, e)), λ e. absurd (omega (arith, e)), λ v h. h)
scalar_facts kinds.Int32 = (λ e. absurd (omega (arith, e)), λ e. absurd (omega (arith, e)), λ v h. low_below v)
scalar_facts kinds.Fixed64 = (λ e. absurd (omega (arith, e)), λ e. absurd (omega (arith, e)), λ v h. h)
scalar_facts kinds.Fixed32 = (λ e. absurd (omega (arith, e)), λ e. absurd (omega (arith, e)), λ v h. h)
scalar_facts kinds.Bool = (λ e. absurd (omega (arith, e)), λ e. absurd (omega (arith, e)), λ v h. truth_below v)
scalar_facts kinds.Text = tt
scalar_facts (kinds.Message type_no) = tt
scalar_facts kinds.Bytes = tt
scalar_facts kinds.UInt32 = (λ e. absurd (omega (arith, e)), λ e. absurd (omega (arith, e)), λ v h. low_below v)
scalar_facts kinds.Enumeration = (λ e. absurd (omega (arith, e)), λ e. absurd (omega (arith, e)), λ v h. low_below v)
scalar_facts kinds.SFixed32 = (λ e. absurd (omega (arith, e)), λ e. absurd (omega (arith, e)), λ v h. h)
scalar_facts kinds.SFixed64 = (λ e. absurd (omega (arith, e)), λ e. absurd (omega (arith, e)), λ v h. h)
scalar_facts kinds.SInt32 = (λ e. absurd (omega (arith, e)), λ e. absurd (omega (arith, e)), λ v h. unzigzag_below (2 ^ 32) (low_32 v) (low_below v))
scalar_facts kinds.SInt64 = (λ e. absurd (omega (arith, e)), λ e. absurd (omega (arith, e)), λ v h. unzigzag_below (2 ^ 64) v h)

pub no_start : (type : ValueType) → ScalarFacts type → value_wire type ≢ 3
no_start (Scalar coding) p = p.1
no_start Characters p = λ e. absurd (omega (arith, e))
no_start Octets p = λ e. absurd (omega (arith, e))
no_start (Nested type_no) p = λ e. absurd (omega (arith, e))

-- THE RECORDS THAT A FIELD TAKES

-- a record with the number of the field, and with its wire type, or packed where the field is a list
pub record TakenBy (field : FieldType) (r : Record) : Type 0 where
  pub number : field.number ≡ r.number
  pub wire : (r.wire ≡ wire_of field) ⊎ ((r.wire ≡ 2) × (is_repeated field.card ≡ true))

pub taken_by : (schema : Schema) (field : FieldType) (r : Record) → takes schema field r ≡ true → TakenBy field r
taken_by schema field r e =
    let own = eqb r.wire (wire_of field) in
    let number = is_number (value_type_of field.kind) in
    let packed = eqb r.wire 2 && (number && is_repeated field.card) in
    let first = and_parts (eqb field.number r.number) (own || packed) e in
    record {
      number = eqb-true field.number r.number first.0;
      wire =
          ⊎_elim
          (λ (p : own ≡ true). inl (eqb-true r.wire (wire_of field) p))
          (λ (p : packed ≡ true).
          let parts = and_parts (eqb r.wire 2) (number && is_repeated field.card) p in
          inr (eqb-true r.wire 2 parts.0, (and_parts number (is_repeated field.card) parts.1).1))
          (or_cases own packed first.1);
    }

-- records of other numbers aren't taken
pub not_taken : (schema : Schema) (field : FieldType) (r : Record) → field.number ≢ r.number → takes schema field r ≡ false
not_taken schema field r differ = and_left (eqb field.number r.number) _ (ne_eqb field.number r.number differ)

-- no field takes a group
pub no_group_taken : (schema : Schema) (field : FieldType) (r : Record) → r.wire ≡ 3 → takes schema field r ≡ false
no_group_taken schema field r three = cases (takes schema field r) refl
  where
    cases : (t : Bool) → takes schema field r ≡ t → t ≡ false
    cases false e = refl
    cases true e =
        ⊎_elim
        (λ (p : r.wire ≡ wire_of field). absurd (no_start (value_type_of field.kind) (scalar_facts field.kind) (sym p ∙ three)))
        (λ (p : (r.wire ≡ 2) × (is_repeated field.card ≡ true)). absurd (omega (arith, p.0, three)))
        (taken_by schema field r e).wire

pub group_holds_anything : (schema : Schema) (fields : List FieldType) (r : Record) → r.wire ≡ 3 → contents_of schema fields r ≡ Anything
group_holds_anything schema [] r three = refl
group_holds_anything schema (field ∷ fields) r three =
    cond-false (takes schema field r) _ _ (no_group_taken schema field r three) ∙ group_holds_anything schema fields r three

pub not_anything : (type_no : ℕ) → Anything ≢ Message type_no
not_anything type_no e = cc

-- so the records in a group are read at no field
pub group_untyped : (schema : Schema) (fields : List FieldType) (r : Record) → r.wire ≡ 3 → fields_within schema (contents_of schema fields r) ≡ []
group_untyped schema fields r three = ap (fields_within schema) (group_holds_anything schema fields r three)
