-- The number that a record of a number's field spells, by itself or one of many.
use Rattle.std.proofs.Common.{◌≡◌, ◌≢◌, ◌⊎◌, ◌<◌, ◌≤◌, ℕ, zero, suc, List, [], ◌∷◌, length, take, drop, Bool, true, false, eqb, Ok, Err, true≢false, refl, sym, ap, ◌∙◌, subst, ⊎_elim, inl, inr, arith, length-take-le}
use Rattle.std.specs.Prelude.{◌&&◌, ◌||◌}
use Rattle.std.proofs.lemmas.Bool.{eqb-true}
use Rattle.pb_schema.specs.declared.kind.FieldType.{FieldType}
use Rattle.pb_schema.specs.declared.kind.Card.{Card}
use Rattle.pb_schema.specs.declared.kind.Card.TheVariants as cards
use Rattle.pb_schema.specs.declared.kind.Kind.{Kind}
use Rattle.pb_schema.specs.declared.kind.Kind.TheVariants as kinds
use Rattle.pb_schema.specs.declared.schema.Schema.{Schema}
use Rattle.pb_schema.specs.declared.wire_fault.WireFault.{WireFault}
use Rattle.pb_schema.specs.Varint.{Varint, value_bytes}
use Rattle.pb_schema.specs.Reads.{◌>>=◌}
use Rattle.pb_schema.specs.Cards.{is_repeated}
use Rattle.pb_schema.specs.Kinds.{Coding, ValueType, Scalar, value_type_of, value_wire, is_number}
use Rattle.pb_schema.specs.Fits.{takes, is_packable, wire_of}
use Rattle.pb_schema.specs.Form.{read_scalar, read_varint}
use Rattle.pb_schema.specs.Record.{Record}
use Rattle.pb_schema.specs.TreeOf.{pattern_in}
use Rattle.pb_schema.proofs.FormLaws.{not_ok, same_ok, bind_ok, read_varint_ok, read_varint_some, read_bytes_ok, read_bytes_of}
use Rattle.pb_schema.proofs.VarintLaws.{varint_at_found, varint_at_exact}
use Rattle.pb_wire.specs.declared.wire_record.WireRecord.{WireRecord}
use Rattle.dyn_message.specs.Stands.{IsSingle}
use Rattle.pb_parse.specs.Parsing.{IsFor}
use Rattle.pb_parse.specs.Reading.{payload_at, record_at}

-- WIRE TYPES

abbrev number_wire : ValueType → ℕ
number_wire (Scalar coding) = coding.wire
number_wire _ = 0

kind_wire : (kind : Kind) → number_wire (value_type_of kind) ≢ 2
kind_wire kinds.Double = λ e. absurd (omega (arith, e))
kind_wire kinds.Float = λ e. absurd (omega (arith, e))
kind_wire kinds.Int64 = λ e. absurd (omega (arith, e))
kind_wire kinds.UInt64 = λ e. absurd (omega (arith, e))
kind_wire kinds.Int32 = λ e. absurd (omega (arith, e))
kind_wire kinds.Fixed64 = λ e. absurd (omega (arith, e))
kind_wire kinds.Fixed32 = λ e. absurd (omega (arith, e))
kind_wire kinds.Bool = λ e. absurd (omega (arith, e))
kind_wire kinds.Text = λ e. absurd (omega (arith, e))
kind_wire (kinds.Message inner) = λ e. absurd (omega (arith, e))
kind_wire kinds.Bytes = λ e. absurd (omega (arith, e))
kind_wire kinds.UInt32 = λ e. absurd (omega (arith, e))
kind_wire kinds.Enumeration = λ e. absurd (omega (arith, e))
kind_wire kinds.SFixed32 = λ e. absurd (omega (arith, e))
kind_wire kinds.SFixed64 = λ e. absurd (omega (arith, e))
kind_wire kinds.SInt32 = λ e. absurd (omega (arith, e))
kind_wire kinds.SInt64 = λ e. absurd (omega (arith, e))

coding_wire : (kind : Kind) (coding : Coding) → value_type_of kind ≡ Scalar coding → coding.wire ≢ 2
coding_wire kind coding e two = kind_wire kind (ap number_wire e ∙ two)

both_true : (a b : Bool) → (a && b) ≡ true → (a ≡ true) × (b ≡ true)
both_true true true e = (refl, refl)
both_true true false e = absurd (true≢false (sym e))
both_true false b e = absurd (true≢false (sym e))

one_true : (a b : Bool) → (a || b) ≡ true → (a ≡ true) ⊎ (b ≡ true)
one_true true b e = inl refl
one_true false b e = inr e

taken_wire : (schema : Schema) (field : FieldType) (r : Record) → takes schema field r ≡ true → (r.wire ≡ wire_of field) ⊎ ((r.wire ≡ 2) × (is_packable field ≡ true))
taken_wire schema field r h =
    let fits = (both_true (eqb field.number r.number) _ h).1 in
    ⊎_elim
    (λ one. inl (eqb-true r.wire (wire_of field) one))
    (λ packed. let p = both_true (eqb r.wire 2) (is_packable field) packed in inr (eqb-true r.wire 2 p.0, p.1))
    (one_true (eqb r.wire (wire_of field)) (eqb r.wire 2 && is_packable field) fits)

single_packs_not : (card : Card) → IsSingle card → is_repeated card ≡ false
single_packs_not cards.Implicit h = refl
single_packs_not cards.Explicit h = refl
single_packs_not (cards.Member oneof) h = refl
single_packs_not (cards.Repeated packed) h = absurd h

-- a record of a field of one number, or one of a list that isn't packed, has the wire type of the number
pub other_wire : (schema : Schema) (field : FieldType) (r : Record) (coding : Coding) → takes schema field r ≡ true → value_type_of field.kind ≡ Scalar coding → r.wire ≢ 2 → r.wire ≡ coding.wire
other_wire schema field r coding h type other =
    ⊎_elim (λ one. one ∙ ap value_wire type) (λ packed. absurd (other packed.0)) (taken_wire schema field r h)

pub single_wire : (schema : Schema) (field : FieldType) (r : Record) (coding : Coding) → takes schema field r ≡ true → value_type_of field.kind ≡ Scalar coding → IsSingle field.card → r.wire ≢ 2
single_wire schema field r coding h type single two =
    ⊎_elim
    (λ one. coding_wire field.kind coding type (sym (one ∙ ap value_wire type) ∙ two))
    (λ packed. true≢false (sym (both_true (is_number (value_type_of field.kind)) (is_repeated field.card) packed.1).1 ∙ single_packs_not field.card single))
    (taken_wire schema field r h)

-- ONE VALUE

take_again : (n : ℕ) (s : List ℕ) → take n (take n s) ≡ take n s
take_again zero s = refl
take_again (suc n) [] = refl
take_again (suc n) (x ∷ s) = ap (λ t. x ∷ t) (take_again n s)

-- a value is read from its own bytes
pub scalar_cut : (wire at : ℕ) (s : List ℕ) (n : ℕ) → read_scalar wire at s ≡ Ok n → n ≤ length s → read_scalar wire at (take n s) ≡ Ok n
scalar_cut zero at s n e within =
    bind_ok (read_varint value_bytes at s) (λ v. Ok v.1) n e
    λ v was is.
    let same : v.1 ≡ n = same_ok v.1 n is in
    let found = varint_at_found value_bytes s v.0 v.1 (read_varint_ok value_bytes at s v was) in
    let long : v.1 ≤ length (take v.1 s) = omega (arith, length-take-le v.1 s found.0) in
    let again = varint_at_exact value_bytes (take v.1 s) v.0 v.1 (long, subst (λ t. Varint t value_bytes v.0) (sym (take_again v.1 s)) found.1) in
    ap (λ k. read_scalar zero at (take k s)) (sym same)
    ∙ (ap (λ r. r >>= λ (w : ℕ × ℕ). Ok w.1) (read_varint_some value_bytes at (take v.1 s) v.0 v.1 again) ∙ is)
scalar_cut (suc zero) at s n e within =
    read_bytes_ok 8 at s n e
    λ same long.
    let there : 8 ≤ length (take n s) = omega (arith, length-take-le n s within, same) in
    read_bytes_of 8 at (take n s) there ∙ ap Ok same
scalar_cut (suc (suc zero)) at s n e within = e
scalar_cut (suc (suc (suc zero))) at s n e within = e
scalar_cut (suc (suc (suc (suc zero)))) at s n e within = e
scalar_cut (suc (suc (suc (suc (suc zero))))) at s n e within =
    read_bytes_ok 4 at s n e
    λ same long.
    let there : 4 ≤ length (take n s) = omega (arith, length-take-le n s within, same) in
    read_bytes_of 4 at (take n s) there ∙ ap Ok same
scalar_cut (suc (suc (suc (suc (suc (suc wire)))))) at s n e within = e

module _ (schema : Schema) (type_no : ℕ) (bytes : List ℕ) (found : WireRecord) (field : FieldType) (coding : Coding) (is_for : IsFor schema type_no bytes found field) (type : value_type_of field.kind ≡ Scalar coding) (other : found.wire ≢ 2) where
  value_there : read_scalar coding.wire found.payload (drop found.payload bytes) ≡ Ok found.payload_len
  value_there = ap (λ w. read_scalar w found.payload (drop found.payload bytes)) (sym (other_wire schema field (record_at found bytes) coding is_for.taken type other)) ∙ is_for.value other

  pub no_value_none : (d : WireFault) → read_scalar coding.wire found.payload (drop found.payload bytes) ≡ Err d → ⊥
  no_value_none d e = not_ok d found.payload_len (sym e ∙ value_there)

  pub value_is : (n bits : ℕ) → read_scalar coding.wire found.payload (drop found.payload bytes) ≡ Ok n → bits ≡ pattern_in coding (take n (drop found.payload bytes)) → bits ≡ pattern_in coding (payload_at found bytes)
  value_is n bits e is = is ∙ ap (λ k. pattern_in coding (take k (drop found.payload bytes))) (same_ok n found.payload_len (sym e ∙ value_there))

  pub value_some : (n : ℕ) → read_scalar coding.wire found.payload (drop found.payload bytes) ≡ Ok n → 0 < n → n ≤ length (drop found.payload bytes) → payload_at found bytes ≢ []
  value_some n e some within none =
      let same : n ≡ found.payload_len = same_ok n found.payload_len (sym e ∙ value_there) in
      absurd (omega (arith, some, within, same, ap length none, length-take-le found.payload_len (drop found.payload bytes) (omega (arith, within, same))))

  pub value_whole : (n : ℕ) → read_scalar coding.wire found.payload (drop found.payload bytes) ≡ Ok n → n ≤ length (drop found.payload bytes) → read_scalar coding.wire found.payload (payload_at found bytes) ≡ Ok (length (payload_at found bytes))
  value_whole n e within =
      let same : n ≡ found.payload_len = same_ok n found.payload_len (sym e ∙ value_there) in
      let fits : found.payload_len ≤ length (drop found.payload bytes) = omega (arith, within, same) in
      scalar_cut coding.wire found.payload (drop found.payload bytes) found.payload_len value_there fits
      ∙ ap Ok (sym (length-take-le found.payload_len (drop found.payload bytes) fits))
