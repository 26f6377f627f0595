-- What the payload of a record has to be, by the kind of the field that takes it.
use Rattle.std.proofs.Common.{◌≡◌, ◌≢◌, ℕ, suc, ◌+◌, ◌-◌, List, take, drop, Bool, true, false, cond, Result, Ok, Err, refl, sym, ap, ◌∙◌, subst, arith}
use Rattle.std.specs.Prelude.{IsOk, IsErr}
use Rattle.std.specs.Str.{IsUtf8, is_utf8}
use Rattle.std.proofs.lemmas.Str.{IsUtf8-from_is_utf8}
use Rattle.pb_schema.specs.declared.kind.Kind.{Kind}
use Rattle.pb_schema.specs.declared.kind.Kind.TheVariants as kinds
use Rattle.std.proofs.lemmas.Bool.{eq-eqb, ne_eqb}
use Rattle.std.proofs.lemmas.List.{drop-take}
use Rattle.pb_schema.specs.declared.kind.FieldType.{FieldType}
use Rattle.pb_schema.specs.declared.schema.Schema.{Schema}
use Rattle.pb_schema.specs.declared.wire_fault.WireFault.{WireFault}
use Rattle.pb_schema.specs.declared.wire_fault.WireKind.TheVariants.{NotUtf8, TooDeep}
use Rattle.pb_schema.specs.Reads.{fault, ◌>>=◌}
use Rattle.pb_schema.specs.Kinds.{ValueType, Scalar, Characters, Octets, Nested, Coding, value_type_of}
use Rattle.pb_schema.specs.Fits.{Numbers, Anything, contents_by, fields_of}
use Rattle.pb_schema.specs.Walk.{deeper_left, numbers_end, read_contents}
use Rattle.pb_wire.specs.declared.wire_record.WireRecord.{WireRecord}
use Rattle.dyn_message.specs.Fields.{IsBytesType}
use Rattle.pb_parse.specs.Parsing.{fits_kind}
use Rattle.pb_parse.specs.Reading.{contents_read, payload_at, walked}
use Rattle.pb_parse.proofs.RecordSteps.{deep_none, deep_some}

-- RESULTS

pub ok_is : {A : Type 0} (r : Result A WireFault) (x : A) → r ≡ Ok x → IsOk r
ok_is r x e = subst IsOk (sym e) refl

pub err_is : {A : Type 0} (r : Result A WireFault) (d : WireFault) → r ≡ Err d → IsErr r
err_is r d e = subst IsErr (sym e) refl

pub some_ok : {A : Type 0} (r : Result A WireFault) → IsOk r → (x : A) × (r ≡ Ok x)
some_ok (Ok x) h = (x, refl)
some_ok (Err d) h = absurd (cc)

pub some_err : {A : Type 0} (r : Result A WireFault) → IsErr r → (d : WireFault) × (r ≡ Err d)
some_err (Err d) h = (d, refl)
some_err (Ok x) h = absurd (cc)

-- PAYLOADS

-- the bytes from a payload's place to the end of its record
pub payload_cut : (found : WireRecord) (bytes : List ℕ) → found.payload + found.payload_len ≡ found.end → take (found.end - found.payload) (drop found.payload bytes) ≡ payload_at found bytes
payload_cut found bytes e =
    let len : found.end - found.payload ≡ found.payload_len = omega (arith, e) in
    ap (λ n. take n (drop found.payload bytes)) len

-- the same in the front of the bytes that the record ends
pub payload_front : (found : WireRecord) (bytes : List ℕ) → found.payload + found.payload_len ≡ found.end → drop found.payload (take found.end bytes) ≡ payload_at found bytes
payload_front found bytes e = ap (λ n. drop found.payload (take n bytes)) (sym e) ∙ drop-take found.payload found.payload_len bytes

abbrev by_type : Schema → ℕ → WireRecord → List ℕ → ValueType → Result ℕ WireFault
by_type schema left found bytes type = read_contents schema (deeper_left schema left) found.start found.payload (payload_at found bytes) (contents_by type found.wire)

contents_is : (schema : Schema) (left : ℕ) (field : FieldType) (found : WireRecord) (bytes : List ℕ) → contents_read schema left field found bytes ≡ by_type schema left found bytes (value_type_of field.kind)
unfolding contents_read
contents_is schema left field found bytes = refl

module _ (schema : Schema) (left : ℕ) (field : FieldType) (found : WireRecord) (bytes : List ℕ) where
  with_type : (type : ValueType) → value_type_of field.kind ≡ type → contents_read schema left field found bytes ≡ by_type schema left found bytes type
  with_type type e = contents_is schema left field found bytes ∙ ap (by_type schema left found bytes) e

  -- a number by itself
  pub number_holds : (coding : Coding) → value_type_of field.kind ≡ Scalar coding → found.wire ≢ 2 → contents_read schema left field found bytes ≡ Ok found.payload
  number_holds coding e other =
      with_type (Scalar coding) e
      ∙ ap (λ b. read_contents schema (deeper_left schema left) found.start found.payload (payload_at found bytes) (cond b (Numbers coding.wire) Anything)) (ne_eqb found.wire 2 other)

  -- numbers one after another
  pub packed_holds : (coding : Coding) → value_type_of field.kind ≡ Scalar coding → found.wire ≡ 2 → contents_read schema left field found bytes ≡ numbers_end coding.wire found.payload 0 (payload_at found bytes)
  packed_holds coding e two =
      with_type (Scalar coding) e
      ∙ ap (λ b. read_contents schema (deeper_left schema left) found.start found.payload (payload_at found bytes) (cond b (Numbers coding.wire) Anything)) (eq-eqb found.wire 2 two)

  -- a text or bytes
  pub string_holds : IsBytesType (value_type_of field.kind) → fits_kind (value_type_of field.kind) (payload_at found bytes) ≡ true → contents_read schema left field found bytes ≡ Ok found.payload
  string_holds bytes_type fits = contents_is schema left field found bytes ∙ by_kind (value_type_of field.kind) bytes_type fits
    where
      by_kind : (type : ValueType) → IsBytesType type → fits_kind type (payload_at found bytes) ≡ true → by_type schema left found bytes type ≡ Ok found.payload
      by_kind Characters h fits = ap (λ b. cond b (Ok found.payload) (fault NotUtf8 found.payload)) fits
      by_kind Octets h fits = refl
      by_kind (Scalar coding) h fits = absurd h
      by_kind (Nested inner) h fits = absurd h

  pub string_broken : IsBytesType (value_type_of field.kind) → fits_kind (value_type_of field.kind) (payload_at found bytes) ≡ false → contents_read schema left field found bytes ≡ fault NotUtf8 found.payload
  string_broken bytes_type broken = contents_is schema left field found bytes ∙ by_kind (value_type_of field.kind) bytes_type broken
    where
      by_kind : (type : ValueType) → IsBytesType type → fits_kind type (payload_at found bytes) ≡ false → by_type schema left found bytes type ≡ fault NotUtf8 found.payload
      by_kind Characters h broken = ap (λ b. cond b (Ok found.payload) (fault NotUtf8 found.payload)) broken
      by_kind Octets h broken = absurd (cc)
      by_kind (Scalar coding) h broken = absurd h
      by_kind (Nested inner) h broken = absurd h

-- a message, one level deeper
pub sub_holds : (schema : Schema) (left : ℕ) (field : FieldType) (found : WireRecord) (bytes : List ℕ) (inner : ℕ) → value_type_of field.kind ≡ Nested inner
    → contents_read schema (suc left) field found bytes ≡ (walked schema left (fields_of schema inner) found.payload (payload_at found bytes) >>= λ stop. Ok stop.1)
sub_holds schema left field found bytes inner e = with_type schema (suc left) field found bytes (Nested inner) e ∙ deep_some schema left found.start found.payload (payload_at found bytes) inner

pub sub_too_deep : (schema : Schema) (field : FieldType) (found : WireRecord) (bytes : List ℕ) (inner : ℕ) → value_type_of field.kind ≡ Nested inner → contents_read schema 0 field found bytes ≡ fault TooDeep found.start
sub_too_deep schema field found bytes inner e = with_type schema 0 field found bytes (Nested inner) e ∙ deep_none schema found.start found.payload (payload_at found bytes) inner

-- TEXT

pub not_text : (s : List ℕ) → (IsUtf8 s → ⊥) → is_utf8 s ≡ false
not_text s none = by_test (is_utf8 s) refl
  where
    by_test : (b : Bool) → is_utf8 s ≡ b → is_utf8 s ≡ false
    by_test true is = absurd (none (IsUtf8-from_is_utf8 s is))
    by_test false is = is

pub text_fits : (kind : Kind) (s : List ℕ) (b : Bool) → kind ≡ kinds.Text → is_utf8 s ≡ b → b ≡ fits_kind (value_type_of kind) s
text_fits kind s b e h = sym (ap (λ k. fits_kind (value_type_of k) s) e ∙ h)
