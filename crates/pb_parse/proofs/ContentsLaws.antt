-- What a payload has to be, by the entry that the code finds for the record's number.
use Rattle.std.proofs.Common.{◌≡◌, ℕ, List, [], ◌∷◌, Bool, true, false, cond, eqb, ◌&&◌, None, Some, refl, sym, ap, ◌∙◌, subst}
use Rattle.std.specs.Option.{option_map}
use Rattle.std.proofs.lemmas.Bool.{and_from, and_right, eq-eqb}
use Rattle.pb_schema.specs.declared.kind.Kind.{Kind}
use Rattle.pb_schema.specs.declared.kind.Kind.TheVariants as kinds
use Rattle.pb_schema.specs.declared.kind.FieldType.{FieldType}
use Rattle.pb_schema.specs.declared.schema.Schema.{Schema}
use Rattle.pb_schema.specs.Kinds.{ValueType, Scalar, Characters, Octets, Nested, value_type_of}
use Rattle.pb_schema.specs.Record.{Record}
use Rattle.pb_schema.specs.Fits.{Anything, Numbers, fields_of, takes, is_taken, contents_by, contents_in, contents_of}
use Rattle.pb_schema.specs.Fits as fits
use Rattle.pb_schema.specs.HeldAt.{field_among, field_at}
use Rattle.pb_schema.specs.Lawful.{Lawful}
use Rattle.pb_schema.proofs.HeldLaws.{field_number}
use Rattle.msg_layout.specs.declared.entry.Entry.{Entry}
use Rattle.msg_layout.specs.Layout.{layout_of, entry_of}
use Rattle.dyn_message.proofs.Entries.{same_found, fields_laid}
use Rattle.dyn_message.proofs.Linking.{message_type_there}
use Rattle.pb_parse.specs.declared.contents.Contents.{Contents}
use Rattle.pb_parse.specs.declared.contents.Contents.TheVariants as ways
use Rattle.pb_parse.specs.Contents.{meant, bare, fits_wire, contents_at, IsNumberWire, IsKnown}
use Rattle.pb_parse.proofs.FieldFound.{contents_found, contents_none, no_number, no_fit}

-- THE FIELD OF AN ENTRY

entry_field : (schema : Schema) (type_no number : ℕ) → field_at schema type_no number ≡ option_map (λ (entry : Entry). entry.field) (entry_of schema type_no number)
entry_field schema type_no number =
    ap (λ fields. field_among fields number) (sym (fields_laid schema type_no)) ∙ same_found (layout_of schema type_no).entries number

pub field_there : (schema : Schema) (type_no number : ℕ) (entry : Entry) → entry_of schema type_no number ≡ Some entry → field_at schema type_no number ≡ Some entry.field
field_there schema type_no number entry e = entry_field schema type_no number ∙ ap (option_map (λ (entry : Entry). entry.field)) e

pub no_field : (schema : Schema) (type_no number : ℕ) → entry_of schema type_no number ≡ None → field_at schema type_no number ≡ None
no_field schema type_no number e = entry_field schema type_no number ∙ ap (option_map (λ (entry : Entry). entry.field)) e

-- a field takes a record of its number exactly where it takes the wire type
pub takes_by_wire : (schema : Schema) (type_no number : ℕ) (field : FieldType) (r : Record) (t : Bool) → field_at schema type_no number ≡ Some field → r.number ≡ number → fits_wire field r.wire ≡ t → takes schema field r ≡ t
takes_by_wire schema type_no number field r true found is fits = and_from (eqb field.number r.number) (fits_wire field r.wire) (eq-eqb field.number r.number (field_number (fields_of schema type_no) number field found ∙ sym is)) fits
takes_by_wire schema type_no number field r false found is fits = and_right (eqb field.number r.number) (fits_wire field r.wire) fits

-- WHAT THE PAYLOAD HAS TO BE

pub contents_taken : (schema : Schema) (type_no number wire : ℕ) (entry : Entry) → entry_of schema type_no number ≡ Some entry → fits_wire entry.field wire ≡ true → contents_by (value_type_of entry.field.kind) wire ≡ contents_at schema type_no number wire
contents_taken schema type_no number wire entry e fits =
    let found = field_there schema type_no number entry e in
    sym (contents_found schema (fields_of schema type_no) number entry.field (bare number wire) found (takes_by_wire schema type_no number entry.field (bare number wire) true found refl fits))

pub contents_unfit : (schema : Schema) (type_no number wire : ℕ) (entry : Entry) → Lawful schema → entry_of schema type_no number ≡ Some entry → fits_wire entry.field wire ≡ false → Anything ≡ contents_at schema type_no number wire
contents_unfit schema type_no number wire entry lawful e fits =
    let found = field_there schema type_no number entry e in
    sym (contents_none schema (fields_of schema type_no) (bare number wire) (no_fit schema type_no number entry.field (bare number wire) lawful found refl (takes_by_wire schema type_no number entry.field (bare number wire) false found refl fits)))

pub contents_missing : (schema : Schema) (type_no number wire : ℕ) → entry_of schema type_no number ≡ None → Anything ≡ contents_at schema type_no number wire
contents_missing schema type_no number wire e =
    sym (contents_none schema (fields_of schema type_no) (bare number wire) (no_number schema type_no number (bare number wire) (no_field schema type_no number e) refl))

-- AND WHAT IS KNOWN OF IT

abbrev WireOfNumbers : ValueType → Type 0
WireOfNumbers (Scalar coding) = IsNumberWire coding.wire
WireOfNumbers _ = Unit {0}

wire_of_numbers : (kind : Kind) → WireOfNumbers (value_type_of kind)
wire_of_numbers kinds.Double = tt
wire_of_numbers kinds.Float = tt
wire_of_numbers kinds.Int64 = tt
wire_of_numbers kinds.UInt64 = tt
wire_of_numbers kinds.Int32 = tt
wire_of_numbers kinds.Fixed64 = tt
wire_of_numbers kinds.Fixed32 = tt
wire_of_numbers kinds.Bool = tt
wire_of_numbers kinds.Text = tt
wire_of_numbers (kinds.Message type_no) = tt
wire_of_numbers kinds.Bytes = tt
wire_of_numbers kinds.UInt32 = tt
wire_of_numbers kinds.Enumeration = tt
wire_of_numbers kinds.SFixed32 = tt
wire_of_numbers kinds.SFixed64 = tt
wire_of_numbers kinds.SInt32 = tt
wire_of_numbers kinds.SInt64 = tt

numbers_known : (wire number_wire : ℕ) (type : ValueType) → WireOfNumbers type → contents_by type wire ≡ Numbers number_wire → IsNumberWire number_wire
numbers_known wire number_wire (Scalar coding) is e = pick (eqb wire 2) e
  where
    pick : (t : Bool) → cond t (Numbers coding.wire) Anything ≡ Numbers number_wire → IsNumberWire number_wire
    pick true e = let same : coding.wire ≡ number_wire = cc in subst IsNumberWire same is
    pick false e = absurd (differ e)
      where
        differ : Anything ≡ Numbers number_wire → ⊥
        differ e = cc
numbers_known wire number_wire Characters is e = absurd (differ e)
  where
    differ : fits.Utf8 ≡ Numbers number_wire → ⊥
    differ e = cc
numbers_known wire number_wire Octets is e = absurd (differ e)
  where
    differ : Anything ≡ Numbers number_wire → ⊥
    differ e = cc
numbers_known wire number_wire (Nested type_no) is e = absurd (differ e)
  where
    differ : fits.Message type_no ≡ Numbers number_wire → ⊥
    differ e = cc

message_known : (wire inner : ℕ) (type : ValueType) → contents_by type wire ≡ fits.Message inner → type ≡ Nested inner
message_known wire inner (Scalar coding) e = pick (eqb wire 2) e
  where
    pick : (t : Bool) → cond t (Numbers coding.wire) Anything ≡ fits.Message inner → Scalar coding ≡ Nested inner
    pick true e = absurd (differ e)
      where
        differ : Numbers coding.wire ≡ fits.Message inner → ⊥
        differ e = cc
    pick false e = absurd (differ e)
      where
        differ : Anything ≡ fits.Message inner → ⊥
        differ e = cc
message_known wire inner Characters e = absurd (differ e)
  where
    differ : fits.Utf8 ≡ fits.Message inner → ⊥
    differ e = cc
message_known wire inner Octets e = absurd (differ e)
  where
    differ : Anything ≡ fits.Message inner → ⊥
    differ e = cc
message_known wire inner (Nested type_no) e = ap Nested same
  where
    same : type_no ≡ inner
    same = cc

pub contents_known : (schema : Schema) (type_no number wire : ℕ) (field : FieldType) (way : Contents) → Lawful schema → field_at schema type_no number ≡ Some field → meant way ≡ contents_by (value_type_of field.kind) wire → IsKnown schema way
contents_known schema type_no number wire field ways.Anything lawful found e = tt
contents_known schema type_no number wire field (ways.Numbers number_wire) lawful found e = numbers_known wire number_wire (value_type_of field.kind) (wire_of_numbers field.kind) (sym e)
contents_known schema type_no number wire field ways.Text lawful found e = tt
contents_known schema type_no number wire field (ways.Message inner) lawful found e = message_type_there schema lawful type_no number field inner found (message_known wire inner (value_type_of field.kind) (sym e))

-- by number and wire type alone
pub contents_same : (schema : Schema) (fields : List FieldType) (r q : Record) → r.number ≡ q.number → r.wire ≡ q.wire → contents_of schema fields r ≡ contents_of schema fields q
contents_same schema [] r q number wire = refl
contents_same schema (field ∷ fields) r q number wire =
    ap (λ n. cond (eqb field.number n && fits_wire field r.wire) (contents_in field r) (contents_of schema fields r)) number
    ∙ (ap (λ w. cond (eqb field.number q.number && fits_wire field w) (contents_by (value_type_of field.kind) w) (contents_of schema fields r)) wire
    ∙ ap (cond (takes schema field q) (contents_in field q)) (contents_same schema fields r q number wire))
