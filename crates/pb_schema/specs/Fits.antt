-- Which records a field takes, and what their payloads have to be (encoding guide, "Message Structure", "Packed
-- Repeated Fields" and "Groups").
use Rattle.std.specs.Prelude.{ℕ, zero, suc, Bool, ◌&&◌, ◌||◌, ◌==◌, List, [], ◌∷◌, if◌then◌else◌}
use Rattle.std.specs.List.{list_any}
use Rattle.pb_schema.specs.declared.kind.FieldType.{FieldType}
use Rattle.pb_schema.specs.declared.schema.MessageType.{MessageType}
use Rattle.pb_schema.specs.declared.schema.Schema.{Schema}
use Rattle.pb_schema.specs.Kinds.{ValueType, Scalar, Characters, Octets, Nested, value_type_of, value_wire, is_number}
use Rattle.pb_schema.specs.Cards.{is_repeated}
use Rattle.pb_schema.specs.Record.{Record}

-- FIELDS OF TYPES

-- the fields of the type with this number among some types
abbrev pub fields_among : List MessageType → ℕ → List FieldType
fields_among [] type_no = []
fields_among (type ∷ types) zero = type.fields
fields_among (type ∷ types) (suc type_no) = fields_among types type_no

-- the fields of the type with this number
abbrev pub fields_of : Schema → ℕ → List FieldType
fields_of schema type_no = fields_among schema.types type_no

-- a schema without types, for bytes that are read as records alone
abbrev pub no_types : Schema
no_types = record { types = [] }

-- the fields of the messages that values of this type are
abbrev pub fields_of_value : Schema → ValueType → List FieldType
fields_of_value schema (Nested type_no) = fields_of schema type_no
fields_of_value schema _ = []

-- the fields of the messages that a field holds
abbrev pub nested_fields : Schema → FieldType → List FieldType
nested_fields schema field = fields_of_value schema (value_type_of field.kind)

-- WHICH RECORDS FIT

-- the wire type of a field's records, each of one value
abbrev pub wire_of : FieldType → ℕ
wire_of field = value_wire (value_type_of field.kind)

-- records of wire type 2 may have many numbers of the field
abbrev pub is_packable : FieldType → Bool
is_packable field = is_number (value_type_of field.kind) && is_repeated field.card

-- a field takes records of its number with its wire type, and where it is a list of numbers also packed ones
abbrev pub takes : Schema → FieldType → Record → Bool
takes schema field r = field.number == r.number && (r.wire == wire_of field || (r.wire == 2 && is_packable field))

-- one of the fields takes the record
abbrev pub is_taken : Schema → List FieldType → Record → Bool
is_taken schema fields r = list_any (λ field. takes schema field r) fields

-- WHAT PAYLOADS HAVE TO BE

-- what a payload has to be: anything, whole numbers of this wire type, text, or records of the type with this number
pub data Contents : Type 0 where
  Anything : Contents
  Numbers : ℕ → Contents
  Utf8 : Contents
  Message : ℕ → Contents

-- what the payload of a record with this wire type has to be where its field takes values of this type
abbrev pub contents_by : ValueType → ℕ → Contents
contents_by (Scalar coding) wire = if wire == 2 then Numbers coding.wire else Anything
contents_by Characters wire = Utf8
contents_by Octets wire = Anything
contents_by (Nested type_no) wire = Message type_no

-- what the payload of a record has to be that the field takes
abbrev pub contents_in : FieldType → Record → Contents
contents_in field r = contents_by (value_type_of field.kind) r.wire

-- what the payload of a record has to be where a message has these fields; a record that no field takes holds anything
abbrev pub contents_of : Schema → List FieldType → Record → Contents
contents_of schema [] r = Anything
contents_of schema (field ∷ fields) r =
    if takes schema field r then contents_in field r else contents_of schema fields r

-- the fields at which the records in a payload are read that has to be this: those of a message, and else none
abbrev pub fields_within : Schema → Contents → List FieldType
fields_within schema (Message type_no) = fields_of schema type_no
fields_within schema _ = []
