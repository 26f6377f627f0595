-- The bytes that are written for a tree: its fields by ascending number, then its unknown bytes (encoding guide,
-- "Message Structure", "Packed Repeated Fields" and "Field Order").
use Rattle.std.specs.Prelude.{◌/◌, ◌%◌, ℕ, zero, suc, true, false, List, [], ◌∷◌, ◌++◌, length}
use Rattle.pb_schema.specs.declared.kind.FieldType.{FieldType}
use Rattle.pb_schema.specs.declared.schema.Schema.{Schema}
use Rattle.pb_schema.specs.Varint.{varint_of}
use Rattle.pb_schema.specs.Tag.{tag_of}
use Rattle.pb_schema.specs.Kinds.{ValueType, Scalar, value_type_of}
use Rattle.pb_schema.specs.Cards.{is_packed}
use Rattle.pb_schema.specs.Fits.{fields_of, nested_fields, wire_of}
use Rattle.pb_schema.specs.Tree.{Value, Number, Bytes, Sub, Held, Nothing, One, Many, Tree, Message, ValueList, NoValues, ValueAnd, HeldList, NoFields, FieldAnd}

-- the shortest varint of the length, and the bytes behind it
abbrev pub framed : List ℕ → List ℕ
framed s = varint_of (length s) ++ s

-- so many bytes, the lowest first
abbrev pub low_first : ℕ → ℕ → List ℕ
low_first zero v = []
low_first (suc n) v = v % 256 ∷ low_first n (v / 256)

-- a number of this wire type
abbrev pub number_text : ℕ → ℕ → List ℕ
number_text zero v = varint_of v
number_text (suc zero) v = low_first 8 v
number_text (suc (suc wire)) v = low_first 4 v

-- the number of a value of this type
abbrev pub spelled_text : ValueType → ℕ → List ℕ
spelled_text (Scalar coding) p = number_text coding.wire (coding.spelled p)
spelled_text _ p = []

-- one record of the elements, and none where there are none
abbrev pub packed_text : ℕ → List ℕ → List ℕ
packed_text number [] = []
packed_text number (b ∷ s) = varint_of (tag_of number 2) ++ framed (b ∷ s)

-- the tag of a field's records
abbrev pub field_tag : FieldType → List ℕ
field_tag field = varint_of (tag_of field.number (wire_of field))

abbrev mutual
  -- a value by itself
  pub value_text : Schema → FieldType → Value → List ℕ
  value_text schema field (Number p) = spelled_text (value_type_of field.kind) p
  value_text schema field (Bytes s) = framed s
  value_text schema field (Sub t) = framed (message_text schema (nested_fields schema field) t)

  -- what a field holds
  pub held_text : Schema → FieldType → Held → List ℕ
  held_text schema field Nothing = []
  held_text schema field (One value) = field_tag field ++ value_text schema field value
  held_text schema field (Many values) =
      elim (is_packed field.card) [
        | true ↦ packed_text field.number (values_text schema field [] values)
        | false ↦ values_text schema field (field_tag field) values
      ]

  -- the values of a list, each behind the same bytes
  pub values_text : Schema → FieldType → List ℕ → ValueList → List ℕ
  values_text schema field front NoValues = []
  values_text schema field front (ValueAnd value values) =
      front ++ value_text schema field value ++ values_text schema field front values

  pub fields_text : Schema → List FieldType → HeldList → List ℕ
  fields_text schema fields NoFields = []
  fields_text schema [] (FieldAnd held rest) = []
  fields_text schema (field ∷ fields) (FieldAnd held rest) =
      held_text schema field held ++ fields_text schema fields rest

  pub message_text : Schema → List FieldType → Tree → List ℕ
  message_text schema fields (Message held unknown) = fields_text schema fields held ++ unknown

-- the bytes of a tree of this type
abbrev pub text_of : Schema → ℕ → Tree → List ℕ
text_of schema type_no t = message_text schema (fields_of schema type_no) t
