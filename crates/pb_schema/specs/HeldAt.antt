-- What a message holds at one of its fields, and the message with that changed (proto3 guide, "Oneof Features"). A
-- field is named by its number.
use Rattle.std.specs.Prelude.{ℕ, Bool, false, ◌==◌, List, [], ◌∷◌, Option, None, Some, if◌then◌else◌}
use Rattle.pb_schema.specs.declared.kind.Card.{Card}
use Rattle.pb_schema.specs.declared.kind.Card.TheVariants as cards
use Rattle.pb_schema.specs.declared.kind.FieldType.{FieldType}
use Rattle.pb_schema.specs.declared.schema.Schema.{Schema}
use Rattle.pb_schema.specs.Cards.{is_member}
use Rattle.pb_schema.specs.Fits.{fields_of}
use Rattle.pb_schema.specs.Tree.{HeldWith, Nothing, One, TreeWith, Message, HeldListWith, FieldAnd, fields_held, unknown_held}

-- the field with this number among some fields
abbrev pub field_among : List FieldType → ℕ → Option FieldType
field_among [] number = None
field_among (field ∷ fields) number = if field.number == number then Some field else field_among fields number

-- the field of a type with this number
abbrev pub field_at : Schema → ℕ → ℕ → Option FieldType
field_at schema type_no number = field_among (fields_of schema type_no) number

-- READING

abbrev pub held_among : {U : Type 0} → List FieldType → ℕ → HeldListWith U → HeldWith U
held_among (field ∷ fields) number (FieldAnd held rest) =
    if field.number == number then held else held_among fields number rest
held_among _ number _ = Nothing

-- what a message of a type holds at a field
abbrev pub held_at : {U : Type 0} → Schema → ℕ → ℕ → TreeWith U → HeldWith U
held_at schema type_no number t = held_among (fields_of schema type_no) number (fields_held t)

-- CHANGING

-- a field of the second card is cleared where one of the first comes to hold this: both are members of one oneof, and
-- the value is set
abbrev pub clears : {U : Type 0} → Card → HeldWith U → Card → Bool
clears (cards.Member oneof) (One value) other = is_member oneof other
clears _ held other = false

-- the field with this number and card holds this, and the fields that it clears hold nothing
abbrev pub changed : {U : Type 0} → ℕ → Card → HeldWith U → List FieldType → HeldListWith U → HeldListWith U
changed number card held (field ∷ fields) (FieldAnd was rest) =
    FieldAnd
    (if field.number == number then held else (if clears card held field.card then Nothing else was))
    (changed number card held fields rest)
changed number card held _ others = others

-- the same where there is such a field
abbrev pub changed_at : {U : Type 0} → Option FieldType → HeldWith U → List FieldType → HeldListWith U → HeldListWith U
changed_at None held fields others = others
changed_at (Some field) held fields others = changed field.number field.card held fields others

-- the message of a type that holds this at a field, and at all others what it held, but for the other members of the
-- field's oneof
abbrev pub with_held : {U : Type 0} → Schema → ℕ → ℕ → HeldWith U → TreeWith U → TreeWith U
with_held schema type_no number held t =
    Message
    (changed_at (field_at schema type_no number) held (fields_of schema type_no) (fields_held t))
    (unknown_held t)
