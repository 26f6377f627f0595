-- The conditions of calls on a field, and what a message holds at it.
use Rattle.std.specs.Prelude.{◌≡◌, ◌&&◌, ℕ, zero, false, ⊤, List, [], ◌∷◌, Option, None, Some, if◌then◌else◌}
use Rattle.arena_mem.specs.Places.{Places, Buffers}
use Rattle.pb_schema.specs.declared.kind.Card.{Card}
use Rattle.pb_schema.specs.declared.kind.Card.TheVariants as cards
use Rattle.pb_schema.specs.declared.kind.FieldType.{FieldType}
use Rattle.pb_schema.specs.declared.schema.Schema.{Schema}
use Rattle.pb_schema.specs.Kinds.{ValueType, Scalar, Characters, Octets, Nested, value_type_of}
use Rattle.pb_schema.specs.Cards.{is_member}
use Rattle.pb_schema.specs.Fits.{fields_of}
use Rattle.pb_schema.specs.Fitted.{IsPatternOf, IsStringOf}
use Rattle.pb_schema.specs.Merge.{is_set}
use Rattle.pb_schema.specs.HeldAt.{field_at}
use Rattle.pb_schema.specs.Tree.{HeldWith, Nothing, One, Number, Bytes, TreeWith, Shape, HeldListWith, FieldAnd, fields_held}
use Rattle.dyn_message.specs.declared.msg_ref.MsgRef.{MsgRef}
use Rattle.msg_layout.specs.declared.entry.Entry.{Entry}
use Rattle.dyn_message.specs.Feet.{Foot}
use Rattle.dyn_message.specs.Slots.{set_by, told_in}
use Rattle.dyn_message.specs.Stands.{Stands, IsSingle}

-- CONDITIONS

-- the message stands for some shape
abbrev pub IsMessageIn : Schema → Places → Buffers → MsgRef → Type 0
IsMessageIn schema places buffers msg = (t : Shape) × (feet : List Foot) × Stands schema places buffers msg t feet

abbrev pub IsNumberType : ValueType → Type 0
IsNumberType (Scalar coding) = ⊤
IsNumberType _ = ⊥

abbrev pub IsBytesType : ValueType → Type 0
IsBytesType Characters = ⊤
IsBytesType Octets = ⊤
IsBytesType _ = ⊥

abbrev pub IsMessageType : ValueType → Type 0
IsMessageType (Nested type_no) = ⊤
IsMessageType _ = ⊥

-- a type has a field with this number, whose card and kind are these
pub record HasField (Cards : Card → Type 0) (Types : ValueType → Type 0) (schema : Schema) (type_no number : ℕ) : Type 0 where
  pub field : FieldType
  pub found : field_at schema type_no number ≡ Some field
  pub card : Cards field.card
  pub type : Types (value_type_of field.kind)

-- a type has a field with this number
abbrev pub IsFieldOf : Schema → ℕ → ℕ → Type 0
IsFieldOf schema type_no number = (field : FieldType) × (field_at schema type_no number ≡ Some field)

-- a field of one number, of one text or bytes, of one message
abbrev pub HasNumber : Schema → ℕ → ℕ → Type 0
HasNumber schema type_no number = HasField IsSingle IsNumberType schema type_no number

abbrev pub HasBytes : Schema → ℕ → ℕ → Type 0
HasBytes schema type_no number = HasField IsSingle IsBytesType schema type_no number

abbrev pub HasMessage : Schema → ℕ → ℕ → Type 0
HasMessage schema type_no number = HasField IsSingle IsMessageType schema type_no number

-- the same where the field takes this number, or these bytes
abbrev pub TakesNumber : Schema → ℕ → ℕ → ℕ → Type 0
TakesNumber schema type_no number p = HasField IsSingle (λ type. IsPatternOf type p) schema type_no number

abbrev pub TakesBytes : Schema → ℕ → ℕ → List ℕ → Type 0
TakesBytes schema type_no number s = HasField IsSingle (λ type. IsStringOf type s) schema type_no number

-- WHAT IS PUT

-- what a field of a card holds once it is set to a number or to bytes: the default counts as nothing where nothing tells
-- one from the other
abbrev pub number_held : {U : Type 0} → Card → ℕ → HeldWith U
number_held cards.Implicit zero = Nothing
number_held _ p = One (Number p)

abbrev pub bytes_held : {U : Type 0} → Card → List ℕ → HeldWith U
bytes_held cards.Implicit [] = Nothing
bytes_held _ s = One (Bytes s)

-- the same by the field with this number
abbrev pub held_by : {U : Type 0} → (Card → HeldWith U) → Option FieldType → HeldWith U
held_by held None = Nothing
held_by held (Some field) = held field.card

abbrev pub number_put : {U : Type 0} → Schema → ℕ → ℕ → ℕ → HeldWith U
number_put schema type_no number p = held_by (λ card. number_held card p) (field_at schema type_no number)

abbrev pub bytes_put : {U : Type 0} → Schema → ℕ → ℕ → List ℕ → HeldWith U
bytes_put schema type_no number s = held_by (λ card. bytes_held card s) (field_at schema type_no number)

-- ONEOFS

-- the number of the field that is set among the members of a oneof, or 0
abbrev pub case_among : {U : Type 0} → ℕ → List FieldType → HeldListWith U → ℕ
case_among oneof (field ∷ fields) (FieldAnd held rest) =
    if is_member oneof field.card && is_set held then field.number else case_among oneof fields rest
case_among oneof _ _ = 0

abbrev pub case_in : {U : Type 0} → Schema → ℕ → ℕ → TreeWith U → ℕ
case_in schema type_no oneof t = case_among oneof (fields_of schema type_no) (fields_held t)

-- the number of the first of some fields that is a member of the oneof and that its mark tells to be set, or 0
abbrev pub first_set : ℕ → List ℕ → List Entry → ℕ
first_set oneof bytes [] = 0
first_set oneof bytes (entry ∷ entries) =
    if is_member oneof entry.field.card && set_by (told_in entry bytes) false
    then entry.field.number
    else first_set oneof bytes entries
