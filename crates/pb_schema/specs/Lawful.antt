-- The schemas that the definitions and their laws speak of (proto3 guide, "Assigning Field Numbers" and "Oneof";
-- descriptor.proto, `FieldDescriptorProto`). The bounds on how many types, fields and oneofs there are, are this
-- project's own.
use Rattle.std.specs.Prelude.{◌+◌, ◌-◌, ◌^◌, ◌<◌, ◌≤◌, ℕ, ⊤, List, [], ◌∷◌, length, IsTrue}
use Rattle.pb_schema.specs.declared.kind.Card.{Card}
use Rattle.pb_schema.specs.declared.kind.Card.TheVariants as cards
use Rattle.pb_schema.specs.declared.kind.FieldType.{FieldType}
use Rattle.pb_schema.specs.declared.schema.MessageType.{MessageType}
use Rattle.pb_schema.specs.declared.schema.Schema.{Schema}
use Rattle.pb_schema.specs.Kinds.{ValueType, Nested, value_type_of, is_number}

abbrev pub most_types : ℕ
most_types = 4096

abbrev pub most_fields : ℕ
most_fields = 512

abbrev pub most_oneofs : ℕ
most_oneofs = 2 ^ 22

-- the numbers ascend without repeats, and are from `least` to 2^29 - 1
abbrev pub NumbersAscend : ℕ → List FieldType → Type 0
NumbersAscend least [] = ⊤
NumbersAscend least (field ∷ fields) =
    (least ≤ field.number) × (field.number ≤ 2 ^ 29 - 1) × NumbersAscend (field.number + 1) fields

-- a message is of a type that there is
abbrev pub IsNamed : ℕ → ValueType → Type 0
IsNamed types (Nested type_no) = type_no < types
IsNamed types _ = ⊤

abbrev pub IsNoMessage : ValueType → Type 0
IsNoMessage (Nested type_no) = ⊥
IsNoMessage _ = ⊤

-- a message is told from none, a member's oneof is one of the type's, and numbers alone are packed
abbrev pub CardAllowed : ℕ → ValueType → Card → Type 0
CardAllowed oneofs type cards.Implicit = IsNoMessage type
CardAllowed oneofs type cards.Explicit = ⊤
CardAllowed oneofs type (cards.Member oneof) = oneof < oneofs
CardAllowed oneofs type (cards.Repeated packed) = IsTrue packed → IsTrue (is_number type)

abbrev pub FieldsAllowed : ℕ → ℕ → List FieldType → Type 0
FieldsAllowed types oneofs [] = ⊤
FieldsAllowed types oneofs (field ∷ fields) =
    IsNamed types (value_type_of field.kind) × CardAllowed oneofs (value_type_of field.kind) field.card
    × FieldsAllowed types oneofs fields

-- a message type of a schema with so many types
pub record TypeAllowed (types : ℕ) (type : MessageType) : Type 0 where
  pub size : length type.fields ≤ most_fields
  pub numbers : NumbersAscend 1 type.fields
  pub oneofs : type.oneofs ≤ most_oneofs
  pub fields : FieldsAllowed types type.oneofs type.fields

abbrev pub TypesAllowed : ℕ → List MessageType → Type 0
TypesAllowed types [] = ⊤
TypesAllowed types (type ∷ others) = TypeAllowed types type × TypesAllowed types others

pub record Lawful (schema : Schema) : Type 0 where
  pub size : length schema.types ≤ most_types
  pub types : TypesAllowed (length schema.types) schema.types
