-- What merging one message into another gives, field by field (encoding guide, "Last One Wins"; proto3 guide, "Oneof
-- Features").
use Rattle.std.specs.Prelude.{ℕ, Bool, true, false, ◌&&◌, ◌||◌, List, [], ◌∷◌, ◌++◌, if◌then◌else◌}
use Rattle.pb_schema.specs.declared.kind.Card.{Card}
use Rattle.pb_schema.specs.declared.kind.Card.TheVariants as cards
use Rattle.pb_schema.specs.declared.kind.FieldType.{FieldType}
use Rattle.pb_schema.specs.declared.schema.Schema.{Schema}
use Rattle.pb_schema.specs.Cards.{is_member}
use Rattle.pb_schema.specs.Fits.{fields_of, nested_fields}
use Rattle.pb_schema.specs.Tree.{ValueWith, Number, Bytes, Sub, HeldWith, Nothing, One, Many, TreeWith, Tree, Shape, Message, ValueListWith, NoValues, ValueAnd, HeldListWith, NoFields, FieldAnd}

abbrev pub joined : {U : Type 0} → ValueListWith U → ValueListWith U → ValueListWith U
joined NoValues others = others
joined (ValueAnd value values) others = ValueAnd value (joined values others)

abbrev pub is_set : {U : Type 0} → HeldWith U → Bool
is_set (One _) = true
is_set _ = false

-- a member of the oneof is set
abbrev pub sets_member : {U : Type 0} → ℕ → List FieldType → HeldListWith U → Bool
sets_member oneof (field ∷ fields) (FieldAnd held rest) =
    (is_member oneof field.card && is_set held) || sets_member oneof fields rest
sets_member oneof _ _ = false

-- another member of the field's oneof is set, so that what the field held goes
abbrev pub is_replaced : {U : Type 0} → Card → List FieldType → HeldListWith U → Bool
is_replaced (cards.Member oneof) all theirs = sets_member oneof all theirs
is_replaced _ all theirs = false

abbrev mutual
  -- of two values the second, or the merge of two messages, by how what is unknown to both is joined
  pub value_merged : {U : Type 0} → (U → U → U) → Schema → FieldType → ValueWith U → ValueWith U → ValueWith U
  value_merged join schema field (Number p) value = value
  value_merged join schema field (Bytes s) value = value
  value_merged join schema field (Sub t) (Number p) = Number p
  value_merged join schema field (Sub t) (Bytes s) = Bytes s
  value_merged join schema field (Sub t) (Sub u) = Sub (message_merged join schema (nested_fields schema field) t u)

  -- what a field holds, where `replaced` says that another member of its oneof comes in its place
  pub held_merged : {U : Type 0} → (U → U → U) → Schema → FieldType → Bool → HeldWith U → HeldWith U → HeldWith U
  held_merged join schema field replaced Nothing theirs = theirs
  held_merged join schema field replaced (One value) Nothing = if replaced then Nothing else One value
  held_merged join schema field replaced (One value) (One other) = One (value_merged join schema field value other)
  held_merged join schema field replaced (One _) (Many others) = Many others
  held_merged join schema field replaced (Many values) Nothing = Many values
  held_merged join schema field replaced (Many _) (One other) = One other
  held_merged join schema field replaced (Many values) (Many others) = Many (joined values others)

  -- each field by itself, where `all` are the fields of the type and `whole` is all that the second message holds
  pub fields_merged : {U : Type 0} → (U → U → U) → Schema → List FieldType → HeldListWith U → List FieldType
      → HeldListWith U → HeldListWith U → HeldListWith U
  fields_merged join schema all whole fields NoFields theirs = NoFields
  fields_merged join schema all whole [] (FieldAnd held rest) theirs = FieldAnd held rest
  fields_merged join schema all whole (field ∷ fields) (FieldAnd held rest) NoFields = FieldAnd held rest
  fields_merged join schema all whole (field ∷ fields) (FieldAnd held rest) (FieldAnd other others) =
      FieldAnd
      (held_merged join schema field (is_replaced field.card all whole) held other)
      (fields_merged join schema all whole fields rest others)

  pub message_merged : {U : Type 0} → (U → U → U) → Schema → List FieldType → TreeWith U → TreeWith U → TreeWith U
  message_merged join schema fields (Message ours unknown) (Message theirs more) =
      Message (fields_merged join schema fields theirs fields ours theirs) (join unknown more)

-- the second message merged into the first, both of this type
abbrev pub merge_of : Schema → ℕ → Tree → Tree → Tree
merge_of schema type_no a b = message_merged (λ x y. x ++ y) schema (fields_of schema type_no) a b

-- the same for shapes, whose pieces come one after another
abbrev pub shape_merge : Schema → ℕ → Shape → Shape → Shape
shape_merge schema type_no a b = message_merged (λ x y. x ++ y) schema (fields_of schema type_no) a b
