-- What merging a message into another, and a fresh copy of one, count by a meter. Each element of the unknown bytes is
-- one piece.
use Rattle.std.specs.Prelude.{◌+◌, ℕ, List, [], ◌∷◌, length}
use Rattle.pb_schema.specs.declared.kind.FieldType.{FieldType}
use Rattle.pb_schema.specs.declared.schema.Schema.{Schema}
use Rattle.pb_schema.specs.Kinds.{ValueType, Nested, value_type_of, slot_of}
use Rattle.pb_schema.specs.Fits.{fields_of, nested_fields}
use Rattle.pb_schema.specs.Tree.{ValueWith, Number, Bytes, Sub, HeldWith, Nothing, One, Many, Shape, Message, ValueListWith, NoValues, ValueAnd, HeldListWith, FieldAnd, values_in_list}
use Rattle.pb_schema.specs.Empty.{empty_with}
use Rattle.pb_schema.specs.Meter.{Meter}
use Rattle.pb_schema.specs.ParseCost.{string_cost, pieces_cost}

-- the record of a message that is a value of this type
abbrev pub nested_size : Meter → ValueType → ℕ
nested_size meter (Nested type_no) = meter.size type_no
nested_size meter _ = 0

-- how many values are there
abbrev pub how_many : {U : Type 0} → HeldWith U → ℕ
how_many (Many values) = length (values_in_list values)
how_many _ = 0

abbrev mutual
  -- a value of the second message that comes to what the first holds: a message is merged into one that is there, all
  -- else is made anew
  pub value_merge_cost : Meter → Schema → FieldType → HeldWith (List (List ℕ)) → ValueWith (List (List ℕ)) → ℕ
  value_merge_cost meter schema field ours (Number p) = 0
  value_merge_cost meter schema field ours (Bytes s) = string_cost meter s
  value_merge_cost meter schema field (One (Sub t)) (Sub u) =
      message_merge_cost meter schema (nested_fields schema field) t u
  value_merge_cost meter schema field _ (Sub u) =
      nested_size meter (value_type_of field.kind)
      + message_merge_cost meter schema (nested_fields schema field) (empty_with [] (nested_fields schema field)) u

  -- each value of a list is made anew
  pub values_fresh_cost : Meter → Schema → FieldType → ValueListWith (List (List ℕ)) → ℕ
  values_fresh_cost meter schema field NoValues = 0
  values_fresh_cost meter schema field (ValueAnd value values) =
      value_merge_cost meter schema field Nothing value + values_fresh_cost meter schema field values

  pub held_merge_cost : Meter → Schema → FieldType → HeldWith (List (List ℕ)) → HeldWith (List (List ℕ)) → ℕ
  held_merge_cost meter schema field ours Nothing = 0
  held_merge_cost meter schema field ours (One value) = value_merge_cost meter schema field ours value
  held_merge_cost meter schema field ours (Many values) =
      meter.growth (slot_of (value_type_of field.kind)) (how_many ours) (how_many ours + length (values_in_list values))
      + values_fresh_cost meter schema field values

  pub fields_merge_cost : Meter → Schema → List FieldType → HeldListWith (List (List ℕ)) → HeldListWith (List (List ℕ))
      → ℕ
  fields_merge_cost meter schema (field ∷ fields) (FieldAnd was more) (FieldAnd held rest) =
      held_merge_cost meter schema field was held + fields_merge_cost meter schema fields more rest
  fields_merge_cost meter schema _ _ _ = 0

  pub message_merge_cost : Meter → Schema → List FieldType → Shape → Shape → ℕ
  message_merge_cost meter schema fields (Message ours before) (Message theirs pieces) =
      fields_merge_cost meter schema fields ours theirs + pieces_cost meter (length before) pieces

-- the second message merged into the first, both of this type
abbrev pub merge_cost : Meter → Schema → ℕ → Shape → Shape → ℕ
merge_cost meter schema type_no a b = message_merge_cost meter schema (fields_of schema type_no) a b

-- a fresh message of this type, and the other merged into it
abbrev pub fresh_cost : Meter → Schema → ℕ → Shape → ℕ
fresh_cost meter schema type_no b =
    meter.size type_no + merge_cost meter schema type_no (empty_with [] (fields_of schema type_no)) b
