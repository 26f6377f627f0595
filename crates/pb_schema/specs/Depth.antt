-- How deep messages nest in a tree: 0 without messages inside, else one more than the deepest of them (proto3 guide,
-- "Nested Types").
use Rattle.std.specs.Prelude.{ℕ, suc, max}
use Rattle.pb_schema.specs.Tree.{ValueWith, Number, Bytes, Sub, HeldWith, Nothing, One, Many, TreeWith, Message, ValueListWith, NoValues, ValueAnd, HeldListWith, NoFields, FieldAnd}

abbrev mutual
  -- how many levels a value adds: a message adds its own
  pub value_levels : {U : Type 0} → ValueWith U → ℕ
  value_levels (Number p) = 0
  value_levels (Bytes s) = 0
  value_levels (Sub t) = suc (depth_of t)

  pub held_levels : {U : Type 0} → HeldWith U → ℕ
  held_levels Nothing = 0
  held_levels (One value) = value_levels value
  held_levels (Many values) = values_levels values

  pub values_levels : {U : Type 0} → ValueListWith U → ℕ
  values_levels NoValues = 0
  values_levels (ValueAnd value values) = max (value_levels value) (values_levels values)

  pub fields_levels : {U : Type 0} → HeldListWith U → ℕ
  fields_levels NoFields = 0
  fields_levels (FieldAnd held rest) = max (held_levels held) (fields_levels rest)

  pub depth_of : {U : Type 0} → TreeWith U → ℕ
  depth_of (Message fields unknown) = fields_levels fields
