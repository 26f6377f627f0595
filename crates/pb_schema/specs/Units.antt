-- How large a tree is, in units: a message has 1, its unknown bytes and the units of its values; a number has 1, text
-- and bytes have 1 and their length. The units are this project's own.
use Rattle.std.specs.Prelude.{◌+◌, ℕ, length}
use Rattle.pb_schema.specs.Tree.{ValueWith, Number, Bytes, Sub, HeldWith, Nothing, One, Many, TreeWith, Tree, Message, ValueListWith, NoValues, ValueAnd, HeldListWith, NoFields, FieldAnd}

abbrev mutual
  -- by the size of what is unknown
  pub value_units : {U : Type 0} → (U → ℕ) → ValueWith U → ℕ
  value_units size (Number p) = 1
  value_units size (Bytes s) = 1 + length s
  value_units size (Sub t) = tree_units size t

  pub held_units : {U : Type 0} → (U → ℕ) → HeldWith U → ℕ
  held_units size Nothing = 0
  held_units size (One value) = value_units size value
  held_units size (Many values) = values_units size values

  pub values_units : {U : Type 0} → (U → ℕ) → ValueListWith U → ℕ
  values_units size NoValues = 0
  values_units size (ValueAnd value values) = value_units size value + values_units size values

  pub fields_units : {U : Type 0} → (U → ℕ) → HeldListWith U → ℕ
  fields_units size NoFields = 0
  fields_units size (FieldAnd held rest) = held_units size held + fields_units size rest

  pub tree_units : {U : Type 0} → (U → ℕ) → TreeWith U → ℕ
  tree_units size (Message fields unknown) = 1 + size unknown + fields_units size fields

abbrev pub units_of : Tree → ℕ
units_of t = tree_units length t
