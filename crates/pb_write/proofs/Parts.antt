-- Lists of fields, of values and of pieces, from an index on: how deep one of them is, and what its text adds.
use Rattle.std.proofs.Common.{◌≡◌, ◌≤◌, ℕ, zero, suc, List, [], ◌∷◌, ◌++◌, length, drop, Some, refl, ap, subst, arith}
use Rattle.std.specs.Prelude.{slice_get}
use Rattle.std.specs.List.{concat}
use Rattle.std.proofs.lemmas.Option.{same_Some}
use Rattle.arena_mem.specs.Places.{Places, Buffers}
use Rattle.pb_schema.specs.declared.kind.FieldType.{FieldType}
use Rattle.pb_schema.specs.declared.schema.Schema.{Schema}
use Rattle.pb_schema.specs.Depth.{value_levels, held_levels, values_levels, fields_levels}
use Rattle.pb_schema.specs.Text.{value_text, held_text, values_text, fields_text}
use Rattle.pb_schema.specs.Tree.{ValueWith, HeldWith, ValueListWith, NoValues, ValueAnd, HeldListWith, NoFields, FieldAnd, values_in_list, value_map, held_map, values_map, fields_map}
use Rattle.msg_layout.specs.declared.entry.Entry.{Entry}
use Rattle.dyn_message.specs.Feet.{Foot}
use Rattle.dyn_message.specs.Slots.{slot_in, told_in}
use Rattle.dyn_message.specs.Stands.{HeldStands, FieldsStand}
use Rattle.pb_write.specs.Puts.{fields_in}

-- without so many at the front
abbrev pub fields_drop : {U : Type 0} → ℕ → HeldListWith U → HeldListWith U
fields_drop zero held = held
fields_drop (suc i) NoFields = NoFields
fields_drop (suc i) (FieldAnd held rest) = fields_drop i rest

abbrev pub values_drop : {U : Type 0} → ℕ → ValueListWith U → ValueListWith U
values_drop zero values = values
values_drop (suc i) NoValues = NoValues
values_drop (suc i) (ValueAnd value rest) = values_drop i rest

-- FIELDS

-- the field at an index: what it holds stands, is no deeper than all, and its text goes before that of the later ones
pub record FieldAt (schema : Schema) (places : Places) (buffers : Buffers) (bytes : List ℕ) (entries : List Entry) (held : HeldListWith (List (List ℕ))) (i : ℕ) (entry : Entry) : Type 0 where
  pub one : HeldWith (List (List ℕ))
  pub own : List Foot
  pub stands : HeldStands schema places buffers entry.field (told_in entry bytes) (slot_in entry bytes) one own
  pub levels : held_levels one ≤ fields_levels held
  pub text : fields_text schema (drop i (fields_in entries)) (fields_map concat (fields_drop i held))
      ≡ held_text schema entry.field (held_map concat one)
      ++ fields_text schema (drop (suc i) (fields_in entries)) (fields_map concat (fields_drop (suc i) held))

module _ (schema : Schema) (places : Places) (buffers : Buffers) (bytes : List ℕ) where
  pub field_at_index : (entries : List Entry) (held : HeldListWith (List (List ℕ))) (feet : List Foot) (i : ℕ) (entry : Entry) → FieldsStand schema places buffers bytes entries held feet → slice_get entries i ≡ Some entry → FieldAt schema places buffers bytes entries held i entry
  field_at_index [] NoFields feet i entry stand found = absurd (none i found)
    where
      none : (k : ℕ) → slice_get {X = Entry} [] k ≡ Some entry → ⊥
      none zero is = cc
      none (suc k) is = cc
  field_at_index [] (FieldAnd held others) feet i entry stand found = absurd stand
  field_at_index (first ∷ entries) NoFields feet i entry stand found = absurd stand
  field_at_index (first ∷ entries) (FieldAnd held others) feet zero entry stand found =
      subst (FieldAt schema places buffers bytes (first ∷ entries) (FieldAnd held others) zero) (same_Some first entry found)
      (record { one = held; own = stand.own; stands = stand.first; levels = omega arith; text = refl })
  field_at_index (first ∷ entries) (FieldAnd held others) feet (suc i) entry stand found =
      let more = field_at_index entries others stand.rest i entry stand.second found in
      let deeper = more.levels in
      record { one = more.one; own = more.own; stands = more.stands; levels = omega (arith, deeper); text = more.text }

  -- behind the last field there is no text
  pub fields_end : (entries : List Entry) (held : HeldListWith (List (List ℕ))) (feet : List Foot) → FieldsStand schema places buffers bytes entries held feet → fields_text schema (drop (length entries) (fields_in entries)) (fields_map concat (fields_drop (length entries) held)) ≡ []
  fields_end [] NoFields feet stand = refl
  fields_end [] (FieldAnd held others) feet stand = absurd stand
  fields_end (first ∷ entries) NoFields feet stand = absurd stand
  fields_end (first ∷ entries) (FieldAnd held others) feet stand = fields_end entries others stand.rest stand.second

-- VALUES

pub value_levels_at : {U : Type 0} (values : ValueListWith U) (i : ℕ) (value : ValueWith U) → slice_get (values_in_list values) i ≡ Some value → value_levels value ≤ values_levels values
value_levels_at NoValues zero value found = absurd cc
value_levels_at NoValues (suc i) value found = absurd cc
value_levels_at (ValueAnd first rest) zero value found = let is = ap value_levels (same_Some first value found) in omega (arith, is)
value_levels_at (ValueAnd first rest) (suc i) value found = let more = value_levels_at rest i value found in omega (arith, more)

pub value_text_at : (schema : Schema) (field : FieldType) (front : List ℕ) (values : ValueListWith (List (List ℕ))) (i : ℕ) (value : ValueWith (List (List ℕ))) → slice_get (values_in_list values) i ≡ Some value
    → values_text schema field front (values_map concat (values_drop i values)) ≡ (front ++ value_text schema field (value_map concat value)) ++ values_text schema field front (values_map concat (values_drop (suc i) values))
value_text_at schema field front NoValues zero value found = absurd cc
value_text_at schema field front NoValues (suc i) value found = absurd cc
value_text_at schema field front (ValueAnd first rest) zero value found = ap (λ v. (front ++ value_text schema field (value_map concat v)) ++ values_text schema field front (values_map concat rest)) (same_Some first value found)
value_text_at schema field front (ValueAnd first rest) (suc i) value found = value_text_at schema field front rest i value found

pub values_end : {U : Type 0} (values : ValueListWith U) → values_drop (length (values_in_list values)) values ≡ NoValues
values_end NoValues = refl
values_end (ValueAnd first rest) = values_end rest

-- PIECES

pub piece_text_at : (pieces : List (List ℕ)) (i : ℕ) (piece : List ℕ) → slice_get pieces i ≡ Some piece → concat (drop i pieces) ≡ piece ++ concat (drop (suc i) pieces)
piece_text_at [] zero piece found = absurd cc
piece_text_at [] (suc i) piece found = absurd cc
piece_text_at (first ∷ rest) zero piece found = ap (λ p. p ++ concat rest) (same_Some first piece found)
piece_text_at (first ∷ rest) (suc i) piece found = piece_text_at rest i piece found

pub pieces_end : (pieces : List (List ℕ)) → concat (drop (length pieces) pieces) ≡ []
pieces_end [] = refl
pieces_end (first ∷ rest) = pieces_end rest
