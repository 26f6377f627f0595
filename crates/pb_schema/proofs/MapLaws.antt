-- Laws of the map that changes what is unknown in a tree: it keeps the depth, the units are those by the size of what it gives, and merging goes with it where joining does.
use Rattle.std.proofs.Common.{◌≡◌, ℕ, suc, ◌+◌, List, [], ◌∷◌, Bool, true, false, ◌||◌, ◌&&◌, refl, sym, ap, ◌∙◌}
use Rattle.std.specs.Prelude.{max}
use Rattle.pb_schema.specs.declared.kind.Card.{Card}
use Rattle.pb_schema.specs.declared.kind.Card.TheVariants as cards
use Rattle.pb_schema.specs.declared.kind.FieldType.{FieldType}
use Rattle.pb_schema.specs.declared.schema.Schema.{Schema}
use Rattle.pb_schema.specs.Cards.{is_member}
use Rattle.pb_schema.specs.Fits.{nested_fields}
use Rattle.pb_schema.specs.Tree.{ValueWith, Number, Bytes, Sub, HeldWith, Nothing, One, Many, TreeWith, Message, ValueListWith, NoValues, ValueAnd, HeldListWith, NoFields, FieldAnd, value_map, held_map, values_map, fields_map, tree_map}
use Rattle.pb_schema.specs.Depth.{value_levels, held_levels, values_levels, fields_levels, depth_of}
use Rattle.pb_schema.specs.Units.{value_units, held_units, values_units, fields_units, tree_units}
use Rattle.pb_schema.specs.Merge.{joined, is_set, sets_member, is_replaced, value_merged, held_merged, fields_merged, message_merged}

-- DEPTH

mutual
  pub value_depth : {U V : Type 0} (f : U → V) (value : ValueWith U) → value_levels (value_map f value) ≡ value_levels value
  value_depth f (Number p) = refl
  value_depth f (Bytes s) = refl
  value_depth f (Sub t) = ap suc (map_depth f t)

  pub held_depth : {U V : Type 0} (f : U → V) (held : HeldWith U) → held_levels (held_map f held) ≡ held_levels held
  held_depth f Nothing = refl
  held_depth f (One value) = value_depth f value
  held_depth f (Many values) = values_depth f values

  pub values_depth : {U V : Type 0} (f : U → V) (values : ValueListWith U) → values_levels (values_map f values) ≡ values_levels values
  values_depth f NoValues = refl
  values_depth f (ValueAnd value values) =
      ap (λ n. max n (values_levels (values_map f values))) (value_depth f value) ∙ ap (max (value_levels value)) (values_depth f values)

  pub fields_depth : {U V : Type 0} (f : U → V) (held : HeldListWith U) → fields_levels (fields_map f held) ≡ fields_levels held
  fields_depth f NoFields = refl
  fields_depth f (FieldAnd held rest) =
      ap (λ n. max n (fields_levels (fields_map f rest))) (held_depth f held) ∙ ap (max (held_levels held)) (fields_depth f rest)

  pub map_depth : {U V : Type 0} (f : U → V) (t : TreeWith U) → depth_of (tree_map f t) ≡ depth_of t
  map_depth f (Message held unknown) = fields_depth f held

-- UNITS

mutual
  pub value_size : {U V : Type 0} (f : U → V) (size : V → ℕ) (value : ValueWith U) → value_units size (value_map f value) ≡ value_units (λ u. size (f u)) value
  value_size f size (Number p) = refl
  value_size f size (Bytes s) = refl
  value_size f size (Sub t) = map_units f size t

  pub held_size : {U V : Type 0} (f : U → V) (size : V → ℕ) (held : HeldWith U) → held_units size (held_map f held) ≡ held_units (λ u. size (f u)) held
  held_size f size Nothing = refl
  held_size f size (One value) = value_size f size value
  held_size f size (Many values) = values_size f size values

  pub values_size : {U V : Type 0} (f : U → V) (size : V → ℕ) (values : ValueListWith U) → values_units size (values_map f values) ≡ values_units (λ u. size (f u)) values
  values_size f size NoValues = refl
  values_size f size (ValueAnd value values) =
      ap (λ n. n + values_units size (values_map f values)) (value_size f size value) ∙ ap (λ n. value_units (λ u. size (f u)) value + n) (values_size f size values)

  pub fields_size : {U V : Type 0} (f : U → V) (size : V → ℕ) (held : HeldListWith U) → fields_units size (fields_map f held) ≡ fields_units (λ u. size (f u)) held
  fields_size f size NoFields = refl
  fields_size f size (FieldAnd held rest) =
      ap (λ n. n + fields_units size (fields_map f rest)) (held_size f size held) ∙ ap (λ n. held_units (λ u. size (f u)) held + n) (fields_size f size rest)

  pub map_units : {U V : Type 0} (f : U → V) (size : V → ℕ) (t : TreeWith U) → tree_units size (tree_map f t) ≡ tree_units (λ u. size (f u)) t
  map_units f size (Message held unknown) = ap (λ n. 1 + size (f unknown) + n) (fields_size f size held)

-- MERGING

pub joined_map : {U V : Type 0} (f : U → V) (xs ys : ValueListWith U) → values_map f (joined xs ys) ≡ joined (values_map f xs) (values_map f ys)
joined_map f NoValues ys = refl
joined_map f (ValueAnd x xs) ys = ap (λ rest. ValueAnd (value_map f x) rest) (joined_map f xs ys)

pub set_map : {U V : Type 0} (f : U → V) (held : HeldWith U) → is_set (held_map f held) ≡ is_set held
set_map f Nothing = refl
set_map f (One value) = refl
set_map f (Many _) = refl

pub member_map : {U V : Type 0} (f : U → V) (oneof : ℕ) (fields : List FieldType) (held : HeldListWith U) → sets_member oneof fields (fields_map f held) ≡ sets_member oneof fields held
member_map f oneof [] held = refl
member_map f oneof (field ∷ fields) NoFields = refl
member_map f oneof (field ∷ fields) (FieldAnd held rest) =
    ap (λ b. (is_member oneof field.card && b) || sets_member oneof fields (fields_map f rest)) (set_map f held)
    ∙ ap (λ b. (is_member oneof field.card && is_set held) || b) (member_map f oneof fields rest)

replaced_map : {U V : Type 0} (f : U → V) (card : Card) (fields : List FieldType) (held : HeldListWith U) → is_replaced card fields (fields_map f held) ≡ is_replaced card fields held
replaced_map f cards.Implicit fields held = refl
replaced_map f cards.Explicit fields held = refl
replaced_map f (cards.Member oneof) fields held = member_map f oneof fields held
replaced_map f (cards.Repeated packed) fields held = refl

-- joining what f gives is what f gives of the joined
abbrev pub JoinsAs : {U V : Type 0} → (U → V) → (U → U → U) → (V → V → V) → Type 0
JoinsAs {U} f join onto = (x y : U) → f (join x y) ≡ onto (f x) (f y)

mutual
  value_merge_map : {U V : Type 0} (f : U → V) (join : U → U → U) (onto : V → V → V) → JoinsAs f join onto → (schema : Schema) (field : FieldType) (x y : ValueWith U)
      → value_map f (value_merged join schema field x y) ≡ value_merged onto schema field (value_map f x) (value_map f y)
  value_merge_map f join onto same schema field (Number p) y = refl
  value_merge_map f join onto same schema field (Bytes s) y = refl
  value_merge_map f join onto same schema field (Sub t) (Number p) = refl
  value_merge_map f join onto same schema field (Sub t) (Bytes s) = refl
  value_merge_map f join onto same schema field (Sub t) (Sub u) = ap Sub (merge_map f join onto same schema (nested_fields schema field) t u)

  held_merge_map : {U V : Type 0} (f : U → V) (join : U → U → U) (onto : V → V → V) → JoinsAs f join onto → (schema : Schema) (field : FieldType) (replaced : Bool) (x y : HeldWith U)
      → held_map f (held_merged join schema field replaced x y) ≡ held_merged onto schema field replaced (held_map f x) (held_map f y)
  held_merge_map f join onto same schema field replaced Nothing y = refl
  held_merge_map f join onto same schema field true (One x) Nothing = refl
  held_merge_map f join onto same schema field false (One x) Nothing = refl
  held_merge_map f join onto same schema field replaced (One x) (One y) = ap One (value_merge_map f join onto same schema field x y)
  held_merge_map f join onto same schema field replaced (One x) (Many ys) = refl
  held_merge_map f join onto same schema field replaced (Many xs) Nothing = refl
  held_merge_map f join onto same schema field replaced (Many xs) (One y) = refl
  held_merge_map f join onto same schema field replaced (Many xs) (Many ys) = ap Many (joined_map f xs ys)

  fields_merge_map : {U V : Type 0} (f : U → V) (join : U → U → U) (onto : V → V → V) → JoinsAs f join onto → (schema : Schema) (all : List FieldType) (whole : HeldListWith U) (fields : List FieldType) (xs ys : HeldListWith U)
      → fields_map f (fields_merged join schema all whole fields xs ys) ≡ fields_merged onto schema all (fields_map f whole) fields (fields_map f xs) (fields_map f ys)
  fields_merge_map f join onto same schema all whole fields NoFields ys = refl
  fields_merge_map f join onto same schema all whole [] (FieldAnd x xs) ys = refl
  fields_merge_map f join onto same schema all whole (field ∷ fields) (FieldAnd x xs) NoFields = refl
  fields_merge_map f join onto same schema all whole (field ∷ fields) (FieldAnd x xs) (FieldAnd y ys) =
      ap (λ h. FieldAnd h (fields_map f (fields_merged join schema all whole fields xs ys))) (held_merge_map f join onto same schema field (is_replaced field.card all whole) x y)
      ∙ (ap (λ b. FieldAnd (held_merged onto schema field b (held_map f x) (held_map f y)) (fields_map f (fields_merged join schema all whole fields xs ys))) (sym (replaced_map f field.card all whole))
      ∙ ap (λ rest. FieldAnd (held_merged onto schema field (is_replaced field.card all (fields_map f whole)) (held_map f x) (held_map f y)) rest) (fields_merge_map f join onto same schema all whole fields xs ys))

  pub merge_map : {U V : Type 0} (f : U → V) (join : U → U → U) (onto : V → V → V) → JoinsAs f join onto → (schema : Schema) (fields : List FieldType) (t u : TreeWith U)
      → tree_map f (message_merged join schema fields t u) ≡ message_merged onto schema fields (tree_map f t) (tree_map f u)
  merge_map f join onto same schema fields (Message xs unknown) (Message ys more) =
      ap (λ held. Message held (f (join unknown more))) (fields_merge_map f join onto same schema fields ys fields xs ys) ∙ ap (Message (fields_merged onto schema fields (fields_map f ys) fields (fields_map f xs) (fields_map f ys))) (same unknown more)
