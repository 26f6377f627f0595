-- What a message holds: a value, some or none for each of its fields, in the order of the type, and what is unknown to
-- the type, the bytes of the records that fit no field (proto3 guide, "Specifying Field Types" and "Unknown Fields"). A
-- tree has them as the bytes that they are. A shape is a tree that has them in pieces, as they came.
use Rattle.std.specs.Prelude.{ℕ, List, [], ◌∷◌}

mutual
  -- a number as its bit pattern, the bytes of a text or bytes, or a message
  pub data ValueWith (U : Type 0) : Type 0 where
    Number : ℕ → ValueWith U
    Bytes : List ℕ → ValueWith U
    Sub : TreeWith U → ValueWith U

  -- what a field holds: nothing, one value, or a list of them
  pub data HeldWith (U : Type 0) : Type 0 where
    Nothing : HeldWith U
    One : ValueWith U → HeldWith U
    Many : ValueListWith U → HeldWith U

  -- a message: its fields, and what is unknown
  pub data TreeWith (U : Type 0) : Type 0 where
    Message : HeldListWith U → U → TreeWith U

  pub data ValueListWith (U : Type 0) : Type 0 where
    NoValues : ValueListWith U
    ValueAnd : ValueWith U → ValueListWith U → ValueListWith U

  pub data HeldListWith (U : Type 0) : Type 0 where
    NoFields : HeldListWith U
    FieldAnd : HeldWith U → HeldListWith U → HeldListWith U

-- unknown bytes
abbrev pub Value : Type 0
Value = ValueWith (List ℕ)

abbrev pub Held : Type 0
Held = HeldWith (List ℕ)

abbrev pub Tree : Type 0
Tree = TreeWith (List ℕ)

abbrev pub ValueList : Type 0
ValueList = ValueListWith (List ℕ)

abbrev pub HeldList : Type 0
HeldList = HeldListWith (List ℕ)

-- unknown bytes in pieces
abbrev pub Shape : Type 0
Shape = TreeWith (List (List ℕ))

-- lists of values and of fields as the plain data above, and back
abbrev pub value_list : {U : Type 0} → List (ValueWith U) → ValueListWith U
value_list [] = NoValues
value_list (value ∷ values) = ValueAnd value (value_list values)

abbrev pub held_list : {U : Type 0} → List (HeldWith U) → HeldListWith U
held_list [] = NoFields
held_list (held ∷ fields) = FieldAnd held (held_list fields)

abbrev pub values_in_list : {U : Type 0} → ValueListWith U → List (ValueWith U)
values_in_list NoValues = []
values_in_list (ValueAnd value values) = value ∷ values_in_list values

abbrev pub fields_in_list : {U : Type 0} → HeldListWith U → List (HeldWith U)
fields_in_list NoFields = []
fields_in_list (FieldAnd held rest) = held ∷ fields_in_list rest

-- the parts of a message
abbrev pub fields_held : {U : Type 0} → TreeWith U → HeldListWith U
fields_held (Message held _) = held

abbrev pub unknown_held : {U : Type 0} → TreeWith U → U
unknown_held (Message _ unknown) = unknown

abbrev mutual
  -- the same with what is unknown changed, at every level
  pub value_map : {U V : Type 0} → (U → V) → ValueWith U → ValueWith V
  value_map f (Number p) = Number p
  value_map f (Bytes s) = Bytes s
  value_map f (Sub t) = Sub (tree_map f t)

  pub held_map : {U V : Type 0} → (U → V) → HeldWith U → HeldWith V
  held_map f Nothing = Nothing
  held_map f (One value) = One (value_map f value)
  held_map f (Many values) = Many (values_map f values)

  pub values_map : {U V : Type 0} → (U → V) → ValueListWith U → ValueListWith V
  values_map f NoValues = NoValues
  values_map f (ValueAnd value values) = ValueAnd (value_map f value) (values_map f values)

  pub fields_map : {U V : Type 0} → (U → V) → HeldListWith U → HeldListWith V
  fields_map f NoFields = NoFields
  fields_map f (FieldAnd held rest) = FieldAnd (held_map f held) (fields_map f rest)

  pub tree_map : {U V : Type 0} → (U → V) → TreeWith U → TreeWith V
  tree_map f (Message fields unknown) = Message (fields_map f fields) (f unknown)
