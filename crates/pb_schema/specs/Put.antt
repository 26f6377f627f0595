-- A message that is there and takes records in, one after another: what code does that reads bytes, where TreeOf
-- gathers over all records (encoding guide, "Last One Wins" and "Packed Repeated Fields"; proto3 guide, "Oneof
-- Features" and "Unknown Fields").
use Rattle.std.specs.Prelude.{ℕ, zero, suc, true, false, List, [], ◌∷◌, ◌++◌}
use Rattle.std.specs.List.{fold}
use Rattle.pb_schema.specs.declared.kind.Card.{Card}
use Rattle.pb_schema.specs.declared.kind.Card.TheVariants as cards
use Rattle.pb_schema.specs.declared.kind.FieldType.{FieldType}
use Rattle.pb_schema.specs.declared.schema.Schema.{Schema}
use Rattle.pb_schema.specs.Kinds.{ValueType, Scalar, Nested, value_type_of}
use Rattle.pb_schema.specs.Fits.{takes, fields_of}
use Rattle.pb_schema.specs.Broken.{most_levels}
use Rattle.pb_schema.specs.Records.{Record}
use Rattle.pb_schema.specs.Tree.{HeldWith, Nothing, One, Many, Number, Bytes, Sub, TreeWith, Tree, Shape, Message, ValueListWith, NoValues, HeldListWith, FieldAnd, value_list}
use Rattle.pb_schema.specs.Empty.{empty_with}
use Rattle.pb_schema.specs.Merge.{joined}
use Rattle.pb_schema.specs.TreeOf.{Nest, pattern_in, values_in, unless_default, is_of_oneof, unknown_of, records_in}
use Rattle.pb_schema.specs.ShapeOf.{piece}

-- MESSAGES INSIDE

-- how a payload is read into a message of a type that is there
abbrev pub Onto : Type 0 → Type 0
Onto U = ℕ → TreeWith U → List ℕ → TreeWith U

-- payloads are read one after another, the first into the empty message, where this is what has nothing unknown
abbrev pub nest_onto : {U : Type 0} → Schema → U → Onto U → Nest U
nest_onto schema none onto type_no payloads =
    fold (onto type_no) (empty_with none (fields_of schema type_no)) payloads

-- the message that a field holds, or else this one
abbrev pub message_or : {U : Type 0} → TreeWith U → HeldWith U → TreeWith U
message_or other (One (Sub t)) = t
message_or other _ = other

-- ONE FIELD

-- the one value of this type, where a field holds this and takes a record: a message takes the payload in, and any other
-- value comes in place of what is there
abbrev pub single_put : {U : Type 0} → Schema → U → Onto U → ValueType → HeldWith U → Record → HeldWith U
single_put schema none onto (Scalar coding) held r = One (Number (pattern_in coding r.payload))
single_put schema none onto (Nested type_no) held r =
    One (Sub (onto type_no (message_or (empty_with none (fields_of schema type_no)) held) r.payload))
single_put schema none onto _ held r = One (Bytes r.payload)

-- the values of a list
abbrev pub values_held : {U : Type 0} → HeldWith U → ValueListWith U
values_held (Many values) = values
values_held _ = NoValues

-- a field of this card that takes the record: a list grows
abbrev pub taken_put : {U : Type 0} → Schema → U → Onto U → FieldType → HeldWith U → Record → Card → HeldWith U
taken_put schema none onto field held r cards.Implicit =
    unless_default (single_put schema none onto (value_type_of field.kind) held r)
taken_put schema none onto field held r (cards.Repeated packed) =
    Many (joined (values_held held) (value_list (values_in schema (nest_onto schema none onto) field r)))
taken_put schema none onto field held r _ = single_put schema none onto (value_type_of field.kind) held r

-- a field of this card that doesn't take the record: another member of its oneof clears it
abbrev pub other_put : {U : Type 0} → Schema → List FieldType → HeldWith U → Record → Card → HeldWith U
other_put schema fields held r (cards.Member oneof) =
    elim (is_of_oneof schema fields oneof r) [ true ↦ Nothing | false ↦ held ]
other_put schema fields held r _ = held

-- one field of a message with these fields
abbrev pub held_put : {U : Type 0} → Schema → U → Onto U → List FieldType → Record → FieldType → HeldWith U → HeldWith U
held_put schema none onto fields r field held = elim (takes schema field r) [
  | true ↦ taken_put schema none onto field held r field.card
  | false ↦ other_put schema fields held r field.card
]

-- MESSAGES

-- each field by itself, where `all` are the fields of the type
abbrev pub fields_put : {U : Type 0} → Schema → U → Onto U → List FieldType → Record → List FieldType → HeldListWith U
    → HeldListWith U
fields_put schema none onto all r (field ∷ fields) (FieldAnd held rest) =
    FieldAnd (held_put schema none onto all r field held) (fields_put schema none onto all r fields rest)
fields_put schema none onto all r _ others = others

-- one record put into what the fields of a message hold
abbrev pub put : {U : Type 0} → Schema → U → Onto U → List FieldType → HeldListWith U → Record → HeldListWith U
put schema none onto fields held r = fields_put schema none onto fields r fields held

-- a payload read into a message that is there, where so many levels are left below it: its records are put one after
-- another, and its unknown bytes come behind what is unknown
abbrev pub read_into : {U : Type 0} → (U → List ℕ → U) → U → Schema → ℕ → List FieldType → TreeWith U → List ℕ
    → TreeWith U
read_into behind none schema zero fields (Message held unknown) s =
    Message
    (fold (put schema none (λ type_no t inner. t) fields) held (records_in 0 s))
    (behind unknown (unknown_of schema fields (records_in 0 s)))
read_into behind none schema (suc left) fields (Message held unknown) s =
    Message
    (fold
    (put schema none (λ type_no t inner. read_into behind none schema left (fields_of schema type_no) t inner) fields)
    held
    (records_in (suc left) s))
    (behind unknown (unknown_of schema fields (records_in (suc left) s)))

-- a payload read into a message of a type at the root
abbrev pub tree_read : Schema → ℕ → Tree → List ℕ → Tree
tree_read schema type_no t s = read_into (λ x y. x ++ y) [] schema most_levels (fields_of schema type_no) t s

-- the same for shapes, to whose pieces it adds one, or none where it would be empty
abbrev pub shape_read : Schema → ℕ → Shape → List ℕ → Shape
shape_read schema type_no t s =
    read_into (λ pieces y. pieces ++ piece y) [] schema most_levels (fields_of schema type_no) t s
