-- Merging as a walk does it: field by field, a list element by element, and then piece by piece.
use Rattle.std.specs.Prelude.{◌+◌, length, ℕ, ⊤, false, List, [], ◌∷◌, ◌++◌, IsFalse}
use Rattle.pb_schema.specs.declared.kind.Card.{Card}
use Rattle.pb_schema.specs.declared.kind.Card.TheVariants as cards
use Rattle.pb_schema.specs.declared.kind.FieldType.{FieldType}
use Rattle.pb_schema.specs.declared.schema.Schema.{Schema}
use Rattle.pb_schema.specs.Fits.{fields_of}
use Rattle.pb_schema.specs.HeldAt.{held_at, with_held}
use Rattle.pb_schema.specs.Merge.{held_merged, sets_member}
use Rattle.pb_schema.specs.Tree.{Bytes, HeldWith, Nothing, One, Many, Shape, Message, ValueListWith, NoValues, ValueAnd, HeldListWith, NoFields, FieldAnd}
use Rattle.dyn_message.specs.Lists.{with_appended}
use Rattle.pb_schema.specs.Meter.{Meter}
use Rattle.pb_schema.specs.MergeCost.{held_merge_cost}
use Rattle.pb_schema.specs.ParseCost.{pieces_cost}
use Rattle.dyn_message.specs.Unknown.{pieces_of, with_piece}

-- the values of a list, each behind those that are there
abbrev pub values_into : Schema → ℕ → ℕ → ValueListWith (List (List ℕ)) → Shape → Shape
values_into schema type_no number NoValues t = t
values_into schema type_no number (ValueAnd value values) t =
    values_into schema type_no number values (with_appended schema type_no number value t)

-- what a field of the other message holds
abbrev pub held_into : Schema → ℕ → FieldType → HeldWith (List (List ℕ)) → Shape → Shape
held_into schema type_no field Nothing t = t
held_into schema type_no field (One value) t =
    with_held schema type_no field.number
    (held_merged (λ x y. x ++ y) schema field false (held_at schema type_no field.number t) (One value))
    t
held_into schema type_no field (Many values) t = values_into schema type_no field.number values t

abbrev pub fields_into : Schema → ℕ → List FieldType → HeldListWith (List (List ℕ)) → Shape → Shape
fields_into schema type_no (field ∷ fields) (FieldAnd held rest) t =
    fields_into schema type_no fields rest (held_into schema type_no field held t)
fields_into schema type_no _ _ t = t

-- the pieces of unknown bytes, each behind those that are there
abbrev pub pieces_into : List (List ℕ) → Shape → Shape
pieces_into [] t = t
pieces_into (piece ∷ pieces) t = pieces_into pieces (with_piece piece t)

abbrev pub message_into : Schema → ℕ → Shape → Shape → Shape
message_into schema type_no t (Message theirs pieces) =
    pieces_into pieces (fields_into schema type_no (fields_of schema type_no) theirs t)

-- what that counts by a meter, step by step
abbrev pub fields_walk_cost : Meter → Schema → ℕ → List FieldType → HeldListWith (List (List ℕ)) → Shape → ℕ
fields_walk_cost meter schema type_no (field ∷ fields) (FieldAnd held rest) t =
    held_merge_cost meter schema field (held_at schema type_no field.number t) held
    + fields_walk_cost meter schema type_no fields rest (held_into schema type_no field held t)
fields_walk_cost meter schema type_no _ _ t = 0

abbrev pub walk_cost : Meter → Schema → ℕ → Shape → Shape → ℕ
walk_cost meter schema type_no t (Message theirs pieces) =
    fields_walk_cost meter schema type_no (fields_of schema type_no) theirs t
    + pieces_cost meter (length (pieces_of t)) pieces

-- what the texts or bytes of a list count, by what each counts by its length
abbrev pub strings_cost : (ℕ → ℕ) → ValueListWith (List (List ℕ)) → ℕ
strings_cost bytes NoValues = 0
strings_cost bytes (ValueAnd (Bytes s) values) = bytes (length s) + strings_cost bytes values
strings_cost bytes (ValueAnd _ values) = strings_cost bytes values

-- the same of pieces
abbrev pub pieces_count : (ℕ → ℕ) → List (List ℕ) → ℕ
pieces_count bytes [] = 0
pieces_count bytes (piece ∷ pieces) = bytes (length piece) + pieces_count bytes pieces

-- WHAT IT ASKS OF THE MESSAGES

-- a list holds many values, and any other field nothing or one
abbrev pub IsHeldAs : Card → HeldWith (List (List ℕ)) → Type 0
IsHeldAs (cards.Repeated packed) (Many _) = ⊤
IsHeldAs (cards.Repeated packed) _ = ⊥
IsHeldAs _ (Many _) = ⊥
IsHeldAs _ _ = ⊤

-- where a member of a oneof is set, none of the later fields is a member of it that is set
abbrev pub IsSetAlone : Card → HeldWith (List (List ℕ)) → List FieldType → HeldListWith (List (List ℕ)) → Type 0
IsSetAlone (cards.Member oneof) (One value) fields rest = IsFalse (sets_member oneof fields rest)
IsSetAlone _ _ fields rest = ⊤

abbrev pub AreHeldAs : List FieldType → HeldListWith (List (List ℕ)) → Type 0
AreHeldAs [] NoFields = ⊤
AreHeldAs [] (FieldAnd held rest) = ⊥
AreHeldAs (field ∷ fields) NoFields = ⊥
AreHeldAs (field ∷ fields) (FieldAnd held rest) =
    IsHeldAs field.card held × IsSetAlone field.card held fields rest × AreHeldAs fields rest

-- one entry for each field, as its card says, and of the members of a oneof one is set at most
abbrev pub HoldsByCards : Schema → ℕ → Shape → Type 0
HoldsByCards schema type_no (Message held pieces) = AreHeldAs (fields_of schema type_no) held
