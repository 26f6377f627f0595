-- The shape of a message that is read from payloads, one after another: what its fields hold is gathered over the
-- records of all of them, and each payload with unknown bytes gives one piece.
use Rattle.std.specs.Prelude.{ℕ, zero, suc, List, [], ◌∷◌, flat_map}
use Rattle.pb_schema.specs.declared.kind.FieldType.{FieldType}
use Rattle.pb_schema.specs.declared.schema.Schema.{Schema}
use Rattle.pb_schema.specs.Fits.{fields_of}
use Rattle.pb_schema.specs.Broken.{most_levels}
use Rattle.pb_schema.specs.Records.{Record}
use Rattle.pb_schema.specs.Tree.{Shape}
use Rattle.pb_schema.specs.Empty.{empty_with}
use Rattle.pb_schema.specs.TreeOf.{gathered, records_in, unknown_of}

-- the records of all payloads, in order
abbrev pub records_of_all : ℕ → List (List ℕ) → List Record
records_of_all left payloads = flat_map (records_in left) payloads

-- one piece, or none where it would be empty
abbrev pub piece : List ℕ → List (List ℕ)
piece [] = []
piece (b ∷ s) = (b ∷ s) ∷ []

-- the unknown bytes of a payload as a piece
abbrev pub piece_of : Schema → ℕ → List FieldType → List ℕ → List (List ℕ)
piece_of schema left fields payload = piece (unknown_of schema fields (records_in left payload))

-- the pieces of all payloads
abbrev pub pieces_of : Schema → ℕ → List FieldType → List (List ℕ) → List (List ℕ)
pieces_of schema left fields payloads = flat_map (piece_of schema left fields) payloads

-- the shape of payloads, where so many levels are left below them
abbrev pub shape_left : Schema → ℕ → List FieldType → List (List ℕ) → Shape
shape_left schema zero fields payloads =
    gathered schema (λ type_no inner. empty_with [] (fields_of schema type_no)) fields
    (records_of_all 0 payloads)
    (pieces_of schema 0 fields payloads)
shape_left schema (suc left) fields payloads =
    gathered schema (λ type_no inner. shape_left schema left (fields_of schema type_no) inner) fields
    (records_of_all (suc left) payloads)
    (pieces_of schema (suc left) fields payloads)

-- the shape of payloads at the root
abbrev pub shape_of : Schema → ℕ → List (List ℕ) → Shape
shape_of schema type_no payloads = shape_left schema most_levels (fields_of schema type_no) payloads
