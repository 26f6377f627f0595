-- The unknown bytes of a message, piece by piece.
use Rattle.std.specs.Prelude.{◌<◌, ℕ, List, [], ◌∷◌, ◌++◌, length}
use Rattle.arena_mem.specs.Places.{Places, Buffers}
use Rattle.pb_schema.specs.declared.schema.Schema.{Schema}
use Rattle.pb_schema.specs.Tree.{Shape, Message, fields_held, unknown_held}
use Rattle.dyn_message.specs.declared.msg_ref.MsgRef.{MsgRef}
use Rattle.dyn_message.specs.Feet.{Foot}
use Rattle.dyn_message.specs.Arrays.{most_elements}
use Rattle.dyn_message.specs.Stands.{Stands}

abbrev pub pieces_of : Shape → List (List ℕ)
pieces_of t = unknown_held t

-- with one piece more
abbrev pub with_piece : List ℕ → Shape → Shape
with_piece piece t = Message (fields_held t) (unknown_held t ++ piece ∷ [])

-- a message that stands has fewer than the most pieces
abbrev pub HasFewerPieces : Schema → Places → Buffers → MsgRef → Type 0
HasFewerPieces schema places buffers msg =
    (t : Shape) (feet : List Foot) → Stands schema places buffers msg t feet → length (pieces_of t) < most_elements

-- it has more than so many
abbrev pub HasMorePieces : Schema → Places → Buffers → MsgRef → ℕ → Type 0
HasMorePieces schema places buffers msg index =
    (t : Shape) (feet : List Foot) → Stands schema places buffers msg t feet → index < length (pieces_of t)
