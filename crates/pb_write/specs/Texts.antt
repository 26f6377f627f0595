-- The text of what a message stands for: that of the shape's tree, whose unknown bytes are the pieces joined.
use Rattle.std.specs.Prelude.{◌<◌, ◌^◌, ℕ, List, length}
use Rattle.std.specs.List.{concat}
use Rattle.arena_mem.specs.Places.{Places, Buffers}
use Rattle.pb_schema.specs.declared.schema.Schema.{Schema}
use Rattle.pb_schema.specs.Text.{text_of}
use Rattle.pb_schema.specs.Tree.{Shape, tree_map}
use Rattle.dyn_message.specs.declared.msg_ref.MsgRef.{MsgRef}
use Rattle.dyn_message.specs.Feet.{Foot}
use Rattle.dyn_message.specs.Stands.{Stands}

abbrev pub shape_text : Schema → ℕ → Shape → List ℕ
shape_text schema type_no t = text_of schema type_no (tree_map concat t)

-- the message stands for a shape whose text has fewer than 2^63 bytes
abbrev pub IsWritable : Schema → Places → Buffers → MsgRef → Type 0
IsWritable schema places buffers msg =
    (t : Shape) × (feet : List Foot) × Stands schema places buffers msg t feet × (length (shape_text schema msg.type_no t) < 2 ^ 63)
