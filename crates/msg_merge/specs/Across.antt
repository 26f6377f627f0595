-- What merging a message of one memory into one of another tells of both.
use Rattle.std.specs.Prelude.{◌+◌, ℕ, List}
use Rattle.arena_mem.specs.Places.{Places, Buffers}
use Rattle.msg_layout.specs.Layout.{layout_of}
use Rattle.pb_schema.specs.declared.kind.FieldType.{FieldType}
use Rattle.pb_schema.specs.declared.schema.Schema.{Schema}
use Rattle.pb_schema.specs.HeldAt.{held_at}
use Rattle.pb_schema.specs.MergeCost.{held_merge_cost}
use Rattle.pb_schema.specs.Meter.{Meter, placed_bytes}
use Rattle.pb_schema.specs.Tree.{Shape, fields_held}
use Rattle.pb_schema.specs.Units.{held_units, fields_units}
use Rattle.dyn_message.specs.declared.msg_ref.MsgRef.{MsgRef}
use Rattle.dyn_message.specs.Changes.{NowStands}
use Rattle.dyn_message.specs.Feet.{Foot, Separate}
use Rattle.dyn_message.specs.Stands.{Stands}
use Rattle.dyn_message.specs.Unknown.{pieces_of}
use Rattle.msg_merge.specs.Extents.{pieces_bytes}
use Rattle.msg_merge.specs.Merging.{held_into}

-- the bytes placed, where records have the sizes of their layouts
abbrev pub record_meter : Schema → Meter
record_meter schema = placed_bytes (λ type_no. (layout_of schema type_no).size)

-- for each shape that the two messages stand for, each in its own memory, and what the first one stands on
abbrev pub ForBoth : Schema → Places → Buffers → MsgRef → Places → Buffers → MsgRef → (Shape → List Foot → Shape → Type 0) → Type 0
ForBoth schema places buffers to places' buffers' from P =
    (t : Shape) (feet : List Foot) (u : Shape) (own : List Foot) → Stands schema places buffers to t feet
    → Stands schema places' buffers' from u own → P t feet u

-- a message with what the other one holds at a field merged into it
abbrev pub field_into : Schema → ℕ → FieldType → Shape → Shape → Shape
field_into schema type_no field t u = held_into schema type_no field (held_at schema type_no field.number u) t

-- what that counts by a meter
abbrev pub field_cost : Meter → Schema → ℕ → FieldType → Shape → Shape → ℕ
field_cost meter schema type_no field t u =
    held_merge_cost meter schema field (held_at schema type_no field.number t) (held_at schema type_no field.number u)

-- the units of what a message holds at a field, and of all that it holds
abbrev pub field_units : Schema → ℕ → FieldType → Shape → ℕ
field_units schema type_no field u = held_units pieces_bytes (held_at schema type_no field.number u)

abbrev pub inner_units : Shape → ℕ
inner_units u = pieces_bytes (pieces_of u) + fields_units pieces_bytes (fields_held u)

-- after a call the message stands for this shape, each foot being an old one or fresh, and shares none with these
pub record StandsBeside (schema : Schema) (places : Places) (buffers : Buffers) (places' : Places) (buffers' : Buffers) (msg : MsgRef) (t : Shape) (feet others : List Foot) : Type 0 where
  pub stands : NowStands schema places buffers places' buffers' msg t feet
  pub apart : Separate others stands.now
