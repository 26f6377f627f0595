-- How large messages are, in units, and how deep messages nest in them.
use Rattle.std.specs.Prelude.{◌≡◌, ◌-◌, ◌^◌, ◌<◌, ℕ, List, length, min}
use Rattle.std.specs.List.{concat}
use Rattle.arena_mem.specs.Places.{Places, Buffers}
use Rattle.pb_schema.specs.declared.schema.Schema.{Schema}
use Rattle.pb_schema.specs.Depth.{depth_of}
use Rattle.pb_schema.specs.Tree.{Shape, tree_map}
use Rattle.pb_schema.specs.Units.{units_of}
use Rattle.dyn_message.specs.declared.msg_ref.MsgRef.{MsgRef}
use Rattle.dyn_message.specs.Feet.{Foot}
use Rattle.dyn_message.specs.Stands.{Stands}
use Rattle.msg_merge.specs.declared.extent.Extent.{Extent}

-- the units of the tree of a shape, whose unknown bytes are the pieces joined
abbrev pub shape_units : Shape → ℕ
shape_units t = units_of (tree_map concat t)

-- how many unknown bytes some pieces are
abbrev pub pieces_bytes : List (List ℕ) → ℕ
pieces_bytes pieces = length (concat pieces)

-- the message stands for a shape of fewer than 2^63 units
abbrev pub IsCountable : Schema → Places → Buffers → MsgRef → Type 0
IsCountable schema places buffers msg =
    (t : Shape) × (feet : List Foot) × Stands schema places buffers msg t feet × (shape_units t < 2 ^ 63)

-- the message stands for a shape in which messages nest fewer than 2^32 levels deep
abbrev pub IsBounded : Schema → Places → Buffers → MsgRef → Type 0
IsBounded schema places buffers msg =
    (t : Shape) × (feet : List Foot) × Stands schema places buffers msg t feet × (depth_of t < 2 ^ 32)

-- so many units and levels, where both stand still at the end of their types
pub record IsExtent (size depth : ℕ) (extent : Extent) : Type 0 where
  pub units : extent.units ≡ min size (2 ^ 64 - 1)
  pub levels : extent.levels ≡ min depth (2 ^ 32 - 1)
