-- A message that was copied out of a memory, and isn't there any more.
use Rattle.std.specs.Prelude.{◌≡◌, ◌+◌, ◌*◌, ◌≤◌, ℕ, List, []}
use Rattle.std.specs.FinMap as map
use Rattle.arena_mem.specs.Places.{Places, Buffers, used}
use Rattle.serial_arena.specs.Key.{key_of}
use Rattle.serial_arena.specs.Serial.{SerialState, places_of, buffers_of, blocks_of}
use Rattle.pb_schema.specs.declared.schema.Schema.{Schema}
use Rattle.pb_schema.specs.HeldAt.{held_at, with_held}
use Rattle.pb_schema.specs.MergeCost.{fresh_cost}
use Rattle.pb_schema.specs.Meter.{cleanups}
use Rattle.pb_schema.specs.Tree.{Nothing, One, Sub, Shape}
use Rattle.dyn_message.specs.declared.msg_ref.MsgRef.{MsgRef}
use Rattle.dyn_message.specs.Changes.{Changes, NowStands}
use Rattle.dyn_message.specs.Feet.{Foot, times}
use Rattle.dyn_message.specs.Links.{LinksTo}
use Rattle.dyn_message.specs.Stands.{Stands}
use Rattle.msg_merge.specs.Across.{record_meter}
use Rattle.msg_merge.specs.Extents.{shape_units}

-- the field is unset now, and the message stands on feet that it had; the copy stands for what the field held, on places
-- and buffers that the region got for it, as many bytes and buffers as a fresh message costs
pub record IsReleased (schema : Schema) (places' : Places) (buffers' : Buffers) (msg : MsgRef) (t : Shape) (feet : List Foot) (number : ℕ) (region : SerialState) (copy : MsgRef) (region' : SerialState) : Type 0 where
  pub type : LinksTo schema msg.type_no number copy.type_no
  pub tree : Shape
  pub held : held_at schema msg.type_no number t ≡ One (Sub tree)
  pub stands : NowStands schema (places_of region) (buffers_of region) (places_of region') (buffers_of region') copy tree []
  pub space : used (places_of region') ≡ used (places_of region) + fresh_cost (record_meter schema) schema copy.type_no tree
  pub kept : map.len (buffers_of region') ≡ map.len (buffers_of region) + fresh_cost cleanups schema copy.type_no tree
  pub rest : List Foot
  pub parent : Stands schema places' buffers' msg (with_held schema msg.type_no number Nothing t) rest
  pub within : (foot : Foot) → times foot rest ≤ times foot feet

-- from the old state of a region to the new one it kept all that it had, and got at most four places and four buffers for
-- each unit of what the message holds at the field
abbrev pub GotUnits : Schema → MsgRef → ℕ → Shape → SerialState → SerialState → Type 0
GotUnits schema msg number t region region' =
    (tree : Shape) → held_at schema msg.type_no number t ≡ One (Sub tree)
    → Changes key_of places_of buffers_of blocks_of (4 * shape_units tree) (4 * shape_units tree) [] region region'
