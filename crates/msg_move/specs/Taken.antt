-- A message that is taken out of a field of another.
use Rattle.std.specs.Prelude.{◌≡◌, ◌+◌, ◌≤◌, ℕ, List}
use Rattle.arena_mem.specs.Places.{Places, Buffers}
use Rattle.pb_schema.specs.declared.schema.Schema.{Schema}
use Rattle.pb_schema.specs.HeldAt.{held_at, with_held}
use Rattle.pb_schema.specs.Tree.{Nothing, One, Sub, Shape}
use Rattle.dyn_message.specs.declared.msg_ref.MsgRef.{MsgRef}
use Rattle.dyn_message.specs.Feet.{Foot, Separate, times}
use Rattle.dyn_message.specs.Links.{LinksTo}
use Rattle.dyn_message.specs.Stands.{Stands}

-- the message stands for a shape that holds a message at the field
pub record HoldsMessage (schema : Schema) (places : Places) (buffers : Buffers) (msg : MsgRef) (number : ℕ) : Type 0 where
  pub whole : Shape
  pub feet : List Foot
  pub stands : Stands schema places buffers msg whole feet
  pub tree : Shape
  pub held : held_at schema msg.type_no number whole ≡ One (Sub tree)

-- the child was taken out of the field, which is unset now, and stands for what the field held. Each foot of the two was
-- one of the message's feet, and the two share none
pub record IsTaken (schema : Schema) (places' : Places) (buffers' : Buffers) (msg : MsgRef) (t : Shape) (feet : List Foot) (number : ℕ) (child : MsgRef) : Type 0 where
  pub type : LinksTo schema msg.type_no number child.type_no
  pub tree : Shape
  pub held : held_at schema msg.type_no number t ≡ One (Sub tree)
  pub own : List Foot
  pub stands : Stands schema places' buffers' child tree own
  pub rest : List Foot
  pub parent : Stands schema places' buffers' msg (with_held schema msg.type_no number Nothing t) rest
  pub within : (foot : Foot) → times foot own + times foot rest ≤ times foot feet
  pub separate : Separate own rest
