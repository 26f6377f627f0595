-- Two messages of one type in one memory, as the tests have them.
use Rattle.std.specs.Prelude.{◌≡◌, ℕ, List}
use Rattle.arena_mem.specs.Places.{Places, Buffers}
use Rattle.pb_schema.specs.declared.schema.Schema.{Schema}
use Rattle.pb_schema.specs.Tree.{Shape}
use Rattle.dyn_message.specs.declared.msg_ref.MsgRef.{MsgRef}
use Rattle.dyn_message.specs.Feet.{Foot, Separate}
use Rattle.dyn_message.specs.Stands.{Stands}

-- each stands on feet of its own
pub record ArePair (schema : Schema) (places : Places) (buffers : Buffers) (one two : MsgRef) (type_no : ℕ) : Type 0 where
  pub one_type : one.type_no ≡ type_no
  pub two_type : two.type_no ≡ type_no
  pub one_shape : Shape
  pub one_feet : List Foot
  pub two_shape : Shape
  pub two_feet : List Foot
  pub one_stands : Stands schema places buffers one one_shape one_feet
  pub two_stands : Stands schema places buffers two two_shape two_feet
  pub separate : Separate two_feet one_feet
