-- What calls do to a memory, and to the message that they change.
use Rattle.std.specs.Prelude.{◌≡◌, ◌+◌, ◌≤◌, ℕ, List, [], ◌∷◌, IsSome, None}
use Rattle.std.specs.FinMap as map
use Rattle.arena_mem.specs.Places.{Places, Buffers}
use Rattle.pb_schema.specs.declared.schema.Schema.{Schema}
use Rattle.pb_schema.specs.Empty.{empty_with}
use Rattle.pb_schema.specs.Fits.{fields_of}
use Rattle.pb_schema.specs.Tree.{Shape}
use Rattle.dyn_message.specs.declared.msg_ref.MsgRef.{MsgRef}
use Rattle.dyn_message.specs.Feet.{Foot, InPlace, foot_bytes, KeepsOthers, OldOrFresh}
use Rattle.dyn_message.specs.Stands.{Stands}

-- from the old state to the new one the memory grew by so many places and buffers at most, what was live or kept still
-- is, and all but these feet keeps its bytes; the first four arguments are the memory's own members
pub record Changes {S K : Type 0} (key_of : S → K) (places_of : S → Places) (buffers_of : S → Buffers) (blocks_of : S → ℕ → ℕ) (most_places most_buffers : ℕ) (feet : List Foot) (old new : S) : Type 0 where
  pub key : key_of new ≡ key_of old
  pub others : KeepsOthers (places_of old) (buffers_of old) (places_of new) (buffers_of new) feet
  pub still_there : (foot : Foot) → IsSome (foot_bytes (places_of old) (buffers_of old) foot) → IsSome (foot_bytes (places_of new) (buffers_of new) foot)
  pub no_fewer_places : map.len (places_of old) ≤ map.len (places_of new)
  pub few_places : map.len (places_of new) ≤ map.len (places_of old) + most_places
  pub no_fewer_buffers : map.len (buffers_of old) ≤ map.len (buffers_of new)
  pub few_buffers : map.len (buffers_of new) ≤ map.len (buffers_of old) + most_buffers
  pub no_fewer_blocks : (region : ℕ) → blocks_of old region ≤ blocks_of new region
  pub few_blocks : (region : ℕ) → blocks_of new region ≤ blocks_of old region + most_places

-- after a call the message stands for this shape; each foot is one of those from before, or was neither live nor kept
pub record NowStands (schema : Schema) (places : Places) (buffers : Buffers) (places' : Places) (buffers' : Buffers) (msg : MsgRef) (t : Shape) (feet : List Foot) : Type 0 where
  pub now : List Foot
  pub stands : Stands schema places' buffers' msg t now
  pub from : OldOrFresh places buffers feet now

-- a message that wasn't live, on its record alone, with nothing set
pub record IsFreshEmpty (schema : Schema) (places : Places) (places' : Places) (buffers' : Buffers) (type_no : ℕ) (msg : MsgRef) : Type 0 where
  pub type : msg.type_no ≡ type_no
  pub fresh : map.get places msg.place ≡ None
  pub stands : Stands schema places' buffers' msg (empty_with [] (fields_of schema type_no)) (InPlace msg.place ∷ [])
