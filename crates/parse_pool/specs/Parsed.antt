-- What a worker parsed in a phase, and what became of its part of the arena.
use Rattle.std.specs.Prelude.{◌≡◌, ◌⊎◌, ◌+◌, ◌<◌, ◌≤◌, ℕ, List, [], length, None, Some, IsSome, IfSome, IfOk, IfErr, Result}
use Rattle.std.specs.List.{concat}
use mathlib.Core.Option.{some}
use lib.ListN.{get_elem?}
use Rattle.life_ids.specs.Cache.{CacheState}
use Rattle.serial_arena.specs.Key.{key_of}
use Rattle.serial_arena.specs.Serial.{SerialState, places_of, buffers_of, blocks_of}
use Rattle.pb_schema.specs.Tree.{Shape, tree_map}
use Rattle.pb_schema.specs.TreeOf.{tree_of}
use Rattle.pb_schema.specs.Meter.{Meter}
use Rattle.dyn_message.specs.declared.msg_ref.MsgRef.{MsgRef}
use Rattle.dyn_message.specs.Feet.{Foot, Separate}
use Rattle.dyn_message.specs.Stands.{Stands}
use Rattle.dyn_message.specs.Changes.{Changes, NowStands}
use Rattle.pb_parse.specs.declared.stop.ParseFault.{ParseFault}
use Rattle.pb_parse.specs.Costs.{Costs}
use Rattle.pb_parse.specs.Parsing.{IsParseFault}
use Rattle.pb_parse.specs.Whole.{shape_of_payload}
use Rattle.ts_arena.specs.declared.pass.Pass.{Pass}
use Rattle.ts_arena.specs.Passes.{caller_of, slot_of, steps_of, HasPart, IsPassOf, FitsPass}
use Rattle.parse_pool.specs.declared.pool_end.FrameResult.{FrameResult}
use Rattle.parse_pool.specs.Phases.{PhaseState, payload_at, fault_at, end_of, frame_of, most_in, cost_at, cost_in}

-- what the payload of a frame is parsed as
abbrev pub shape_at : PhaseState → ℕ → Shape
shape_at ph frame = shape_of_payload ph.schema ph.root (payload_at ph frame)

-- the message of a frame stands in a part for the shape of the frame's payload, on places and buffers that the part
-- hadn't before; joined, the shape is the tree that the payload decodes to
pub record IsParsed (ph : PhaseState) (before after : SerialState) (frame : ℕ) (msg : MsgRef) : Type 0 where
  pub type : msg.type_no ≡ ph.root
  pub stands : NowStands ph.schema (places_of before) (buffers_of before) (places_of after) (buffers_of after) msg (shape_at ph frame) []
  pub tree : tree_of ph.schema ph.root (payload_at ph frame) ≡ Some (tree_map concat (shape_at ph frame))

-- in this part two messages share no place and no buffer
abbrev pub AreSeparate : PhaseState → SerialState → MsgRef → MsgRef → Type 0
AreSeparate ph part one other =
    (t u : Shape) (feet others : List Foot)
    → Stands ph.schema (places_of part) (buffers_of part) one t feet
    → Stands ph.schema (places_of part) (buffers_of part) other u others
    → Separate feet others

-- a part of the arena was made to hold what this counts
abbrev pub PartCosts : PhaseState → SerialState → SerialState → (Meter → ℕ) → Type 0
PartCosts ph before after cost = Costs ph.schema (places_of before) (buffers_of before) (places_of after) (buffers_of after) cost

-- a part of the arena, before and after so many turns of a worker, and the results of these turns
pub record HasParsed (ph : PhaseState) (worker turns : ℕ) (before after : SerialState) (results : List FrameResult) : Type 0 where
  -- what was there keeps its bytes, and each turn adds 4 places and 4 buffers for each byte of its payload and 4 more at most
  pub changes : Changes key_of places_of buffers_of blocks_of (most_in ph worker turns) (most_in ph worker turns) [] before after
  pub messages : (turn : ℕ) (r : FrameResult) → get_elem? results turn ≡ some r → IsParsed ph before after r.frame r.msg
  pub apart : (one other : ℕ) (r q : FrameResult) → one < other → get_elem? results one ≡ some r → get_elem? results other ≡ some q → AreSeparate ph after r.msg q.msg
  -- where each turn went well, what was placed and kept is exactly what their payloads count
  pub costs : length results ≡ turns → PartCosts ph before after (λ meter. cost_in meter ph worker turns)

-- a worker's pass, cache and results, with what its pass and cache were when the phase began: so many turns were begun,
-- and all but the last one at least went well
pub record HasTurned (ph : PhaseState) (worker turns : ℕ) (before : Pass) (was : CacheState) (now : Pass) (cache : CacheState) (results : List FrameResult) : Type 0 where
  pub made : IsPassOf ph.shared now
  pub caller : caller_of now ≡ caller_of before
  pub fits : FitsPass cache now
  -- no turn was begun, or the first one entered with the old cache, and walked the list at most once
  pub cached : ((cache ≡ was) × (steps_of now ≡ steps_of before)) ⊎ ((cache.life ≡ ph.shared.life) × (steps_of before ≤ steps_of now) × (steps_of now ≤ steps_of before + 193))
  pub slot : IfSome (slot_of before) (λ slot. slot_of now ≡ Some slot)
  pub joined : 1 ≤ length results → IsSome (slot_of now)
  pub begun : (length results ≤ turns) × (turns ≤ length results + 1)
  pub there : (turn : ℕ) → turn < turns → frame_of ph worker turn < end_of ph
  pub frames : (turn : ℕ) (r : FrameResult) → get_elem? results turn ≡ some r → r.frame ≡ frame_of ph worker turn
  pub sound : (turn : ℕ) → turn < length results → fault_at ph (frame_of ph worker turn) ≡ None
  pub parsed : (part : SerialState) → HasPart before part → (grown : SerialState) × HasPart now grown × HasParsed ph worker turns part grown results

-- what one turn does to a part: the frame was parsed into it, or refused
pub record HasGrown (ph : PhaseState) (frame most : ℕ) (before after : SerialState) (parsed : Result MsgRef ParseFault) : Type 0 where
  pub changes : Changes key_of places_of buffers_of blocks_of most most [] before after
  pub message : IfOk parsed (IsParsed ph before after frame)
  pub sound : IfOk parsed (λ _. fault_at ph frame ≡ None)
  pub fault : IfErr parsed (IsParseFault (fault_at ph frame) (blocks_of after))
  pub costs : IfOk parsed (λ _. PartCosts ph before after (λ meter. cost_at meter ph frame))
