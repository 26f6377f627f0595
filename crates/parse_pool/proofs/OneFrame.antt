-- One frame, parsed into a part of the arena.
use Rattle.std.proofs.Common.{◌≡◌, ◌+◌, ◌*◌, ℕ, List, [], length, None, Some, Ok, Err, Result, sym, ap, subst}
use Rattle.std.specs.Prelude.{IfOk, IfErr, slice_get, unwrap_or}
use Rattle.std.specs.List.{concat}
use Rattle.serial_arena.specs.Key.{key_of}
use Rattle.serial_arena.specs.Serial.{SerialState, places_of, buffers_of, blocks_of}
use Rattle.pb_schema.specs.Fault.{fault_of}
use Rattle.pb_schema.specs.Tree.{tree_map}
use Rattle.pb_schema.specs.TreeOf.{tree_of}
use Rattle.dyn_message.specs.declared.msg_ref.MsgRef.{MsgRef}
use Rattle.dyn_message.specs.Changes.{Changes, NowStands}
use Rattle.pb_parse.specs.declared.stop.ParseFault.{ParseFault}
use Rattle.pb_parse.specs.Parsing.{IsParseFault}
use Rattle.pb_parse.specs.Whole.{payload_cost, shape_of_payload}
use Rattle.parse_pool.specs.Phases.{PhaseState, payload_at, fault_at}
use Rattle.parse_pool.specs.Parsed.{HasGrown, PartCosts}

-- the payload that was found is the frame's
pub payload_is : (ph : PhaseState) (frame : ℕ) (bytes : List ℕ) → slice_get ph.payloads frame ≡ Some bytes → bytes ≡ payload_at ph frame
payload_is ph frame bytes found = sym (ap (λ o. unwrap_or o []) found)

module _ (ph : PhaseState) (frame : ℕ) (before after : SerialState) where
  -- what parsing told of these bytes
  pub record Tells (bytes : List ℕ) (parsed : Result MsgRef ParseFault) : Type 0 where
    pub changes : Changes key_of places_of buffers_of blocks_of (4 * length bytes + 4) (4 * length bytes + 4) [] before after
    pub type : IfOk parsed (λ msg. msg.type_no ≡ ph.root)
    pub stands : IfOk parsed (λ msg. NowStands ph.schema (places_of before) (buffers_of before) (places_of after) (buffers_of after) msg (shape_of_payload ph.schema ph.root bytes) [])
    pub tree : IfOk parsed (λ _. tree_of ph.schema ph.root bytes ≡ Some (tree_map concat (shape_of_payload ph.schema ph.root bytes)))
    pub sound : IfOk parsed (λ _. fault_of ph.schema ph.root 0 bytes ≡ None)
    pub fault : IfErr parsed (IsParseFault (fault_of ph.schema ph.root 0 bytes) (blocks_of after))
    pub costs : IfOk parsed (λ _. PartCosts ph before after (λ meter. payload_cost meter ph.schema ph.root bytes))

  pub grown_by : (parsed : Result MsgRef ParseFault) → Tells (payload_at ph frame) parsed → HasGrown ph frame (4 * length (payload_at ph frame) + 4) before after parsed
  unfolding fault_at
  grown_by (Ok msg) t = record { changes = t.changes; message = record { type = t.type; stands = t.stands; tree = t.tree }; sound = t.sound; fault = tt; costs = t.costs }
  grown_by (Err fault) t = record { changes = t.changes; message = tt; sound = tt; fault = t.fault; costs = tt }

  -- a frame whose payload these bytes are
  pub frame_grown : (bytes : List ℕ) (parsed : Result MsgRef ParseFault) → slice_get ph.payloads frame ≡ Some bytes → Tells bytes parsed → HasGrown ph frame (4 * length (payload_at ph frame) + 4) before after parsed
  frame_grown bytes parsed found t = grown_by parsed (subst (λ b. Tells b parsed) (payload_is ph frame bytes found) t)
