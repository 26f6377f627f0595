-- A phase: some of the frames, dealt out to workers in turn.
use Rattle.std.specs.Prelude.{◌≡◌, ◌+◌, ◌*◌, ◌^◌, ◌<◌, ◌≤◌, ℕ, zero, suc, List, [], length, Option, Some, slice_get, unwrap_or}
use Rattle.pb_schema.specs.declared.schema.Schema.{Schema}
use Rattle.pb_schema.specs.declared.wire_fault.WireFault.{WireFault}
use Rattle.pb_schema.specs.Fault.{fault_of}
use Rattle.pb_schema.specs.Meter.{Meter}
use Rattle.pb_parse.specs.Whole.{payload_cost}
use Rattle.ts_arena.specs.Passes.{SharedState}

-- the arena, the type of the messages, the payloads of all frames, the frames of the phase, and how many workers there are
pub record PhaseState : Type 0 where
  pub shared : SharedState
  pub schema : Schema
  pub root : ℕ
  pub payloads : List (List ℕ)
  pub first : ℕ
  pub count : ℕ
  pub workers : ℕ

-- the payload of a frame
abbrev pub payload_at : PhaseState → ℕ → List ℕ
payload_at ph frame = unwrap_or (slice_get ph.payloads frame) []

-- its first fault, where it has one
unfoldable pub fault_at : PhaseState → ℕ → Option WireFault
fault_at ph frame = fault_of ph.schema ph.root 0 (payload_at ph frame)

-- the frame behind the last one of the phase
abbrev pub end_of : PhaseState → ℕ
end_of ph = ph.first + ph.count

-- the frame of a worker's turn, counted from 0: each worker takes every so manieth frame
abbrev pub frame_of : PhaseState → ℕ → ℕ → ℕ
frame_of ph worker turn = ph.first + worker + turn * ph.workers

-- the payloads of these frames have fewer than 2^25 bytes each
abbrev pub AreShort : List (List ℕ) → ℕ → ℕ → Type 0
AreShort payloads first end =
    (frame : ℕ) (payload : List ℕ) → first ≤ frame → frame < end → slice_get payloads frame ≡ Some payload
    → length payload < 2 ^ 25

-- what every phase is: there is a worker, its frames are there, their payloads are short, and there is a type of messages
pub record IsPhase (ph : PhaseState) : Type 0 where
  pub some : 1 ≤ ph.workers
  pub crowd : ph.workers < 2 ^ 63
  pub there : end_of ph ≤ length ph.payloads
  pub few : length ph.payloads < 2 ^ 32
  pub short : AreShort ph.payloads ph.first (end_of ph)
  pub root : ph.root < length ph.schema.types

-- so many places, and so many buffers, the frames of a worker's first turns add at most
abbrev pub most_in : PhaseState → ℕ → ℕ → ℕ
most_in ph worker zero = 0
most_in ph worker (suc turn) = most_in ph worker turn + (4 * length (payload_at ph (frame_of ph worker turn)) + 4)

-- what the payload of a frame counts by a meter
abbrev pub cost_at : Meter → PhaseState → ℕ → ℕ
cost_at meter ph frame = payload_cost meter ph.schema ph.root (payload_at ph frame)

-- what the payloads of a worker's first turns count
abbrev pub cost_in : Meter → PhaseState → ℕ → ℕ → ℕ
cost_in meter ph worker zero = 0
cost_in meter ph worker (suc turn) = cost_in meter ph worker turn + cost_at meter ph (frame_of ph worker turn)

-- the phase of a call
abbrev pub phase : SharedState → Schema → ℕ → List (List ℕ) → ℕ → ℕ → ℕ → PhaseState
phase shared schema root payloads first count workers =
    record { shared = shared; schema = schema; root = root; payloads = payloads; first = first; count = count; workers = workers }
