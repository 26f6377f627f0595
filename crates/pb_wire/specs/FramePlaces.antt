-- Payloads by the places in the bytes of a file at which their frames begin.
use Rattle.std.specs.Prelude.{◌≡◌, ◌+◌, ◌-◌, ◌<◌, ◌≤◌, ℕ, List, [], take, drop, map, length, slice_index}
use Rattle.std.specs.Prelude.{All, Ok, Option, None, Some, IsSome}
use Rattle.std.specs.Option.{option_map}
use Rattle.pb_schema.specs.Frames.{frame_at, frames_of}
use Rattle.pb_wire.specs.declared.frame_place.FramePlace.{FramePlace}

-- the payload at a place
abbrev pub payload_in : List ℕ → FramePlace → List ℕ
payload_in bytes place = take (place.end - place.start) (drop place.start bytes)

-- the place lies in the bytes
pub record Inside (bytes : List ℕ) (place : FramePlace) : Type 0 where
  pub order : place.start ≤ place.end
  pub end : place.end ≤ length bytes

-- the payload of the frame, where there is one
abbrev pub payload_of : Option (List ℕ × ℕ) → List ℕ
payload_of None = []
payload_of (Some frame) = frame.0

-- the payload of the frame that begins at this byte
abbrev pub payload_at : List ℕ → ℕ → List ℕ
payload_at bytes start = payload_of (frame_at (drop start bytes))

abbrev pub payloads_at : List ℕ → List ℕ → List (List ℕ)
payloads_at bytes starts = map (payload_at bytes) starts

-- a whole frame begins at this byte
pub record Begins (bytes : List ℕ) (start : ℕ) : Type 0 where
  pub within : start ≤ length bytes
  pub whole : IsSome (frame_at (drop start bytes))

abbrev pub AllBegin : List ℕ → List ℕ → Type 0
AllBegin bytes starts = All (Begins bytes) starts

-- from the start of each frame on, the bytes are cut into that frame and those that start behind it
abbrev pub AllFollow : List ℕ → List ℕ → Type 0
AllFollow bytes starts =
    (index : ℕ) → index < length starts
    → frames_of (drop (slice_index starts index) bytes) ≡ Ok (payloads_at bytes (drop index starts))

-- frames begin at these bytes, one behind another up to the end of all bytes
pub record AreFrames (bytes starts : List ℕ) : Type 0 where
  pub begin : AllBegin bytes starts
  pub follow : AllFollow bytes starts

-- a payload that is found behind `start` bytes, and the byte behind it, counted from the start of all bytes
abbrev pub frame_from : ℕ → Option (List ℕ × ℕ) → Option (List ℕ × ℕ)
frame_from start found = option_map (λ x. (x.0, start + x.1)) found

-- the payload of the frame that begins at this byte, and the byte behind it
abbrev pub frame_in : List ℕ → ℕ → Option (List ℕ × ℕ)
frame_in bytes start = frame_from start (frame_at (drop start bytes))

-- the same by the payload's place
abbrev pub placed_in : List ℕ → Option FramePlace → Option (List ℕ × ℕ)
placed_in bytes place = option_map (λ p. (payload_in bytes p, p.end)) place
