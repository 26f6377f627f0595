-- The first fault of what a frames file holds, whose payloads are read at a type, and the trees where there is none.
use Rattle.std.specs.Prelude.{◌^◌, ℕ, List, length, Option, None, Some, Result, Ok, Err, nat_le, nat_lt, if◌then◌else◌}
use Rattle.std.specs.Option.{option_map}
use Rattle.pb_schema.specs.declared.wire_fault.WireFault.{WireFault}
use Rattle.pb_schema.specs.declared.schema.Schema.{Schema}
use Rattle.pb_schema.specs.Frames.{frames_of}
use Rattle.pb_schema.specs.Payloads.{trees_of, bad_payload}
use Rattle.pb_schema.specs.Tree.{Tree}
use Rattle.arena_run.specs.declared.fault.InputKind.TheVariants.{FrameBytes, FrameCount}
use Rattle.arena_run.specs.declared.fault.Fault.{Fault}
use Rattle.arena_run.specs.declared.fault.Fault.TheVariants.{FrameCut, BadFrame, TooLong}

abbrev pub frame_bytes_limit : ℕ
frame_bytes_limit = 2 ^ 24

abbrev pub frame_count_limit : ℕ
frame_count_limit = 2 ^ 20

-- a payload's place and its fault
abbrev pub bad_frame : ℕ × WireFault → Fault
bad_frame bad = BadFrame bad.0 bad.1

-- the first payload with a fault, with its first
abbrev pub payloads_fault : Schema → ℕ → List (List ℕ) → Option Fault
payloads_fault schema type_no payloads = option_map bad_frame (bad_payload schema type_no payloads)

-- the frames, or where they are cut: no more frames than the limit are looked at, and bytes behind as many are too many
abbrev pub frames_fault : Schema → ℕ → Result (List (List ℕ)) ℕ → Option Fault
frames_fault schema type_no (Ok payloads) = if nat_le (length payloads) frame_count_limit then payloads_fault schema type_no payloads else Some (TooLong FrameCount frame_count_limit)
frames_fault schema type_no (Err cut) = if nat_lt cut frame_count_limit then Some (FrameCut cut) else Some (TooLong FrameCount frame_count_limit)

-- THE ORDER: the length of the file, its frames, their payloads
unfoldable pub first_fault : Schema → ℕ → List ℕ → Option Fault
first_fault schema type_no content = if nat_le (length content) frame_bytes_limit then frames_fault schema type_no (frames_of content) else Some (TooLong FrameBytes frame_bytes_limit)

-- the trees of the frames of a file's bytes
unfoldable pub trees_in : Schema → ℕ → List ℕ → Option (List Tree)
trees_in schema type_no content = elim (frames_of content) [ Ok payloads ↦ trees_of schema type_no payloads | Err cut ↦ None ]
