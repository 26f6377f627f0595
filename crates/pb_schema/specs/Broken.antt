-- The first fault in the bytes of a payload that is read at a type, and the most levels below the root (encoding guide,
-- "Message Structure"; proto3 guide, "Scalar Value Types").
use Rattle.std.specs.Prelude.{◌-◌, ℕ, List, Option}
use Rattle.pb_schema.specs.declared.schema.Schema.{Schema}
use Rattle.pb_schema.specs.declared.wire_fault.WireFault.{WireFault}
use Rattle.pb_schema.specs.Reads.{fault_read}
use Rattle.pb_schema.specs.Fits.{fields_of}
use Rattle.pb_schema.specs.Walk.{in_message, walk_left}

-- a message or a group is at most so many levels below the root
abbrev pub most_levels : ℕ
most_levels = 100

-- nothing, or the first fault in the bytes of a message of this type at this depth
abbrev pub broken_of : Schema → ℕ → ℕ → List ℕ → Option WireFault
broken_of schema type_no depth s =
    fault_read (walk_left schema (most_levels - depth) 0 (in_message (fields_of schema type_no)) 0 s)
