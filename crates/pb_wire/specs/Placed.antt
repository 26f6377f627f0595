-- What is found at a place of some bytes, with its end counted from their start. The definitions count from the place.
use Rattle.std.specs.Prelude.{◌+◌, ℕ, List, take, drop, Option, Result}
use Rattle.std.specs.Option.{option_map}
use Rattle.pb_schema.specs.declared.wire_fault.WireFault.{WireFault}
use Rattle.pb_schema.specs.Reads.{read_map}
use Rattle.pb_schema.specs.Varint.{value_bytes}
use Rattle.pb_schema.specs.Form.{read_varint, read_length}

-- a number, and the byte behind it, where one is found
abbrev pub found_from : ℕ → Option (ℕ × ℕ) → Option (ℕ × ℕ)
found_from start found = option_map (λ x. (x.0, start + x.1)) found

-- the same, or a fault
abbrev pub moved : ℕ → Result (ℕ × ℕ) WireFault → Result (ℕ × ℕ) WireFault
moved start r = read_map (λ found. (found.0, start + found.1)) r

-- a tag's number and wire type, and the byte behind it
abbrev pub moved_tag : ℕ → Result (ℕ × ℕ × ℕ) WireFault → Result (ℕ × ℕ × ℕ) WireFault
moved_tag start r = read_map (λ tag. (tag.0, tag.1, start + tag.2)) r

-- a payload's place, and its length
abbrev pub moved_part : ℕ → Result (ℕ × ℕ) WireFault → Result (ℕ × ℕ) WireFault
moved_part at r = read_map (λ part. (at + part.0, part.1)) r

-- what the definitions read at a place of the first `end` bytes, and how many bytes it has: a value, and a length
abbrev pub value_in : List ℕ → ℕ → ℕ → Result (ℕ × ℕ) WireFault
value_in bytes start end = read_varint value_bytes start (drop start (take end bytes))

abbrev pub length_in : List ℕ → ℕ → ℕ → Result (ℕ × ℕ) WireFault
length_in bytes start end = read_length start (drop start (take end bytes))
