-- Tags: a field's number and a wire type in one number (encoding guide, "Message Structure"). Wire types are 0 varint,
-- 1 eight bytes, 2 a length and as many bytes, 3 the start and 4 the end of a group, 5 four bytes.
use Rattle.std.specs.Prelude.{◌+◌, ◌-◌, ◌*◌, ◌^◌, ◌<◌, ◌≤◌, ℕ, List}
use Rattle.pb_schema.specs.Varint.{Varint, tag_bytes}

abbrev pub tag_of : ℕ → ℕ → ℕ
tag_of number wire = number * 8 + wire

-- the bytes are a tag of this number and wire type: it is below 2^32, and the number is 1 to 2^29 - 1
pub record IsTag (s : List ℕ) (number wire : ℕ) : Type 0 where
  pub varint : Varint s tag_bytes (tag_of number wire)
  pub below : tag_of number wire < 2 ^ 32
  pub least : 1 ≤ number
  pub most : number ≤ 2 ^ 29 - 1
  pub wire_type : wire ≤ 5
