-- The form of the record at the front of some bytes: its tag, and how far its payload goes by its wire type; or what is
-- wrong with it (encoding guide, "Message Structure"). The bytes begin at the byte `at` of the frame's payload.
use Rattle.std.specs.Prelude.{◌+◌, ◌/◌, ◌%◌, ◌^◌, ℕ, zero, suc, Bool, ◌&&◌, nat_lt, nat_le, List, length, drop, None, Some, Result, Ok, if◌then◌else◌}
use Rattle.pb_schema.specs.declared.wire_fault.WireKind.{WireKind}
use Rattle.pb_schema.specs.declared.wire_fault.WireKind.TheVariants.{Cut, LongVarint, BadTag, BadLength}
use Rattle.pb_schema.specs.declared.wire_fault.WireFault.{WireFault}
use Rattle.pb_schema.specs.Varint.{varint_at, tag_bytes, length_bytes, value_bytes}
use Rattle.pb_schema.specs.Reads.{fault, ◌>>=◌}

-- what is wrong where no varint ends within its most bytes: fewer are there, or too many go on
abbrev pub varint_fault : ℕ → List ℕ → WireKind
varint_fault most s = if nat_lt (length s) most then Cut else LongVarint

-- the value of the varint at the front, and how many bytes it has
abbrev pub read_varint : ℕ → ℕ → List ℕ → Result (ℕ × ℕ) WireFault
read_varint most at s =
    elim (varint_at most s) [ Some found ↦ Ok (found.0, found.1) | None ↦ fault (varint_fault most s) at ]

-- below 2^32, with a number that isn't 0 and a wire type up to 5
abbrev pub is_tag : ℕ → Bool
is_tag v = nat_lt v (2 ^ 32) && nat_le 1 (v / 8) && nat_le (v % 8) 5

-- the field's number, the wire type, and how many bytes the tag at the front has
abbrev pub read_tag : ℕ → List ℕ → Result (ℕ × ℕ × ℕ) WireFault
read_tag at s =
    read_varint tag_bytes at s >>= λ tag. if is_tag tag.0 then Ok (tag.0 / 8, tag.0 % 8, tag.1) else fault BadTag at

-- the length at the front, and how many bytes it has
abbrev pub read_length : ℕ → List ℕ → Result (ℕ × ℕ) WireFault
read_length at s = read_varint length_bytes at s >>= λ len. if nat_lt len.0 (2 ^ 31) then Ok len else fault BadLength at

-- so many bytes are there
abbrev pub read_bytes : ℕ → ℕ → List ℕ → Result ℕ WireFault
read_bytes len at s = if nat_le len (length s) then Ok len else fault Cut at

-- a record: its number and wire type, where its payload begins behind the first byte of the tag, how many bytes the
-- payload has, and how many the record has. For varints and fixed values the payload is the value's bytes, for groups
-- what stands between the tags.
pub record Form : Type 0 where
  pub number : ℕ
  pub wire : ℕ
  pub payload : ℕ
  pub payload_len : ℕ
  pub size : ℕ

-- the bytes of a value of wire type 0, 1 or 5 at the front; and of any other, which is none
abbrev pub read_scalar : ℕ → ℕ → List ℕ → Result ℕ WireFault
read_scalar zero at s = read_varint value_bytes at s >>= λ value. Ok value.1
read_scalar (suc zero) at s = read_bytes 8 at s
read_scalar (suc (suc (suc (suc (suc zero))))) at s = read_bytes 4 at s
read_scalar wire at s = Ok 0

-- where the payload of a wire type begins behind its tag, and how many bytes it has; of the start of a group alone, and
-- of its end, none
abbrev pub read_payload : ℕ → ℕ → List ℕ → Result (ℕ × ℕ) WireFault
read_payload (suc (suc zero)) at s =
    read_length at s >>= λ len. read_bytes len.0 (at + len.1) (drop len.1 s) >>= λ n. Ok (len.1, n)
read_payload wire at s = read_scalar wire at s >>= λ n. Ok (0, n)

-- the form of the record at the front
abbrev pub form_at : ℕ → List ℕ → Result Form WireFault
form_at at s =
    read_tag at s >>= λ tag. read_payload tag.1 (at + tag.2) (drop tag.2 s) >>= λ part. Ok (record {
      number = tag.0;
      wire = tag.1;
      payload = tag.2 + part.0;
      payload_len = part.1;
      size = tag.2 + part.0 + part.1;
    })
