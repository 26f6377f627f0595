-- The kinds of value: their wire types, and how a number stands on the wire and as a bit pattern (encoding guide,
-- "Condensed Reference Card" and "More Integer Types"; proto3 guide, "Scalar Value Types"; descriptor.proto,
-- `FieldDescriptorProto.Type`).
-- Each rule about kinds is a rule over the table `value_type_of`.
use Rattle.std.specs.Prelude.{◌+◌, ◌-◌, ◌*◌, ◌/◌, ◌%◌, ◌^◌, ℕ, zero, suc, Bool, true, false, nat_lt, ◌==◌, if◌then◌else◌}
use Rattle.pb_schema.specs.declared.kind.Kind.{Kind}
use Rattle.pb_schema.specs.declared.kind.Kind.TheVariants as kinds

-- how a number is kept and written
pub record Coding : Type 0 where
  -- the wire type
  pub wire : ℕ
  -- how many bytes a record in memory has for it
  pub slot : ℕ
  -- how many bit patterns there are
  pub patterns : ℕ
  -- the pattern of the number that stands on the wire
  pub kept : ℕ → ℕ
  -- the number that is written for a pattern
  pub spelled : ℕ → ℕ

-- what a value of a kind is: a number, text in UTF-8, bytes, or a message of the type with this number
pub data ValueType : Type 0 where
  Scalar : Coding → ValueType
  Characters : ValueType
  Octets : ValueType
  Nested : ℕ → ValueType

-- 32 bits
abbrev pub low_32 : ℕ → ℕ
low_32 v = v % 2 ^ 32

-- the 64 bits of the negative number that 32 bits from 2^31 on stand for
abbrev pub sign_extended : ℕ → ℕ
sign_extended p = if nat_lt p (2 ^ 31) then p else p + (2 ^ 64 - 2 ^ 32)

-- 0 or 1
abbrev pub truth : ℕ → ℕ
truth v = if v == 0 then 0 else 1

-- 0, -1, 1, -2 and so on are written 0, 1, 2, 3; a negative number -n has the pattern `patterns - n`
abbrev pub zigzag : ℕ → ℕ → ℕ
zigzag patterns p = if nat_lt p (patterns / 2) then 2 * p else 2 * (patterns - p) - 1

abbrev pub unzigzag : ℕ → ℕ → ℕ
unzigzag patterns v = if v % 2 == 0 then v / 2 else patterns - (v + 1) / 2

-- four or eight bytes, whose number is the pattern
abbrev pub four_bytes : ValueType
four_bytes = Scalar (record { wire = 5; slot = 4; patterns = 2 ^ 32; kept = λ v. v; spelled = λ p. p })

abbrev pub eight_bytes : ValueType
eight_bytes = Scalar (record { wire = 1; slot = 8; patterns = 2 ^ 64; kept = λ v. v; spelled = λ p. p })

-- a varint that is the pattern, of 64 bits
abbrev pub plain_64 : ValueType
plain_64 = Scalar (record { wire = 0; slot = 8; patterns = 2 ^ 64; kept = λ v. v; spelled = λ p. p })

-- a varint whose low 32 bits are the pattern; it is written with its sign
abbrev pub signed_32 : ValueType
signed_32 = Scalar (record { wire = 0; slot = 4; patterns = 2 ^ 32; kept = low_32; spelled = sign_extended })

-- THE TABLE
abbrev pub value_type_of : Kind → ValueType
value_type_of kinds.Double = eight_bytes
value_type_of kinds.Float = four_bytes
value_type_of kinds.Int64 = plain_64
value_type_of kinds.UInt64 = plain_64
value_type_of kinds.Int32 = signed_32
value_type_of kinds.Fixed64 = eight_bytes
value_type_of kinds.Fixed32 = four_bytes
value_type_of kinds.Bool = Scalar (record { wire = 0; slot = 1; patterns = 2; kept = truth; spelled = λ p. p })
value_type_of kinds.Text = Characters
value_type_of (kinds.Message type_no) = Nested type_no
value_type_of kinds.Bytes = Octets
value_type_of kinds.UInt32 = Scalar (record { wire = 0; slot = 4; patterns = 2 ^ 32; kept = low_32; spelled = λ p. p })
value_type_of kinds.Enumeration = signed_32
value_type_of kinds.SFixed32 = four_bytes
value_type_of kinds.SFixed64 = eight_bytes
value_type_of kinds.SInt32 =
    Scalar (record {
      wire = 0;
      slot = 4;
      patterns = 2 ^ 32;
      kept = λ v. unzigzag (2 ^ 32) (low_32 v);
      spelled = zigzag (2 ^ 32);
    })
value_type_of kinds.SInt64 =
    Scalar (record { wire = 0; slot = 8; patterns = 2 ^ 64; kept = unzigzag (2 ^ 64); spelled = zigzag (2 ^ 64) })

-- the wire type of a value by itself
abbrev pub value_wire : ValueType → ℕ
value_wire (Scalar coding) = coding.wire
value_wire _ = 2

-- how many numbers a value of a wire type spells: 64 bits, or the 32 of four bytes
abbrev pub wire_numbers : ℕ → ℕ
wire_numbers zero = 2 ^ 64
wire_numbers (suc zero) = 2 ^ 64
wire_numbers (suc (suc wire)) = 2 ^ 32

-- how many bytes a record in memory has for a single value
abbrev pub slot_of : ValueType → ℕ
slot_of (Scalar coding) = coding.slot
slot_of Characters = 24
slot_of Octets = 24
slot_of (Nested type_no) = 16

-- number kinds are all but text, bytes and messages
abbrev pub is_number : ValueType → Bool
is_number (Scalar coding) = true
is_number _ = false
