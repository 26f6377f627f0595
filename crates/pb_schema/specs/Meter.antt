-- What messages take of a memory, by a meter: one meter counts the bytes that are placed, another the cleanups that are
-- registered. The rules are this project's own.
use Rattle.std.specs.Prelude.{◌≡◌, ◌≤◌, ◌+◌, ◌*◌, ◌/◌, ◌^◌, ℕ, zero, suc, ◌&&◌, nat_lt, nat_le, if◌then◌else◌}

-- what a record of the type with this number counts, what a text or bytes of this length does, and what an array of
-- elements of this size does as it grows from the first count of elements to the second
pub record Meter : Type 0 where
  pub size : ℕ → ℕ
  pub bytes : ℕ → ℕ
  pub growth : ℕ → ℕ → ℕ → ℕ

-- PLACED BYTES

-- up to a multiple of 8
abbrev pub round8 : ℕ → ℕ
round8 n = (n + 7) / 8 * 8

-- 1 to 15 bytes are placed, more are kept elsewhere
abbrev pub string_bytes : ℕ → ℕ
string_bytes length = if nat_lt length 16 then round8 length else 0

-- an array first has room for four elements, and is followed by one of twice the room where it is full
abbrev pub rooms : ℕ → ℕ
rooms k = 4 * 2 ^ k

-- the array that follows the one with `rooms k`, where that one is full on the way from `before` to `after` elements
abbrev pub follower_bytes : ℕ → ℕ → ℕ → ℕ → ℕ
follower_bytes size before after k =
    if nat_le before (rooms k) && nat_lt (rooms k) after then round8 (2 * rooms k * size) else 0

-- the arrays that follow the first ones of the rooms
abbrev pub followers_bytes : ℕ → ℕ → ℕ → ℕ → ℕ
followers_bytes size before after zero = 0
followers_bytes size before after (suc k) = followers_bytes size before after k + follower_bytes size before after k

-- the first array, for the first element
abbrev pub first_bytes : ℕ → ℕ → ℕ → ℕ
first_bytes size zero (suc after) = round8 (rooms 0 * size)
first_bytes size _ _ = 0

-- the first array and those that follow it; a room is greater than its place among the rooms
abbrev pub array_bytes : ℕ → ℕ → ℕ → ℕ
array_bytes size before after = first_bytes size before after + followers_bytes size before after after

-- the bytes placed, where records have these sizes
abbrev pub placed_bytes : (ℕ → ℕ) → Meter
placed_bytes sizes = record { size = sizes; bytes = string_bytes; growth = array_bytes }

-- CLEANUPS

-- 16 bytes and more are kept, with a cleanup
abbrev pub cleanups : Meter
cleanups =
    record { size = λ type_no. 0; bytes = λ length. if nat_lt length 16 then 0 else 1; growth = λ size before after. 0 }

-- WHAT EACH METER KEEPS

-- an array that doesn't grow counts nothing, and one that grows counts the same in one go and in two
pub record GrowsInParts (meter : Meter) : Type 0 where
  pub none : (size count : ℕ) → meter.growth size count count ≡ 0
  pub parts : (size before between after : ℕ) → before ≤ between → between ≤ after
      → meter.growth size before after ≡ meter.growth size before between + meter.growth size between after
