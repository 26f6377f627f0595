-- A block as its size and the bytes that are filled.
use Rattle.std.specs.Prelude.{◌+◌, ◌-◌, ◌^◌, ◌≤◌, ℕ, List, ◌++◌, length, take, drop, replicate}
use Rattle.arena_block.specs.Policy.{round8}

-- the size in bytes, and all that is filled of it, the header of 16 bytes first
pub record BlockState : Type 0 where
  pub size : ℕ
  pub bytes : List ℕ

-- what every block is
pub record IsBlock (b : BlockState) : Type 0 where
  pub least : 24 ≤ b.size
  pub most : b.size ≤ 2 ^ 31 + 8
  pub header : 16 ≤ length b.bytes
  pub fits : length b.bytes ≤ b.size

-- a block of that size with its header alone
abbrev pub fresh_block : ℕ → BlockState
fresh_block size = record { size = size; bytes = replicate 16 0 }

-- what is left of the size
abbrev pub room_of : BlockState → ℕ
room_of b = b.size - length b.bytes

-- so many bytes more are filled, rounded up, all of them zero
abbrev pub with_part : BlockState → ℕ → BlockState
with_part b bytes = record b { bytes = b.bytes ++ replicate (round8 bytes) 0 }

-- a part behind the header and within what is filled
pub record IsPart (b : BlockState) (offset len : ℕ) : Type 0 where
  pub behind : 16 ≤ offset
  pub within : offset + len ≤ length b.bytes

-- the bytes of a part
abbrev pub part_of : BlockState → ℕ → ℕ → List ℕ
part_of b offset len = take len (drop offset b.bytes)

-- the block with these bytes from offset on
abbrev pub with_bytes : BlockState → ℕ → List ℕ → BlockState
with_bytes b offset bytes = record b { bytes = take offset b.bytes ++ bytes ++ drop (offset + length bytes) b.bytes }
