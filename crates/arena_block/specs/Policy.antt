-- How large the blocks of an arena are made, and how lengths are rounded.
use Rattle.std.specs.Prelude.{◌≡◌, ◌+◌, ◌*◌, ◌/◌, ◌-◌, ◌%◌, ◌^◌, ◌≤◌, ℕ, min, max, Option, None, Some}
use Rattle.arena_block.specs.declared.policy.Policy.{Policy}

-- the least multiple of 8 that is at least n
abbrev pub round8 : ℕ → ℕ
round8 n = (n + 7) / 8 * 8

-- a first size that has room for the header and 8 bytes, and a greatest one that isn't below it
pub record IsValid (policy : Policy) : Type 0 where
  pub least : 24 ≤ policy.start
  pub ordered : policy.start ≤ policy.greatest
  pub most : policy.greatest ≤ 2 ^ 31 - 8

-- what a rounded length is
pub record IsLength (len : ℕ) : Type 0 where
  pub some : 8 ≤ len
  pub most : len ≤ 2 ^ 31 - 8
  pub whole : len % 8 ≡ 0

-- what a block has without regard to what is asked for: the first size, then twice the last one up to the greatest
abbrev pub base_size : Policy → Option ℕ → ℕ
base_size policy None = policy.start
base_size policy (Some last) = min (2 * last) policy.greatest

-- the size of the next block, after one of that size, where a placement of `asked` bytes opens it behind the header
abbrev pub next_size : Policy → Option ℕ → ℕ → ℕ
next_size policy last asked = max (base_size policy last) (16 + asked)
