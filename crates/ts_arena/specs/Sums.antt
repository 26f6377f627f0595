-- How large sums over serial arenas can be.
use Rattle.std.specs.Prelude.{ℕ, ◌*◌, ◌^◌, ◌≤◌}
use Rattle.ts_arena.specs.declared.arena.Sums.{Sums}

-- each of so many serial arenas adds less than 2^64
pub record AreSmall (sums : Sums) (count : ℕ) : Type 0 where
  pub used : sums.used ≤ count * 2 ^ 64
  pub allocated : sums.allocated ≤ count * 2 ^ 64
  pub registered : sums.registered ≤ count * 2 ^ 64
