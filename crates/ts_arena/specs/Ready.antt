-- Passes that are ready to enter, each with a cache.
use Rattle.std.specs.Prelude.{◌≡◌, ℕ, ⊤, Option, Some, None, List, length, All}
use Rattle.life_ids.specs.Cache.{CacheState}
use Rattle.ts_arena.specs.declared.pass.Pass.{Pass}
use Rattle.ts_arena.specs.Passes.{SharedState, IsPassOf, FitsPass}

-- a pass of this shared arena, and a cache that fits it; or none
abbrev pub IsReady : SharedState → Option (Pass × CacheState) → Type 0
IsReady sh None = ⊤
IsReady sh (Some w) = IsPassOf sh w.0 × FitsPass w.1 w.0

-- these are so many such
pub record AreReady (sh : SharedState) (n : ℕ) (seats : List (Option (Pass × CacheState))) : Type 0 where
  pub count : length seats ≡ n
  pub all : All (IsReady sh) seats
