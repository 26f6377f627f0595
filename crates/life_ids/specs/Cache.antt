-- What contracts see of a thread's cache.
use Rattle.std.specs.Prelude.{ℕ}

-- the life of the arena that it is of, and the slot of its owner there
pub record CacheState : Type 0 where
  pub life : ℕ
  pub slot : ℕ
