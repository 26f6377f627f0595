-- A worker, as its holder sees it.
use Rattle.std.specs.Prelude.{◌≡◌, ℕ, Option, Some, List}
use Rattle.life_ids.specs.Cache.{CacheState}
use Rattle.ts_arena.specs.declared.pass.Pass.{Pass}
use Rattle.ts_arena.specs.Passes.{caller_of, FitsPass}
use Rattle.parse_pool.specs.declared.pool_end.FrameResult.{FrameResult}

-- its number, its pass, which is there between calls, its cache, and what it parsed
pub record WorkerState : Type 0 where
  pub number : ℕ
  pub pass : Option Pass
  pub cache : CacheState
  pub results : List FrameResult

-- what every worker is: its pass is that of the caller with its number, and its cache fits it
pub record IsWorker (w : WorkerState) : Type 0 where
  pub own : Pass
  pub has : w.pass ≡ Some own
  pub caller : caller_of own ≡ w.number
  pub fits : FitsPass w.cache own
