-- What the workers of a phase did, from their seats to the messages in the order of their frames.
use Rattle.std.specs.Prelude.{◌≡◌, ◌+◌, ◌*◌, ℕ, List, length}
use mathlib.Core.Option.{some}
use lib.ListN.{get_elem?}
use Rattle.life_ids.specs.Cache.{CacheState}
use Rattle.dyn_message.specs.declared.msg_ref.MsgRef.{MsgRef}
use Rattle.ts_arena.specs.declared.pass.Pass.{Pass}
use Rattle.parse_pool.specs.declared.pool_end.FrameResult.{FrameResult}
use Rattle.parse_pool.specs.declared.pool_end.PoolEnd.{PoolEnd}
use Rattle.parse_pool.specs.declared.pool_end.PoolEnd.TheVariants.{Done}
use Rattle.parse_pool.specs.Ends.{HasEnded, HaveWorked}
use Rattle.parse_pool.specs.Phases.{PhaseState}
use Rattle.parse_pool.specs.Seating.{AreSeated, HaveLeft}
use Rattle.parse_pool.specs.Workers.{WorkerState}

-- the message of this frame of the phase, counted from its first, is that of a turn of the worker whose turn it was
pub record IsResult (workers : List WorkerState) (i : ℕ) (msg : MsgRef) : Type 0 where
  pub worker : ℕ
  pub turn : ℕ
  pub is : i ≡ worker + turn * length workers
  pub state : WorkerState
  pub there : get_elem? workers worker ≡ some state
  pub result : FrameResult
  pub at : get_elem? state.results turn ≡ some result
  pub msg_is : result.msg ≡ msg

-- the messages of so many frames, in their order
pub record AreCollected (workers : List WorkerState) (count : ℕ) (messages : List MsgRef) : Type 0 where
  pub count_is : length messages ≡ count
  pub each : (i : ℕ) (msg : MsgRef) → get_elem? messages i ≡ some msg → IsResult workers i msg

-- workers took their seats, worked, and left them; where all is done the messages are collected
pub record HasRun (ph : PhaseState) (passes passes' : List Pass) (caches caches' : List CacheState) (messages : List MsgRef) (end : PoolEnd) : Type 0 where
  pub seated : List WorkerState
  pub worked : List WorkerState
  pub begun : AreSeated passes caches seated
  pub work : HaveWorked ph seated worked
  pub left : HaveLeft worked passes' caches'
  pub ended : HasEnded ph worked end
  pub collected : end ≡ Done → AreCollected worked ph.count messages
