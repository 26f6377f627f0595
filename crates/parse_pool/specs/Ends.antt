-- What is asked of workers when a phase begins, and what they are when it ends.
use Rattle.std.specs.Prelude.{◌≡◌, ◌-◌, ◌^◌, ◌<◌, ◌≤◌, ℕ, ⊤, List, [], length, None, Some}
use mathlib.Core.Option.{some}
use lib.ListN.{get_elem?}
use Rattle.serial_arena.specs.Serial.{SerialState, blocks_of}
use Rattle.ts_arena.specs.declared.pass.Pass.{Pass}
use Rattle.ts_arena.specs.Passes.{SharedState, HasPart, IsPassOf}
use Rattle.pb_parse.specs.declared.stop.ParseFault.{ParseFault}
use Rattle.pb_parse.specs.declared.stop.ParseFault.TheVariants as faults
use Rattle.parse_pool.specs.declared.pool_end.FrameResult.{FrameResult}
use Rattle.parse_pool.specs.declared.pool_end.PoolEnd.{PoolEnd}
use Rattle.parse_pool.specs.declared.pool_end.PoolEnd.TheVariants.{Done, BadFrame, NoMemory, BlocksSpent}
use Rattle.parse_pool.specs.Workers.{WorkerState}
use Rattle.parse_pool.specs.Phases.{PhaseState, fault_at, end_of, frame_of}
use Rattle.parse_pool.specs.Parsed.{HasTurned}

-- a worker with a pass of this arena, which parsed nothing yet
pub record IsReady (sh : SharedState) (w : WorkerState) : Type 0 where
  pub made : (pass : Pass) → w.pass ≡ Some pass → IsPassOf sh pass
  pub none : w.results ≡ []

-- such workers
abbrev pub AreReady : SharedState → List WorkerState → Type 0
AreReady sh workers = (k : ℕ) (w : WorkerState) → get_elem? workers k ≡ some w → IsReady sh w

-- each has the number of its place
abbrev pub AreNumbered : List WorkerState → Type 0
AreNumbered workers = (k : ℕ) (w : WorkerState) → get_elem? workers k ≡ some w → w.number ≡ k

-- a worker before and after a phase
pub record HasWorked (ph : PhaseState) (old new : WorkerState) : Type 0 where
  pub number_is : new.number ≡ old.number
  pub before : Pass
  pub now : Pass
  pub was : old.pass ≡ Some before
  pub is : new.pass ≡ Some now
  pub turns : ℕ
  pub turned : HasTurned ph old.number turns before old.cache now new.cache new.results

-- each of some workers
pub record HaveWorked (ph : PhaseState) (olds news : List WorkerState) : Type 0 where
  pub count : length news ≡ length olds
  pub each : (k : ℕ) (old new : WorkerState) → get_elem? olds k ≡ some old → get_elem? news k ≡ some new → HasWorked ph old new

-- all of its turns went well
abbrev pub IsDone : PhaseState → WorkerState → Type 0
IsDone ph w = end_of ph ≤ frame_of ph w.number (length w.results)

-- the region is that of a pass, and has all blocks that a number can name
pub record IsSpent (pass : Pass) (region : ℕ) : Type 0 where
  pub part : SerialState
  pub has : HasPart pass part
  pub spent : blocks_of part region ≡ 2 ^ 32 - 1

-- how a worker ends that was refused a frame
abbrev pub refused_by : ℕ → ParseFault → PoolEnd
refused_by index (faults.Bad fault) = BadFrame index fault
refused_by index faults.NoMemory = NoMemory
refused_by index (faults.BlocksSpent region) = BlocksSpent region

-- why a worker stopped
abbrev pub StopsAs : PhaseState → ℕ → Pass → List FrameResult → PoolEnd → Type 0
StopsAs ph worker now results Done = end_of ph ≤ frame_of ph worker (length results)
StopsAs ph worker now results (BadFrame index fault) =
    (index ≡ frame_of ph worker (length results)) × (index < end_of ph) × (fault_at ph index ≡ Some fault)
StopsAs ph worker now results NoMemory = ⊤
StopsAs ph worker now results (BlocksSpent region) = IsSpent now region

-- one of these workers has a pass whose region is spent
pub record OneIsSpent (workers : List WorkerState) (region : ℕ) : Type 0 where
  pub at : ℕ
  pub worker : WorkerState
  pub there : get_elem? workers at ≡ some worker
  pub pass : Pass
  pub has : worker.pass ≡ Some pass
  pub spent : IsSpent pass region

abbrev pub AllDone : PhaseState → List WorkerState → Type 0
AllDone ph workers = (k : ℕ) (w : WorkerState) → get_elem? workers k ≡ some w → IsDone ph w

-- a frame of the phase that one of these workers takes
pub record IsTaken (ph : PhaseState) (workers : List WorkerState) (frame : ℕ) : Type 0 where
  pub at : ℕ
  pub worker : WorkerState
  pub there : get_elem? workers at ≡ some worker
  pub turn : ℕ
  pub is : frame ≡ frame_of ph worker.number turn
  pub within : frame < end_of ph

-- no frame below this one that these workers take has a fault
abbrev pub IsSound : PhaseState → List WorkerState → ℕ → Type 0
IsSound ph workers bound = (frame : ℕ) → IsTaken ph workers frame → frame < bound → fault_at ph frame ≡ None

-- how the phase ended for some of its workers
abbrev pub EndsAs : PhaseState → List WorkerState → PoolEnd → Type 0
EndsAs ph workers Done = AllDone ph workers × IsSound ph workers (end_of ph)
EndsAs ph workers (BadFrame index fault) =
    IsTaken ph workers index × (fault_at ph index ≡ Some fault) × IsSound ph workers index
EndsAs ph workers NoMemory = ⊤
EndsAs ph workers (BlocksSpent region) = OneIsSpent workers region

-- no frame of the phase below this one has a fault
abbrev pub NoneBelow : PhaseState → ℕ → Type 0
NoneBelow ph bound = (frame : ℕ) → ph.first ≤ frame → frame < bound → fault_at ph frame ≡ None

-- how a phase ended: each frame of each worker was parsed; or the least frame that has a fault is told, with its first
-- fault; or memory was wanted; or a region of a pass has no block left
abbrev pub HasEnded : PhaseState → List WorkerState → PoolEnd → Type 0
HasEnded ph workers Done = AllDone ph workers × NoneBelow ph (end_of ph)
HasEnded ph workers (BadFrame index fault) =
    (ph.first ≤ index) × (index < end_of ph) × (fault_at ph index ≡ Some fault) × NoneBelow ph index
HasEnded ph workers NoMemory = ⊤
HasEnded ph workers (BlocksSpent region) = OneIsSpent workers region
