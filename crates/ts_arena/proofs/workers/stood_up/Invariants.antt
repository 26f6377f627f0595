use Rattle.std.proofs.Common.{length}
use Rattle.std.specs.Prelude.{All}
use Rattle.ts_arena.specs.Passes.{AreAllOf}
use Rattle.ts_arena.specs.Ready.{IsReady}
use Rattle.ts_arena.proofs.workers.stood_up.Given as goal

abbrev pub invariant-loop-seat : goal.invariant-loop-seat
invariant-loop-seat l = AreAllOf l.shared l.passes.items × All (IsReady l.shared) l.seats.items

abbrev pub decreases-loop-seat : goal.decreases-loop-seat
decreases-loop-seat l = length l.seats.items
