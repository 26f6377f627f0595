use Rattle.std.proofs.Common.{length}
use Rattle.std.specs.Prelude.{All}
use Rattle.ts_arena.specs.Passes.{AreAllOf}
use Rattle.ts_arena.specs.Ready.{IsReady}
use Rattle.ts_arena.proofs.workers.seated.Given as goal

abbrev pub invariant-loop-pass : goal.invariant-loop-pass
invariant-loop-pass l = AreAllOf l.shared l.passes.items × All (IsReady l.shared) l.seats.items

abbrev pub decreases-loop-pass : goal.decreases-loop-pass
decreases-loop-pass l = length l.passes.items
