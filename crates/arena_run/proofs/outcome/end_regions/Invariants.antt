use Rattle.std.proofs.Common.{length}
use Rattle.arena_run.proofs.Ending.{HaveEnded}
use Rattle.arena_run.proofs.outcome.end_regions.Given as goal

abbrev pub invariant-loop-register : goal.invariant-loop-register
invariant-loop-register g l =
    let W = g.W.CleanupWatch in
    HaveEnded (W.told l.fn.watch) (W.told l.watch) (W.room l.fn.watch) (W.room l.watch) l.sums l.fn.registers.items l.registers.items

abbrev pub decreases-loop-register : goal.decreases-loop-register
decreases-loop-register g l = length l.registers.items
