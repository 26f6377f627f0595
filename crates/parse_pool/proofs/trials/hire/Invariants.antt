use Rattle.std.proofs.Common.{length}
use Rattle.ts_arena.specs.Passes.{AreAllOf}
use Rattle.parse_pool.specs.Ends.{AreReady, AreNumbered}
use Rattle.parse_pool.proofs.trials.hire.Given as goal

abbrev pub invariant-loop-pass : goal.invariant-loop-pass
invariant-loop-pass l = AreAllOf l.shared l.passes.items × AreReady l.shared l.workers.items × AreNumbered l.workers.items

abbrev pub decreases-loop-pass : goal.decreases-loop-pass
decreases-loop-pass l = length l.passes.items
