use Rattle.parse_pool.specs.Phases.{AreShort}
use Rattle.parse_pool.proofs.trials.are_short.Given as goal

abbrev pub invariant-loop-frame : goal.invariant-loop-frame
invariant-loop-frame l = AreShort l.frames 0 l.frame
