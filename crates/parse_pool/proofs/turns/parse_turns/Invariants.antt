use Rattle.std.proofs.Common.{◌≡◌, ◌-◌, length}
use Rattle.parse_pool.specs.Phases.{frame_of}
use Rattle.parse_pool.specs.Parsed.{HasTurned}
use Rattle.parse_pool.proofs.turns.parse_turns.Given as goal

abbrev pub invariant-loop-frame : goal.invariant-loop-frame
invariant-loop-frame g l = HasTurned l.phase l.worker (length l.results.items) l.initial.pass l.initial.cache l.pass l.cache l.results.items × (l.frame ≡ frame_of l.phase l.worker (length l.results.items))

abbrev pub decreases-loop-frame : goal.decreases-loop-frame
decreases-loop-frame g l = l.end - l.frame
