use Rattle.std.proofs.Common.{sym, subst}
use Rattle.parse_pool.specs.Ends.{AreReady}
use Rattle.parse_pool.proofs.trials.try_phase.Goals as goal

pub parse_all-end-requires-clause-ready : goal.parse_all-end-requires-clause-ready
parse_all-end-requires-clause-ready g c κs within = subst (AreReady c.in_ok-shared.shared) (sym c.as_mut_slice.ensures.value) c.in_ok-hired.ensures.ready
