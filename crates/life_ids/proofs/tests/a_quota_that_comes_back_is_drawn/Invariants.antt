use Rattle.std.proofs.Common.{◌≡◌}
use Rattle.life_ids.proofs.tests.a_quota_that_comes_back_is_drawn.Given as goal

abbrev pub invariant-loop-want : goal.invariant-loop-want
invariant-loop-want g l = l.seat.counter ≡ l.ids
