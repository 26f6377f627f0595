use Rattle.std.proofs.Common.{◌≤◌}
use Rattle.life_ids.specs.Seats.{greatest_drawn}
use Rattle.life_ids.proofs.tests.a_renewed_life_is_greater.Given as goal

abbrev pub invariant-loop-want : goal.invariant-loop-want
invariant-loop-want g l = l.life ≤ greatest_drawn l.ids
