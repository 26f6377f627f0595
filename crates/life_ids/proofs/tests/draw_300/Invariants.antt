use Rattle.std.proofs.Common.{◌≡◌}
use Rattle.life_ids.proofs.tests.draw_300.Given as goal

abbrev pub invariant-loop-drawn : goal.invariant-loop-drawn
invariant-loop-drawn l = l.hand.seat.counter ≡ l.ids
