use Rattle.std.proofs.Common.{◌≤◌, ◌≡◌, length, vec_capacity}
use Rattle.parse_pool.proofs.Seats.{AreLeaving}
use Rattle.parse_pool.proofs.seating.leave_seats.Given as goal

-- the last workers left their seats, and there is room for all passes
abbrev pub invariant-loop-worker : goal.invariant-loop-worker
invariant-loop-worker l = record {
  leaving : AreLeaving l.fn.workers.items l.workers.items l.passes.items l.caches;
  room : length l.fn.workers.items ≤ vec_capacity l.passes;
  long : length l.caches ≡ length l.fn.caches;
}

abbrev pub decreases-loop-worker : goal.decreases-loop-worker
decreases-loop-worker l = length l.workers.items
