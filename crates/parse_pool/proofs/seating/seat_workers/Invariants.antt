use Rattle.std.proofs.Common.{◌≤◌, length, vec_capacity}
use Rattle.parse_pool.proofs.Seats.{AreTaking}
use Rattle.parse_pool.proofs.seating.seat_workers.Given as goal

-- the workers of the last passes have their seats, and there is room for all
abbrev pub invariant-loop-pass : goal.invariant-loop-pass
invariant-loop-pass l = record {
  taking : AreTaking l.fn.passes.items l.passes.items l.caches l.workers.items;
  room : length l.fn.passes.items ≤ vec_capacity l.workers;
  kept : vec_capacity l.fn.passes ≤ vec_capacity l.passes;
}

abbrev pub decreases-loop-pass : goal.decreases-loop-pass
decreases-loop-pass l = length l.passes.items
