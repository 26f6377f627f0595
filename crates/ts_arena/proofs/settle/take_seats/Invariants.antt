use Rattle.std.proofs.Common.{◌≤◌, length, vec_capacity}
use Rattle.ts_arena.proofs.Passes.{AreTaken}
use Rattle.ts_arena.proofs.settle.take_seats.Given as goal

abbrev pub invariant-loop-pass : goal.invariant-loop-pass
invariant-loop-pass l = AreTaken l.fn.passes.items l.passes.items l.seats.items × (length l.fn.passes.items ≤ vec_capacity l.seats) × (vec_capacity l.fn.passes ≤ vec_capacity l.passes)

abbrev pub decreases-loop-pass : goal.decreases-loop-pass
decreases-loop-pass l = length l.passes.items
