use Rattle.std.proofs.Common.{◌≤◌, length, vec_capacity}
use Rattle.ts_arena.proofs.Passes.{AreMadeOf}
use Rattle.ts_arena.proofs.share.make_passes.Given as goal

abbrev pub invariant-loop-seat : goal.invariant-loop-seat
invariant-loop-seat l = AreMadeOf l.fn.seats.items l.seats.items l.life l.passes.items × (length l.fn.seats.items ≤ vec_capacity l.passes)

abbrev pub decreases-loop-seat : goal.decreases-loop-seat
decreases-loop-seat l = length l.seats.items
