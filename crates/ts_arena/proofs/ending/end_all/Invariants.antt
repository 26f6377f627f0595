use Rattle.std.proofs.Common.{length}
use Rattle.ts_arena.proofs.OneByOne.{IsEnding}
use Rattle.ts_arena.proofs.ending.end_all.Given as goal

abbrev pub invariant-loop-item : goal.invariant-loop-item
invariant-loop-item g l = IsEnding g.P.Holder.part_of (g.W.CleanupWatch.told l.fn.watch) (g.W.CleanupWatch.told l.watch) (g.W.CleanupWatch.room l.fn.watch) (g.W.CleanupWatch.room l.watch) l.fn.sums l.sums l.fn.items.items l.items.items

abbrev pub decreases-loop-item : goal.decreases-loop-item
decreases-loop-item g l = length l.items.items
