use Rattle.std.proofs.Common.{◌≡◌, ◌≤◌, List, length, Option}
use Rattle.cleanup_list.specs.Told.{Triple, block, Gains, HasRoom}
use Rattle.cleanup_list.proofs.list.CleanupList.run_all.Given as goal

abbrev pub invariant-loop-item : goal.invariant-loop-item
invariant-loop-item g l =
    (few : length l.items.items ≤ length l.fn.self)
    × (told : (after : Option (List Triple)) → Gains (g.W.CleanupWatch.told l.watch) after (block l.life l.region (length l.items.items)) → Gains (g.W.CleanupWatch.told l.fn.watch) after (block l.fn.life l.fn.region (length l.fn.self)))
    × (tells : HasRoom (g.W.CleanupWatch.told l.fn.watch) (g.W.CleanupWatch.room l.fn.watch) (length l.fn.self) → HasRoom (g.W.CleanupWatch.told l.watch) (g.W.CleanupWatch.room l.watch) (length l.items.items))
    × (g.W.CleanupWatch.room l.watch ≡ g.W.CleanupWatch.room l.fn.watch)

abbrev pub decreases-loop-item : goal.decreases-loop-item
decreases-loop-item g l = length l.items.items
