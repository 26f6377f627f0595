use Rattle.std.proofs.Common.{◌≡◌, take, sum_by}
use Rattle.ts_arena.specs.Arena.{used_at, allocated_at, registered_at}
use Rattle.ts_arena.specs.Sums.{AreSmall}
use Rattle.ts_arena.proofs.arena.sums_by.Given as goal

abbrev pub invariant-loop-entry : goal.invariant-loop-entry
invariant-loop-entry l = (l.sums.used ≡ sum_by used_at (take l.entry-index l.owners)) × (l.sums.allocated ≡ sum_by allocated_at (take l.entry-index l.owners)) × (l.sums.registered ≡ sum_by registered_at (take l.entry-index l.owners)) × AreSmall l.sums l.entry-index
