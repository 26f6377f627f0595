use Rattle.std.proofs.Common.{take}
use Rattle.arena_list.specs.Rule.Founded.{Differ}
use Rattle.ts_arena.proofs.share.first_repeat.Given as goal

abbrev pub invariant-loop-second : goal.invariant-loop-second
invariant-loop-second l = Differ (take l.second l.callers)
