use Rattle.std.proofs.Common.{◌≡◌, ◌≤◌, take}
use Rattle.ts_arena.specs.Sharing.{asked_of}
use Rattle.ts_arena.proofs.share.count_asked.Given as goal

abbrev pub invariant-loop-who : goal.invariant-loop-who
invariant-loop-who l = (l.asked ≡ asked_of l.owners (take l.who-index l.callers)) × (l.asked ≤ l.who-index)
