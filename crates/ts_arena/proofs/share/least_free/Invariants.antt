use Rattle.std.proofs.Common.{◌≡◌, ℕ, ◌<◌, true}
use Rattle.arena_list.specs.Rule.Founded.{has}
use Rattle.ts_arena.specs.Sharing.{slots_with}
use Rattle.ts_arena.proofs.share.least_free.Given as goal

abbrev pub invariant-loop-slot : goal.invariant-loop-slot
invariant-loop-slot l = (lower : ℕ) → lower < l.slot → has (slots_with l.owners l.spares) lower ≡ true
