use Rattle.std.proofs.Common.{◌≤◌, ◌++◌, take, vec_capacity}
use Rattle.arena_list.specs.Words.Core.{slot_count}
use Rattle.ts_arena.specs.Arena.{AreHeld}
use Rattle.ts_arena.specs.Sharing.{AreSpares}
use Rattle.ts_arena.proofs.share.make_spares.Given as goal

abbrev pub invariant-loop-who : goal.invariant-loop-who
invariant-loop-who l = AreSpares l.policy l.life l.owners (take l.who-index l.callers) l.spares.items × AreHeld l.life l.policy (l.owners ++ l.spares.items) × (slot_count ≤ vec_capacity l.spares)
