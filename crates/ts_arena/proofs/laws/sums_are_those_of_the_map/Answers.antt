use Rattle.std.proofs.Common.{subst}
use Rattle.ts_arena.specs.Arena.{IsArena}
use Rattle.ts_arena.proofs.Totals.{used_whole, registered_whole}
use Rattle.ts_arena.proofs.laws.sums_are_those_of_the_map.Goals as goal

pub returns-clause-used : goal.returns-clause-used
returns-clause-used c = used_whole c.args.arena.now (subst IsArena c.arena.view_is c.arena.invariant)

pub returns-clause-registered : goal.returns-clause-registered
returns-clause-registered c = registered_whole c.args.arena.now (subst IsArena c.arena.view_is c.arena.invariant)
