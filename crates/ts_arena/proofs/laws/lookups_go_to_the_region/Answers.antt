use Rattle.std.proofs.Common.{subst}
use Rattle.ts_arena.specs.Arena.{IsArena}
use Rattle.ts_arena.proofs.Whole.{places_of_part, buffers_of_part, blocks_of_part, place_there, buffer_there}
use Rattle.ts_arena.proofs.laws.lookups_go_to_the_region.Goals as goal

pub returns-clause-places : goal.returns-clause-places
returns-clause-places c = λ s p there same. places_of_part c.args.arena.now (subst IsArena c.arena.view_is c.arena.invariant) s there p same

pub returns-clause-buffers : goal.returns-clause-buffers
returns-clause-buffers c = λ s b there same. buffers_of_part c.args.arena.now (subst IsArena c.arena.view_is c.arena.invariant) s there b same

pub returns-clause-blocks : goal.returns-clause-blocks
returns-clause-blocks c = λ s there. blocks_of_part c.args.arena.now (subst IsArena c.arena.view_is c.arena.invariant) s there

pub returns-clause-live : goal.returns-clause-live
returns-clause-live c = λ p live. place_there c.args.arena.now p live

pub returns-clause-kept : goal.returns-clause-kept
returns-clause-kept c = λ b kept. buffer_there c.args.arena.now b kept
