use Rattle.std.proofs.Common.{arith}
use Rattle.ts_arena.proofs.Sharing.{few_owners}
use Rattle.ts_arena.proofs.arena.Arena.owners.Goals as goal

pub overflow_cast-result : goal.overflow_cast-result
overflow_cast-result c = let f = few_owners _ _ _ c.self.invariant.owners in let n = c.len.ensures in omega arith
