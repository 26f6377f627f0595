use Rattle.std.proofs.Common.{arith}
use Rattle.serial_arena.proofs.Names.{used_is}
use Rattle.ts_arena.proofs.lease.Lease.leave.Goals as goal

pub give_slot-requires-clause-out : goal.give_slot-requires-clause-out
give_slot-requires-clause-out c = let o = c.self.invariant in let same = used_is c.self.inside.part c.boxed_arena_is_laid.ensures.laid in let grown = o.grown in (o.taken, o.out_is, omega arith)
