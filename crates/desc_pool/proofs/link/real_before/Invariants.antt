use Rattle.desc_pool.proofs.Members.{RealTo}
use Rattle.desc_pool.proofs.link.real_before.Given as goal

abbrev pub invariant-loop-i : goal.invariant-loop-i
invariant-loop-i l = RealTo l.message l.i l.before.items l.count
