use Rattle.arena_list.specs.Rule.Founded.{meter}
use Rattle.arena_list.specs.declared.tests.Counter.{Counter}
use Rattle.arena_list.proofs.Worked.{AreSpares}
use Rattle.arena_list.proofs.tests.spares.Given as goal

abbrev pub invariant-loop-slot : goal.invariant-loop-slot
invariant-loop-slot l = AreSpares (meter (λ (c : Counter). c.owner) (λ (c : Counter). c.life) (λ (c : Counter). c.used)) l.spare.items l.callers.items l.slot
