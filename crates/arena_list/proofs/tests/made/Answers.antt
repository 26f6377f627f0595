use Rattle.arena_list.specs.contracts.tests.Counter.{the_row}
use Rattle.arena_list.specs.declared.tests.Counter.{Counter}
use Rattle.arena_list.specs.Rule.Founded.{meter}
use Rattle.arena_list.proofs.Worked.{all_home}
use Rattle.arena_list.proofs.tests.made.Goals as goal

pub returns-in-Ok-clause-home : goal.returns-in-Ok-clause-home
returns-in-Ok-clause-home c = all_home the_row.coded (meter (λ (x : Counter). x.owner) (λ (x : Counter). x.life) (λ (x : Counter). x.used)) c.args.linked.items c.args.spare.items c.args.callers.now c.in-Ok.made.0 c.in-Ok.made.1.items c.in-Ok.ensures.seats
