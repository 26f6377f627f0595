use Rattle.arena_list.specs.contracts.tests.Counter.{the_row}
use Rattle.arena_list.specs.declared.tests.Counter.{Counter}
use Rattle.arena_list.specs.Rule.Founded.{meter}
use Rattle.arena_list.proofs.Worked.{all_back}
use Rattle.arena_list.proofs.tests.closed.Goals as goal

pub close-requires : goal.close-requires
close-requires c = record { all = all_back the_row.coded (meter (λ (x : Counter). x.owner) (λ (x : Counter). x.life) (λ (x : Counter). x.used)) c.args.list c.args.seats.items c.requires.enough c.requires.home }
