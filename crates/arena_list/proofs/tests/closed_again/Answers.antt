use Rattle.arena_list.specs.contracts.tests.Counter.{the_row}
use Rattle.arena_list.specs.declared.tests.Counter.{Counter}
use Rattle.arena_list.specs.Rule.Founded.{meter}
use Rattle.arena_list.proofs.Worked.{all_back, home_as}
use Rattle.arena_list.proofs.tests.closed_again.Goals as goal

pub close-requires : goal.close-requires
close-requires c = record { all = all_back the_row.coded (meter (λ (x : Counter). x.owner) (λ (x : Counter). x.life) (λ (x : Counter). x.used)) c.args.list c.args.seats.items c.requires.enough c.requires.home }

pub closed-requires-clause-home : goal.closed-requires-clause-home
closed-requires-clause-home c = let back = c.in-Err.ensures.refused in home_as the_row.coded (meter (λ (x : Counter). x.owner) (λ (x : Counter). x.life) (λ (x : Counter). x.used)) c.args.list c.in-Err.list c.args.seats.items c.in-Err.seats.items back.0 back.1 c.requires.home
