use Rattle.std.proofs.lemmas.List.Elements.{All-set}
use Rattle.arena_list.specs.contracts.tests.Counter.{the_row}
use Rattle.arena_list.specs.declared.tests.Counter.{Counter}
use Rattle.arena_list.specs.Rule.Founded.{meter}
use Rattle.arena_list.specs.Calls.Seats.{IsHome}
use Rattle.arena_list.proofs.tests.work.Goals as goal

pub returns-clause-home : goal.returns-clause-home
returns-clause-home c = All-set (IsHome the_row.coded (meter (λ (x : Counter). x.owner) (λ (x : Counter). x.life) (λ (x : Counter). x.used)) c.args.list.now) c.args.seats.now c.args.at c.fill.new.seat c.fill.ensures c.requires.home
