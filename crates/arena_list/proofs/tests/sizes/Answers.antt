use Rattle.std.specs.Prelude.{slice_index_or}
use Rattle.arena_list.proofs.Worked.{home_kept}
use Rattle.std.proofs.lemmas.List.Elements.{All-set}
use Rattle.arena_list.specs.contracts.tests.Counter.{the_row}
use Rattle.arena_list.specs.declared.tests.Counter.{Counter}
use Rattle.arena_list.specs.Rule.Founded.{meter}
use Rattle.arena_list.specs.Calls.Seats.{IsHome}
use Rattle.arena_list.proofs.tests.sizes.Goals as goal

pub returns-clause-home : goal.returns-clause-home
returns-clause-home c = let m = (meter (λ (x : Counter). x.owner) (λ (x : Counter). x.life) (λ (x : Counter). x.used)) in let list = c.args.list.now in let s = slice_index_or c.args.seats.now c.args.at c.index-seats-at.result in
    All-set (IsHome the_row.coded (meter (λ (x : Counter). x.owner) (λ (x : Counter). x.life) (λ (x : Counter). x.used)) list) c.args.seats.now c.args.at c.sizes.new.seat (home_kept the_row.coded (meter (λ (x : Counter). x.owner) (λ (x : Counter). x.life) (λ (x : Counter). x.used)) list s c.sizes.new.seat c.sizes.ensures.list c.sizes.ensures.summed.hands c.sizes.ensures.summed.base (c.requires.home c.args.at c.index-seats-at.result c.requires.within)) c.requires.home
