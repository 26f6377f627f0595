use Rattle.std.proofs.Common.{arith, ap, sym, ◌∙◌, ◌≢◌}
use Rattle.atomic_table.proofs.Lists.{at_index}
use Rattle.arena_list.proofs.Words.Lists.{at_one, at_below}
use Rattle.arena_list.proofs.Calls.Searches.{and_here}
use Rattle.arena_list.proofs.make.seat_of.Goals as goal

pub returns-then-seat-caller-clause-found : goal.returns-then-seat-caller-clause-found
returns-then-seat-caller-clause-found c = λ s at. let here = at_index c.args.seats.now _ c.index-seats-at.result c.loop-at-test.true c.index-seats-at.is in
    ap (λ x. x.caller) (sym (at_one c.args.seats.now _ _ s here at)) ∙ c.if-seat-caller.true

pub loop-at-preserved : goal.loop-at-preserved
loop-at-preserved c = and_here (λ s. s.caller ≢ c.args.caller) c.args.seats.now c.loop-at.at c.index-seats-at.result c.loop-at-test.true c.index-seats-at.is c.loop-at.invariant c.if-seat-caller.false

pub returns-clause-found : goal.returns-clause-found
returns-clause-found c = λ s at. absurd (let b = at_below c.args.seats.now _ s at in omega arith)
