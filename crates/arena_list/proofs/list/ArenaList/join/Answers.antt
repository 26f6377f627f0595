use Rattle.std.proofs.Common.{rules, ap, ◌∙◌}
use Rattle.arena_list.specs.Marks.OfParts.{marks}
use Rattle.arena_list.specs.Rule.Views.{hand}
use Rattle.arena_list.specs.Calls.Seats.{view}
use Rattle.arena_list.proofs.Calls.SeatFacts.{mine_none, seen_own}
use Rattle.arena_list.proofs.Calls.Walks.{tries_end}
use Rattle.arena_list.proofs.list.ArenaList.join.Goals as goal

pub returns-clause-joined : goal.returns-clause-joined
returns-clause-joined g c = let o = c.loop.invariant.1 in let is = c.try_link.ensures.linked (search rules) in let seated = c.try_link.new.seat.seated in
    tries_end (view c.args.seat.now) marks (view c.loop.seat) (view c.try_link.new.seat) c.try_link.new.seat.slot o is.0 is.1 (mine_none (view c.args.seat.now) c.requires.spare) seated.few (seated.slot_is ∙ ap (λ x. (hand x).slot) is.0 ∙ o.slot) (seen_own marks seated)
