use Rattle.arena_list.specs.Calls.Outcomes.{IsWalking}
use Rattle.arena_list.specs.Calls.Seats.{view, SameList}
use Rattle.arena_list.proofs.list.ArenaList.find.Given as goal

abbrev pub invariant-loop-left : goal.invariant-loop-left
invariant-loop-left g l = SameList l.initial.seat l.seat × IsWalking (view l.initial.seat) (view l.seat) l.left l.link

abbrev pub decreases-loop-left : goal.decreases-loop-left
decreases-loop-left g l = l.left
