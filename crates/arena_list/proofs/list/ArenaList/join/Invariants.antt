use Rattle.std.proofs.Common.{◌-◌, length}
use Rattle.arena_list.specs.Words.Core.{slot_count}
use Rattle.arena_list.specs.Calls.Outcomes.{HasTried}
use Rattle.arena_list.specs.Calls.Seats.{view, SameList}
use Rattle.arena_list.proofs.list.ArenaList.join.Given as goal

abbrev pub invariant-loop : goal.invariant-loop
invariant-loop g l = SameList l.initial.seat l.seat × HasTried (view l.initial.seat) (view l.seat)

abbrev pub decreases-loop : goal.decreases-loop
decreases-loop g l = slot_count - length (view l.seat).seen
