use Rattle.arena_list.proofs.Closing.Collecting.{IsPlacing}
use Rattle.std.proofs.Common.{length}
use Rattle.arena_list.proofs.collect.place_others.Given as goal

abbrev pub invariant-loop-other : goal.invariant-loop-other
invariant-loop-other g l = IsPlacing l.initial.others.items l.others.items l.initial.parts.items l.parts.items

abbrev pub decreases-loop-other : goal.decreases-loop-other
decreases-loop-other g l = length l.others.items
