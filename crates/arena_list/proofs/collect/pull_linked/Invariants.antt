use Rattle.std.proofs.Common.{◌≤◌, vec_capacity}
use Rattle.std.specs.Slots.{slots_items}
use Rattle.arena_list.specs.Words.Core.{slot_count}
use Rattle.arena_list.specs.Closing.Collected.{AreStored}
use Rattle.arena_list.proofs.Closing.Collecting.{IsTaking}
use Rattle.arena_list.proofs.collect.pull_linked.Given as goal

abbrev pub invariant-loop-left : goal.invariant-loop-left
invariant-loop-left g l = (slot_count ≤ vec_capacity l.linked) × ((es : _) → AreStored (slots_items l.closed.words) l.fn.parts.items es → IsTaking es l.fn.parts.items l.parts.items l.linked.items l.left l.link)

abbrev pub decreases-loop-left : goal.decreases-loop-left
decreases-loop-left g l = l.left
