use Rattle.std.proofs.Common.{◌≡◌, ◌+◌, ◌≤◌, length, map, reverse, vec_capacity}
use Rattle.arena_list.specs.Closing.Collected.{AreIn, place_of}
use Rattle.arena_list.proofs.Closing.Collecting.{IsPulling}
use Rattle.arena_list.proofs.collect.pull_spares.Given as goal

abbrev pub invariant-loop-slot : goal.invariant-loop-slot
invariant-loop-slot g l = (length l.spare.items + length l.spare_slots.items ≤ vec_capacity l.spare)
    × ((es : _) → l.fn.spare_slots.items ≡ reverse (map place_of es) → AreIn l.fn.parts.items es → IsPulling es l.fn.parts.items l.parts.items l.spare_slots.items l.spare.items)

abbrev pub decreases-loop-slot : goal.decreases-loop-slot
decreases-loop-slot g l = length l.spare_slots.items
