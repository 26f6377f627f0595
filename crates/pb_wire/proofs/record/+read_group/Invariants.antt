use Rattle.std.proofs.Common.{◌≡◌, ◌-◌, ◌≤◌, [], Some, length, drop}
use Rattle.pb_schema.specs.Fits.{no_types}
use Rattle.pb_schema.specs.Walk.{in_group, walk_left}
use Rattle.pb_wire.proofs.record.+read_group.Given as goal

abbrev pub decreases-read_group : goal.decreases-read_group
decreases-read_group l = l.left

-- from here on the group ends where it ends from its start on
abbrev pub invariant-loop-at : goal.invariant-loop-at
invariant-loop-at l =
    record {
      behind : l.fn.start ≤ l.at;
      within : l.at ≤ length l.bytes;
      same : walk_left no_types l.left 0 (in_group [] l.number) l.at (drop l.at l.bytes) ≡ walk_left no_types l.left 0 (in_group [] l.number) l.fn.start (drop l.fn.start l.bytes);
    }

abbrev pub decreases-loop-at : goal.decreases-loop-at
decreases-loop-at l = length l.bytes - l.at
