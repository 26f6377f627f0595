use Rattle.std.proofs.Common.{◌≡◌, ◌-◌, ◌≤◌, length}
use Rattle.desc_pool.proofs.Checking.{set_walk}
use Rattle.desc_pool.proofs.check.+message_fault.Given as goal

abbrev pub decreases-message_fault : goal.decreases-message_fault
decreases-message_fault l = l.left

-- from here on the records are read as they are from their start on
abbrev pub invariant-loop-at : goal.invariant-loop-at
invariant-loop-at l =
    record {
      within : l.at ≤ length l.bytes;
      same : set_walk l.left l.descriptor l.bytes l.at ≡ set_walk l.left l.descriptor l.bytes l.fn.start;
    }

abbrev pub decreases-loop-at : goal.decreases-loop-at
decreases-loop-at l = length l.bytes - l.at
