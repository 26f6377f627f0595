use Rattle.std.proofs.Common.{◌-◌, length}
use Rattle.desc_pool.proofs.Reading.{ReadTo}
use Rattle.desc_pool.proofs.records.read_records.Given as goal

abbrev pub invariant-loop-at : goal.invariant-loop-at
invariant-loop-at l = ReadTo l.fn.descriptor l.depth l.bytes l.at l.records.items

abbrev pub decreases-loop-at : goal.decreases-loop-at
decreases-loop-at l = length l.bytes - l.at
