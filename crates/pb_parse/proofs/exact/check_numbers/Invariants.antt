use Rattle.std.proofs.Common.{◌≡◌, ◌-◌, ◌≤◌, length}
use Rattle.pb_parse.proofs.ExactSteps.{numbers_from}
use Rattle.pb_parse.proofs.exact.check_numbers.Given as goal

-- from here on the numbers end as they do from the first on
abbrev pub invariant-loop-at : goal.invariant-loop-at
invariant-loop-at l = record { within : l.at ≤ length l.bytes; same : numbers_from l.bytes l.wire l.at ≡ numbers_from l.bytes l.wire l.fn.start }

abbrev pub decreases-loop-at : goal.decreases-loop-at
decreases-loop-at l = length l.bytes - l.at
