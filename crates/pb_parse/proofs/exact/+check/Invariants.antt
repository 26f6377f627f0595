use Rattle.std.proofs.Common.{◌≡◌, ◌+◌, ◌*◌, ◌-◌, ◌≤◌, length}
use Rattle.pb_parse.proofs.ExactSteps.{message_from}
use Rattle.pb_parse.proofs.exact.+check.Given as goal

abbrev pub decreases-check_contents : goal.decreases-check_contents
decreases-check_contents l = 2 * l.left

abbrev pub decreases-check_message : goal.decreases-check_message
decreases-check_message l = 2 * l.left + 1

-- from here on the message has the fault that it has from the first record on
abbrev pub invariant-check_message-loop-at : goal.invariant-check_message-loop-at
invariant-check_message-loop-at l = record { within : l.at ≤ length l.bytes; same : message_from l.types l.bytes l.type_no l.left l.at ≡ message_from l.types l.bytes l.type_no l.left l.fn.start }

abbrev pub decreases-check_message-loop-at : goal.decreases-check_message-loop-at
decreases-check_message-loop-at l = length l.bytes - l.at
