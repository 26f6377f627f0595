use Rattle.std.proofs.Common.{◌≡◌, take}
use Rattle.msg_layout.specs.Slots.{bit_count}
use Rattle.msg_layout.proofs.slots.bit_count.Given as goal

abbrev pub invariant-loop-field : goal.invariant-loop-field
invariant-loop-field l = l.bits ≡ bit_count (take l.field-index l.fields)
