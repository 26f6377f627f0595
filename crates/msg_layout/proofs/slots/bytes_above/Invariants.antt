use Rattle.std.proofs.Common.{◌≡◌, take}
use Rattle.std.specs.Prelude.{nat_lt}
use Rattle.msg_layout.specs.Slots.{bytes_where}
use Rattle.msg_layout.proofs.slots.bytes_above.Given as goal

abbrev pub invariant-loop-field : goal.invariant-loop-field
invariant-loop-field l = l.sum ≡ bytes_where (λ other. nat_lt l.bytes other) (take l.field-index l.fields)
