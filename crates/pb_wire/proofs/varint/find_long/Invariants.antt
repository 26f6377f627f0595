use Rattle.pb_wire.proofs.Reading.{ReadTo}
use Rattle.pb_wire.proofs.varint.find_long.Given as goal

abbrev pub invariant-loop-i : goal.invariant-loop-i
invariant-loop-i l = ReadTo l.bytes l.start l.most l.i l.value
