-- The table tells of the entries so far.
use Rattle.std.proofs.Common.{take}
use Rattle.msg_layout.specs.Find.{Tells}
use Rattle.msg_layout.proofs.find.near_table.Given as goal

abbrev pub invariant-loop-i : goal.invariant-loop-i
invariant-loop-i l = Tells l.entries l.near.items (take l.i l.entries)
