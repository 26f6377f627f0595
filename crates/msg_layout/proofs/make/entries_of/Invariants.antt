-- The entries of the fields so far, and the next slot of each size behind theirs.
use Rattle.std.proofs.Common.{◌≡◌, [], length, take}
use Rattle.msg_layout.specs.Slots.{bit_count}
use Rattle.msg_layout.specs.Layout.{SlotsAfter, entries_from}
use Rattle.msg_layout.proofs.make.entries_of.Given as goal

abbrev pub invariant-loop-field : goal.invariant-loop-field
invariant-loop-field l = record {
  entries : l.entries.items ≡ entries_from l.ty [] (take l.field-index l.fields);
  next : SlotsAfter l.ty (take l.field-index l.fields) l.next;
  sizes : length l.next ≡ 25;
  bits : l.bits ≡ bit_count (take l.field-index l.fields);
}
