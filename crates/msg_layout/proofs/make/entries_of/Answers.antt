-- One field more: its entry is pushed, and the next slot of its size moves on.
use Rattle.std.proofs.Common.{◌≡◌, ◌∙◌, [], ap, length, get_or, take, arith}
use Rattle.std.proofs.Math.ListN.{length-set}
use Rattle.std.proofs.lemmas.List.{take_all}
use Rattle.msg_layout.specs.Layout.{entries_from}
use Rattle.msg_layout.proofs.FindLaws.{ascending_entries, few_entries}
use Rattle.msg_layout.proofs.SlotLaws.{bits_next, counted, not_counted, few_bits_before}
use Rattle.msg_layout.proofs.LayoutLaws.{past_end, entries_next, slots_next_taken, next_slot, next_small, mark_next, words_fit}
use Rattle.msg_layout.proofs.make.entries_of.Goals as goal
use Rattle.msg_layout.proofs.make.entries_of.Goals.{then-has_bit, else-has_bit}

pub overflow_add-next : goal.overflow_add-next
overflow_add-next c =
    let small = next_small c.args.ty.now c.requires.allowed c.items-fields.result.now c.items-fields.ensures c.loop-field.field-index (get_or c.items-fields.result.now c.loop-field.field-index past_end) c.loop-field.next c.slot_bytes-own.result c.loop-field.invariant.next c.slot_bytes-own.ensures.value in
    omega (arith, small, c.slot_bytes-own.ensures.few)

pub mark_with-mark-requires : goal.mark_with-mark-requires
mark_with-mark-requires c =
    words_fit c.args.ty.now c.bit_bytes-bytes.result c.bit_bytes-bytes.ensures.small c.requires.allowed c.items-fields.result.now c.items-fields.ensures c.loop-field.field-index past_end c.loop-field-test.true

pub overflow_add-bits : goal.overflow_add-bits
overflow_add-bits c =
    omega (arith, few_bits_before c.items-fields.result.now c.loop-field.field-index (omega (arith, ap length c.items-fields.ensures, c.requires.allowed.1.size)))

pub loop-field-preserved : goal.loop-field-preserved
loop-field-preserved c = record {
  entries = c.in_ok-push.ensures.items ∙ entries_next c.args.ty.now c.items-fields.result.now c.items-fields.ensures c.loop-field.field-index past_end c.loop-field.entries.items _ c.mark_with-mark.result c.loop-field-test.true
      c.loop-field.invariant.entries
      (next_slot c.args.ty.now (take c.loop-field.field-index c.items-fields.result.now) (get_or c.items-fields.result.now c.loop-field.field-index past_end) c.loop-field.next c.slot_bytes-own.result c.loop-field.invariant.next c.slot_bytes-own.ensures.value)
      (mark_next c.args.ty.now (take c.loop-field.field-index c.items-fields.result.now) (get_or c.items-fields.result.now c.loop-field.field-index past_end) c.bit_bytes-bytes.result c.loop-field.bits c.mark_with-mark.result c.bit_bytes-bytes.ensures.value c.loop-field.invariant.bits c.mark_with-mark.ensures);
  next = slots_next_taken c.args.ty.now c.items-fields.result.now c.loop-field.field-index past_end c.loop-field.next c.slot_bytes-own.result c.loop-field-test.true c.loop-field.invariant.next c.loop-field.invariant.sizes
      c.slot_bytes-own.ensures.value;
  sizes = simp length-set c.loop-field.invariant.sizes;
  bits = bits_next c.items-fields.result.now c.loop-field.field-index past_end c.has_bit.result c.loop-field.bits _ c.loop-field-test.true c.loop-field.invariant.bits c.has_bit.ensures
      (elim c.if-has_bit.branch [
        | then-has_bit w ↦ counted c.has_bit.result c.loop-field.bits c.if-has_bit.bits w.if-has_bit.true w.bits-is
        | else-has_bit w ↦ not_counted c.has_bit.result c.loop-field.bits c.if-has_bit.bits w.if-has_bit.false w.bits-is
      ]);
}

-- after the loop the entries are those of all fields
all_entries : (c : goal.After-loop-field) → c.loop-field.entries.items ≡ entries_from c.args.ty.now [] c.args.ty.now.fields
all_entries c =
    c.loop-field.invariant.entries
    ∙ ap (entries_from c.args.ty.now []) (take_all c.loop-field.field-index c.items-fields.result.now c.loop-field-test.false ∙ c.items-fields.ensures)

pub returns-clause-ascending : goal.returns-clause-ascending
returns-clause-ascending c = ascending_entries c.args.ty.now c.requires.allowed c.loop-field.entries.items (all_entries c)

pub returns-clause-few : goal.returns-clause-few
returns-clause-few c = few_entries c.args.ty.now c.requires.allowed c.loop-field.entries.items (all_entries c)
