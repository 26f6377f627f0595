use Rattle.std.proofs.Common.{ap, ◌∙◌, arith}
use Rattle.std.proofs.lemmas.List.{take_all}
use Rattle.msg_layout.specs.Slots.{bit_count}
use Rattle.msg_layout.proofs.SlotLaws.{bits_next, counted, not_counted, few_bits_before}
use Rattle.msg_layout.proofs.slots.bit_count.Goals as goal
use Rattle.msg_layout.proofs.slots.bit_count.Goals.{then-has_bit, else-has_bit}

pub overflow_add-bits : goal.overflow_add-bits
overflow_add-bits c = omega (arith, few_bits_before c.args.fields.now c.loop-field.field-index c.requires)

pub loop-field-preserved : goal.loop-field-preserved
loop-field-preserved c =
    bits_next c.args.fields.now c.loop-field.field-index _ c.has_bit.result c.loop-field.bits _ c.loop-field-test.true c.loop-field.invariant c.has_bit.ensures
    (elim c.if-has_bit.branch [
      | then-has_bit w ↦ counted c.has_bit.result c.loop-field.bits c.if-has_bit.bits w.if-has_bit.true w.bits-is
      | else-has_bit w ↦ not_counted c.has_bit.result c.loop-field.bits c.if-has_bit.bits w.if-has_bit.false w.bits-is
    ])

pub returns-clause-value : goal.returns-clause-value
returns-clause-value c = c.loop-field.invariant ∙ ap bit_count (take_all c.loop-field.field-index c.args.fields.now c.loop-field-test.false)

pub returns-clause-few : goal.returns-clause-few
returns-clause-few c = omega (arith, few_bits_before c.args.fields.now c.loop-field.field-index c.requires)
