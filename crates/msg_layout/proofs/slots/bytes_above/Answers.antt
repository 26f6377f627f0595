use Rattle.std.proofs.Common.{ap, ltb, ◌∙◌, arith}
use Rattle.std.proofs.lemmas.List.{take_all}
use Rattle.msg_layout.specs.Slots.{bytes_where}
use Rattle.msg_layout.proofs.SlotLaws.{bytes_next, bytes_counted, bytes_not_counted, few_bytes_before}
use Rattle.msg_layout.proofs.slots.bytes_above.Goals as goal
use Rattle.msg_layout.proofs.slots.bytes_above.Goals.{then-own-bytes, else-own-bytes}

pub overflow_add-sum : goal.overflow_add-sum
overflow_add-sum c =
    omega (arith, few_bytes_before (λ other. ltb c.args.bytes other) c.args.fields.now c.loop-field.field-index c.requires)

pub loop-field-preserved : goal.loop-field-preserved
loop-field-preserved c =
    bytes_next c.args.bytes c.args.fields.now c.loop-field.field-index _ c.slot_bytes-own.result c.loop-field.sum _ c.loop-field-test.true c.loop-field.invariant c.slot_bytes-own.ensures.value
    (elim c.if-own-bytes.branch [
      | then-own-bytes w ↦ bytes_counted c.args.bytes c.slot_bytes-own.result c.loop-field.sum c.if-own-bytes.sum w.if-own-bytes.true w.sum-is
      | else-own-bytes w ↦ bytes_not_counted c.args.bytes c.slot_bytes-own.result c.loop-field.sum c.if-own-bytes.sum w.if-own-bytes.false w.sum-is
    ])

pub returns-clause-value : goal.returns-clause-value
returns-clause-value c =
    c.loop-field.invariant ∙ ap (bytes_where (λ other. ltb c.args.bytes other)) (take_all c.loop-field.field-index c.args.fields.now c.loop-field-test.false)

pub returns-clause-few : goal.returns-clause-few
returns-clause-few c = omega (arith, few_bytes_before (λ other. ltb c.args.bytes other) c.args.fields.now c.loop-field.field-index c.requires)
