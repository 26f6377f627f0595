use Rattle.std.proofs.Common.{Some, sym, ap, ◌∙◌}
use Rattle.std.specs.Option.{option_map}
use Rattle.desc_pool.specs.Refusals.{field_name}
use Rattle.desc_pool.specs.Rules.{breaks}
use Rattle.desc_pool.proofs.Firsts.{hit_in, miss_in}
use Rattle.desc_pool.proofs.rules.first_breaking.Goals as goal

pub returns-then-breaks : goal.returns-then-breaks
returns-then-breaks c =
    ap Some c.in_ok-told.ensures
    ∙ sym (ap (option_map (field_name c.args.message.now)) (hit_in (breaks c.args.rule c.args.names.now.list) c.as_slice-field-items.result.now c.args.message.now.fields c.loop-field.field-index c.field-item.result c.as_slice-field-items.ensures c.loop-field.invariant c.loop-field-test.true c.field-item.is (sym c.breaks.ensures ∙ c.if-breaks.true)))

pub loop-field-preserved : goal.loop-field-preserved
loop-field-preserved c =
    miss_in (breaks c.args.rule c.args.names.now.list) c.as_slice-field-items.result.now c.args.message.now.fields c.loop-field.field-index c.field-item.result c.as_slice-field-items.ensures c.loop-field.invariant c.loop-field-test.true c.field-item.is (sym c.breaks.ensures ∙ c.if-breaks.false)
