use Rattle.std.proofs.Common.{◌∙◌, Some, sym, ap}
use Rattle.std.specs.BTreeMap.{get}
use Rattle.std.specs.Ordering.{nat_cmp}
use Rattle.std.specs.Option.{is_some, option_map}
use Rattle.desc_pool.specs.Refusals.{field_name}
use Rattle.desc_pool.proofs.Repeated.{noted_twice, noted_once}
use Rattle.desc_pool.proofs.rules.first_repeated.Goals as goal

pub returns-then-is_some : goal.returns-then-is_some
returns-then-is_some c =
    ap Some c.in_ok-told.ensures
    ∙ sym (ap (option_map (field_name c.args.message.now)) (noted_twice c.args.message.now.fields c.as_slice-field-items.result.now c.loop-field.field-index c.field-item.result (get nat_cmp c.loop-field.numbers) c.as_slice-field-items.ensures c.loop-field-test.true c.field-item.is c.loop-field.invariant
    (ap is_some (sym c.in_ok-earlier.ensures.old) ∙ (sym c.is_some.ensures ∙ c.if-is_some.true))))

pub loop-field-preserved : goal.loop-field-preserved
loop-field-preserved c =
    noted_once c.args.message.now.fields c.as_slice-field-items.result.now c.loop-field.field-index c.field-item.result (get nat_cmp c.loop-field.numbers) (get nat_cmp c.insert.new.self) c.as_slice-field-items.ensures c.loop-field-test.true c.field-item.is c.loop-field.invariant
    (ap is_some (sym c.in_ok-earlier.ensures.old) ∙ (sym c.is_some.ensures ∙ c.if-is_some.false)) c.in_ok-earlier.ensures.updates.0
