use Rattle.std.proofs.Common.{Some, sym, ap, ◌∙◌, subst}
use Rattle.std.specs.Option.{option_map}
use Rattle.desc_pool.specs.Refusals.{field_name, is_badly_placed}
use Rattle.desc_pool.specs.Rules.{CountsMembers}
use Rattle.desc_pool.proofs.Firsts.{hit_in, miss_in}
use Rattle.desc_pool.proofs.rules.first_badly_placed.Goals as goal

pub returns-then-is_badly_placed : goal.returns-then-is_badly_placed
returns-then-is_badly_placed c =
    let counts = subst (CountsMembers c.args.message.now) (sym c.deref.ensures.value) c.in_ok-counts.ensures in
    ap Some c.in_ok-told.ensures
    ∙ sym (ap (option_map (field_name c.args.message.now)) (hit_in (is_badly_placed c.args.message.now) c.as_slice-field-items.result.now c.args.message.now.fields c.loop-field.field-index c.field-item.result c.as_slice-field-items.ensures c.loop-field.invariant c.loop-field-test.true c.field-item.is (sym (c.is_badly_placed.ensures c.args.message.now counts) ∙ c.if-is_badly_placed.true)))

pub loop-field-preserved : goal.loop-field-preserved
loop-field-preserved c =
    let counts = subst (CountsMembers c.args.message.now) (sym c.deref.ensures.value) c.in_ok-counts.ensures in
    miss_in (is_badly_placed c.args.message.now) c.as_slice-field-items.result.now c.args.message.now.fields c.loop-field.field-index c.field-item.result c.as_slice-field-items.ensures c.loop-field.invariant c.loop-field-test.true c.field-item.is (sym (c.is_badly_placed.ensures c.args.message.now counts) ∙ c.if-is_badly_placed.false)
