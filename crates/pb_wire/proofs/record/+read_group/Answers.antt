use Rattle.std.proofs.Common.{Err, sym, ap, ◌∙◌, arith}
use Rattle.std.proofs.lemmas.Result.{err_from_is_err_and}
use Rattle.pb_wire.proofs.Walking.{group_fault, group_ends, group_of_another, group_group_fault, group_group_more, group_plain_more, group_cut}
use Rattle.pb_wire.proofs.record.+read_group.Goals as goal

pub returns-in_err-form-clause-exact : goal.returns-in_err-form-clause-exact
returns-in_err-form-clause-exact t c =
    let p = err_from_is_err_and c.from_residual.result c.from_residual.ensures.1 in
    p.1 ∙ (ap Err p.2 ∙ (sym (group_fault c.args.bytes.now c.args.left c.args.number c.loop-at.at _ c.loop-at-test.true c.in_err-form.ensures.exact) ∙ c.loop-at.invariant.same))

pub returns-then-form-number-clause-exact : goal.returns-then-form-number-clause-exact
returns-then-form-number-clause-exact t c =
    sym (group_ends c.args.bytes.now c.args.left c.args.number c.loop-at.at c.in_ok-form.form c.loop-at-test.true c.in_ok-form.ensures.exact c.if-form-eq-GROUP_END.true c.if-form-number.true) ∙ c.loop-at.invariant.same

pub returns-then-form-eq-GROUP_END-clause-exact : goal.returns-then-form-eq-GROUP_END-clause-exact
returns-then-form-eq-GROUP_END-clause-exact t c =
    sym (group_of_another c.args.bytes.now c.args.left c.args.number c.loop-at.at c.in_ok-form.form c.loop-at-test.true c.in_ok-form.ensures.exact c.if-form-eq-GROUP_END.true c.if-form-number.false) ∙ c.loop-at.invariant.same

pub returns-in_err-end-clause-exact : goal.returns-in_err-end-clause-exact
returns-in_err-end-clause-exact t c =
    let p = err_from_is_err_and c.from_residual-in_err-end.result c.from_residual-in_err-end.ensures.1 in
    p.1 ∙ (ap Err p.2
    ∙ (sym (group_group_fault c.args.bytes.now c.args.left c.args.number c.loop-at.at c.in_ok-form.form _ c.loop-at-test.true c.in_ok-form.ensures.exact c.if-form-eq-GROUP_START.true (omega (arith, c.if-left-eq0.false)) c.in_err-end.ensures.exact)
    ∙ c.loop-at.invariant.same))

pub loop-at-preserved-then-form-eq-GROUP_START : goal.loop-at-preserved-then-form-eq-GROUP_START
loop-at-preserved-then-form-eq-GROUP_START t c =
    let more = c.in_ok-end.ensures.bound in
    let form = c.in_ok-form.ensures.bound in
    record {
      behind = omega (arith, more, form, c.loop-at.invariant.behind);
      within = omega (arith, more);
      same =
          sym (group_group_more c.args.bytes.now c.args.left c.args.number c.loop-at.at c.in_ok-form.form _ c.in_ok-end.end c.loop-at-test.true c.in_ok-form.ensures.exact c.if-form-eq-GROUP_START.true (omega (arith, c.if-left-eq0.false)) c.in_ok-end.ensures.exact (omega (arith, more, form)) (omega (arith, more)))
          ∙ c.loop-at.invariant.same;
    }

pub loop-at-preserved : goal.loop-at-preserved
loop-at-preserved t c =
    let form = c.in_ok-form.ensures.bound in
    record {
      behind = omega (arith, form, c.loop-at.invariant.behind);
      within = omega (arith, form);
      same =
          sym (group_plain_more c.args.bytes.now c.args.left c.args.number c.loop-at.at c.in_ok-form.form c.loop-at-test.true c.in_ok-form.ensures.exact c.if-form-eq-GROUP_START.false c.if-form-eq-GROUP_END.false (omega (arith, form)) (omega (arith, form)))
          ∙ c.loop-at.invariant.same;
    }

pub returns-clause-exact : goal.returns-clause-exact
returns-clause-exact t c = sym (group_cut c.args.bytes.now c.args.left c.args.number c.loop-at.at c.loop-at.invariant.within (omega (arith, c.loop-at-test.false))) ∙ c.loop-at.invariant.same
