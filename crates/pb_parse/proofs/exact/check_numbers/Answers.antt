use Rattle.std.proofs.Common.{Some, sym, ap, ◌∙◌}
use Rattle.std.proofs.lemmas.Result.{err_from_is_err_and}
use Rattle.pb_schema.specs.Reads.{fault_read}
use Rattle.pb_parse.proofs.ExactSteps.{numbers_fault, numbers_on}
use Rattle.pb_parse.proofs.exact.check_numbers.Goals as goal

pub returns-in_err-at : goal.returns-in_err-at
returns-in_err-at c =
    let p = err_from_is_err_and c.from_residual.result c.from_residual.ensures.1 in
    ap fault_read p.1
    ∙ (ap Some p.2
    ∙ ap fault_read (sym (numbers_fault c.args.bytes.now c.args.wire c.loop-at.at _ c.loop-at-test.true c.in_err-at.ensures.exact) ∙ c.loop-at.invariant.same))

pub loop-at-preserved : goal.loop-at-preserved
loop-at-preserved c =
    record {
      within = c.in_ok-at.ensures.bound.1;
      same = sym (numbers_on c.args.bytes.now c.args.wire c.loop-at.at c.in_ok-at.at c.in_ok-at.ensures.exact c.in_ok-at.ensures.bound.0 c.in_ok-at.ensures.bound.1) ∙ c.loop-at.invariant.same;
    }
