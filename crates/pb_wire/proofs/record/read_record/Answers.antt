use Rattle.std.proofs.Common.{◌-◌, Err, ap, ◌∙◌, arith}
use Rattle.std.proofs.lemmas.Result.{err_from_is_err_and}
use Rattle.pb_wire.proofs.Walking.{record_group_fault, record_group}
use Rattle.pb_wire.proofs.record.read_record.Goals as goal

pub returns-in_err-stop-clause-exact : goal.returns-in_err-stop-clause-exact
returns-in_err-stop-clause-exact c =
    let p = err_from_is_err_and c.from_residual-in_err-stop.result c.from_residual-in_err-stop.ensures.1 in
    p.1
    ∙ (ap Err p.2
    ∙ record_group_fault c.args.bytes.now (100 - c.args.depth) c.args.start c.in_ok-form.form _ c.in_ok-form.ensures.exact c.if-form-ne-GROUP_START.false (omega (arith, c.if-depth-ge-MOST_LEVELS.false)) c.in_err-stop.ensures.exact)

pub returns-clause-exact : goal.returns-clause-exact
returns-clause-exact c =
    record_group c.args.bytes.now (100 - c.args.depth) c.args.start c.in_ok-form.form c.in_ok-stop.stop c.in_ok-stop.end c.in_ok-form.ensures.exact c.if-form-ne-GROUP_START.false (omega (arith, c.if-depth-ge-MOST_LEVELS.false)) c.in_ok-stop.ensures.exact (omega (arith, c.in_ok-stop.ensures.bound, c.in_ok-form.ensures.bound))
