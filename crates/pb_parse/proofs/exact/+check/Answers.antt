use Rattle.std.proofs.Common.{Some, sym, ap, ◌∙◌, arith}
use Rattle.std.proofs.lemmas.Result.{err_from_is_err_and}
use Rattle.pb_schema.specs.Reads.{fault_read}
use Rattle.pb_parse.specs.Contents.{meant}
use Rattle.pb_parse.proofs.ExactSteps.{message_bad, message_held_bad, message_on, message_over, numbers_held, text_held, message_held}
use Rattle.pb_parse.proofs.exact.+check.Goals as goal

pub check_contents-returns-in-Numbers : goal.check_contents-returns-in-Numbers
check_contents-returns-in-Numbers t c =
    c.check_numbers.ensures ∙ numbers_held c.args.types.now c.args.left c.args.found.now c.args.bytes.now c.args.contents c.in-Numbers.wire c.in-Numbers.is c.requires.within

pub check_contents-returns-in-Text : goal.check_contents-returns-in-Text
check_contents-returns-in-Text t c =
    c.check_text.ensures ∙ text_held c.args.types.now c.args.left c.args.found.now c.args.bytes.now c.args.contents c.in-Text.is c.requires.within

pub check_contents-returns-else-left-eq0 : goal.check_contents-returns-else-left-eq0
check_contents-returns-else-left-eq0 t c =
    c.check_message.ensures ∙ message_held c.args.types.now c.args.left c.args.found.now c.args.bytes.now c.args.contents c.in-Message.type_no c.in-Message.is c.if-left-eq0.false c.requires.within

pub check_message-returns-in_err-found : goal.check_message-returns-in_err-found
check_message-returns-in_err-found t c =
    let p = err_from_is_err_and c.from_residual.result c.from_residual.ensures.1 in
    ap fault_read p.1
    ∙ (ap Some p.2
    ∙ ap fault_read (sym (message_bad c.args.types.now c.args.bytes.now c.args.type_no c.args.left c.loop-at.at _ c.requires.left c.loop-at-test.true c.in_err-found.ensures.exact) ∙ c.loop-at.invariant.same))

pub check_message-returns-in_err-check_contents : goal.check_message-returns-in_err-check_contents
check_message-returns-in_err-check_contents t c =
    let p = err_from_is_err_and c.from_residual-in_err-check_contents.result c.from_residual-in_err-check_contents.ensures.1 in
    ap fault_read p.1
    ∙ (ap Some p.2
    ∙ ap fault_read
    (sym (message_held_bad c.args.types.now c.args.bytes.now c.args.type_no c.args.left c.loop-at.at c.in_ok-found.found (meant c.contents_of-contents.result) _ c.requires.left c.loop-at-test.true c.in_ok-found.ensures.exact c.contents_of-contents.ensures.exact c.in_err-check_contents.ensures)
    ∙ c.loop-at.invariant.same))

pub check_message-loop-at-preserved : goal.check_message-loop-at-preserved
check_message-loop-at-preserved t c =
    record {
      within = c.in_ok-found.ensures.bound.2;
      same =
          sym (message_on c.args.types.now c.args.bytes.now c.args.type_no c.args.left c.loop-at.at c.in_ok-found.found (meant c.contents_of-contents.result) c.requires.left c.in_ok-found.ensures.exact c.contents_of-contents.ensures.exact c.in_ok-check_contents.ensures)
          ∙ c.loop-at.invariant.same;
    }

pub check_message-returns : goal.check_message-returns
check_message-returns t c =
    ap fault_read (sym (message_over c.args.types.now c.args.bytes.now c.args.type_no c.args.left c.loop-at.at (omega (arith, c.loop-at-test.false))) ∙ c.loop-at.invariant.same)
