use Rattle.std.proofs.Common.{◌++◌, refl}
use Rattle.std.proofs.lemmas.Result.{err_from_is_err_and}
use Rattle.pb_write.specs.Writes.{gathered_in}
use Rattle.pb_write.proofs.Gathering.{part_of_more}
use Rattle.pb_write.proofs.Taken.{Counts-trans}
use Rattle.pb_write.proofs.Writing.{failed_with, passed_on}
use Rattle.pb_write.proofs.sending.gather.Goals as goal

pub returns-in_err-send-clause-written : goal.returns-in_err-send-clause-written
returns-in_err-send-clause-written g c =
    let S = g.S.Sink in
    let p = err_from_is_err_and c.from_residual.result c.from_residual.ensures.1 in
    let before = gathered_in c.args.out.now in
    failed_with (S.taken c.args.sink.now) (S.taken c.send.new.sink) before (gathered_in c.send.new.out) c.args.bytes.now c.from_residual.result p.0 p.1
    (part_of_more (S.taken c.args.sink.now) (S.taken c.send.new.sink) before c.args.bytes.now (before ++ c.args.bytes.now) c.in_err-send.ensures.err refl)

pub returns-clause-written : goal.returns-clause-written
returns-clause-written g c =
    let S = g.S.Sink in
    passed_on (S.taken c.args.sink.now) (S.taken c.send.new.sink) (S.taken c.hand_over.new.sink) (gathered_in c.args.out.now) (gathered_in c.send.new.out) c.args.bytes.now c.hand_over.result
    c.in_ok-send.ensures.longer c.in_ok-send.ensures.ok c.hand_over.ensures.ok c.hand_over.ensures.err c.send.ensures.emptied

pub returns-clause-counted : goal.returns-clause-counted
returns-clause-counted g c =
    let S = g.S.Sink in
    Counts-trans (S.taken c.args.sink.now) (S.taken c.send.new.sink) (S.taken c.hand_over.new.sink) c.args.out.now.taken c.send.new.out.taken c.hand_over.new.taken c.in_ok-send.ensures.counted c.hand_over.ensures.counted
