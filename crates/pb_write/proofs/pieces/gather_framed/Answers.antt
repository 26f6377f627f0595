use Rattle.std.proofs.Common.{length, refl}
use Rattle.std.proofs.lemmas.Result.{err_from_is_err_and}
use Rattle.pb_schema.specs.Text.{framed}
use Rattle.pb_schema.specs.Varint.{varint_of}
use Rattle.pb_write.specs.Writes.{gathered_in}
use Rattle.pb_write.proofs.Writing.{failed_first, failed_with, writes_last}
use Rattle.pb_write.proofs.pieces.gather_framed.Goals as goal

pub returns-in_err-gather_varint-clause-written : goal.returns-in_err-gather_varint-clause-written
returns-in_err-gather_varint-clause-written g c =
    let S = g.S.Sink in
    let p = err_from_is_err_and c.from_residual.result c.from_residual.ensures.1 in
    failed_with (S.taken c.args.sink.now) (S.taken c.gather_varint.new.sink) (gathered_in c.args.out.now) (gathered_in c.gather_varint.new.out) (framed c.args.bytes.now) c.from_residual.result p.0 p.1
    (failed_first (S.taken c.args.sink.now) (S.taken c.gather_varint.new.sink) (gathered_in c.args.out.now) (varint_of (length c.args.bytes.now)) c.args.bytes.now (framed c.args.bytes.now) c.in_err-gather_varint.ensures.written.err refl)

pub returns-clause-written : goal.returns-clause-written
returns-clause-written g c =
    let S = g.S.Sink in
    writes_last (S.taken c.args.sink.now) (S.taken c.gather_varint.new.sink) (S.taken c.gather.new.sink) (gathered_in c.args.out.now) (gathered_in c.gather_varint.new.out) (gathered_in c.gather.new.out) (varint_of (length c.args.bytes.now)) c.args.bytes.now (framed c.args.bytes.now) c.gather.result
    c.in_ok-gather_varint.ensures.sent.longer c.in_ok-gather_varint.ensures.written.ok c.gather.ensures.written refl
