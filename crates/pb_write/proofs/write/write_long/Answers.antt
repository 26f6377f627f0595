use Rattle.std.proofs.Common.{refl, arith}
use Rattle.pb_write.proofs.Depths.{message_deep}
use Rattle.pb_write.proofs.Writing.{part_at_last}
use Rattle.pb_write.specs.Texts.{shape_text}
use Rattle.pb_write.specs.Writes.{gathered_in}
use Rattle.pb_write.proofs.write.write_long.Goals as goal

pub write_text-requires : goal.write_text-requires
write_text-requires g c =
    let r = c.requires in
    let deep = message_deep c.args.types.now (g.M.Memory.places c.args.mem.now) (g.M.Memory.buffers c.args.mem.now) c.args.msg.type_no c.args.msg.place r.0 r.1 r.2.message in
    let short = r.3 in
    (r.0, r.1, r.2.message, omega (arith, deep, short))

pub returns-clause-err : goal.returns-clause-err
returns-clause-err g c = λ t feet stand short.
    let S = g.S.Sink in
    part_at_last (S.taken c.args.sink.now) (S.taken c.write_text.new.sink) (S.taken c.send.new.sink) (gathered_in c.new-out.result) (gathered_in c.write_text.new.out) (gathered_in c.write_text.new.out) (shape_text c.args.types.now c.args.msg.type_no t) c.send.result
    c.in_ok-write_text.ensures.sent.longer c.new-out.ensures.text (c.in_ok-write_text.ensures.written t feet stand.message short).ok refl c.send.ensures.err
