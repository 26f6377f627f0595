use Rattle.std.proofs.Common.{length, length-append, arith}
use Rattle.pb_schema.proofs.Steps.{length-varint_of}
use Rattle.pb_schema.specs.Varint.{varint_of}
use Rattle.pb_write.proofs.Depths.{message_deep}
use Rattle.pb_write.specs.Texts.{shape_text}
use Rattle.pb_write.proofs.framed.write_framed.Goals as goal

pub write_nested-written-requires : goal.write_nested-written-requires
write_nested-written-requires g c =
    let r = c.requires in
    let deep = message_deep c.args.types.now (g.M.Memory.places c.args.mem.now) (g.M.Memory.buffers c.args.mem.now) c.args.msg.type_no c.args.msg.place r.0 r.1 r.2.message in
    let short = r.3 in
    (r.0, r.1, r.2.message, omega (arith, deep, short))

pub returns-in-Ok-clause-written : goal.returns-in-Ok-clause-written
returns-in-Ok-clause-written g c = λ t feet stand short.
    let text = shape_text c.args.types.now c.args.msg.type_no t in
    let prefix = length-varint_of (length text) in
    let whole = length-append (varint_of (length text)) text in
    c.in-Ok.ensures.written t feet stand.message (omega (arith, short, prefix, whole))

pub returns-in-Err-clause-written : goal.returns-in-Err-clause-written
returns-in-Err-clause-written g c = λ t feet stand short.
    let text = shape_text c.args.types.now c.args.msg.type_no t in
    let prefix = length-varint_of (length text) in
    let whole = length-append (varint_of (length text)) text in
    record { ok = tt; err = (c.in-Err.ensures.written t feet stand.message (omega (arith, short, prefix, whole))).err }
