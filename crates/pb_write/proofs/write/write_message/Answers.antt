use Rattle.std.proofs.Common.{arith}
use Rattle.pb_write.proofs.Depths.{message_deep}
use Rattle.pb_write.proofs.write.write_message.Goals as goal

pub put_message-requires : goal.put_message-requires
put_message-requires g c =
    let r = c.requires in
    let deep = message_deep c.args.types.now (g.M.Memory.places c.args.mem.now) (g.M.Memory.buffers c.args.mem.now) c.args.msg.type_no c.args.msg.place r.0 r.1 r.2.message in
    let short = r.3 in
    (r.0, r.1, r.2.message, omega (arith, deep, short))
