use Rattle.std.proofs.Common.{arith}
use Rattle.pb_write.proofs.Depths.{message_deep}
use Rattle.pb_write.proofs.text_size.size.Goals as goal

pub message_size-requires : goal.message_size-requires
message_size-requires g c =
    let r = c.requires in
    let deep = message_deep c.args.types.now (g.M.Memory.places c.args.mem.now) (g.M.Memory.buffers c.args.mem.now) c.args.msg.type_no c.args.msg.place r.0 r.1 r.2.message in
    let short = r.3 in
    (r.0, r.1, r.2.message, omega (arith, deep, short))

pub returns : goal.returns
returns g c = λ t feet stand short. c.message_size.ensures t feet stand.message short
