use Rattle.std.proofs.Common.{arith}
use Rattle.pb_wire.proofs.Framing.{frame_read}
use Rattle.pb_wire.proofs.frames.find_frame.Goals as goal

pub returns-clause-found : goal.returns-clause-found
returns-clause-found c =
    frame_read c.args.bytes.now c.args.start c.in_ok-len.len c.in_ok-len.at c.in_ok-len.ensures.found c.if-len-ge-LENGTH_END.false (omega (arith, c.in_ok-len.ensures.bound))
