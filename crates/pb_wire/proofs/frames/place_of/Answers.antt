use Rattle.pb_wire.specs.FramePlaces.{payload_in}
use Rattle.pb_wire.proofs.Framing.{follow_frame}
use Rattle.pb_wire.proofs.frames.place_of.Goals as goal

pub returns-clause-behind : goal.returns-clause-behind
returns-clause-behind c =
    follow_frame c.args.bytes.now c.args.starts.now c.args.index c.in-Some.place.end (payload_in c.args.bytes.now c.in-Some.place) c.requires.frames.follow c.requires.index c.in-Some.ensures.found
