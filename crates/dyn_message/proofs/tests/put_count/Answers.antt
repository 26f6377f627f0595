use Rattle.std.proofs.Common.{refl}
use Rattle.dyn_message.proofs.NodeFields.{node_has}
use Rattle.dyn_message.proofs.tests.put_count.Goals as goal

pub set_scalar-requires-clause-field : goal.set_scalar-requires-clause-field
set_scalar-requires-clause-field g c = node_has _ _ c.args.types.now c.args.msg.type_no 2 c.requires.schema c.requires.node (record { field = _; found = refl; card = tt; type = c.ranges.bits.fits })

pub returns : goal.returns
returns g c =
    let m = c.requires.message in
    let s = c.set_scalar.ensures.set m.0 m.1 m.2 in
    (_, s.now, s.stands)
