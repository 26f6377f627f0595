use Rattle.pb_write.proofs.Sample.{child_is}
use Rattle.msg_move.proofs.Pairing.{blob_field, next_field}
use Rattle.msg_move.proofs.tests.next_has.Goals as goal

pub sub-requires-clause-field : goal.sub-requires-clause-field
sub-requires-clause-field g c = next_field c.args.types.now c.args.msg.type_no c.requires.schema c.requires.node

pub get_bytes-requires-clause-field : goal.get_bytes-requires-clause-field
get_bytes-requires-clause-field g c =
    let m = c.requires.message in
    let has = c.in-Some.ensures m.0 m.1 m.2 in
    blob_field c.args.types.now c.in-Some.next.type_no c.requires.schema (child_is c.args.types.now c.args.msg.type_no c.in-Some.next.type_no c.requires.schema c.requires.node has.type)
