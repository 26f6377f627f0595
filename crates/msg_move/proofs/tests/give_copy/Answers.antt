use Rattle.msg_move.proofs.Pairing.{next_field, next_links}
use Rattle.msg_move.proofs.tests.give_copy.Goals as goal

pub give_across-requires-clause-field : goal.give_across-requires-clause-field
give_across-requires-clause-field g c = next_links c.args.types.now c.args.msg.type_no c.args.child.type_no c.requires.schema c.requires.nodes.0 c.requires.nodes.1

pub sub-requires-clause-message : goal.sub-requires-clause-message
sub-requires-clause-message g c =
    let m = c.requires.msg in
    let d = c.requires.child in
    let now = c.in_ok-give_across.ensures.given m.0 m.1 d.0 d.1 m.2 d.2 in
    (_, now.now, now.stands)

pub sub-requires-clause-field : goal.sub-requires-clause-field
sub-requires-clause-field g c = next_field c.args.types.now c.args.msg.type_no c.requires.schema c.requires.nodes.0
