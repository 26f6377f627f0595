use Rattle.msg_move.proofs.Pairing.{next_links}
use Rattle.msg_move.proofs.tests.is_given.Goals as goal

pub give_adopted-requires-clause-field : goal.give_adopted-requires-clause-field
give_adopted-requires-clause-field c = next_links c.args.types.now c.args.msg.type_no c.args.child.type_no c.requires.schema c.requires.nodes.0 c.requires.nodes.1

pub next_has_alone-requires-clause-message : goal.next_has_alone-requires-clause-message
next_has_alone-requires-clause-message c =
    let m = c.requires.msg in
    let d = c.requires.child in
    let now = c.in-Ok.ensures.given m.0 m.1 d.0 d.1 m.2 d.2 in
    (_, now.parent.now, now.parent.stands)
