use Rattle.msg_move.proofs.Pairing.{next_field, next_links}
use Rattle.msg_move.proofs.tests.give_and_release.Goals as goal

pub give_same-requires-clause-stand : goal.give_same-requires-clause-stand
give_same-requires-clause-stand g c =
    let p = c.requires.pair in
    (p.one_shape, p.one_feet, p.two_shape, p.two_feet, p.one_stands, p.two_stands, p.separate)

pub give_same-requires-clause-field : goal.give_same-requires-clause-field
give_same-requires-clause-field g c = next_links c.args.types.now c.args.one.type_no c.args.two.type_no c.requires.schema c.requires.pair.one_type c.requires.pair.two_type

pub release-requires-clause-field : goal.release-requires-clause-field
release-requires-clause-field g c = next_field c.args.types.now c.args.one.type_no c.requires.schema c.requires.pair.one_type

pub release-requires-clause-set : goal.release-requires-clause-set
release-requires-clause-set g c =
    let p = c.requires.pair in
    let l = c.give_same.ensures.given p.one_shape p.one_feet p.two_shape p.two_feet p.one_stands p.two_stands p.separate in
    record { whole = _; feet = l.parent.now; stands = l.parent.stands; tree = l.has.tree; held = l.has.held }

pub sub-requires-clause-message : goal.sub-requires-clause-message
sub-requires-clause-message g c =
    let p = c.requires.pair in
    let l = c.give_same.ensures.given p.one_shape p.one_feet p.two_shape p.two_feet p.one_stands p.two_stands p.separate in
    let out = c.in-Ok.ensures.released _ l.parent.now l.parent.stands in
    (_, out.rest, out.parent)

pub sub-requires-clause-field : goal.sub-requires-clause-field
sub-requires-clause-field g c = next_field c.args.types.now c.args.one.type_no c.requires.schema c.requires.pair.one_type
