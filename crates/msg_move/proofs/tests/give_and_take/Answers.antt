use Rattle.msg_move.proofs.Pairing.{next_field, next_links}
use Rattle.msg_move.proofs.tests.give_and_take.Goals as goal

pub give_same-requires-clause-stand : goal.give_same-requires-clause-stand
give_same-requires-clause-stand g c =
    let p = c.requires.pair in
    (p.one_shape, p.one_feet, p.two_shape, p.two_feet, p.one_stands, p.two_stands, p.separate)

pub give_same-requires-clause-field : goal.give_same-requires-clause-field
give_same-requires-clause-field g c = next_links c.args.types.now c.args.one.type_no c.args.two.type_no c.requires.schema c.requires.pair.one_type c.requires.pair.two_type

pub sub-given-requires-clause-message : goal.sub-given-requires-clause-message
sub-given-requires-clause-message g c =
    let p = c.requires.pair in
    let l = c.give_same.ensures.given p.one_shape p.one_feet p.two_shape p.two_feet p.one_stands p.two_stands p.separate in
    (_, l.parent.now, l.parent.stands)

pub sub-given-requires-clause-field : goal.sub-given-requires-clause-field
sub-given-requires-clause-field g c = next_field c.args.types.now c.args.one.type_no c.requires.schema c.requires.pair.one_type

pub take_sub-taken-requires-clause-field : goal.take_sub-taken-requires-clause-field
take_sub-taken-requires-clause-field g c = next_field c.args.types.now c.args.one.type_no c.requires.schema c.requires.pair.one_type

pub take_sub-taken-requires-clause-set : goal.take_sub-taken-requires-clause-set
take_sub-taken-requires-clause-set g c =
    let p = c.requires.pair in
    let l = c.give_same.ensures.given p.one_shape p.one_feet p.two_shape p.two_feet p.one_stands p.two_stands p.separate in
    record { whole = _; feet = l.parent.now; stands = l.parent.stands; tree = l.has.tree; held = l.has.held }

pub sub-left-requires-clause-message : goal.sub-left-requires-clause-message
sub-left-requires-clause-message g c =
    let p = c.requires.pair in
    let l = c.give_same.ensures.given p.one_shape p.one_feet p.two_shape p.two_feet p.one_stands p.two_stands p.separate in
    let taken = c.take_sub-taken.ensures.taken _ l.parent.now l.parent.stands in
    (_, taken.rest, taken.parent)

pub sub-left-requires-clause-field : goal.sub-left-requires-clause-field
sub-left-requires-clause-field g c = next_field c.args.types.now c.args.one.type_no c.requires.schema c.requires.pair.one_type
