use Rattle.msg_move.proofs.Pairing.{count_field}
use Rattle.std.proofs.Common.{sym, ◌∙◌}
use Rattle.msg_move.proofs.tests.swap_counts.Goals as goal

pub swap_same-requires-clause-stand : goal.swap_same-requires-clause-stand
swap_same-requires-clause-stand g c =
    let p = c.requires.pair in
    (p.two_shape, p.two_feet, p.one_shape, p.one_feet, p.two_stands, p.one_stands, p.separate)

pub swap_same-requires-clause-one_type : goal.swap_same-requires-clause-one_type
swap_same-requires-clause-one_type g c = c.requires.pair.one_type ∙ sym c.requires.pair.two_type

pub get_scalar-first-requires-clause-message : goal.get_scalar-first-requires-clause-message
get_scalar-first-requires-clause-message g c =
    let p = c.requires.pair in
    let s = c.swap_same.ensures.swapped p.two_shape p.two_feet p.one_shape p.one_feet p.two_stands p.one_stands p.separate in
    (_, _, s.second)

pub get_scalar-first-requires-clause-field : goal.get_scalar-first-requires-clause-field
get_scalar-first-requires-clause-field g c = count_field c.args.types.now c.args.one.type_no c.requires.schema c.requires.pair.one_type

pub get_scalar-second-requires-clause-message : goal.get_scalar-second-requires-clause-message
get_scalar-second-requires-clause-message g c =
    let p = c.requires.pair in
    let s = c.swap_same.ensures.swapped p.two_shape p.two_feet p.one_shape p.one_feet p.two_stands p.one_stands p.separate in
    (_, _, s.first)

pub get_scalar-second-requires-clause-field : goal.get_scalar-second-requires-clause-field
get_scalar-second-requires-clause-field g c = count_field c.args.types.now c.args.two.type_no c.requires.schema c.requires.pair.two_type

pub returns : goal.returns
returns g c =
    let p = c.requires.pair in
    let s = c.swap_same.ensures.swapped p.two_shape p.two_feet p.one_shape p.one_feet p.two_stands p.one_stands p.separate in
    record {
      one_type = p.one_type;
      two_type = p.two_type;
      one_shape = p.two_shape;
      one_feet = _;
      two_shape = p.one_shape;
      two_feet = _;
      one_stands = s.second;
      two_stands = s.first;
      separate = s.separate;
    }
