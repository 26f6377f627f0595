use Rattle.std.proofs.Common.{sym, ◌∙◌}
use Rattle.msg_move.proofs.Pairing.{count_field}
use Rattle.msg_move.proofs.tests.swap_counts_across.Goals as goal

pub swap_across-requires-clause-one_type : goal.swap_across-requires-clause-one_type
swap_across-requires-clause-one_type g c = c.requires.nodes.1 ∙ sym c.requires.nodes.0

pub get_scalar-first-requires-clause-message : goal.get_scalar-first-requires-clause-message
get_scalar-first-requires-clause-message g c =
    let m = c.requires.one in
    let d = c.requires.two in
    let now = c.in_ok-swap_across.ensures.swapped m.0 m.1 d.0 d.1 m.2 d.2 in
    (_, now.0.now, now.0.stands)

pub get_scalar-first-requires-clause-field : goal.get_scalar-first-requires-clause-field
get_scalar-first-requires-clause-field g c = count_field c.args.types.now c.args.one.type_no c.requires.schema c.requires.nodes.0

pub get_scalar-second-requires-clause-message : goal.get_scalar-second-requires-clause-message
get_scalar-second-requires-clause-message g c =
    let m = c.requires.one in
    let d = c.requires.two in
    let now = c.in_ok-swap_across.ensures.swapped m.0 m.1 d.0 d.1 m.2 d.2 in
    (_, now.1.now, now.1.stands)

pub get_scalar-second-requires-clause-field : goal.get_scalar-second-requires-clause-field
get_scalar-second-requires-clause-field g c = count_field c.args.types.now c.args.two.type_no c.requires.schema c.requires.nodes.1
