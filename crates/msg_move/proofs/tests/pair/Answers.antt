use Rattle.msg_move.proofs.Pairing.{count_takes, pair_of}
use Rattle.msg_move.proofs.tests.pair.Goals as goal

pub set_scalar-requires-clause-field : goal.set_scalar-requires-clause-field
set_scalar-requires-clause-field g c = count_takes c.args.types.now c.in_ok-one.one.type_no c.requires.schema c.in_ok-one.ensures.made.type

pub returns : goal.returns
returns g c =
    let M = g.M.Memory in
    let now = c.set_scalar.ensures.set _ _ c.in_ok-one.ensures.made.stands in
    pair_of c.args.types.now (M.places c.set_scalar.new.mem) _ (M.buffers c.set_scalar.new.mem) _ c.in_ok-one.one c.in_ok-two.two _ now.now now.stands c.in_ok-two.ensures.grows.rest c.in_ok-two.ensures.grows.buffers c.in_ok-two.ensures.made c.in_ok-one.ensures.made.type
