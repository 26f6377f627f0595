use Rattle.std.proofs.Common.{refl}
use Rattle.dyn_message.proofs.NodeFields.{node_has}
use Rattle.msg_move.proofs.tests.node_with.Goals as goal

pub set_bytes-requires-clause-field : goal.set_bytes-requires-clause-field
set_bytes-requires-clause-field g c = node_has _ _ c.args.types.now c.in_ok-node.node.type_no 5 c.requires.schema c.in_ok-node.ensures.made.type (record { field = _; found = refl; card = tt; type = tt })

pub returns-clause-message : goal.returns-clause-message
returns-clause-message g c =
    let now = c.in_ok-set_bytes.ensures.set _ _ c.in_ok-node.ensures.made.stands in
    (_, now.now, now.stands)
