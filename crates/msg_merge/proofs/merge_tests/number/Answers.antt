use Rattle.std.proofs.Common.{refl}
use Rattle.dyn_message.proofs.NodeFields.{node_has}
use Rattle.msg_merge.proofs.merge_tests.number.Goals as goal

pub get_scalar-requires-clause-field : goal.get_scalar-requires-clause-field
get_scalar-requires-clause-field g c =
    node_has _ _ c.args.types.now c.args.msg.type_no 2 c.requires.schema c.requires.node (record { field = _; found = refl; card = tt; type = tt })
