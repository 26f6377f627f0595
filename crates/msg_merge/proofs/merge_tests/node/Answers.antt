use Rattle.std.proofs.Common.{refl}
use Rattle.dyn_message.proofs.NodeFields.{node_has}
use Rattle.msg_merge.proofs.merge_tests.node.Goals as goal

pub sub-requires-clause-field : goal.sub-requires-clause-field
sub-requires-clause-field g c =
    node_has _ _ c.args.types.now c.args.msg.type_no 8 c.requires.schema c.requires.node (record { field = _; found = refl; card = tt; type = tt })
