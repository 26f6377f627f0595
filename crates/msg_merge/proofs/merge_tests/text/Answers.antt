use Rattle.std.proofs.Common.{refl}
use Rattle.dyn_message.proofs.NodeFields.{node_has}
use Rattle.msg_merge.proofs.merge_tests.text.Goals as goal

pub get_bytes-requires-clause-field : goal.get_bytes-requires-clause-field
get_bytes-requires-clause-field g c =
    node_has _ _ c.args.types.now c.args.msg.type_no 1 c.requires.schema c.requires.node (record { field = _; found = refl; card = tt; type = tt })
