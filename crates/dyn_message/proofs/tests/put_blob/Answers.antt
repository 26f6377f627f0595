use Rattle.std.proofs.Common.{refl}
use Rattle.dyn_message.proofs.NodeFields.{node_has}
use Rattle.dyn_message.proofs.tests.put_blob.Goals as goal

pub set_bytes-requires-clause-field : goal.set_bytes-requires-clause-field
set_bytes-requires-clause-field g c = node_has _ _ c.args.types.now c.args.msg.type_no 5 c.requires.schema c.requires.node (record { field = _; found = refl; card = tt; type = tt })
