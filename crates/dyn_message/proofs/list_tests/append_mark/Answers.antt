use Rattle.std.proofs.Common.{refl}
use Rattle.dyn_message.proofs.NodeFields.{node_has}
use Rattle.dyn_message.proofs.list_tests.append_mark.Goals as goal

pub count-marks-requires-clause-field : goal.count-marks-requires-clause-field
count-marks-requires-clause-field g c = node_has _ _ c.args.types.now c.args.msg.type_no 4 c.requires.schema c.requires.node (record { field = _; found = refl; card = tt; type = tt })

pub append_scalar-requires-clause-field : goal.append_scalar-requires-clause-field
append_scalar-requires-clause-field g c = node_has _ _ c.args.types.now c.args.msg.type_no 4 c.requires.schema c.requires.node (record { field = _; found = refl; card = tt; type = c.requires.pattern })
