use Rattle.std.proofs.Common.{refl}
use Rattle.dyn_message.proofs.NodeFields.{node_has}
use Rattle.msg_merge.proofs.merge_tests.mark.Goals as goal

pub count-marks-requires-clause-field : goal.count-marks-requires-clause-field
count-marks-requires-clause-field g c =
    node_has _ _ c.args.types.now c.args.msg.type_no 4 c.requires.schema c.requires.node (record { field = _; found = refl; card = tt; type = tt })

pub element_scalar-requires-clause-field : goal.element_scalar-requires-clause-field
element_scalar-requires-clause-field g c =
    node_has _ _ c.args.types.now c.args.msg.type_no 4 c.requires.schema c.requires.node (record { field = _; found = refl; card = tt; type = tt })
