use Rattle.std.proofs.Common.{refl}
use Rattle.dyn_message.proofs.NodeFields.{node_has}
use Rattle.msg_merge.proofs.merge_tests.child.Goals as goal

pub count-children-requires-clause-field : goal.count-children-requires-clause-field
count-children-requires-clause-field g c =
    node_has _ _ c.args.types.now c.args.msg.type_no 3 c.requires.schema c.requires.node (record { field = _; found = refl; card = tt; type = tt })

pub element_sub-node-requires-clause-field : goal.element_sub-node-requires-clause-field
element_sub-node-requires-clause-field g c =
    node_has _ _ c.args.types.now c.args.msg.type_no 3 c.requires.schema c.requires.node (record { field = _; found = refl; card = tt; type = tt })
