use Rattle.std.proofs.Common.{◌*◌, arith}
use Rattle.pb_parse.proofs.Memories.{within_more}
use Rattle.msg_merge.specs.Across.{inner_units}
use Rattle.msg_merge.specs.Extents.{shape_units}
use Rattle.msg_merge.proofs.Copied.{units_inside}
use Rattle.msg_merge.proofs.OneMerged.{if_ok}
use Rattle.msg_merge.proofs.inside.merge.Goals as goal

pub returns-in-Ok-clause-merged : goal.returns-in-Ok-clause-merged
returns-in-Ok-clause-merged g c = if_ok _ _ c.merge_message.result
    (λ _ merged. λ t feet u own st su apart.
    let M = g.M.Memory in
    let n = c.in-Ok.ensures.copied u own su in
    let s = merged t feet u n.now st n.stands in
    record { stands = s; apart = c.separate_messages_stay.ensures c.args.types.now (M.places c.args.mem.now) (M.buffers c.args.mem.now) c.args.from u own feet s.now su apart s.from })
    c.merge_message.ensures.merged

pub returns-in-Ok-clause-stays : goal.returns-in-Ok-clause-stays
returns-in-Ok-clause-stays g c = λ t feet u own st su apart.
    let M = g.M.Memory in
    let n = c.in-Ok.ensures.copied u own su in
    c.strangers_change_nothing.ensures c.args.types.now (M.places c.args.mem.now) (M.places c.merge_message.new.to_mem) (M.buffers c.args.mem.now) (M.buffers c.merge_message.new.to_mem) c.args.from u own feet su (c.merge_message.ensures.changes t feet u n.now st n.stands).others apart

pub returns-in-Ok-clause-changes : goal.returns-in-Ok-clause-changes
returns-in-Ok-clause-changes g c = λ t feet u own st su.
    let M = g.M.Memory in
    let n = c.in-Ok.ensures.copied u own su in
    let units = units_inside u in
    within_more M.key M.places M.buffers M.blocks (4 * inner_units u) (4 * shape_units u) (4 * inner_units u) (4 * shape_units u) feet c.args.mem.now c.merge_message.new.to_mem
    (c.merge_message.ensures.changes t feet u n.now st n.stands) (omega (arith, units)) (omega (arith, units))
