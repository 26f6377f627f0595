use Rattle.std.proofs.Common.{◌*◌, arith}
use Rattle.pb_parse.proofs.Memories.{within_more}
use Rattle.msg_merge.specs.Across.{inner_units}
use Rattle.msg_merge.specs.Extents.{shape_units}
use Rattle.msg_merge.proofs.Copied.{units_inside}
use Rattle.msg_merge.proofs.between.merge_across.Goals as goal

pub returns-clause-changes : goal.returns-clause-changes
returns-clause-changes g c = λ t feet u own st from.
    let M = g.M.Memory in
    let units = units_inside u in
    within_more M.key M.places M.buffers M.blocks (4 * inner_units u) (4 * shape_units u) (4 * inner_units u) (4 * shape_units u) feet c.args.to_mem.now c.merge_message.new.to_mem
    (c.merge_message.ensures.changes t feet u own st from) (omega (arith, units)) (omega (arith, units))
