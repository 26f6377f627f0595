use Rattle.std.proofs.Common.{◌*◌, ap, subst, arith}
use Rattle.std.specs.FinMap as fin
use Rattle.pb_schema.specs.Meter.{cleanups}
use Rattle.dyn_message.specs.Changes.{NowStands}
use Rattle.dyn_message.specs.Lists.{count_at}
use Rattle.pb_parse.proofs.Memories.{within_more}
use Rattle.msg_merge.specs.Across.{field_units, record_meter}
use Rattle.msg_merge.proofs.Listed.{stands_as}
use Rattle.msg_merge.proofs.ListMerged.{list_few, list_into, numbers_cost}
use Rattle.msg_merge.proofs.OneMerged.{all_ok, if_ok}
use Rattle.msg_merge.proofs.values.append_numbers.Goals as goal

pub returns-clause-merged : goal.returns-clause-merged
returns-clause-merged g c = if_ok _ _ c.merge_numbers.result
    (λ _ merged. λ t feet u own st from.
    let M = g.M.Memory in
    let N = g.N.Memory in
    let schema = c.args.types.now in
    let su = stands_as schema (N.places c.args.from_mem.now) (N.buffers c.args.from_mem.now) c.args.from c.args.to.type_no u own c.requires.same from in
    subst (λ s. NowStands schema (M.places c.args.to_mem.now) (M.buffers c.args.to_mem.now) (M.places c.merge_numbers.new.to_mem) (M.buffers c.merge_numbers.new.to_mem) c.args.to s feet)
    (list_into schema c.schema-schema.ensures.lawful c.args.to c.args.field c.requires.known c.requires.list (N.places c.args.from_mem.now) (N.buffers c.args.from_mem.now) c.args.from.place u own su t) (merged t feet u own st from))
    c.merge_numbers.ensures.merged

pub returns-clause-space : goal.returns-clause-space
returns-clause-space g c = if_ok _ _ c.merge_numbers.result
    (λ _ space. λ t feet u own st from.
    let M = g.M.Memory in
    let N = g.N.Memory in
    let schema = c.args.types.now in
    let su = stands_as schema (N.places c.args.from_mem.now) (N.buffers c.args.from_mem.now) c.args.from c.args.to.type_no u own c.requires.same from in
    let cost = numbers_cost schema c.schema-schema.ensures.lawful c.args.to c.args.field c.requires.known c.requires.list (N.places c.args.from_mem.now) (N.buffers c.args.from_mem.now) c.args.from.place u own su (record_meter schema) (M.places c.args.to_mem.now) (M.buffers c.args.to_mem.now) t feet st c.requires.number in
    let is = space t feet u own st from in
    omega (arith, is, cost))
    c.merge_numbers.ensures.space

pub returns-clause-kept : goal.returns-clause-kept
returns-clause-kept g c = all_ok _ c.merge_numbers.result
    (λ _. λ t feet u own st from.
    let M = g.M.Memory in
    let N = g.N.Memory in
    let schema = c.args.types.now in
    let su = stands_as schema (N.places c.args.from_mem.now) (N.buffers c.args.from_mem.now) c.args.from c.args.to.type_no u own c.requires.same from in
    let cost = numbers_cost schema c.schema-schema.ensures.lawful c.args.to c.args.field c.requires.known c.requires.list (N.places c.args.from_mem.now) (N.buffers c.args.from_mem.now) c.args.from.place u own su cleanups (M.places c.args.to_mem.now) (M.buffers c.args.to_mem.now) t feet st c.requires.number in
    let same = ap (λ b. fin.len b) c.merge_numbers.ensures.buffers in
    omega (arith, same, cost))

pub returns-clause-changes : goal.returns-clause-changes
returns-clause-changes g c = λ t feet u own st from.
    let M = g.M.Memory in
    let N = g.N.Memory in
    let schema = c.args.types.now in
    let su = stands_as schema (N.places c.args.from_mem.now) (N.buffers c.args.from_mem.now) c.args.from c.args.to.type_no u own c.requires.same from in
    let few = list_few schema c.schema-schema.ensures.lawful c.args.to c.args.field c.requires.known c.requires.list (N.places c.args.from_mem.now) (N.buffers c.args.from_mem.now) c.args.from.place u own su in
    within_more M.key M.places M.buffers M.blocks (count_at schema c.args.to.type_no c.args.field.number u) (4 * field_units schema c.args.to.type_no c.args.field u) 0 (4 * field_units schema c.args.to.type_no c.args.field u) feet c.args.to_mem.now c.merge_numbers.new.to_mem
    (c.merge_numbers.ensures.changes t feet u own st from) (omega (arith, few)) (omega (arith, few))
