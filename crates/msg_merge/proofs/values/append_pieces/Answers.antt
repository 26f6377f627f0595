use Rattle.std.proofs.Common.{◌*◌, length, arith}
use Rattle.pb_schema.specs.Meter.{cleanups}
use Rattle.dyn_message.specs.Unknown.{pieces_of}
use Rattle.pb_parse.proofs.Memories.{within_more}
use Rattle.msg_merge.specs.Across.{record_meter}
use Rattle.msg_merge.specs.Extents.{pieces_bytes}
use Rattle.msg_merge.proofs.ListMerged.{pieces_counted, pieces_few}
use Rattle.msg_merge.proofs.OneMerged.{if_ok}
use Rattle.msg_merge.proofs.values.append_pieces.Goals as goal

pub returns-clause-space : goal.returns-clause-space
returns-clause-space g c = if_ok _ _ c.merge_pieces.result
    (λ _ space. λ t feet u own st from.
    let cost = pieces_counted (record_meter c.args.types.now) (length (pieces_of t)) (pieces_of u) in
    let is = space t feet u own st from in
    omega (arith, is, cost))
    c.merge_pieces.ensures.space

pub returns-clause-kept : goal.returns-clause-kept
returns-clause-kept g c = if_ok _ _ c.merge_pieces.result
    (λ _ kept. λ t feet u own st from.
    let cost = pieces_counted cleanups (length (pieces_of t)) (pieces_of u) in
    let is = kept u own from in
    omega (arith, is, cost))
    c.merge_pieces.ensures.kept

pub returns-clause-changes : goal.returns-clause-changes
returns-clause-changes g c = λ t feet u own st from.
    let M = g.M.Memory in
    let N = g.N.Memory in
    let few = pieces_few c.args.types.now (N.places c.args.from_mem.now) (N.buffers c.args.from_mem.now) c.args.from u own from in
    within_more M.key M.places M.buffers M.blocks (2 * length (pieces_of u)) (4 * pieces_bytes (pieces_of u)) (length (pieces_of u)) (4 * pieces_bytes (pieces_of u)) feet c.args.to_mem.now c.merge_pieces.new.to_mem
    (c.merge_pieces.ensures.changes t feet u own st from) (omega (arith, few)) (omega (arith, few))
