use Rattle.std.proofs.Common.{Some, sym, ap, ◌∙◌}
use Rattle.desc_pool.proofs.Gathering.{last_of_more}
use Rattle.desc_pool.proofs.records.last_payload.Goals as goal

pub loop-record-preserved : goal.loop-record-preserved
loop-record-preserved c =
    ap Some c.payload_of.ensures.value ∙ sym (last_of_more c.args.bytes.now c.args.records.now c.loop-record.record-index c.args.number c.args.wire _ c.loop-record-test.true (sym c.has_tag.ensures ∙ c.if-not-has_tag.false))
