use Rattle.std.proofs.Common.{◌<◌, ◌+◌, sym, subst, arith}
use Rattle.std.specs.Prelude.{All}
use Rattle.desc_pool.specs.declared.descriptor.Descriptor.TheVariants as descriptors
use Rattle.desc_pool.specs.Payloads.{IsSub}
use Rattle.desc_pool.proofs.Nested.{message_more, deeper_than}
use Rattle.desc_pool.proofs.message.+read_messages.Goals as goal

pub read_messages-requires : goal.read_messages-requires
read_messages-requires t c =
    let deep : c.args.depth < 100 = deeper_than c.args.depth c.args.bytes.now descriptors.Message c.args.subs.now c.loop-sub.sub-index c.requires.1.1.1 c.loop-sub-test.true in
    (omega (arith, deep, c.requires.0), (omega (arith, c.payload_of-payload.ensures.short, c.requires.1.1.0), subst (All (IsSub descriptors.Message (c.args.depth + 1) c.payload_of-payload.result.now)) (sym c.deref.ensures.value) c.in_ok-opened.ensures.subs))

pub loop-sub-preserved : goal.loop-sub-preserved
loop-sub-preserved t c =
    message_more c.args.prefix.now c.args.depth c.args.bytes.now c.args.subs.now c.in_ok-opened.opened.nested.items c.deref.result.now c.loop-sub.sub-index _ _ _ _ _ c.payload_of-payload.result.now c.in_ok-opened.opened.prefix c.as_str.result.now
    c.loop-sub-test.true c.payload_of-payload.ensures.value c.loop-sub.invariant c.in_ok-opened.ensures.list c.in_ok-read_messages.ensures c.deref.ensures.value c.as_str.ensures c.in_ok-opened.ensures.prefix c.in_ok-opened.ensures.records c.in_ok-opened.ensures.subs
