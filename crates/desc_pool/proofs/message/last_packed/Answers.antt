use Rattle.std.proofs.Common.{◌+◌, ◌∙◌, sym, ap}
use Rattle.desc_pool.specs.declared.descriptor.Descriptor.TheVariants as descriptors
use Rattle.desc_pool.specs.Trees.{flag_in}
use Rattle.desc_pool.specs.Payloads.{flag_or, tree_at}
use Rattle.desc_pool.proofs.Nested.{options_more}
use Rattle.desc_pool.proofs.message.last_packed.Goals as goal

pub loop-sub-preserved : goal.loop-sub-preserved
loop-sub-preserved c =
    c.later-packed.ensures
    ∙ (ap (λ o. flag_or o c.loop-sub.packed) (c.in_ok-own.ensures ∙ ap (λ p. flag_in descriptors.FieldOptions 2 (tree_at descriptors.FieldOptions (c.args.depth + 1) p)) c.payload_of.ensures.value)
    ∙ (ap (flag_or _) c.loop-sub.invariant ∙ sym (options_more c.args.depth c.args.bytes.now c.args.subs.now c.loop-sub.sub-index _ c.loop-sub-test.true)))
