use Rattle.std.proofs.Common.{◌∙◌, ap, map}
use Rattle.desc_pool.specs.declared.descriptor.Descriptor.TheVariants as descriptors
use Rattle.desc_pool.specs.Files.{field_of}
use Rattle.desc_pool.specs.Payloads.{sub_tree}
use Rattle.desc_pool.proofs.Nested.{all_taken}
use Rattle.desc_pool.proofs.message.field_list.Goals as goal

pub returns : goal.returns
returns c =
    c.loop-sub.invariant
    ∙ ap (map (λ sub. field_of (sub_tree descriptors.Field c.args.depth c.args.bytes.now sub))) (all_taken c.loop-sub.sub-index c.args.subs.now c.loop-sub-test.false)
