use Rattle.std.proofs.Common.{◌∙◌, sym, ap}
use Rattle.desc_pool.specs.declared.descriptor.Descriptor.TheVariants as descriptors
use Rattle.desc_pool.specs.Trees.{message_in, or_true}
use Rattle.desc_pool.specs.Files.{packed_by}
use Rattle.desc_pool.specs.Payloads.{options_flag, tree_at}
use Rattle.desc_pool.proofs.Nested.{options_are}
use Rattle.desc_pool.proofs.message.is_packed.Goals as goal

pub returns : goal.returns
returns c =
    let depth = c.args.fields.now.depth in
    let bytes = c.args.bytes.now in
    c.or_true.ensures
    ∙ (ap or_true (c.in_ok-packed.ensures ∙ ap (options_flag depth bytes) c.deref.ensures.value)
    ∙ (sym (options_are depth bytes c.in_ok-subs.subs.items c.in_ok-subs.ensures.records c.in_ok-subs.ensures.subs)
    ∙ ap (λ d. packed_by (message_in descriptors.Field 8 (tree_at d depth bytes))) (sym c.requires.descriptor)))
