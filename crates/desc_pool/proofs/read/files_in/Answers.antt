use Rattle.std.proofs.Common.{◌∙◌, map, refl, sym, ap}
use Rattle.desc_pool.specs.declared.descriptor.Descriptor.TheVariants as descriptors
use Rattle.desc_pool.specs.Files.{file_of, files_of}
use Rattle.desc_pool.specs.Payloads.{sub_tree, tree_at}
use Rattle.desc_pool.proofs.Nested.{list_of}
use Rattle.desc_pool.proofs.read.files_in.Goals as goal

pub returns : goal.returns
returns c =
    let depth = c.args.fields.now.depth in
    let bytes = c.args.bytes.now in
    c.in_ok-files.ensures
    ∙ (ap (map (λ sub. file_of (sub_tree descriptors.File depth bytes sub))) c.deref.ensures.value
    ∙ (list_of file_of descriptors.Set descriptors.File depth bytes 1 c.in_ok-subs.subs.items refl c.in_ok-subs.ensures.records c.in_ok-subs.ensures.subs
    ∙ ap (λ d. files_of (tree_at d depth bytes)) (sym c.requires.descriptor)))
