use Rattle.std.proofs.Common.{rules, ◌≡◌, ◌∙◌, length, map, refl, sym, ap}
use Rattle.std.specs.Vec.{vec_len}
use Rattle.desc_pool.specs.declared.descriptor.Descriptor.TheVariants as descriptors
use Rattle.desc_pool.specs.Trees.{messages_in}
use Rattle.desc_pool.specs.Files.{field_of, enum_name, message_of}
use Rattle.desc_pool.specs.Payloads.{sub_tree, tree_at}
use Rattle.desc_pool.proofs.Nested.{list_of, count_of, decl_same}
use Rattle.desc_pool.proofs.message.read_one.Goals as goal

pub returns : goal.returns
returns c =
    let depth = c.args.fields.now.depth in
    let bytes = c.args.bytes.now in
    let enums = list_of (enum_name c.args.prefix.now) descriptors.Message descriptors.Enumeration depth bytes 4 c.in_ok-enums.enums.items refl c.in_ok-enums.ensures.records c.in_ok-enums.ensures.subs in
    let fields = list_of field_of descriptors.Message descriptors.Field depth bytes 2 c.in_ok-list.list.items refl c.in_ok-list.ensures.records c.in_ok-list.ensures.subs in
    let oneofs = count_of descriptors.Message descriptors.Oneof depth bytes 8 c.in_ok-oneofs.oneofs.items refl c.in_ok-oneofs.ensures.records c.in_ok-oneofs.ensures.subs in
    let count : vec_len c.in_ok-oneofs.oneofs ≡ length c.in_ok-oneofs.oneofs.items = search rules in
    let name : c.name.inside.text.bytes.items ≡ c.args.name = search rules in
    decl_same c.name.inside.text.bytes.items c.args.name _ _ _ _ _ _ name
    (c.in_ok-enum_list.ensures ∙ (ap (map (λ sub. enum_name c.args.prefix.now (sub_tree descriptors.Enumeration depth bytes sub))) c.deref.ensures.value ∙ (enums ∙ ap (λ p. map (enum_name p) (messages_in descriptors.Message 4 (tree_at descriptors.Message depth bytes))) c.requires.prefix)))
    (c.in_ok-field_list.ensures ∙ (ap (map (λ sub. field_of (sub_tree descriptors.Field depth bytes sub))) c.deref-2.ensures.value ∙ fields))
    (c.len.ensures ∙ (count ∙ oneofs))
    ∙ ap (λ d. message_of c.args.name (tree_at d depth bytes)) (sym c.requires.descriptor)
