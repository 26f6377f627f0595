use Rattle.std.proofs.Common.{◌≡◌, ◌∙◌, ◌++◌, map, refl, sym, ap, subst}
use Rattle.std.specs.Prelude.{All, flat_map, codes}
use Rattle.std.specs.Str.{bytes_eq}
use Rattle.desc_pool.specs.declared.descriptor.Descriptor.TheVariants as descriptors
use Rattle.desc_pool.specs.Trees.{messages_in, or_empty, text_in}
use Rattle.desc_pool.specs.Files.{enum_name, file_of, messages_of, package_of, package_prefix}
use Rattle.desc_pool.specs.Payloads.{IsSub, sub_tree, tree_at}
use Rattle.desc_pool.proofs.Nested.{list_of, file_messages, file_same}
use Rattle.desc_pool.proofs.read.file_in.Goals as goal

pub read_messages-requires-clause-subs : goal.read_messages-requires-clause-subs
read_messages-requires-clause-subs c =
    subst (All (IsSub descriptors.Message c.args.fields.now.depth c.args.bytes.now)) (sym c.deref.ensures.value) c.in_ok-subs.ensures.subs

pub enum_list-requires-clause-subs : goal.enum_list-requires-clause-subs
enum_list-requires-clause-subs c =
    subst (All (IsSub descriptors.Enumeration c.args.fields.now.depth c.args.bytes.now)) (sym c.deref-2.ensures.value) c.in_ok-enums.ensures.subs

pub returns : goal.returns
returns c =
    let depth = c.args.fields.now.depth in
    let bytes = c.args.bytes.now in
    let t = tree_at descriptors.File depth bytes in
    let prefix : c.in_ok-prefix.prefix ≡ package_of t =
    c.in_ok-prefix.ensures ∙ (ap package_prefix c.as_str.ensures ∙ (ap package_prefix c.in_ok-package.ensures ∙ ap (λ d. package_prefix (or_empty (text_in d 2 (tree_at d depth bytes)))) c.requires.descriptor)) in
    let syntax : c.is_proto3.result ≡ bytes_eq (or_empty (text_in descriptors.File 12 t)) (codes "proto3") =
    c.is_proto3.ensures
    ∙ (ap (λ s. bytes_eq s (codes "proto3")) c.as_str-4.ensures
    ∙ (ap (λ s. bytes_eq s (codes "proto3")) c.in_ok-syntax.ensures ∙ ap (λ d. bytes_eq (or_empty (text_in d 12 (tree_at d depth bytes))) (codes "proto3")) c.requires.descriptor)) in
    let enums : c.in_ok-enum_names.enum_names ≡ map (enum_name (package_of t)) (messages_in descriptors.File 5 t) =
    c.in_ok-enum_names.ensures
    ∙ (ap (map (λ sub. enum_name c.as_str-3.result.now (sub_tree descriptors.Enumeration depth bytes sub))) c.deref-2.ensures.value
    ∙ (list_of (enum_name c.as_str-3.result.now) descriptors.File descriptors.Enumeration depth bytes 5 c.in_ok-enums.enums.items refl c.in_ok-enums.ensures.records c.in_ok-enums.ensures.subs
    ∙ ap (λ p. map (enum_name p) (messages_in descriptors.File 5 t)) (c.as_str-3.ensures ∙ prefix))) in
    let messages : c.read_messages.new.list ≡ flat_map (messages_of (package_of t)) (messages_in descriptors.File 4 t) =
    c.in_ok-read_messages.ensures
    ∙ (ap (λ ms. ms ++ flat_map (λ sub. messages_of c.as_str-2.result.now (sub_tree descriptors.Message depth bytes sub)) c.deref.result.now) c.new-messages.ensures
    ∙ (ap (flat_map (λ sub. messages_of c.as_str-2.result.now (sub_tree descriptors.Message depth bytes sub))) c.deref.ensures.value
    ∙ (file_messages c.as_str-2.result.now depth bytes c.in_ok-subs.subs.items c.in_ok-subs.ensures.records c.in_ok-subs.ensures.subs
    ∙ ap (λ p. flat_map (messages_of p) (messages_in descriptors.File 4 t)) (c.as_str-2.ensures ∙ prefix)))) in
    file_same _ _ _ _ _ _ syntax enums messages ∙ ap (λ d. file_of (tree_at d depth bytes)) (sym c.requires.descriptor)
