-- What a set gives, by its files.
use Rattle.std.proofs.Common.{◌≡◌, ℕ, List, Option, None, Some, Err, sym, ap, ◌∙◌}
use Rattle.std.specs.Option.{option_map}
use Rattle.std.proofs.lemmas.Option.{none-some, same_Some}
use Rattle.pb_schema.specs.Fault.{fault_of}
use Rattle.pb_schema.specs.Tree.{Tree}
use Rattle.pb_schema.specs.TreeOf.{tree_of}
use Rattle.desc_pool.specs.declared.file.FileDecl.{FileDecl}
use Rattle.desc_pool.specs.declared.fault.SchemaFault.{SchemaFault}
use Rattle.desc_pool.specs.declared.fault.SchemaFault.TheVariants.{Malformed}
use Rattle.desc_pool.specs.Descriptors.{descriptor_schema}
use Rattle.desc_pool.specs.Files.{files_of}
use Rattle.desc_pool.specs.Linked.{linked, linked_set, fault_byte}

by_tree : (o : Option Tree) (fault : SchemaFault) (files : List FileDecl) → option_map files_of o ≡ Some files → (elim o [ Some t ↦ linked (files_of t) | None ↦ Err fault ]) ≡ linked files
by_tree None fault files e = absurd (none-some files e)
by_tree (Some t) fault files e = ap linked (same_Some (files_of t) files e)

pub set_is_linked : (bytes : List ℕ) (files lent : List FileDecl) → option_map files_of (tree_of descriptor_schema 0 bytes) ≡ Some files → lent ≡ files → linked lent ≡ linked_set bytes
set_is_linked bytes files lent e same =
    ap linked same ∙ sym (by_tree (tree_of descriptor_schema 0 bytes) (Malformed (fault_byte (fault_of descriptor_schema 0 0 bytes))) files e)
