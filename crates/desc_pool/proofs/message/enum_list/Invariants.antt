use Rattle.std.proofs.Common.{◌≡◌, take, map}
use Rattle.desc_pool.specs.declared.descriptor.Descriptor.TheVariants as descriptors
use Rattle.desc_pool.specs.Files.{enum_name}
use Rattle.desc_pool.specs.Payloads.{sub_tree}
use Rattle.desc_pool.proofs.message.enum_list.Given as goal

abbrev pub invariant-loop-sub : goal.invariant-loop-sub
invariant-loop-sub l = l.list ≡ map (λ sub. enum_name l.prefix (sub_tree descriptors.Enumeration l.depth l.bytes sub)) (take l.sub-index l.subs)
