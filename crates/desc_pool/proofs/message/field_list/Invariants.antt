use Rattle.std.proofs.Common.{◌≡◌, take, map}
use Rattle.desc_pool.specs.declared.descriptor.Descriptor.TheVariants as descriptors
use Rattle.desc_pool.specs.Files.{field_of}
use Rattle.desc_pool.specs.Payloads.{sub_tree}
use Rattle.desc_pool.proofs.message.field_list.Given as goal

abbrev pub invariant-loop-sub : goal.invariant-loop-sub
invariant-loop-sub l = l.list ≡ map (λ sub. field_of (sub_tree descriptors.Field l.depth l.bytes sub)) (take l.sub-index l.subs)
