use Rattle.std.proofs.Common.{◌≡◌, take, map}
use Rattle.desc_pool.specs.declared.descriptor.Descriptor.TheVariants as descriptors
use Rattle.desc_pool.specs.Files.{file_of}
use Rattle.desc_pool.specs.Payloads.{sub_tree}
use Rattle.desc_pool.proofs.read.file_list.Given as goal

abbrev pub invariant-loop-sub : goal.invariant-loop-sub
invariant-loop-sub l = l.list ≡ map (λ sub. file_of (sub_tree descriptors.File l.depth l.bytes sub)) (take l.sub-index l.subs)
