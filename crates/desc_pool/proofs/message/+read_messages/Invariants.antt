use Rattle.std.proofs.Common.{◌≡◌, ◌-◌, ◌++◌, take}
use Rattle.std.specs.Prelude.{flat_map}
use Rattle.desc_pool.specs.declared.descriptor.Descriptor.TheVariants as descriptors
use Rattle.desc_pool.specs.Files.{messages_of}
use Rattle.desc_pool.specs.Payloads.{sub_tree}
use Rattle.desc_pool.proofs.message.+read_messages.Given as goal

abbrev pub decreases-read_messages : goal.decreases-read_messages
decreases-read_messages l = 100 - l.depth

abbrev pub invariant-loop-sub : goal.invariant-loop-sub
invariant-loop-sub l = l.list ≡ l.initial.list ++ flat_map (λ sub. messages_of l.prefix (sub_tree descriptors.Message l.depth l.bytes sub)) (take l.sub-index l.subs)
