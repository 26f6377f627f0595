use Rattle.std.proofs.Common.{◌≡◌, ◌++◌, take}
use Rattle.std.specs.Prelude.{flat_map}
use Rattle.desc_pool.specs.Names.{message_decl}
use Rattle.desc_pool.proofs.names.push_messages.Given as goal

abbrev pub invariant-loop-message : goal.invariant-loop-message
invariant-loop-message l = l.list ≡ l.initial.list ++ flat_map message_decl (take l.message-index l.messages)
