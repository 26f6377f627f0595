use Rattle.std.proofs.Common.{◌≡◌, ◌++◌, ◌≤◌, take, map}
use Rattle.std.specs.Prelude.{All}
use Rattle.pb_schema.specs.declared.schema.MessageType.{MessageType}
use Rattle.pb_schema.specs.Lawful.{most_oneofs}
use Rattle.desc_pool.specs.Linked.{message_type}
use Rattle.desc_pool.proofs.link.push_types.Given as goal

abbrev pub invariant-loop-message : goal.invariant-loop-message
invariant-loop-message l =
    (l.types.items ≡ l.initial.types.items ++ map (message_type l.names.list) (take l.message-index l.messages))
    × All (λ (type : MessageType). type.oneofs ≤ most_oneofs) l.types.items
