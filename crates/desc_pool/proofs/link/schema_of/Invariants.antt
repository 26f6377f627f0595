use Rattle.std.proofs.Common.{◌≡◌, ◌≤◌, take, map}
use Rattle.std.specs.Prelude.{All, flat_map}
use Rattle.pb_schema.specs.declared.schema.MessageType.{MessageType}
use Rattle.pb_schema.specs.Lawful.{most_oneofs}
use Rattle.desc_pool.specs.Linked.{message_type}
use Rattle.desc_pool.proofs.link.schema_of.Given as goal

abbrev pub invariant-loop-file : goal.invariant-loop-file
invariant-loop-file l =
    (l.types.items ≡ flat_map (λ file. map (message_type l.names.list) file.messages) (take l.file-index l.files))
    × All (λ (type : MessageType). type.oneofs ≤ most_oneofs) l.types.items
