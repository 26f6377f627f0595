use Rattle.std.proofs.Common.{◌≡◌, take, map}
use Rattle.desc_pool.specs.Linked.{by_number, field_type}
use Rattle.desc_pool.proofs.link.fields_of.Given as goal

abbrev pub invariant-loop-field : goal.invariant-loop-field
invariant-loop-field l = l.sorted.entries ≡ by_number (map (field_type l.names.list l.message) (take l.field-index l.message.fields))
