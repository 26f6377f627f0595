use Rattle.pb_wire.proofs.Groups.{groups_count}
use Rattle.pb_wire.proofs.write.varint_len.Goals as goal

pub returns : goal.returns
returns c = let last = c.last_group.ensures in groups_count c.last_group.result c.args.value last.bound last.below last.above
