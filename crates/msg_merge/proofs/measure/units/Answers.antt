use Rattle.std.proofs.Common.{arith}
use Rattle.msg_merge.proofs.Counts.{depth_less, units_joined, below_end}
use Rattle.msg_merge.proofs.measure.units.Goals as goal

pub message_extent-requires : goal.message_extent-requires
message_extent-requires g c =
    let r = c.requires in
    let deep = depth_less r.0 in let joined = units_joined r.0 in let few = r.3 in
    (r.0, r.1, r.2.message, omega (arith, deep, joined, few))

pub returns : goal.returns
returns g c = λ t feet stand few. below_end t c.message_extent.result (c.message_extent.ensures t feet stand.message) few
