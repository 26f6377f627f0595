use Rattle.std.proofs.Common.{arith}
use Rattle.msg_merge.proofs.measure.depth.Goals as goal

pub message_extent-requires : goal.message_extent-requires
message_extent-requires g c =
    let r = c.requires in let few = r.3 in
    (r.0, r.1, r.2.message, omega (arith, few))

pub returns : goal.returns
returns g c = λ t feet stand few. let e = c.message_extent.ensures t feet stand.message in omega (arith, e.levels, few)
