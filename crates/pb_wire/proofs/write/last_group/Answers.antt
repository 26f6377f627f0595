use Rattle.std.proofs.Common.{arith}
use Rattle.std.proofs.lemmas.Nat.{leading_top}
use Rattle.pb_wire.proofs.Groups.{group_below, group_above}
use Rattle.pb_wire.proofs.write.last_group.Goals as goal

pub returns-clause-below : goal.returns-clause-below
returns-clause-below c =
    let value = c.args.value in
    let top = leading_top 64 value c.requires (omega (arith, c.ranges.value.fits)) in
    group_below _ top.0 value top.1 top.2

pub returns-clause-above : goal.returns-clause-above
returns-clause-above c =
    let value = c.args.value in
    let top = leading_top 64 value c.requires (omega (arith, c.ranges.value.fits)) in
    group_above _ top.0 value top.1 top.3
