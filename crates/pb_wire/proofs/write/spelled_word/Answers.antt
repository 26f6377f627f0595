use Rattle.std.proofs.Common.{◌-◌, ◌*◌, ◌%◌, ◌^◌, arith}
use Rattle.std.proofs.lemmas.Nat.{and_le_l}
use Rattle.pb_wire.proofs.Groups.{groups_count}
use Rattle.pb_wire.proofs.Spread.{few_groups, word_spelled}
use Rattle.pb_wire.proofs.write.spelled_word.Goals as goal

pub overflow_shl-marks : goal.overflow_shl-marks
overflow_shl-marks c = let few = few_groups c.last_group-last.result c.args.value c.last_group-last.ensures.below c.requires.short in omega (arith, few)

pub overflow_add-result : goal.overflow_add-result
overflow_add-result c =
    omega (arith, c.spread_groups.ensures.bound, and_le_l 0x8080_8080_8080_8080 (2 ^ 64 - 1 - (2 ^ 64 - 1) * 2 ^ (8 * c.last_group-last.result) % 2 ^ 64))

pub returns-clause-word : goal.returns-clause-word
returns-clause-word c =
    let last = c.last_group-last.ensures in
    let few = few_groups c.last_group-last.result c.args.value last.below c.requires.short in
    let count = groups_count c.last_group-last.result c.args.value last.bound last.below last.above in
    word_spelled c.args.value c.last_group-last.result c.spread_groups.result c.spread_groups.ensures.same c.requires.short few count

pub returns-clause-count : goal.returns-clause-count
returns-clause-count c = let last = c.last_group-last.ensures in groups_count c.last_group-last.result c.args.value last.bound last.below last.above

pub returns-clause-bound : goal.returns-clause-bound
returns-clause-bound c =
    let few = few_groups c.last_group-last.result c.args.value c.last_group-last.ensures.below c.requires.short in (omega arith, omega (arith, few))
