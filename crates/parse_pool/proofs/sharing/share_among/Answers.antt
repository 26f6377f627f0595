use Rattle.std.proofs.Common.{◌≤◌, take, length, length-take, subst, arith}
use Rattle.ts_arena.specs.Sharing.{RefusesShare}
use Rattle.parse_pool.proofs.Starting.{few_together, numbered_differ, numbered_front}
use Rattle.parse_pool.proofs.sharing.share_among.Goals as goal

pub unreachable-requires : goal.unreachable-requires
unreachable-requires c =
    let numbers = take c.args.workers c.all_numbers-numbers.result in
    let twice = subst (RefusesShare c.args.arena.owners numbers) c.in-Err-SameCaller-default.field-0-0-is c.in-Err-SameCaller-default.ensures.refused.1 in
    let same = numbered_differ numbers (numbered_front c.args.workers c.all_numbers-numbers.result c.all_numbers-numbers.ensures.own) _ _ _ twice.at_first twice.at_second in
    omega (arith, same, twice.before)

pub unreachable-requires-in-Err-TooManyCallers-default : goal.unreachable-requires-in-Err-TooManyCallers-default
unreachable-requires-in-Err-TooManyCallers-default c =
    let numbers = take c.args.workers c.all_numbers-numbers.result in
    let many = subst (RefusesShare c.args.arena.owners numbers) c.in-Err-TooManyCallers-default.field-0-0-is c.in-Err-TooManyCallers-default.ensures.refused.1 in
    let own = numbered_front c.args.workers c.all_numbers-numbers.result c.all_numbers-numbers.ensures.own in
    let short : length numbers ≤ 64 = omega (arith, length-take c.args.workers c.all_numbers-numbers.result, c.requires.workers.1) in
    let few = few_together c.args.arena.owners numbers c.arenas_are_lawful.ensures.owners.callers c.requires.owners own short in
    omega (arith, few, many.1, many.2, many.3)

pub returns-in-Ok-clause-shared : goal.returns-in-Ok-clause-shared
returns-in-Ok-clause-shared c =
    let numbers = take c.args.workers c.all_numbers-numbers.result in (
      numbers,
      numbered_front c.args.workers c.all_numbers-numbers.result c.all_numbers-numbers.ensures.own,
      omega (arith, length-take c.args.workers c.all_numbers-numbers.result, c.requires.workers.1, c.all_numbers-numbers.ensures.long),
      c.in-Ok.ensures.shared,
      c.in-Ok.ensures.passes,
    )
