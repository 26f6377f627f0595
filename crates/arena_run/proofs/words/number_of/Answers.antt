use Rattle.std.proofs.Common.{arith}
use Rattle.arena_run.proofs.Numbers.{number_is}
use Rattle.arena_run.proofs.words.number_of.Goals as goal

pub loop-digit-init : goal.loop-digit-init
loop-digit-init c = record { same = number_is c.args.spelled.now; below = omega arith }
