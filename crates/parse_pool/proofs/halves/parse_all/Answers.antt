use Rattle.std.proofs.Common.{length, arith}
use Rattle.parse_pool.specs.Phases.{phase}
use Rattle.parse_pool.proofs.Ended.{all_ended, numbered_on}
use Rattle.parse_pool.proofs.halves.parse_all.Goals as goal

pub returns-clause-ended : goal.returns-clause-ended
returns-clause-ended g c =
    let ws = c.args.workers.now in
    let ph = phase c.args.shared.now c.args.types.now c.args.root c.args.frames.now c.args.first c.args.count (length ws) in
    let worked = c.work_all.ensures.worked in
    all_ended ph c.work_all.new.workers (omega (arith, c.requires.some)) worked.count (numbered_on ph ws c.work_all.new.workers worked c.requires.numbers) c.work_all.result c.work_all.ensures.ends
