use Rattle.std.proofs.Common.{rules, refl}
use Rattle.ts_arena.proofs.Finding.{at_index}
use Rattle.parse_pool.proofs.worker.Worker.message.Goals as goal

pub returns : goal.returns
returns c = (c.index.result.now, at_index c.args.self.now.results c.args.turn c.index.result.now c.requires (search rules), refl)
