use Rattle.arena_run.proofs.Parsing.{empty_over}
use Rattle.arena_run.proofs.parse.empty_caches.Goals as goal

pub returns : goal.returns
returns c = empty_over 64 c.empty.result c.empty.ensures.life
