use Rattle.arena_run.proofs.Parsing.{empty_front}
use Rattle.arena_run.proofs.parse.parse_input.Goals as goal

pub parse_with-requires-clause-caches : goal.parse_with-requires-clause-caches
parse_with-requires-clause-caches g c κs within = empty_front c.empty_caches-caches.result c.args.input.now.workers c.empty_caches-caches.ensures
