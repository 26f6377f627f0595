use Rattle.std.proofs.Common.{length}
use Rattle.parse_pool.proofs.trials.list_frames.Given as goal

abbrev pub decreases-loop-worker : goal.decreases-loop-worker
decreases-loop-worker l = length l.workers.items
