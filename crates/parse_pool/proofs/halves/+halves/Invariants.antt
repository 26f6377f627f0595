use Rattle.std.proofs.Common.{◌+◌, ◌*◌, ◌-◌, length}
use Rattle.parse_pool.proofs.halves.+halves.Given as goal

abbrev pub decreases-work_all : goal.decreases-work_all
decreases-work_all g l = 4 * length l.workers.now

abbrev pub decreases-work_both : goal.decreases-work_both
decreases-work_both g l = 4 * (length l.left.now + length l.right.now) - 1

abbrev pub decreases-work_both-join_mut+arg2 : goal.decreases-work_both-join_mut+arg2
decreases-work_both-join_mut+arg2 g l = 4 * length l.left.now + 1

abbrev pub decreases-work_both-join_mut+arg3 : goal.decreases-work_both-join_mut+arg3
decreases-work_both-join_mut+arg3 g l = 4 * length l.right.now + 1
