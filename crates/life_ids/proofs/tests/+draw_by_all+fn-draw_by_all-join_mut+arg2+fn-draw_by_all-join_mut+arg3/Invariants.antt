use Rattle.std.proofs.Common.{length}
use Rattle.life_ids.proofs.tests.+draw_by_all+fn-draw_by_all-join_mut+arg2+fn-draw_by_all-join_mut+arg3.Given as goal

abbrev pub decreases-draw_by_all : goal.decreases-draw_by_all
decreases-draw_by_all g l = length l.hands.now

abbrev pub decreases-join_mut+arg2 : goal.decreases-join_mut+arg2
decreases-join_mut+arg2 g l = length l.front.now

abbrev pub decreases-join_mut+arg3 : goal.decreases-join_mut+arg3
decreases-join_mut+arg3 g l = length l.back.now
