use Rattle.std.proofs.Common.{sym, subst, ◌++◌}
use Rattle.ts_arena.proofs.Finding.{at_index}
use Rattle.parse_pool.specs.Workers.{WorkerState}
use Rattle.parse_pool.specs.Ends.{IsReady, AreReady, HasWorked, HaveWorked}
use Rattle.parse_pool.proofs.Both.{ready_front, ready_back, both_worked, one_worked}
use Rattle.parse_pool.proofs.halves.+halves.Goals as goal

pub work_all-work-requires : goal.work_all-work-requires
work_all-work-requires g t c =
    let w = c.index-workers-0.result in
    subst (λ (x : WorkerState). IsReady c.args.phase.now.shared x) c.index-workers-0.is (c.requires.ready 0 w (at_index c.args.workers.now 0 w c.requires.some c.index-workers-0.is))

pub work_all-returns-then-workers-lt2-clause-worked : goal.work_all-returns-then-workers-lt2-clause-worked
work_all-returns-then-workers-lt2-clause-worked g t c =
    let w = c.index-workers-0.result in let new = c.work.new.worker in let ph = c.args.phase.now in
    one_worked ph c.args.workers.now w new c.if-workers-lt2.true (at_index c.args.workers.now 0 w c.requires.some c.index-workers-0.is)
    (subst (λ (x : WorkerState). HasWorked ph x new) (sym c.index-workers-0.is) c.work.ensures.worked)

pub work_all-work_both-one-requires-clause-left : goal.work_all-work_both-one-requires-clause-left
work_all-work_both-one-requires-clause-left g t c κs within =
    let r = c.split_at_mut-left.result in let sh = c.args.phase.now.shared in
    ready_front sh r.0.now r.1.now (subst (AreReady sh) c.split_at_mut-left.ensures.value c.requires.ready)

pub work_all-work_both-one-requires-clause-right : goal.work_all-work_both-one-requires-clause-right
work_all-work_both-one-requires-clause-right g t c κs within =
    let r = c.split_at_mut-left.result in let sh = c.args.phase.now.shared in
    ready_back sh r.0.now r.1.now (subst (AreReady sh) c.split_at_mut-left.ensures.value c.requires.ready)

pub work_all-returns-clause-worked : goal.work_all-returns-clause-worked
work_all-returns-clause-worked g t c =
    let r = c.split_at_mut-left.result in let ph = c.args.phase.now in
    let left = c.work_both-one.new.left in let right = c.work_both-one.new.right in
    subst (λ ws. HaveWorked ph ws (left ++ right)) (sym c.split_at_mut-left.ensures.value) (both_worked ph r.0.now r.1.now left right c.work_both-one.ensures.left c.work_both-one.ensures.right)

pub work_all-returns-clause-ends : goal.work_all-returns-clause-ends
work_all-returns-clause-ends g t c = c.end_of_both.ensures c.args.phase.now c.work_both-one.new.left c.work_both-one.new.right c.work_both-one.ensures.one c.work_both-one.ensures.other
