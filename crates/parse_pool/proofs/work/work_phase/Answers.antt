use Rattle.std.proofs.Common.{length, subst, sym}
use Rattle.parse_pool.specs.Ends.{AreNumbered, AreReady, HasEnded}
use Rattle.parse_pool.specs.Phases.{phase}
use Rattle.parse_pool.specs.declared.pool_end.PoolEnd.{PoolEnd}
use Rattle.parse_pool.specs.declared.pool_end.PoolEnd.TheVariants.{Done}
use Rattle.parse_pool.proofs.Collecting.{done_covered, seated_numbered, seated_ready}
use Rattle.parse_pool.proofs.Ended.{numbered_on}
use Rattle.parse_pool.proofs.work.work_phase.Goals as goal

pub parse_all-end-requires-clause-numbers : goal.parse_all-end-requires-clause-numbers
parse_all-end-requires-clause-numbers g c κs within =
    subst AreNumbered (sym c.as_mut_slice-seated.ensures.value) (seated_numbered c.args.passes.now.items c.args.caches.now c.seat_workers.new.workers.items c.seat_workers.ensures.seated c.requires.each)

pub parse_all-end-requires-clause-ready : goal.parse_all-end-requires-clause-ready
parse_all-end-requires-clause-ready g c κs within =
    subst (AreReady c.args.shared.now) (sym c.as_mut_slice-seated.ensures.value) (seated_ready c.args.passes.now.items c.args.caches.now c.seat_workers.new.workers.items c.seat_workers.ensures.seated c.requires.each c.args.shared.now c.requires.all)

pub collect_done-requires-clause-covered : goal.collect_done-requires-clause-covered
collect_done-requires-clause-covered g c = λ done.
    let olds = c.as_mut_slice-seated.result.now in
    let news = c.parse_all-end.new.workers in
    let ph = phase c.args.shared.now c.args.types.now c.args.root c.args.frames.now c.args.first c.args.count (length olds) in
    let numbers : AreNumbered olds = subst AreNumbered (sym c.as_mut_slice-seated.ensures.value) (seated_numbered c.args.passes.now.items c.args.caches.now c.seat_workers.new.workers.items c.seat_workers.ensures.seated c.requires.each) in
    let worked = c.parse_all-end.ensures.worked in
    let ended : HasEnded ph news Done = subst (λ (e : PoolEnd). HasEnded ph news e) done c.parse_all-end.ensures.ended in
    done_covered ph news worked.count (numbered_on ph olds news worked numbers) ended.0
