use Rattle.arena_run.proofs.Ending.{one_more}
use Rattle.arena_run.proofs.outcome.end_regions.Goals as goal

pub loop-register-preserved : goal.loop-register-preserved
loop-register-preserved g c =
    let W = g.W.CleanupWatch in
    let e = c.end_region.ensures in
    one_more (W.told c.args.watch.now) (W.told c.loop-register.watch) (W.told c.end_region.new.watch) (W.room c.args.watch.now) (W.room c.loop-register.watch) (W.room c.end_region.new.watch) c.loop-register.sums c.end_region.new.sums
    c.args.registers.items c.loop-register.registers.items c.pop.new.self.items c.in-Some.register c.loop-register.invariant c.in-Some.ensures.items e.told e.tells e.room e.registered e.cleaned e.used
