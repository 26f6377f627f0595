use Rattle.std.proofs.Common.{◌+◌, ◌∙◌, eqb, cond, sym, ap, subst}
use Rattle.std.specs.Prelude.{slice_index}
use Rattle.desc_pool.proofs.Members.{RealTo, real_more}
use Rattle.desc_pool.proofs.link.real_before.Goals as goal

pub loop-i-preserved : goal.loop-i-preserved
loop-i-preserved c =
    subst (λ items. RealTo c.args.message.now (c.loop-i.i + 1) items (c.loop-i.count + c.real_one-count.result)) (sym c.in_ok-push.ensures.items)
    (real_more c.args.message.now c.loop-i.i c.loop-i.before.items c.loop-i.count (c.loop-i.count + c.real_one-count.result) c.in_ok-optional.optional.items c.in_ok-optional.ensures c.loop-i-test.true
    (ap (λ k. c.loop-i.count + k) (c.real_one-count.ensures ∙ ap (λ s. cond (eqb (slice_index s c.loop-i.i) 0) 1 0) c.as_slice-marks.ensures.value)) c.loop-i.invariant)
