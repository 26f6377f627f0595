use Rattle.std.proofs.Common.{◌≡◌, List, length, refl, sym, ap, subst, ◌∙◌, arith}
use Rattle.ts_arena.specs.declared.pass.Pass.{Pass}
use Rattle.ts_arena.specs.declared.side.Side.TheVariants.{Unsettled}
use Rattle.ts_arena.specs.Passes.{SharedState, AreAllOf, made_by}
use Rattle.parse_pool.specs.Starting.{FitPasses}
use Rattle.parse_pool.specs.Phases.{phase}
use Rattle.parse_pool.proofs.Begun.{fit_first, in_order}
use Rattle.parse_pool.proofs.Settling.{leaves_sole, leaves_unsettled}
use Rattle.parse_pool.proofs.Sides.{all_of, fit_passes, none_missing}
use Rattle.parse_pool.proofs.whole.run_phase.Goals as goal

pub work_phase-end-requires-clause-order : goal.work_phase-end-requires-clause-order
work_phase-end-requires-clause-order g c κs within =
    let s = c.in-Ok-share_among.ensures.shared in
    in_order c.args.arena c.in-Ok-share_among.shared.0 s.0 c.in-Ok-share_among.shared.1.items s.3 s.4 s.1

pub work_phase-end-requires-clause-fit : goal.work_phase-end-requires-clause-fit
work_phase-end-requires-clause-fit g c κs within =
    let s = c.in-Ok-share_among.ensures.shared in
    fit_first c.args.arena c.in-Ok-share_among.shared.0 s.0 c.in-Ok-share_among.shared.1.items s.3 s.4 s.1 c.args.caches.now c.requires.fit

pub settle-requires : goal.settle-requires
settle-requires g c =
    let s = c.in-Ok-share_among.ensures.shared in
    let sh = c.in-Ok-share_among.shared.0 in
    let passes = c.in-Ok-share_among.shared.1.items in
    let now = c.work_phase-end.new in
    let ph = phase sh c.args.types.now c.args.root c.args.frames.now c.args.first c.args.count (length passes) in
    let long : length c.args.caches.now ≡ length passes = omega (arith, s.2, s.4.count) in
    record { own = λ k p at life. all_of ph passes now.passes.items c.args.caches.now now.caches now.messages.items c.work_phase-end.result c.work_phase-end.ensures.run long c.work_phase-end.ensures.caches c.args.arena sh refl s.0 s.3 s.4 s.1 k p at }

pub returns-in-Ok-settle : goal.returns-in-Ok-settle
returns-in-Ok-settle g c =
    let s = c.in-Ok-share_among.ensures.shared in
    let sh = c.in-Ok-share_among.shared.0 in
    let passes = c.in-Ok-share_among.shared.1.items in
    let now = c.work_phase-end.new in
    let ph = phase sh c.args.types.now c.args.root c.args.frames.now c.args.first c.args.count (length passes) in
    let long : length c.args.caches.now ≡ length passes = omega (arith, s.2, s.4.count) in
    record {
      leaves = leaves_sole ph passes now.passes.items c.args.caches.now now.caches now.messages.items c.work_phase-end.result c.work_phase-end.ensures.run long c.work_phase-end.ensures.caches c.args.arena sh refl s.0 s.3 s.4 s.1 c.in-Ok-settle.arena c.in-Ok-settle.ensures.settled
          c.in-Ok-share_among.ensures.lawful c.arenas_are_lawful.ensures refl c.requires.owners (omega (arith, long, c.requires.some.0)) (omega (arith, long, c.requires.some.1)) c.requires.there;
    }

pub returns : goal.returns
returns g c =
    let s = c.in-Ok-share_among.ensures.shared in
    let sh = c.in-Ok-share_among.shared.0 in
    let passes = c.in-Ok-share_among.shared.1.items in
    let now = c.work_phase-end.new in
    let ph = phase sh c.args.types.now c.args.root c.args.frames.now c.args.first c.args.count (length passes) in
    let long : length c.args.caches.now ≡ length passes = omega (arith, s.2, s.4.count) in
    let refused = c.in-Err-settle.ensures.refused in
    let same : c.in-Err-settle.shared ≡ sh = refused.0 in
    let given : c.in-Err-settle.passes.items ≡ now.passes.items = refused.1 in
    let run = c.work_phase-end.ensures.run in
    let after_long = c.work_phase-end.ensures.caches in
    record {
      leaves = leaves_unsettled ph passes now.passes.items c.args.caches.now now.caches now.messages.items c.work_phase-end.result run long after_long c.args.arena sh refl s.0 s.3 s.4 s.1 (Unsettled c.in-Err-settle.shared c.in-Err-settle.passes) (
        subst (λ (x : SharedState). AreAllOf x c.in-Err-settle.passes.items) (sym same) (subst (λ (ps : List Pass). AreAllOf sh ps) (sym given) (all_of ph passes now.passes.items c.args.caches.now now.caches now.messages.items c.work_phase-end.result run long after_long c.args.arena sh refl s.0 s.3 s.4 s.1)),
        ap (λ (ps : List Pass). length ps) given ∙ none_missing ph passes now.passes.items c.args.caches.now now.caches now.messages.items c.work_phase-end.result run long after_long c.args.arena sh refl s.0 s.3 s.4 s.1 ∙ ap (λ (x : SharedState). made_by x) (sym same),
      )
          (ap (λ (x : SharedState). x.life) same ∙ s.3.life_is, ap (λ (x : SharedState). x.policy) same ∙ s.3.policy_is, ap (λ (x : SharedState). x.adopted) same ∙ s.3.adopted_are)
          (subst (λ (ps : List Pass). FitPasses now.caches ps) (sym given) (fit_passes ph passes now.passes.items c.args.caches.now now.caches now.messages.items c.work_phase-end.result run long after_long c.args.arena sh refl s.0 s.3 s.4 s.1))
          (λ P. tt);
    }
