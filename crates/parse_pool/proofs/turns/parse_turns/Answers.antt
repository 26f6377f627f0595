use Rattle.std.proofs.Common.{◌≡◌, ◌+◌, ◌*◌, ◌<◌, suc, length, None, ap, subst, sym, ◌∙◌, [], arith}
use Rattle.std.specs.Prelude.{IfOk, IfErr}
use Rattle.serial_arena.specs.Key.{key_of}
use Rattle.serial_arena.specs.Serial.{places_of, buffers_of, blocks_of}
use Rattle.dyn_message.specs.Changes.{Changes}
use Rattle.pb_parse.specs.Parsing.{IsParseFault}
use Rattle.parse_pool.specs.declared.pool_end.FrameResult.{FrameResult}
use Rattle.parse_pool.specs.Phases.{payload_at, fault_at, frame_of, end_of, cost_at}
use Rattle.parse_pool.specs.Parsed.{IsParsed, HasTurned, PartCosts}
use Rattle.parse_pool.specs.Ends.{StopsAs}
use Rattle.parse_pool.proofs.Ended.{stops_by}
use Rattle.parse_pool.proofs.OneTurn.{Steps, turned_badly, turned_well, next_frame}
use Rattle.parse_pool.proofs.turns.parse_turns.Goals as goal

pub returns-else-is_put-clause-turned : goal.returns-else-is_put-clause-turned
returns-else-is_put-clause-turned g c =
    let ph = c.args.phase.now in let w = c.args.worker in let rs = c.loop-frame.results.items in
    let inv = c.loop-frame.invariant in let e = c.parse_frame-next.ensures in let next = c.parse_frame-next.result in
    let within : frame_of ph w (length rs) < end_of ph = omega (arith, inv.1, c.loop-frame-test.true, ap end_of c.phase.view_is) in
    let step = subst (λ f. Steps ph f c.loop-frame.pass c.loop-frame.cache next.0 next.1) inv.1 (record { made = e.made; caller = e.caller; fits = e.fits; life = e.life; slot = e.slot; joined = e.joined; no_step = e.no_step; steps = e.steps; grown = λ part has. let k = e.grown part has in (k.0, k.1, k.2.changes) }) in (
      suc (length rs),
      subst (λ xs. HasTurned ph w (suc (length rs)) c.args.pass c.args.cache next.0 next.1 xs) (sym (c.put-is_put.ensures.kept c.if-is_put.false))
          (turned_badly ph w c.args.pass c.args.cache c.loop-frame.pass c.loop-frame.cache rs inv.0 next.0 next.1 within step),
    )

pub returns-in-Err-clause-turned : goal.returns-in-Err-clause-turned
returns-in-Err-clause-turned g c =
    let ph = c.args.phase.now in let w = c.args.worker in let rs = c.loop-frame.results.items in
    let inv = c.loop-frame.invariant in let e = c.parse_frame-next.ensures in let next = c.parse_frame-next.result in
    let within : frame_of ph w (length rs) < end_of ph = omega (arith, inv.1, c.loop-frame-test.true, ap end_of c.phase.view_is) in
    let step = subst (λ f. Steps ph f c.loop-frame.pass c.loop-frame.cache next.0 next.1) inv.1 (record { made = e.made; caller = e.caller; fits = e.fits; life = e.life; slot = e.slot; joined = e.joined; no_step = e.no_step; steps = e.steps; grown = λ part has. let k = e.grown part has in (k.0, k.1, k.2.changes) }) in
    (suc (length rs), turned_badly ph w c.args.pass c.args.cache c.loop-frame.pass c.loop-frame.cache rs inv.0 next.0 next.1 within step)

pub returns-in-Err-clause-stops : goal.returns-in-Err-clause-stops
returns-in-Err-clause-stops g c =
    let ph = c.args.phase.now in let w = c.args.worker in let rs = c.loop-frame.results.items in
    let inv = c.loop-frame.invariant in let e = c.parse_frame-next.ensures in let next = c.parse_frame-next.result in
    let within : frame_of ph w (length rs) < end_of ph = omega (arith, inv.1, c.loop-frame-test.true, ap end_of c.phase.view_is) in
    let made = inv.0.made in
    let k = e.grown made.part made.has_part in
    let fault = subst (λ r. IfErr r (IsParseFault (fault_at ph c.loop-frame.frame) (blocks_of k.0))) c.in-Err.is k.2.fault in
    let own : c.loop-frame.frame < end_of ph = omega (arith, inv.1, within) in
    subst (λ end. StopsAs ph w next.0 rs end) (sym c.end_by.ensures) (stops_by ph w next.0 rs k.0 c.loop-frame.frame inv.1 own k.1 c.in-Err.fault fault)

pub loop-frame-preserved : goal.loop-frame-preserved
loop-frame-preserved g c =
    let ph = c.args.phase.now in let w = c.args.worker in let rs = c.loop-frame.results.items in
    let inv = c.loop-frame.invariant in let e = c.parse_frame-next.ensures in let next = c.parse_frame-next.result in
    let within : frame_of ph w (length rs) < end_of ph = omega (arith, inv.1, c.loop-frame-test.true, ap end_of c.phase.view_is) in
    let step = subst (λ f. Steps ph f c.loop-frame.pass c.loop-frame.cache next.0 next.1) inv.1 (record { made = e.made; caller = e.caller; fits = e.fits; life = e.life; slot = e.slot; joined = e.joined; no_step = e.no_step; steps = e.steps; grown = λ part has. let k = e.grown part has in (k.0, k.1, k.2.changes) }) in
    let result : FrameResult = record { frame = c.loop-frame.frame; msg = c.in-Ok.msg } in
    let made = inv.0.made in
    let first = e.grown made.part made.has_part in
    let sound = subst (λ f. fault_at ph f ≡ None) inv.1 (subst (λ r. IfOk r (λ _. fault_at ph c.loop-frame.frame ≡ None)) c.in-Ok.is first.2.sound) in
    let added = c.put-is_put.ensures.added c.if-is_put.true in (
      subst (λ xs. HasTurned ph w (length xs) c.args.pass c.args.cache next.0 next.1 xs) (sym added)
          (turned_well ph w c.args.pass c.args.cache c.loop-frame.pass c.loop-frame.cache rs inv.0 next.0 next.1 within result inv.1 step sound
          (λ part has. let k = e.grown part has in (
            k.0,
            k.1,
            subst (λ f. Changes key_of places_of buffers_of blocks_of (4 * length (payload_at ph f) + 4) (4 * length (payload_at ph f) + 4) [] part k.0) inv.1 k.2.changes,
            subst (λ r. IfOk r (IsParsed ph part k.0 c.loop-frame.frame)) c.in-Ok.is k.2.message,
            subst (λ f. PartCosts ph part k.0 (λ meter. cost_at meter ph f)) inv.1 (subst (λ r. IfOk r (λ _. PartCosts ph part k.0 (λ meter. cost_at meter ph c.loop-frame.frame))) c.in-Ok.is k.2.costs),
          ))),
      next_frame ph w rs result c.loop-frame.frame c.phase.inside.workers inv.1 (ap (λ p. p.workers) c.phase.view_is) ∙ ap (λ xs. frame_of ph w (length xs)) (sym added),
    )
