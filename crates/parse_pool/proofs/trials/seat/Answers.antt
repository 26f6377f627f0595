use Rattle.std.proofs.Common.{◌≡◌, length, sym, ap, subst, ◌∙◌, ⊎_elim, arith}
use Rattle.std.proofs.lemmas.Option.{same_Some}
use Rattle.arena_list.proofs.Words.Lists.{at_end}
use Rattle.ts_arena.specs.declared.pass.Pass.{Pass}
use Rattle.ts_arena.specs.Passes.{IsPassOf}
use Rattle.parse_pool.specs.Workers.{WorkerState}
use Rattle.parse_pool.specs.Ends.{AreReady, AreNumbered, IsReady}
use Rattle.parse_pool.proofs.trials.seat.Goals as goal

pub returns-clause-ready : goal.returns-clause-ready
returns-clause-ready c =
    let sh = c.args.shared.now in let before = c.args.workers.now.items in let worker = c.new-worker.result in let made = c.new-worker.ensures in
    let here : IsReady sh worker = record { made = λ p is. subst (λ (q : Pass). IsPassOf sh q) (same_Some c.args.pass p (sym made.pass ∙ is)) c.requires.made; none = made.results } in
    subst (AreReady sh) (sym c.in-Ok.ensures.items) (λ k w at. ⊎_elim (λ old. c.requires.ready k w old) (λ new. subst (λ (x : WorkerState). IsReady sh x) new.1 here) (at_end before worker w k at))

pub returns-clause-numbered : goal.returns-clause-numbered
returns-clause-numbered c =
    let before = c.args.workers.now.items in let worker = c.new-worker.result in
    let number : c.caller-number.result ≡ length before = (let f = c.if-number-len.false in let l = c.len.ensures in let ok = c.args.workers.now.ok.0 in omega arith) in
    subst AreNumbered (sym c.in-Ok.ensures.items) (λ k w at. ⊎_elim (λ old. c.requires.numbered k w old) (λ new. ap (λ (x : WorkerState). x.number) (sym new.1) ∙ c.new-worker.ensures.number ∙ number ∙ sym new.0) (at_end before worker w k at))
