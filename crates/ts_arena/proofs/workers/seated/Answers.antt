use Rattle.std.proofs.Common.{◌∷◌, [], sym, subst, arith}
use Rattle.std.specs.Prelude.{All, Some}
use Rattle.std.proofs.lemmas.List.Elements.{All-append, All-cons, All-nil}
use Rattle.ts_arena.specs.Ready.{IsReady}
use Rattle.ts_arena.proofs.workers.seated.Goals as goal

pub loop-pass-preserved : goal.loop-pass-preserved
loop-pass-preserved c = (
  c.take_pass.ensures.all,
  subst (All (IsReady c.args.shared.now)) (sym c.in-Ok.ensures.items) (All-append (IsReady c.args.shared.now) c.loop-pass.seats.items (Some (c.in-Some.pass, c.empty.result) ∷ []) c.loop-pass.invariant.1 (All-cons (IsReady c.args.shared.now) (Some (c.in-Some.pass, c.empty.result)) []
      (c.in-Some.ensures.pass, λ e. let born = c.life.ensures.born in let none = c.empty.ensures.life in let life = c.in-Some.ensures.pass.life_is in absurd (omega arith)) (All-nil (IsReady c.args.shared.now)))),
)
