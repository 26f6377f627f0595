use Rattle.std.proofs.Common.{sym, subst, ⊎_elim}
use Rattle.arena_list.proofs.Words.Lists.{at_end}
use Rattle.ts_arena.specs.Passes.{AreAllOf, IsPassOf}
use Rattle.ts_arena.proofs.callers.put_pass.Goals as goal

pub returns : goal.returns
returns c = record { all = subst (AreAllOf c.args.shared.now) (sym c.in-Ok.ensures.items) (λ k p at. ⊎_elim (λ t. c.requires.all k p t) (λ t. subst (IsPassOf c.args.shared.now) t.1 c.requires.made) (at_end c.args.passes.now.items c.args.pass p k at)) }
