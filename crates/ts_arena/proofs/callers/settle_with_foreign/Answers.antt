use Rattle.std.proofs.Common.{sym, subst, ◌∙◌, ap, ⊎_elim}
use Rattle.arena_list.proofs.Words.Lists.{at_end}
use Rattle.ts_arena.specs.declared.pass.Pass.{Pass}
use Rattle.ts_arena.specs.Settling.{AreOwn}
use Rattle.ts_arena.proofs.callers.settle_with_foreign.Goals as goal

pub settle-requires : goal.settle-requires
settle-requires c = record {
  own = subst (AreOwn c.args.shared) (sym c.in-Ok.ensures.items) (λ k p at life. ⊎_elim (λ t. c.requires.all k p t) (λ t. absurd (c.requires.foreign (ap (λ (q : Pass). q.life) t.1 ∙ life))) (at_end c.args.passes.items c.args.foreign p k at));
}
