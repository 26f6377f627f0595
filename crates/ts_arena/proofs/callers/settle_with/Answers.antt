use Rattle.std.proofs.Common.{List, sym, subst}
use Rattle.ts_arena.specs.declared.pass.Pass.{Pass}
use Rattle.ts_arena.specs.Passes.{SharedState, AreAllOf, IsPassOf}
use Rattle.ts_arena.proofs.callers.settle_with.Goals as goal

pub returns-in-Err-clause-back : goal.returns-in-Err-clause-back
returns-in-Err-clause-back c = let r = c.in-Err.ensures.refused in subst (λ (z : SharedState × List Pass). AreAllOf z.0 z.1) (λ i. (sym r.0 i, sym r.1 i)) c.requires

pub returns-in-Err-clause-kept : goal.returns-in-Err-clause-kept
returns-in-Err-clause-kept c = λ p made. subst (λ (sh : SharedState). IsPassOf sh p) (sym c.in-Err.ensures.refused.0) made
