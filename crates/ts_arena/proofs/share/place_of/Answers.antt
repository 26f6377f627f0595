use Rattle.std.proofs.Common.{◌≢◌, ℕ, refl, ap, ◌∙◌, arith}
use mathlib.Core.Option.{some}
use Rattle.arena_list.proofs.Making.Dealing.{at_zero}
use Rattle.arena_list.proofs.Calls.Searches.{and_all}
use Rattle.ts_arena.proofs.Finding.{and_next}
use Rattle.ts_arena.proofs.share.place_of.Goals as goal

pub returns-then-caller-who-clause-there : goal.returns-then-caller-who-clause-there
returns-then-caller-who-clause-there c = at_zero c.args.callers.now _ c.loop-at-test.true ∙ ap (λ (y : ℕ). some y) c.if-caller-who.true

pub loop-at-preserved : goal.loop-at-preserved
loop-at-preserved c = and_next (λ (x : ℕ). x ≢ c.args.who) c.args.callers.now c.loop-at.at _ (at_zero c.args.callers.now _ c.loop-at-test.true) c.loop-at.invariant c.if-caller-who.false

pub returns-clause-none : goal.returns-clause-none
returns-clause-none c = λ k e. and_all (λ (x : ℕ). x ≢ c.args.who) c.args.callers.now c.loop-at.at (let a = c.loop-at-test.false in omega arith) c.loop-at.invariant k c.args.who e refl
