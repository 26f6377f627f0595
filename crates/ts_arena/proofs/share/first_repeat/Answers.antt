use Rattle.std.proofs.Common.{take, sym, subst, arith}
use Rattle.arena_list.specs.Rule.Founded.{Differ}
use Rattle.arena_list.proofs.Making.Dealing.{at_zero}
use Rattle.ts_arena.proofs.Finding.{at_take, take_more, take_all, differ_more}
use Rattle.ts_arena.proofs.share.first_repeat.Goals as goal

pub returns-in-Some-clause-repeat : goal.returns-in-Some-clause-repeat
returns-in-Some-clause-repeat c = let xs = c.args.callers.now in let i = c.loop-second.second in let first = at_take xs i c.in-Some.first _ c.in-Some.ensures.there in record {
  before = first.1;
  who = _;
  at_first = first.0;
  at_second = at_zero xs i c.loop-second-test.true;
  least = c.loop-second.invariant;
}

pub loop-second-preserved : goal.loop-second-preserved
loop-second-preserved c = let xs = c.args.callers.now in let i = c.loop-second.second in let at = at_zero xs i c.loop-second-test.true in
    subst Differ (sym (take_more xs i _ at)) (differ_more (take i xs) _ c.loop-second.invariant c.in_default.ensures.none)

pub returns-clause-none : goal.returns-clause-none
returns-clause-none c = subst Differ (take_all c.args.callers.now c.loop-second.second (let a = c.loop-second-test.false in omega arith)) c.loop-second.invariant
