use Rattle.std.proofs.Common.{◌≡◌, refl, arith}
use Rattle.arena_list.proofs.Calls.Searches.{and_here, and_all}
use Rattle.ts_arena.proofs.Finding.{at_index}
use Rattle.ts_arena.proofs.settle.first_foreign.Goals as goal

pub returns-then-pass-life-clause-foreign : goal.returns-then-pass-life-clause-foreign
returns-then-pass-life-clause-foreign c = record {
  pass = c.index-passes-place.result;
  there = at_index c.args.passes.now _ c.index-passes-place.result c.loop-place-test.true c.index-passes-place.is;
  life_is = refl;
  foreign = c.if-pass-life.true;
  first = c.loop-place.invariant;
}

pub loop-place-preserved : goal.loop-place-preserved
loop-place-preserved c = and_here (λ p. p.life ≡ c.args.life) c.args.passes.now c.loop-place.place c.index-passes-place.result c.loop-place-test.true c.index-passes-place.is c.loop-place.invariant c.if-pass-life.false

pub returns-clause-none : goal.returns-clause-none
returns-clause-none c = and_all (λ p. p.life ≡ c.args.life) c.args.passes.now c.loop-place.place (let a = c.loop-place-test.false in omega arith) c.loop-place.invariant
