use Rattle.std.proofs.Common.{length-set, refl, sym, ◌∙◌, ⊎_elim, arith}
use Rattle.arena_list.proofs.Words.Lists.{at_below}
use Rattle.ts_arena.proofs.Spots.{at_set}
use Rattle.parse_pool.proofs.sharing.all_numbers.Goals as goal

pub loop-i-init : goal.loop-i-init
loop-i-init c = record { long = refl; own = λ k x low at. absurd (omega (arith, low)) }

pub loop-i-preserved : goal.loop-i-preserved
loop-i-preserved c = record {
  long = ◌∙◌ (length-set c.loop-i.numbers c.loop-i.i c.loop-i.i) c.loop-i.invariant.long;
  own = λ k x low at. ⊎_elim (λ p. p.1 ∙ sym p.0) (λ p. c.loop-i.invariant.own k x (omega (arith, low, p.0)) p.1) (at_set c.loop-i.numbers c.loop-i.i c.loop-i.i k x at);
}

pub returns-clause-own : goal.returns-clause-own
returns-clause-own c = λ i x at. c.loop-i.invariant.own i x (omega (arith, at_below c.loop-i.numbers i x at, c.loop-i.invariant.long, c.loop-i-test.false)) at
