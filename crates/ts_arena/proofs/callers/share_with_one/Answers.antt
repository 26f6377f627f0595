use Rattle.std.proofs.Common.{◌≡◌, ℕ, List, [], ◌∷◌, length, sym, subst, ap, refl, arith}
use mathlib.Core.Option.{some}
use lib.ListN.{get_elem?}
use Rattle.std.proofs.lemmas.List.{length-append}
use Rattle.arena_list.proofs.Steps.Seats.{at_end_of}
use Rattle.ts_arena.specs.declared.pass.Pass.{Pass}
use Rattle.ts_arena.proofs.callers.share_with_one.Goals as goal

pub returns-in-Some-clause-made : goal.returns-in-Some-clause-made
returns-in-Some-clause-made c = let rest = c.pop.new.self.items in
    c.in-Ok.ensures.passes.all (length rest) c.in-Some.pass (subst (λ (l : List Pass). get_elem? l (length rest) ≡ some c.in-Some.pass) (sym c.in-Some.ensures.items) (at_end_of rest c.in-Some.pass))

pub returns-in-Some-clause-no_step : goal.returns-in-Some-clause-no_step
returns-in-Some-clause-no_step c = let rest = c.pop.new.self.items in let o = c.in-Ok.ensures.passes in
    let alone : length rest ≡ 0 = (let n = o.count in let l = ap length c.in-Some.ensures.items in let m = length-append rest (c.in-Some.pass ∷ []) in omega arith) in
    (o.each (length rest) 4 c.in-Some.pass (subst (λ (k : ℕ). get_elem? {A = ℕ} (4 ∷ []) k ≡ some 4) (sym alone) refl)
    (subst (λ (l : List Pass). get_elem? l (length rest) ≡ some c.in-Some.pass) (sym c.in-Some.ensures.items) (at_end_of rest c.in-Some.pass))).no_step
