use Rattle.std.proofs.Common.{◌≡◌, List, [], ◌∷◌, length, sym, subst}
use mathlib.Core.Option.{some}
use lib.ListN.{get_elem?}
use Rattle.arena_list.proofs.Words.Lists.{at_more}
use Rattle.arena_list.proofs.Steps.Seats.{at_end_of}
use Rattle.ts_arena.specs.declared.pass.Pass.{Pass}
use Rattle.parse_pool.proofs.trials.take_pass.Goals as goal

pub returns-in-Some-clause-all : goal.returns-in-Some-clause-all
returns-in-Some-clause-all c = λ k p at. c.requires k p (subst (λ (l : List Pass). get_elem? l k ≡ some p) (sym c.in-Some.ensures.items) (at_more c.pop.new.self.items (c.in-Some.pass ∷ []) k p at))

pub returns-in-Some-clause-pass : goal.returns-in-Some-clause-pass
returns-in-Some-clause-pass c = c.requires (length c.pop.new.self.items) c.in-Some.pass (subst (λ (l : List Pass). get_elem? l (length c.pop.new.self.items) ≡ some c.in-Some.pass) (sym c.in-Some.ensures.items) (at_end_of c.pop.new.self.items c.in-Some.pass))
