use Rattle.std.proofs.Common.{◌≡◌, ◌++◌, ◌∷◌, [], Some, sym, ap, ◌∙◌, arith}
use Rattle.std.proofs.lemmas.Option.{none-some}
use Rattle.arena_list.specs.Closing.Closed.{entry}
use Rattle.arena_list.proofs.Words.Lists.{at_below}
use Rattle.arena_list.proofs.Words.Few.{or_at}
use Rattle.arena_list.proofs.collect.pull.Goals as goal

pub index_mut-requires : goal.index_mut-requires
index_mut-requires g c = let a = at_below c.args.parts.now.items c.args.slot (Some c.requires.there.0) c.requires.there.1 in let b = c.args.parts.now.ok.0 in omega arith

pub unreachable-requires-in-None : goal.unreachable-requires-in-None
unreachable-requires-in-None g c = none-some c.requires.there.0 (sym c.in-None.is ∙ c.replace.ensures.value ∙ c.index_mut.ensures.value ∙ or_at c.args.parts.now.items c.args.slot c.index_mut.result.now (Some c.requires.there.0) c.requires.there.1)

pub returns-clause-entry : goal.returns-clause-entry
returns-clause-entry g c = λ part at. let same : Some c.in-Some.part ≡ Some part = sym c.in-Some.is ∙ c.replace.ensures.value ∙ c.index_mut.ensures.value ∙ or_at c.args.parts.now.items c.args.slot c.index_mut.result.now (Some part) at in let is : c.in-Some.part ≡ part = cc in
    c.in_default.ensures.items ∙ ap (λ p. c.args.entries.now.items ++ entry c.args.slot c.args.caller p ∷ []) is
