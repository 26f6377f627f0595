use Rattle.std.proofs.Common.{None, sym, ◌∙◌, arith}
use Rattle.std.proofs.lemmas.Option.{none-some}
use Rattle.arena_list.proofs.Words.Lists.{at_below}
use Rattle.arena_list.proofs.Words.Few.{or_at}
use Rattle.arena_list.proofs.collect.put.Goals as goal

pub index_mut-requires : goal.index_mut-requires
index_mut-requires g c = let a = at_below c.args.parts.now.items c.args.slot None c.requires in let b = c.args.parts.now.ok.0 in omega arith

pub unreachable-requires : goal.unreachable-requires
unreachable-requires g c = none-some c.in-Some.field-0 (sym (or_at c.args.parts.now.items c.args.slot c.index_mut.result.now None c.requires) ∙ sym c.index_mut.ensures.value ∙ sym c.replace.ensures.value ∙ c.in-Some.is)
