use Rattle.std.proofs.Common.{◌∷◌, [], length, ap, ◌∙◌}
use lib.ListN.{get_elem?}
use Rattle.arena_list.proofs.Words.Lists.{at_more}
use Rattle.arena_list.proofs.Steps.Seats.{at_end_of}
use Rattle.arena_list.proofs.close.free_parts.Goals as goal

pub loop-part-preserved : goal.loop-part-preserved
loop-part-preserved g c = λ k x at. c.loop-part.invariant k x (ap (λ l. get_elem? l k) c.in-Some.ensures.items ∙ at_more c.pop.new.self.items (c.in-Some.part ∷ []) k x at)

pub unreachable-requires : goal.unreachable-requires
unreachable-requires g c = let rest = c.pop.new.self.items in let part = c.in-Some.part in
    c.in_default-part.not-None (c.loop-part.invariant (length rest) part (ap (λ l. get_elem? l (length rest)) c.in-Some.ensures.items ∙ at_end_of rest part))
