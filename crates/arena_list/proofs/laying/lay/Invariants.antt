use Rattle.std.proofs.Common.{◌≡◌, map}
use Rattle.arena_list.specs.Words.Nodes.{before}
use Rattle.arena_list.specs.Rule.Founded.{meter, node_of, IsLaidTo}
use Rattle.arena_list.proofs.laying.lay.Given as goal

abbrev pub invariant-loop-entry : goal.invariant-loop-entry
invariant-loop-entry g l = (l.link ≡ before (map node_of l.linked) l.entry-index) × IsLaidTo (meter g.V.Part.owner_of g.V.Part.life_of g.V.Part.used_of) l.linked l.callers l.words l.entry-index
