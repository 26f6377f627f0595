use Rattle.std.specs.BTreeMap.{get_by_text}
use Rattle.desc_pool.proofs.Naming.{PlacesTo}
use Rattle.desc_pool.proofs.names.places_of.Given as goal

abbrev pub invariant-loop-decl : goal.invariant-loop-decl
invariant-loop-decl l = PlacesTo l.names l.decl-index (get_by_text l.places) l.place
