use Rattle.std.proofs.Common.{◌≡◌, take, ℕ, List}
use Rattle.std.specs.Option.{unwrap_or}
use Rattle.std.specs.BTreeMap.{get_by_text}
use Rattle.desc_pool.specs.Names.{times}
use Rattle.desc_pool.proofs.names.count_names.Given as goal

abbrev pub invariant-loop-decl : goal.invariant-loop-decl
invariant-loop-decl l = (q : List ℕ) → unwrap_or (get_by_text l.counts q) 0 ≡ times q (take l.decl-index l.names)
