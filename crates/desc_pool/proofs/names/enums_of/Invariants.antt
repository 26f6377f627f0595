use Rattle.std.proofs.Common.{◌≡◌, take, ℕ, List}
use Rattle.std.specs.Option.{is_some}
use Rattle.std.specs.BTreeMap.{get_by_text}
use Rattle.desc_pool.specs.Names.{is_enum}
use Rattle.desc_pool.proofs.names.enums_of.Given as goal

abbrev pub invariant-loop-decl : goal.invariant-loop-decl
invariant-loop-decl l = (q : List ℕ) → is_some (get_by_text l.enums q) ≡ is_enum (take l.decl-index l.names) q
