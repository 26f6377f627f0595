use Rattle.std.proofs.Common.{◌≡◌, ◌++◌, take, map}
use Rattle.desc_pool.specs.Names.{enum_decl}
use Rattle.desc_pool.proofs.names.push_enums.Given as goal

abbrev pub invariant-loop-name : goal.invariant-loop-name
invariant-loop-name l = l.list ≡ l.initial.list ++ map enum_decl (take l.name-index l.names)
