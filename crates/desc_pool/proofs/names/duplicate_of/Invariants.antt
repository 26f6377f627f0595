use Rattle.std.proofs.Common.{◌≡◌, take, None}
use Rattle.std.specs.Prelude.{nat_lt}
use Rattle.desc_pool.specs.Names.{times}
use Rattle.desc_pool.specs.Refusals.{first_that}
use Rattle.desc_pool.proofs.names.duplicate_of.Given as goal

abbrev pub invariant-loop-decl : goal.invariant-loop-decl
invariant-loop-decl l = first_that (λ decl. nat_lt 1 (times decl.name l.names)) (take l.decl-index l.names) ≡ None
