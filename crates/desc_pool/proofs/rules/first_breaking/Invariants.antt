use Rattle.std.proofs.Common.{◌≡◌, take, None}
use Rattle.desc_pool.specs.Refusals.{first_that}
use Rattle.desc_pool.specs.Rules.{breaks}
use Rattle.desc_pool.proofs.rules.first_breaking.Given as goal

abbrev pub invariant-loop-field : goal.invariant-loop-field
invariant-loop-field l = first_that (breaks l.rule l.names.list) (take l.field-index l.message.fields) ≡ None
