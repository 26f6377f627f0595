use Rattle.std.proofs.Common.{◌≡◌, take, None, length}
use Rattle.std.specs.Prelude.{nat_lt}
use Rattle.pb_schema.specs.Lawful.{most_fields}
use Rattle.desc_pool.specs.Refusals.{first_that}
use Rattle.desc_pool.proofs.refusals.first_wide.Given as goal

abbrev pub invariant-loop-message : goal.invariant-loop-message
invariant-loop-message l = first_that (λ message. nat_lt most_fields (length message.fields)) (take l.message-index l.messages) ≡ None
