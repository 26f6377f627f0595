use Rattle.std.proofs.Common.{◌≡◌, take, None}
use Rattle.desc_pool.specs.Refusals.{first_that, is_badly_placed}
use Rattle.desc_pool.proofs.rules.first_badly_placed.Given as goal

abbrev pub invariant-loop-field : goal.invariant-loop-field
invariant-loop-field l = first_that (is_badly_placed l.message) (take l.field-index l.message.fields) ≡ None
