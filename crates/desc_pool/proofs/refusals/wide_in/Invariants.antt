use Rattle.std.proofs.Common.{◌≡◌, take, None, length}
use Rattle.std.specs.Prelude.{nat_lt}
use Rattle.std.specs.Option.{option_map}
use Rattle.pb_schema.specs.Lawful.{most_fields}
use Rattle.desc_pool.specs.Refusals.{first_some, first_that}
use Rattle.desc_pool.proofs.refusals.wide_in.Given as goal

abbrev pub invariant-loop-file : goal.invariant-loop-file
invariant-loop-file l = first_some (λ file. option_map (λ message. message.name) (first_that (λ message. nat_lt most_fields (length message.fields)) file.messages)) (take l.file-index l.files) ≡ None
