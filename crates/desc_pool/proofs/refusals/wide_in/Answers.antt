use Rattle.std.proofs.Common.{◌∙◌, length, refl, sym, ap}
use Rattle.std.specs.Prelude.{nat_lt}
use Rattle.std.specs.Option.{option_map}
use Rattle.pb_schema.specs.Lawful.{most_fields}
use Rattle.desc_pool.specs.declared.file.MessageDecl.{MessageDecl}
use Rattle.desc_pool.specs.declared.file.FileDecl.{FileDecl}
use Rattle.desc_pool.specs.Refusals.{first_that}
use Rattle.desc_pool.proofs.Firsts.{some_hit_in, some_miss_in}
use Rattle.desc_pool.proofs.refusals.wide_in.Goals as goal

pub returns-in-Some : goal.returns-in-Some
returns-in-Some c =
    sym (some_hit_in (λ (file : FileDecl). option_map (λ (message : MessageDecl). message.name) (first_that (λ (message : MessageDecl). nat_lt most_fields (length message.fields)) file.messages)) c.args.files.now c.args.files.now c.loop-file.file-index c.file-item.result c.in-Some.name refl c.loop-file.invariant c.loop-file-test.true c.file-item.is
    (ap (λ ms. option_map (λ (message : MessageDecl). message.name) (first_that (λ (message : MessageDecl). nat_lt most_fields (length message.fields)) ms)) (sym c.as_slice.ensures) ∙ (sym c.in_ok-name.ensures ∙ c.in-Some.is)))

pub loop-file-preserved : goal.loop-file-preserved
loop-file-preserved c =
    some_miss_in (λ (file : FileDecl). option_map (λ (message : MessageDecl). message.name) (first_that (λ (message : MessageDecl). nat_lt most_fields (length message.fields)) file.messages)) c.args.files.now c.args.files.now c.loop-file.file-index c.file-item.result refl c.loop-file.invariant c.loop-file-test.true c.file-item.is
    (ap (λ ms. option_map (λ (message : MessageDecl). message.name) (first_that (λ (message : MessageDecl). nat_lt most_fields (length message.fields)) ms)) (sym c.as_slice.ensures) ∙ (sym c.in_ok-name.ensures ∙ c.in_default.is))
