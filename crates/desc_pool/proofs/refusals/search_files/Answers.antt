use Rattle.std.proofs.Common.{◌∙◌, Some, refl, sym, ap}
use Rattle.std.specs.Option.{option_map}
use Rattle.desc_pool.specs.declared.file.MessageDecl.{MessageDecl}
use Rattle.desc_pool.specs.declared.file.FileDecl.{FileDecl}
use Rattle.desc_pool.specs.Refusals.{field_name, first_some}
use Rattle.desc_pool.specs.Rules.{found_by}
use Rattle.desc_pool.proofs.Firsts.{some_hit_in, some_miss_in}
use Rattle.desc_pool.proofs.refusals.search_files.Goals as goal

pub returns-in-Some : goal.returns-in-Some
returns-in-Some c =
    let f = λ (message : MessageDecl). option_map (field_name message) (found_by c.args.search c.args.names.now.list message) in
    ap Some (c.in_ok-name.ensures ∙ c.as_str.ensures)
    ∙ sym (some_hit_in (λ (file : FileDecl). first_some f file.messages) c.args.files.now c.args.files.now c.loop-file.file-index c.file-item.result c.in-Some.told refl c.loop-file.invariant c.loop-file-test.true c.file-item.is
    (ap (first_some f) (sym c.as_slice.ensures) ∙ (sym c.in_ok-told.ensures ∙ c.in-Some.is)))

pub loop-file-preserved : goal.loop-file-preserved
loop-file-preserved c =
    let f = λ (message : MessageDecl). option_map (field_name message) (found_by c.args.search c.args.names.now.list message) in
    some_miss_in (λ (file : FileDecl). first_some f file.messages) c.args.files.now c.args.files.now c.loop-file.file-index c.file-item.result refl c.loop-file.invariant c.loop-file-test.true c.file-item.is
    (ap (first_some f) (sym c.as_slice.ensures) ∙ (sym c.in_ok-told.ensures ∙ c.in_default.is))
