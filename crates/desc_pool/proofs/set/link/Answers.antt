use Rattle.std.proofs.Common.{◌≤◌, sym, subst, ◌∙◌}
use Rattle.std.specs.Prelude.{All}
use Rattle.std.proofs.lemmas.List.Elements.{recursion_from_All}
use Rattle.pb_schema.specs.Lawful.{Lawful, most_oneofs}
use Rattle.pb_schema.specs.declared.schema.MessageType.{MessageType}
use Rattle.desc_pool.proofs.Lawfulness.{linked_is_lawful}
use Rattle.desc_pool.proofs.set.link.Goals as goal

pub returns-clause-lawful : goal.returns-clause-lawful
returns-clause-lawful c =
    let is = c.in_ok-schema-in-None.ensures.value in
    subst Lawful (sym is)
    (linked_is_lawful c.args.files.now (sym c.in_ok-refused.ensures ∙ c.in-None.is)
    (recursion_from_All (λ (type : MessageType). type.oneofs ≤ most_oneofs) _ (subst (λ s. All (λ (type : MessageType). type.oneofs ≤ most_oneofs) s.types) is c.in_ok-schema-in-None.ensures.few_oneofs)))
