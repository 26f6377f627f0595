use Rattle.std.proofs.Common.{sym, ap, ◌∙◌}
use Rattle.std.specs.Option.{option_map}
use Rattle.std.proofs.lemmas.Option.{none-some}
use Rattle.msg_layout.specs.declared.entry.Entry.{Entry}
use Rattle.msg_layout.specs.Layout.{layout_of}
use Rattle.pb_schema.specs.HeldAt.{field_among}
use Rattle.dyn_message.proofs.Entries.{found_number, found_again, found_fits, same_found, fields_laid}
use Rattle.dyn_message.proofs.Messages.{sound_of, field_of_entry}
use Rattle.dyn_message.proofs.fields.entry_in.Goals as goal

pub unreachable-requires : goal.unreachable-requires
unreachable-requires c =
    let none = sym c.entry.ensures ∙ c.in-None.is in
    let no_field = ap (λ fields. field_among fields c.args.field) (sym (fields_laid c.args.types.now c.args.type_no)) ∙ same_found (layout_of c.args.types.now c.args.type_no).entries c.args.field ∙ ap (option_map (λ (entry : Entry). entry.field)) none in
    none-some _ (sym no_field ∙ c.requires.field.1)

pub returns-clause-again : goal.returns-clause-again
returns-clause-again c = found_again (layout_of c.args.types.now c.args.type_no).entries c.args.field c.in-Some.entry (sym c.entry.ensures ∙ c.in-Some.is)

pub returns-clause-number : goal.returns-clause-number
returns-clause-number c = found_number (layout_of c.args.types.now c.args.type_no).entries c.args.field c.in-Some.entry (sym c.entry.ensures ∙ c.in-Some.is)

pub returns-clause-field : goal.returns-clause-field
returns-clause-field c = field_of_entry c.args.types.now c.schema-schema.ensures.lawful c.args.type_no c.args.field c.in-Some.entry (sym c.entry.ensures ∙ c.in-Some.is)

pub returns-clause-fits : goal.returns-clause-fits
returns-clause-fits c = found_fits (layout_of c.args.types.now c.args.type_no) c.args.field c.in-Some.entry (sound_of c.args.types.now c.schema-schema.ensures.lawful c.args.type_no c.requires.known) (sym c.entry.ensures ∙ c.in-Some.is)
