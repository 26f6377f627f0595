use Rattle.msg_layout.specs.Layout.{layout_of}
use Rattle.dyn_message.proofs.Entries.{found_again, found_number, found_fits}
use Rattle.dyn_message.proofs.Messages.{sound_of, field_of_entry}
use Rattle.dyn_message.proofs.by_entry.entry_is_there.Goals as goal

pub returns-clause-again : goal.returns-clause-again
returns-clause-again c = found_again (layout_of c.args.types.now c.args.type_no).entries c.args.field c.args.entry c.requires.entry

pub returns-clause-number : goal.returns-clause-number
returns-clause-number c = found_number (layout_of c.args.types.now c.args.type_no).entries c.args.field c.args.entry c.requires.entry

pub returns-clause-field : goal.returns-clause-field
returns-clause-field c = field_of_entry c.args.types.now c.schema-schema.ensures.lawful c.args.type_no c.args.field c.args.entry c.requires.entry

pub returns-clause-fits : goal.returns-clause-fits
returns-clause-fits c = found_fits (layout_of c.args.types.now c.args.type_no) c.args.field c.args.entry (sound_of c.args.types.now c.schema-schema.ensures.lawful c.args.type_no c.requires.known) c.requires.entry
