use Rattle.std.proofs.Common.{◌≡◌, Some}
use Rattle.msg_layout.specs.Layout.{entry_of}
use Rattle.dyn_message.proofs.Messages.{field_of_entry}
use Rattle.pb_parse.proofs.hand_made.field_of.Goals as goal

pub returns-in-Some : goal.returns-in-Some
returns-in-Some c =
    let found : entry_of c.args.types.now c.args.type_no c.args.number ≡ Some c.in-Some.entry = cc (c.entry.ensures, c.in-Some.is) in
    field_of_entry c.args.types.now c.schema-schema.ensures.lawful c.args.type_no c.args.number c.in-Some.entry found
