use Rattle.std.proofs.Common.{sym, ap, ◌∙◌}
use Rattle.pb_schema.specs.Fits.{fields_of}
use Rattle.pb_schema.specs.HeldAt.{field_at}
use Rattle.pb_schema.proofs.HeldLaws.{field_number}
use Rattle.pb_parse.specs.Contents.{fits_wire}
use Rattle.pb_parse.proofs.ContentsLaws.{field_there, no_field, takes_by_wire}
use Rattle.pb_parse.proofs.FieldFound.{no_number, no_fit}
use Rattle.pb_parse.proofs.message.field_for.Goals as goal

pub returns-in-Some : goal.returns-in-Some
returns-in-Some c = λ r number wire.
    let schema = c.args.types.now in
    let field = c.in-Some.entry.field in
    let found = field_there schema c.args.type_no c.args.found.number c.in-Some.entry (sym c.entry.ensures ∙ c.in-Some.is) in
    let fits = ap (fits_wire field) wire ∙ (sym c.takes_wire.ensures ∙ c.if-takes_wire.true) in
    (ap (field_at schema c.args.type_no) (field_number (fields_of schema c.args.type_no) c.args.found.number field found) ∙ found, takes_by_wire schema c.args.type_no c.args.found.number field r _ found number fits)

pub returns-in_default : goal.returns-in_default
returns-in_default c = λ r number wire.
    let schema = c.args.types.now in
    let field = c.in-Some.entry.field in
    let found = field_there schema c.args.type_no c.args.found.number c.in-Some.entry (sym c.entry.ensures ∙ c.in-Some.is) in
    let fits = ap (fits_wire field) wire ∙ (sym c.takes_wire.ensures ∙ c.if-takes_wire.false) in
    no_fit schema c.args.type_no c.args.found.number field r c.schema-schema.ensures.lawful found number (takes_by_wire schema c.args.type_no c.args.found.number field r _ found number fits)

pub returns-in_default-2 : goal.returns-in_default-2
returns-in_default-2 c = λ r number wire.
    no_number c.args.types.now c.args.type_no c.args.found.number r (no_field c.args.types.now c.args.type_no c.args.found.number (sym c.entry.ensures ∙ c.in_default.is)) number
