use Rattle.std.proofs.Common.{sym, ◌∙◌}
use Rattle.pb_parse.proofs.ContentsLaws.{field_there, contents_taken, contents_unfit, contents_missing, contents_known}
use Rattle.pb_parse.proofs.contents.contents_of.Goals as goal

pub returns-in-Some-clause-exact : goal.returns-in-Some-clause-exact
returns-in-Some-clause-exact c =
    c.contents_in.ensures ∙ contents_taken c.args.types.now c.args.type_no c.args.number c.args.wire c.in-Some.entry (sym c.entry.ensures ∙ c.in-Some.is) (sym c.takes_wire.ensures ∙ c.if-takes_wire.true)

pub returns-in-Some-clause-known : goal.returns-in-Some-clause-known
returns-in-Some-clause-known c =
    contents_known c.args.types.now c.args.type_no c.args.number c.args.wire c.in-Some.entry.field c.contents_in.result c.schema-schema.ensures.lawful
    (field_there c.args.types.now c.args.type_no c.args.number c.in-Some.entry (sym c.entry.ensures ∙ c.in-Some.is)) c.contents_in.ensures

pub returns-in_default-clause-exact : goal.returns-in_default-clause-exact
returns-in_default-clause-exact c =
    contents_unfit c.args.types.now c.args.type_no c.args.number c.args.wire c.in-Some.entry c.schema-schema.ensures.lawful (sym c.entry.ensures ∙ c.in-Some.is) (sym c.takes_wire.ensures ∙ c.if-takes_wire.false)

pub returns-in_default-2-clause-exact : goal.returns-in_default-2-clause-exact
returns-in_default-2-clause-exact c = contents_missing c.args.types.now c.args.type_no c.args.number c.args.wire (sym c.entry.ensures ∙ c.in_default.is)
