use Rattle.std.proofs.Common.{refl, sym, subst}
use Rattle.pb_schema.specs.Fitted.{IsPatternOf}
use Rattle.pb_parse.proofs.ContentsLaws.{field_there}
use Rattle.pb_parse.proofs.Memories.{all_entries}
use Rattle.pb_parse.proofs.ShortRecords.{is_number_kind, short_walk, short_came}
use Rattle.pb_parse.proofs.Spending.{nothing_placed}
use Rattle.pb_parse.proofs.TakenShapes.{number_coding}
use Rattle.pb_schema.specs.Kinds.{value_type_of}
use Rattle.pb_parse.proofs.short.set_short.Goals as goal

pub set_scalar_by-requires-clause-field : goal.set_scalar_by-requires-clause-field
set_scalar_by-requires-clause-field g c =
    let s = c.requires.found in
    let field = c.args.short.entry.field in
    let k = number_coding (value_type_of field.kind) (is_number_kind c.args.short.entry s.fits) in
    record { field = field; found = field_there c.args.types.now c.args.msg.type_no c.args.short.number c.args.short.entry s.known; card = s.single; type = subst (λ type. IsPatternOf type c.args.short.bits) (sym k.1) (s.value k.0 k.1).2 }

pub returns-clause-walk : goal.returns-clause-walk
returns-clause-walk g c = λ left. short_walk c.args.types.now c.args.msg.type_no c.args.bytes.now c.args.at c.args.short.number c.args.short.entry c.args.short.payload c.args.short.end c.args.short.bits c.requires.found left

pub returns-clause-came : goal.returns-clause-came
returns-clause-came g c = λ left unknown t feet st.
    let M = g.M.Memory in
    short_came c.args.types.now c.args.msg.type_no c.args.bytes.now c.args.at c.args.short.number c.args.short.entry c.args.short.payload c.args.short.end c.args.short.bits c.requires.found
    c.schema-schema.ensures.lawful left unknown (M.places c.args.mem.now) (M.buffers c.args.mem.now) (M.places c.set_scalar_by.new.mem) (M.buffers c.set_scalar_by.new.mem) c.args.msg t feet refl
    (all_entries c.args.types.now (M.places c.args.mem.now) (M.buffers c.args.mem.now) c.args.msg t feet st)
    (nothing_placed c.args.types.now (M.places c.args.mem.now) (M.places c.set_scalar_by.new.mem) (M.buffers c.args.mem.now) (M.buffers c.set_scalar_by.new.mem) c.set_scalar_by.ensures.space c.set_scalar_by.ensures.buffers)
    (c.set_scalar_by.ensures.set t feet st)
