use Rattle.std.proofs.Common.{sym, ap, ◌∙◌}
use Rattle.dyn_message.specs.Slots.{part, number_in, slot_in, told_in}
use Rattle.dyn_message.proofs.Entries.{all_suit, among_all, Suits}
use Rattle.msg_layout.specs.Layout.{layout_of}
use Rattle.pb_schema.specs.Kinds.{value_type_of}
use Rattle.dyn_message.proofs.Opening.{open_field, has_field, number_there, number_none, single_slot, untold_implicit, number_plain}
use Rattle.dyn_message.proofs.scalar.get_scalar.Goals as goal

pub returns-then-is_set : goal.returns-then-is_set
unfolding slot_in
returns-then-is_set g c = λ t feet st.
    let one = c.entry_in-entry.result in
    let places = g.M.Memory.places c.args.mem.now in
    let buffers = g.M.Memory.buffers c.args.mem.now in
    let has = has_field c.args.types.now c.args.msg.type_no c.args.field one.field c.requires.field c.entry_in-entry.ensures.field in
    let f = open_field c.args.types.now c.record_is_there.ensures.lawful places buffers c.args.msg c.args.field one c.read-bytes.result.now t feet st c.entry_in-entry.ensures.found c.entry_in-entry.ensures.number c.read-bytes.ensures.value in
    number_there c.args.types.now places buffers one.field (told_in one c.read-bytes.result.now) (slot_in one c.read-bytes.result.now) _ f.own c.number_at-bits.result has.0 has.1
    (c.number_at-bits.ensures ∙ ap (λ n. number_in (part one.slot n c.read-bytes.result.now)) (sym (single_slot one.field has.0))) f.stands (sym c.is_set.ensures ∙ c.if-is_set.true)

pub returns-else-is_set : goal.returns-else-is_set
unfolding slot_in
returns-else-is_set g c = λ t feet st.
    let one = c.entry_in-entry.result in
    let places = g.M.Memory.places c.args.mem.now in
    let buffers = g.M.Memory.buffers c.args.mem.now in
    let has = has_field c.args.types.now c.args.msg.type_no c.args.field one.field c.requires.field c.entry_in-entry.ensures.field in
    let f = open_field c.args.types.now c.record_is_there.ensures.lawful places buffers c.args.msg c.args.field one c.read-bytes.result.now t feet st c.entry_in-entry.ensures.found c.entry_in-entry.ensures.number c.read-bytes.ensures.value in
    let suits = (among_all Suits (layout_of c.args.types.now c.args.msg.type_no).entries one.field.number one (all_suit c.args.types.now c.args.msg.type_no) c.entry_in-entry.ensures.again).0 in
    number_none c.args.types.now places buffers one.field (told_in one c.read-bytes.result.now) (slot_in one c.read-bytes.result.now) _ f.own c.number_at-bits.result has.0 has.1
    (c.number_at-bits.ensures ∙ ap (λ n. number_in (part one.slot n c.read-bytes.result.now)) (sym (single_slot one.field has.0))) f.stands
    (untold_implicit one c.read-bytes.result.now suits has.0 (number_plain (value_type_of one.field.kind) has.1)) (sym c.is_set.ensures ∙ c.if-is_set.false)
