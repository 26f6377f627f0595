use Rattle.std.proofs.Common.{◌≡◌, ◌≤◌, ◌+◌, ℕ, List, length, drop, sym, subst, ap, ◌∙◌, length-take, length-drop, arith}
use Rattle.pb_schema.specs.Kinds.{value_type_of}
use Rattle.pb_schema.specs.Tree.{One, Bytes}
use Rattle.msg_layout.specs.Layout.{layout_of}
use Rattle.dyn_message.specs.Slots.{part, slot_in, told_in, word}
use Rattle.dyn_message.specs.Strings.{HoldsBytes}
use Rattle.dyn_message.proofs.Entries.{all_suit, among_all, Suits}
use Rattle.dyn_message.proofs.Opening.{open_field, has_field, untold_implicit}
use Rattle.dyn_message.proofs.HeldBytes.{bytes_there, bytes_none, bytes_slot, bytes_plain}
use Rattle.dyn_message.proofs.strings.get_bytes.Goals as goal

part_size : (at : ℕ) (b slot : List ℕ) → slot ≡ part at 24 b → at + 24 ≤ length b → 24 ≤ length slot
part_size at b slot is fits = omega (arith, ap length is, length-take 24 (drop at b), length-drop at b, fits)

pub word-requires-clause-slot : goal.word-requires-clause-slot
word-requires-clause-slot g c =
    let one = c.entry_in-entry.result in
    let has = has_field c.args.types.now c.args.msg.type_no c.args.field one.field c.requires.field c.entry_in-entry.ensures.field in
    part_size one.slot c.read-record.result.now c.slot_at-slot.result.now c.slot_at-slot.ensures
    (omega (arith, c.entry_in-entry.ensures.fits.within, bytes_slot one.field has.0 has.1, c.read-record.ensures.len, c.record_is_there.ensures.len))

pub bytes_in-requires-clause-size : goal.bytes_in-requires-clause-size
bytes_in-requires-clause-size g c =
    let one = c.entry_in-entry.result in
    let has = has_field c.args.types.now c.args.msg.type_no c.args.field one.field c.requires.field c.entry_in-entry.ensures.field in
    part_size one.slot c.read-record.result.now c.slot_at-slot.result.now c.slot_at-slot.ensures
    (omega (arith, c.entry_in-entry.ensures.fits.within, bytes_slot one.field has.0 has.1, c.read-record.ensures.len, c.record_is_there.ensures.len))

pub bytes_in-requires-clause-holds : goal.bytes_in-requires-clause-holds
unfolding slot_in
bytes_in-requires-clause-holds g c =
    let one = c.entry_in-entry.result in
    let places = g.M.Memory.places c.args.mem.now in
    let buffers = g.M.Memory.buffers c.args.mem.now in
    let record_bytes = c.read-record.result.now in
    let has = has_field c.args.types.now c.args.msg.type_no c.args.field one.field c.requires.field c.entry_in-entry.ensures.field in
    let m = c.requires.message in
    let f = open_field c.args.types.now c.record_is_there.ensures.lawful places buffers c.args.msg c.args.field one record_bytes m.0 m.1 m.2 c.entry_in-entry.ensures.found c.entry_in-entry.ensures.number c.read-record.ensures.value in
    let slot_is = c.slot_at-slot.ensures ∙ ap (λ n. part one.slot n record_bytes) (sym (bytes_slot one.field has.0 has.1)) in
    let there = bytes_there c.args.types.now places buffers one.field (told_in one record_bytes) (slot_in one record_bytes) f.own has.0 has.1 c.word.result (c.word.ensures ∙ ap (word 5) slot_is) _ f.stands (sym c.is_set.ensures ∙ c.if-is_set.true) in
    (there.bytes, f.own, subst (λ s. HoldsBytes places buffers s there.bytes f.own) (sym slot_is) there.holds)

pub returns-then-is_set : goal.returns-then-is_set
unfolding slot_in
returns-then-is_set g c = λ t feet st.
    let one = c.entry_in-entry.result in
    let places = g.M.Memory.places c.args.mem.now in
    let buffers = g.M.Memory.buffers c.args.mem.now in
    let record_bytes = c.read-record.result.now in
    let has = has_field c.args.types.now c.args.msg.type_no c.args.field one.field c.requires.field c.entry_in-entry.ensures.field in
    let f = open_field c.args.types.now c.record_is_there.ensures.lawful places buffers c.args.msg c.args.field one record_bytes t feet st c.entry_in-entry.ensures.found c.entry_in-entry.ensures.number c.read-record.ensures.value in
    let slot_is = c.slot_at-slot.ensures ∙ ap (λ n. part one.slot n record_bytes) (sym (bytes_slot one.field has.0 has.1)) in
    let there = bytes_there c.args.types.now places buffers one.field (told_in one record_bytes) (slot_in one record_bytes) f.own has.0 has.1 c.word.result (c.word.ensures ∙ ap (word 5) slot_is) _ f.stands (sym c.is_set.ensures ∙ c.if-is_set.true) in
    there.held_is ∙ ap (λ s. One (Bytes s)) (sym (c.bytes_in.ensures there.bytes f.own (subst (λ s. HoldsBytes places buffers s there.bytes f.own) (sym slot_is) there.holds)))

pub returns-else-is_set : goal.returns-else-is_set
unfolding slot_in
returns-else-is_set g c = λ t feet st.
    let one = c.entry_in-entry.result in
    let places = g.M.Memory.places c.args.mem.now in
    let buffers = g.M.Memory.buffers c.args.mem.now in
    let record_bytes = c.read-record.result.now in
    let has = has_field c.args.types.now c.args.msg.type_no c.args.field one.field c.requires.field c.entry_in-entry.ensures.field in
    let f = open_field c.args.types.now c.record_is_there.ensures.lawful places buffers c.args.msg c.args.field one record_bytes t feet st c.entry_in-entry.ensures.found c.entry_in-entry.ensures.number c.read-record.ensures.value in
    let slot_is = c.slot_at-slot.ensures ∙ ap (λ n. part one.slot n record_bytes) (sym (bytes_slot one.field has.0 has.1)) in
    let suits = (among_all Suits (layout_of c.args.types.now c.args.msg.type_no).entries one.field.number one (all_suit c.args.types.now c.args.msg.type_no) c.entry_in-entry.ensures.again).0 in
    bytes_none c.args.types.now places buffers one.field (told_in one record_bytes) (slot_in one record_bytes) f.own has.0 has.1 c.word.result (c.word.ensures ∙ ap (word 5) slot_is) _ f.stands
    (untold_implicit one record_bytes suits has.0 (bytes_plain (value_type_of one.field.kind) has.1)) (sym c.is_set.ensures ∙ c.if-is_set.false)
