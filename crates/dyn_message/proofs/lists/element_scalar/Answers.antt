use Rattle.std.proofs.Common.{◌*◌, ◌∙◌, ap, arith}
use Rattle.dyn_message.specs.Slots.{part, number_in}
use Rattle.dyn_message.proofs.Opening.{has_field}
use Rattle.dyn_message.proofs.ListLaws.{element_at, number_at_is, index_fits}
use Rattle.pb_schema.specs.Kinds.{value_type_of, slot_of}
use Rattle.dyn_message.proofs.lists.element_scalar.Goals as goal

pub read-requires-2 : goal.read-requires-2
read-requires-2 g c =
    let one = c.entry_in-entry.result in
    let has = has_field c.args.types.now c.args.msg.type_no c.args.field one.field c.requires.field c.entry_in-entry.ensures.field in
    (element_at c.args.types.now c.record_is_there.ensures.lawful (g.M.Memory.places c.args.mem.now) (g.M.Memory.buffers c.args.mem.now) c.args.msg c.args.field one c.read.result.now
    c.entry_in-entry.ensures.found c.entry_in-entry.ensures.number has.0 c.read.ensures.value c.requires.message.0 c.requires.message.1 c.args.index c.list_at.result.0 c.requires.message.2 (c.requires.index c.requires.message.0 c.requires.message.1 c.requires.message.2) c.list_at.ensures.place).live

pub overflow_mul-index : goal.overflow_mul-index
overflow_mul-index g c =
    let one = c.entry_in-entry.result in
    let has = has_field c.args.types.now c.args.msg.type_no c.args.field one.field c.requires.field c.entry_in-entry.ensures.field in
    let at = element_at c.args.types.now c.record_is_there.ensures.lawful (g.M.Memory.places c.args.mem.now) (g.M.Memory.buffers c.args.mem.now) c.args.msg c.args.field one c.read.result.now
    c.entry_in-entry.ensures.found c.entry_in-entry.ensures.number has.0 c.read.ensures.value c.requires.message.0 c.requires.message.1 c.args.index c.list_at.result.0 c.requires.message.2 (c.requires.index c.requires.message.0 c.requires.message.1 c.requires.message.2) c.list_at.ensures.place in
    omega (arith, index_fits c.args.index c.single_bytes-size.result one.field.kind at.small c.single_bytes-size.ensures)

pub number_at-requires-clause-within : goal.number_at-requires-clause-within
number_at-requires-clause-within g c =
    let one = c.entry_in-entry.result in
    let has = has_field c.args.types.now c.args.msg.type_no c.args.field one.field c.requires.field c.entry_in-entry.ensures.field in
    let at = element_at c.args.types.now c.record_is_there.ensures.lawful (g.M.Memory.places c.args.mem.now) (g.M.Memory.buffers c.args.mem.now) c.args.msg c.args.field one c.read.result.now
    c.entry_in-entry.ensures.found c.entry_in-entry.ensures.number has.0 c.read.ensures.value c.requires.message.0 c.requires.message.1 c.args.index c.list_at.result.0 c.requires.message.2 (c.requires.index c.requires.message.0 c.requires.message.1 c.requires.message.2) c.list_at.ensures.place in
    omega (arith, at.within, c.read-2.ensures.len, ap (λ n. c.args.index * n) c.single_bytes-size.ensures)

pub returns : goal.returns
returns g c = λ t feet st.
    let one = c.entry_in-entry.result in
    let has = has_field c.args.types.now c.args.msg.type_no c.args.field one.field c.requires.field c.entry_in-entry.ensures.field in
    number_at_is c.args.types.now c.record_is_there.ensures.lawful (g.M.Memory.places c.args.mem.now) (g.M.Memory.buffers c.args.mem.now) c.args.msg c.args.field one c.read.result.now
    c.entry_in-entry.ensures.found c.entry_in-entry.ensures.number has.0 c.read.ensures.value has.1 t feet c.args.index c.number_at.result c.list_at.result.0 c.read-2.result.now st (c.requires.index t feet st) c.list_at.ensures.place c.read-2.ensures.value
    (c.number_at.ensures ∙ ap (λ n. number_in (part (c.args.index * n) (slot_of (value_type_of one.field.kind)) c.read-2.result.now)) c.single_bytes-size.ensures)
