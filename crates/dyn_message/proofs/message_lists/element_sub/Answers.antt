use Rattle.std.proofs.Common.{◌*◌, ◌∙◌, refl, sym, ap, arith}
use Rattle.dyn_message.specs.Slots.{part, place_in}
use Rattle.dyn_message.proofs.Opening.{has_field}
use Rattle.dyn_message.proofs.ListLaws.{element_at}
use Rattle.dyn_message.proofs.NestedLists.{message_bytes, element_found}
use Rattle.dyn_message.proofs.message_lists.element_sub.Goals as goal

pub read-requires-2 : goal.read-requires-2
read-requires-2 g c =
    let one = c.entry_in-entry.result in
    let has = has_field c.args.types.now c.args.msg.type_no c.args.field one.field c.requires.field c.entry_in-entry.ensures.field in
    let at = element_at c.args.types.now c.record_is_there.ensures.lawful (g.M.Memory.places c.args.mem.now) (g.M.Memory.buffers c.args.mem.now) c.args.msg c.args.field one c.read.result.now
    c.entry_in-entry.ensures.found c.entry_in-entry.ensures.number has.0 c.read.ensures.value c.requires.message.0 c.requires.message.1 c.args.index c.list_at.result.0 c.requires.message.2 (c.requires.index c.requires.message.0 c.requires.message.1 c.requires.message.2) c.list_at.ensures.place in
    at.live

pub overflow_mul-index : goal.overflow_mul-index
overflow_mul-index g c =
    let one = c.entry_in-entry.result in
    let has = has_field c.args.types.now c.args.msg.type_no c.args.field one.field c.requires.field c.entry_in-entry.ensures.field in
    let at = element_at c.args.types.now c.record_is_there.ensures.lawful (g.M.Memory.places c.args.mem.now) (g.M.Memory.buffers c.args.mem.now) c.args.msg c.args.field one c.read.result.now
    c.entry_in-entry.ensures.found c.entry_in-entry.ensures.number has.0 c.read.ensures.value c.requires.message.0 c.requires.message.1 c.args.index c.list_at.result.0 c.requires.message.2 (c.requires.index c.requires.message.0 c.requires.message.1 c.requires.message.2) c.list_at.ensures.place in
    omega (arith, at.small)

pub link_at-requires-clause-within : goal.link_at-requires-clause-within
link_at-requires-clause-within g c =
    let one = c.entry_in-entry.result in
    let has = has_field c.args.types.now c.args.msg.type_no c.args.field one.field c.requires.field c.entry_in-entry.ensures.field in
    let at = element_at c.args.types.now c.record_is_there.ensures.lawful (g.M.Memory.places c.args.mem.now) (g.M.Memory.buffers c.args.mem.now) c.args.msg c.args.field one c.read.result.now
    c.entry_in-entry.ensures.found c.entry_in-entry.ensures.number has.0 c.read.ensures.value c.requires.message.0 c.requires.message.1 c.args.index c.list_at.result.0 c.requires.message.2 (c.requires.index c.requires.message.0 c.requires.message.1 c.requires.message.2) c.list_at.ensures.place in
    omega (arith, at.within, c.read-2.ensures.len, message_bytes _ has.1, ap (λ n. c.args.index * n) (message_bytes _ has.1))

pub link_at-requires-clause-small : goal.link_at-requires-clause-small
link_at-requires-clause-small g c =
    let one = c.entry_in-entry.result in
    let has = has_field c.args.types.now c.args.msg.type_no c.args.field one.field c.requires.field c.entry_in-entry.ensures.field in
    let at = element_at c.args.types.now c.record_is_there.ensures.lawful (g.M.Memory.places c.args.mem.now) (g.M.Memory.buffers c.args.mem.now) c.args.msg c.args.field one c.read.result.now
    c.entry_in-entry.ensures.found c.entry_in-entry.ensures.number has.0 c.read.ensures.value c.requires.message.0 c.requires.message.1 c.args.index c.list_at.result.0 c.requires.message.2 (c.requires.index c.requires.message.0 c.requires.message.1 c.requires.message.2) c.list_at.ensures.place in
    omega (arith, at.small)

pub returns : goal.returns
returns g c = λ t feet st.
    let one = c.entry_in-entry.result in
    let has = has_field c.args.types.now c.args.msg.type_no c.args.field one.field c.requires.field c.entry_in-entry.ensures.field in
    element_found c.args.types.now c.record_is_there.ensures.lawful (g.M.Memory.places c.args.mem.now) (g.M.Memory.buffers c.args.mem.now) c.args.msg c.args.field one c.entry_in-entry.ensures.found c.entry_in-entry.ensures.number has.0
    c.type_of_messages.result c.type_of_messages.ensures c.read.result.now c.read-2.result.now c.list_at.result.0 c.read.ensures.value c.list_at.ensures.place c.read-2.ensures.value c.args.index _ refl
    (c.link_at.ensures ∙ ap (λ n. place_in (part (c.args.index * n) n c.read-2.result.now)) (sym (message_bytes _ has.1)))
    (record { field = one.field; found = c.entry_in-entry.ensures.field; card = has.0; type = c.type_of_messages.ensures }) t feet st (c.requires.index t feet st)
