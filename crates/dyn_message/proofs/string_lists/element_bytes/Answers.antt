use Rattle.std.proofs.Common.{◌*◌, ◌∙◌, ℕ, List, length, drop, Some, sym, ap, subst, arith, length-take-le, length-drop}
use Rattle.pb_schema.specs.Tree.{Bytes}
use Rattle.dyn_message.specs.Slots.{part}
use Rattle.dyn_message.specs.Strings.{HoldsBytes}
use Rattle.dyn_message.proofs.Opening.{has_field}
use Rattle.dyn_message.proofs.ListLaws.{element_at, element_is, bytes_slot, bytes_value}
use Rattle.dyn_message.proofs.string_lists.element_bytes.Goals as goal

pub read-requires-2 : goal.read-requires-2
read-requires-2 g c =
    let one = c.entry_in-entry.result in
    let has = has_field c.args.types.now c.args.msg.type_no c.args.field one.field c.requires.field c.entry_in-entry.ensures.field in
    (element_at c.args.types.now c.record_is_there.ensures.lawful (g.M.Memory.places c.args.mem.now) (g.M.Memory.buffers c.args.mem.now) c.args.msg c.args.field one c.read.result.now
    c.entry_in-entry.ensures.found c.entry_in-entry.ensures.number has.0 c.read.ensures.value c.requires.message.0 c.requires.message.1 c.args.index c.list_at.result.0 c.requires.message.2 (c.requires.index c.requires.message.0 c.requires.message.1 c.requires.message.2) c.list_at.ensures.place).live

pub overflow_mul-index : goal.overflow_mul-index
overflow_mul-index g c =
    let one = c.entry_in-entry.result in
    let has = has_field c.args.types.now c.args.msg.type_no c.args.field one.field c.requires.field c.entry_in-entry.ensures.field in
    omega (
      arith,
      (element_at c.args.types.now c.record_is_there.ensures.lawful (g.M.Memory.places c.args.mem.now) (g.M.Memory.buffers c.args.mem.now) c.args.msg c.args.field one c.read.result.now
          c.entry_in-entry.ensures.found c.entry_in-entry.ensures.number has.0 c.read.ensures.value c.requires.message.0 c.requires.message.1 c.args.index c.list_at.result.0 c.requires.message.2 (c.requires.index c.requires.message.0 c.requires.message.1 c.requires.message.2) c.list_at.ensures.place).small,
    )

pub slot_at-requires : goal.slot_at-requires
slot_at-requires g c =
    let one = c.entry_in-entry.result in
    let has = has_field c.args.types.now c.args.msg.type_no c.args.field one.field c.requires.field c.entry_in-entry.ensures.field in
    let at = element_at c.args.types.now c.record_is_there.ensures.lawful (g.M.Memory.places c.args.mem.now) (g.M.Memory.buffers c.args.mem.now) c.args.msg c.args.field one c.read.result.now
    c.entry_in-entry.ensures.found c.entry_in-entry.ensures.number has.0 c.read.ensures.value c.requires.message.0 c.requires.message.1 c.args.index c.list_at.result.0 c.requires.message.2 (c.requires.index c.requires.message.0 c.requires.message.1 c.requires.message.2) c.list_at.ensures.place in
    omega (arith, at.within, c.read-2.ensures.len, bytes_slot _ has.1, ap (λ n. c.args.index * n) (bytes_slot _ has.1))

pub bytes_in-requires-clause-size : goal.bytes_in-requires-clause-size
bytes_in-requires-clause-size g c =
    let one = c.entry_in-entry.result in
    let has = has_field c.args.types.now c.args.msg.type_no c.args.field one.field c.requires.field c.entry_in-entry.ensures.field in
    let at = element_at c.args.types.now c.record_is_there.ensures.lawful (g.M.Memory.places c.args.mem.now) (g.M.Memory.buffers c.args.mem.now) c.args.msg c.args.field one c.read.result.now
    c.entry_in-entry.ensures.found c.entry_in-entry.ensures.number has.0 c.read.ensures.value c.requires.message.0 c.requires.message.1 c.args.index c.list_at.result.0 c.requires.message.2 (c.requires.index c.requires.message.0 c.requires.message.1 c.requires.message.2) c.list_at.ensures.place in
    omega (arith, ap (λ (s : List ℕ). length s) c.slot_at.ensures, length-take-le 24 (drop (c.args.index * 24) c.read-2.result.now) (omega (arith, length-drop (c.args.index * 24) c.read-2.result.now, at.within, c.read-2.ensures.len, bytes_slot _ has.1, ap (λ n. c.args.index * n) (bytes_slot _ has.1))))

pub bytes_in-requires-clause-holds : goal.bytes_in-requires-clause-holds
bytes_in-requires-clause-holds g c =
    let one = c.entry_in-entry.result in
    let has = has_field c.args.types.now c.args.msg.type_no c.args.field one.field c.requires.field c.entry_in-entry.ensures.field in
    let e = element_is c.args.types.now c.record_is_there.ensures.lawful (g.M.Memory.places c.args.mem.now) (g.M.Memory.buffers c.args.mem.now) c.args.msg c.args.field one c.read.result.now
    c.entry_in-entry.ensures.found c.entry_in-entry.ensures.number has.0 c.read.ensures.value c.requires.message.0 c.requires.message.1 c.args.index c.list_at.result.0 c.read-2.result.now c.requires.message.2 (c.requires.index c.requires.message.0 c.requires.message.1 c.requires.message.2) c.list_at.ensures.place c.read-2.ensures.value in
    let v = bytes_value c.args.types.now _ _ _ _ e.value e.own has.1 e.stands in
    (v.0, e.own, subst (λ s. HoldsBytes (g.M.Memory.places c.args.mem.now) (g.M.Memory.buffers c.args.mem.now) s v.0 e.own) (ap (λ n. part (c.args.index * n) n c.read-2.result.now) (bytes_slot _ has.1) ∙ sym c.slot_at.ensures) v.2)

pub returns : goal.returns
returns g c = λ t feet st.
    let one = c.entry_in-entry.result in
    let has = has_field c.args.types.now c.args.msg.type_no c.args.field one.field c.requires.field c.entry_in-entry.ensures.field in
    let e = element_is c.args.types.now c.record_is_there.ensures.lawful (g.M.Memory.places c.args.mem.now) (g.M.Memory.buffers c.args.mem.now) c.args.msg c.args.field one c.read.result.now
    c.entry_in-entry.ensures.found c.entry_in-entry.ensures.number has.0 c.read.ensures.value t feet c.args.index c.list_at.result.0 c.read-2.result.now st (c.requires.index t feet st) c.list_at.ensures.place c.read-2.ensures.value in
    let v = bytes_value c.args.types.now _ _ _ _ e.value e.own has.1 e.stands in
    e.is ∙ ap Some (v.1 ∙ ap Bytes (sym (c.bytes_in.ensures v.0 e.own (subst (λ s. HoldsBytes (g.M.Memory.places c.args.mem.now) (g.M.Memory.buffers c.args.mem.now) s v.0 e.own) (ap (λ n. part (c.args.index * n) n c.read-2.result.now) (bytes_slot _ has.1) ∙ sym c.slot_at.ensures) v.2))))
