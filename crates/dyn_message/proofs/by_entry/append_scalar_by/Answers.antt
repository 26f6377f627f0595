use Rattle.std.proofs.Common.{rules, ◌≡◌, ◌+◌, ◌∙◌, [], Some, sym, ap, subst, arith}
use Rattle.std.specs.FinMap as map
use Rattle.msg_layout.specs.Layout.{layout_of}
use Rattle.arena_mem.specs.Places.{used}
use Rattle.pb_schema.specs.Meter.{array_bytes}
use Rattle.pb_schema.specs.Kinds.{value_type_of, slot_of}
use Rattle.pb_schema.specs.Tree.{Number}
use Rattle.dyn_message.specs.Feet.{KeepsOthers}
use Rattle.dyn_message.specs.Writes.{number_bytes}
use Rattle.dyn_message.specs.Stands.{Stands}
use Rattle.dyn_message.specs.Lists.{with_appended, count_at, bytes_by, element_bytes}
use Rattle.dyn_message.proofs.Opening.{has_field, some_record, number_size}
use Rattle.dyn_message.proofs.Appending.{appended_from}
use Rattle.dyn_message.proofs.ByEntry.{few_there, list_fits, told_after, told_count}
use Rattle.dyn_message.proofs.ListLaws.{Calls, appended, list_may_grow, changes_after, number_stands_alone}
use Rattle.dyn_message.proofs.by_entry.append_scalar_by.Goals as goal
use Rattle.dyn_message.proofs.by_entry.append_scalar_by.Goals.{After-write}

pub room_behind-requires-clause-list : goal.room_behind-requires-clause-list
room_behind-requires-clause-list g c =
    let one = c.args.entry in
    let has = has_field c.args.types.now c.args.msg.type_no c.args.field one.field c.requires.field c.entry_is_there.ensures.field in
    let r = some_record c.args.types.now (g.M.Memory.places c.args.mem.now) (g.M.Memory.buffers c.args.mem.now) c.args.msg c.requires.message in
    list_may_grow c.args.types.now c.record_is_there.ensures.lawful (g.M.Memory.places c.args.mem.now) (g.M.Memory.buffers c.args.mem.now) c.args.msg c.args.field one r.bytes
    c.requires.entry c.entry_is_there.ensures.number has.0 r.there c.single_bytes-size.result c.single_bytes-size.ensures c.requires.message.0 c.requires.message.1 c.requires.message.2 (few_there c.args.types.now c.record_is_there.ensures.lawful (g.M.Memory.places c.args.mem.now) (g.M.Memory.buffers c.args.mem.now) c.args.msg c.args.field one c.requires.entry c.entry_is_there.ensures.number has.0 c.args.array c.args.count c.requires.told c.requires.few c.requires.message.0 c.requires.message.1 c.requires.message.2)

pub returns-clause-appended : goal.returns-clause-appended
returns-clause-appended g c = λ t feet st.
    let one = c.args.entry in
    let has = has_field c.args.types.now c.args.msg.type_no c.args.field one.field c.requires.field c.entry_is_there.ensures.field in
    let M = g.M.Memory in
    let calls : Calls c.args.types.now c.record_is_there.ensures.lawful (M.places c.args.mem.now) (M.places c.room_behind.new.mem) (M.places c.set_number.new.mem) (M.places c.write.new.self) (M.buffers c.args.mem.now) c.args.msg c.args.field one
    c.requires.entry c.entry_is_there.ensures.number has.0 (Number c.args.bits) (number_bytes (slot_of (value_type_of one.field.kind)) c.args.bits) [] c.args.count c.single_bytes-size.result c.single_bytes-size.ensures c.in_ok-next.next c.place_slot-slot.result = record {
      room = c.in_ok-next.ensures.made;
      keeps = c.in_ok-next.ensures.grows.rest;
      long = number_size one.field.kind c.args.bits has.1 ∙ sym c.single_bytes-size.ensures;
      put = c.set_number.ensures.here;
      put_else = c.set_number.ensures.others;
      slot_long = search rules;
      slot_place = c.place_slot-slot.ensures.place;
      slot_count = c.place_slot-slot.ensures.count;
      slot_form = c.place_slot-slot.ensures.form;
      told = c.write.ensures.here;
      told_else = c.write.ensures.others;
    } in
    let a = appended c.args.types.now c.record_is_there.ensures.lawful _ _ _ _ (M.buffers c.args.mem.now) c.args.msg c.args.field one _ _ has.0 (Number c.args.bits) _ [] _ _ _ c.in_ok-next.next _ calls t feet st (few_there c.args.types.now c.record_is_there.ensures.lawful (M.places c.args.mem.now) (M.buffers c.args.mem.now) c.args.msg c.args.field one c.requires.entry c.entry_is_there.ensures.number has.0 c.args.array c.args.count c.requires.told c.requires.few t feet st)
    (number_stands_alone c.args.types.now (M.places c.args.mem.now) (M.buffers c.args.mem.now) one.field.kind c.args.bits has.1) (λ foot. omega arith) (λ foot among. absurd (omega (arith, among))) (λ foot among. absurd (omega (arith, among))) in
    let same : M.buffers c.write.new.self ≡ M.buffers c.args.mem.now = c.write.ensures.buffers ∙ (c.set_number.ensures.buffers ∙ c.in_ok-next.ensures.buffers) in
    record {
      now = a.now;
      stands = subst (λ b. Stands c.args.types.now (M.places c.write.new.self) b c.args.msg (with_appended c.args.types.now c.args.msg.type_no c.args.field (Number c.args.bits) t) a.now) (sym same) a.stands;
      from = appended_from c.args.types.now (M.places c.args.mem.now) (M.places c.args.mem.now) (M.places c.write.new.self) (M.buffers c.args.mem.now) (M.buffers c.args.mem.now) c.args.msg _ feet [] c.in_ok-next.next a (λ foot none. none) (λ foot among. absurd (omega (arith, among)));
    }

pub returns-clause-space : goal.returns-clause-space
returns-clause-space g c = λ t feet st.
    let one = c.args.entry in
    let has = has_field c.args.types.now c.args.msg.type_no c.args.field one.field c.requires.field c.entry_is_there.ensures.field in
    let M = g.M.Memory in
    let many : c.args.count ≡ count_at c.args.types.now c.args.msg.type_no c.args.field t = told_count c.args.types.now c.record_is_there.ensures.lawful (M.places c.args.mem.now) (M.buffers c.args.mem.now) c.args.msg c.args.field one c.requires.entry c.entry_is_there.ensures.number has.0 c.args.array c.args.count c.requires.told t feet st in
    let bytes : c.single_bytes-size.result ≡ element_bytes c.args.types.now c.args.msg.type_no c.args.field = c.single_bytes-size.ensures ∙ sym (ap bytes_by c.entry_is_there.ensures.field) in
    c.write.ensures.space ∙ (c.set_number.ensures.space ∙ (c.in_ok-next.ensures.space ∙ (λ i. used (M.places c.args.mem.now) + array_bytes (bytes i) (many i) (many i + 1))))

pub returns-clause-told : goal.returns-clause-told
returns-clause-told g c =
    let t = c.requires.message.0 in
    let feet = c.requires.message.1 in
    let st = c.requires.message.2 in
    let one = c.args.entry in
    let has = has_field c.args.types.now c.args.msg.type_no c.args.field one.field c.requires.field c.entry_is_there.ensures.field in
    let M = g.M.Memory in
    let calls : Calls c.args.types.now c.record_is_there.ensures.lawful (M.places c.args.mem.now) (M.places c.room_behind.new.mem) (M.places c.set_number.new.mem) (M.places c.write.new.self) (M.buffers c.args.mem.now) c.args.msg c.args.field one
    c.requires.entry c.entry_is_there.ensures.number has.0 (Number c.args.bits) (number_bytes (slot_of (value_type_of one.field.kind)) c.args.bits) [] c.args.count c.single_bytes-size.result c.single_bytes-size.ensures c.in_ok-next.next c.place_slot-slot.result = record {
      room = c.in_ok-next.ensures.made;
      keeps = c.in_ok-next.ensures.grows.rest;
      long = number_size one.field.kind c.args.bits has.1 ∙ sym c.single_bytes-size.ensures;
      put = c.set_number.ensures.here;
      put_else = c.set_number.ensures.others;
      slot_long = search rules;
      slot_place = c.place_slot-slot.ensures.place;
      slot_count = c.place_slot-slot.ensures.count;
      slot_form = c.place_slot-slot.ensures.form;
      told = c.write.ensures.here;
      told_else = c.write.ensures.others;
    } in
    let a = appended c.args.types.now c.record_is_there.ensures.lawful _ _ _ _ (M.buffers c.args.mem.now) c.args.msg c.args.field one _ _ has.0 (Number c.args.bits) _ [] _ _ _ c.in_ok-next.next _ calls t feet st (few_there c.args.types.now c.record_is_there.ensures.lawful (M.places c.args.mem.now) (M.buffers c.args.mem.now) c.args.msg c.args.field one c.requires.entry c.entry_is_there.ensures.number has.0 c.args.array c.args.count c.requires.told c.requires.few t feet st)
    (number_stands_alone c.args.types.now (M.places c.args.mem.now) (M.buffers c.args.mem.now) one.field.kind c.args.bits has.1) (λ foot. omega arith) (λ foot among. absurd (omega (arith, among))) (λ foot among. absurd (omega (arith, among))) in
    let r = some_record c.args.types.now (M.places c.args.mem.now) (M.buffers c.args.mem.now) c.args.msg c.requires.message in
    let there : map.get (M.places c.set_number.new.mem) c.args.msg.place ≡ Some r.bytes = c.set_number.ensures.others c.args.msg.place (λ e. a.apart (sym e)) ∙ c.in_ok-next.ensures.grows.rest c.args.msg.place r.bytes r.there in
    told_after (M.places c.set_number.new.mem) (M.places c.write.new.self) c.args.msg.place one.slot r.bytes c.place_slot-slot.result c.in_ok-next.next (c.args.count + 1) there c.write.ensures.here (search rules)
    (omega (arith, list_fits (layout_of c.args.types.now c.args.msg.type_no) one c.entry_is_there.ensures.fits has.0, r.size)) c.place_slot-slot.ensures.place c.place_slot-slot.ensures.count

pub returns-clause-changes : goal.returns-clause-changes
returns-clause-changes g c = λ t feet st.
    let one = c.args.entry in
    let has = has_field c.args.types.now c.args.msg.type_no c.args.field one.field c.requires.field c.entry_is_there.ensures.field in
    let M = g.M.Memory in
    let calls : Calls c.args.types.now c.record_is_there.ensures.lawful (M.places c.args.mem.now) (M.places c.room_behind.new.mem) (M.places c.set_number.new.mem) (M.places c.write.new.self) (M.buffers c.args.mem.now) c.args.msg c.args.field one
    c.requires.entry c.entry_is_there.ensures.number has.0 (Number c.args.bits) (number_bytes (slot_of (value_type_of one.field.kind)) c.args.bits) [] c.args.count c.single_bytes-size.result c.single_bytes-size.ensures c.in_ok-next.next c.place_slot-slot.result = record {
      room = c.in_ok-next.ensures.made;
      keeps = c.in_ok-next.ensures.grows.rest;
      long = number_size one.field.kind c.args.bits has.1 ∙ sym c.single_bytes-size.ensures;
      put = c.set_number.ensures.here;
      put_else = c.set_number.ensures.others;
      slot_long = search rules;
      slot_place = c.place_slot-slot.ensures.place;
      slot_count = c.place_slot-slot.ensures.count;
      slot_form = c.place_slot-slot.ensures.form;
      told = c.write.ensures.here;
      told_else = c.write.ensures.others;
    } in
    let a = appended c.args.types.now c.record_is_there.ensures.lawful _ _ _ _ (M.buffers c.args.mem.now) c.args.msg c.args.field one _ _ has.0 (Number c.args.bits) _ [] _ _ _ c.in_ok-next.next _ calls t feet st (few_there c.args.types.now c.record_is_there.ensures.lawful (M.places c.args.mem.now) (M.buffers c.args.mem.now) c.args.msg c.args.field one c.requires.entry c.entry_is_there.ensures.number has.0 c.args.array c.args.count c.requires.told c.requires.few t feet st)
    (number_stands_alone c.args.types.now (M.places c.args.mem.now) (M.buffers c.args.mem.now) one.field.kind c.args.bits has.1) (λ foot. omega arith) (λ foot among. absurd (omega (arith, among))) (λ foot among. absurd (omega (arith, among))) in
    let same : M.buffers c.write.new.self ≡ M.buffers c.set_number.new.mem = c.write.ensures.buffers in
    let all_same : M.buffers c.write.new.self ≡ M.buffers c.args.mem.now = same ∙ (c.set_number.ensures.buffers ∙ c.in_ok-next.ensures.buffers) in
    changes_after M.key M.places M.buffers M.blocks 1 0 feet c.args.mem.now c.room_behind.new.mem c.write.new.self c.in_ok-next.ensures.grows
    (c.write.ensures.key ∙ c.set_number.ensures.key) (c.write.ensures.count ∙ c.set_number.ensures.count) (λ q live. c.write.ensures.still_live q (c.set_number.ensures.still_live q live))
    (same ∙ c.set_number.ensures.buffers) (λ region. c.write.ensures.blocks region ∙ c.set_number.ensures.blocks region)
    (subst (λ b. KeepsOthers (M.places c.args.mem.now) (M.buffers c.args.mem.now) (M.places c.write.new.self) b feet) (sym all_same) a.keeps)
