use Rattle.std.proofs.Common.{rules, ◌≡◌, ◌∙◌, ◌+◌, [], ◌∷◌, None, refl, sym, ap, subst, length}
use Rattle.std.specs.Prelude.{Result, Ok, Err, OnErr}
use Rattle.arena_mem.specs.Places.{used}
use Rattle.pb_schema.specs.Meter.{array_bytes}
use Rattle.pb_schema.specs.Empty.{empty_with}
use Rattle.pb_schema.specs.Fits.{fields_of}
use Rattle.pb_schema.specs.Tree.{Shape, Sub}
use Rattle.pb_schema.specs.Kinds.{Nested, value_type_of, slot_of}
use Rattle.msg_layout.specs.Layout.{layout_of}
use Rattle.dyn_message.specs.Feet.{Foot, InPlace, IsAmong, SameAt, KeepsOthers, foot_bytes}
use Rattle.dyn_message.specs.Slots.{word, place_in}
use Rattle.dyn_message.specs.Stands.{MessageStands, Stands, ValueStands}
use Rattle.dyn_message.specs.Rooms.{list_slot}
use Rattle.dyn_message.specs.Lists.{HasElement, with_appended, count_at}
use Rattle.dyn_message.proofs.Opening.{has_field, record_is}
use Rattle.dyn_message.proofs.Setting.{keeps_join, growth_keeps}
use Rattle.dyn_message.proofs.There.{message_there}
use Rattle.dyn_message.proofs.SameBytes.{message_same}
use Rattle.dyn_message.proofs.Messages.{some_value}
use Rattle.dyn_message.proofs.Appending.{appended_from, fresh_apart, among_one}
use Rattle.dyn_message.proofs.ListLaws.{list_may_grow, stands_grown, calls_of, appended, as_many, none_before, changes_then}
use Rattle.dyn_message.proofs.NestedLists.{message_bytes, sub_stands, appended_found}
use Rattle.dyn_message.proofs.Linking.{message_type_there}
use Rattle.dyn_message.proofs.message_lists.append_sub.Goals as goal

on_any : {T E : Type 0} {P : Type 0} (r : Result T E) → P → OnErr r P
on_any (Ok x) p = tt
on_any (Err e) p = p

pub create-requires : goal.create-requires
create-requires g c = message_type_there c.args.types.now c.record_is_there.ensures.lawful c.args.msg.type_no c.args.field c.entry_in-entry.result.field c.type_of_messages.result c.entry_in-entry.ensures.field c.type_of_messages.ensures

pub append_element-requires-clause-list : goal.append_element-requires-clause-list
append_element-requires-clause-list g c =
    let M = g.M.Memory in
    let one = c.entry_in-entry.result in
    let has = has_field c.args.types.now c.args.msg.type_no c.args.field one.field c.requires.field c.entry_in-entry.ensures.field in
    let grows = c.create.ensures.grows in
    let st = stands_grown c.args.types.now _ (M.places c.create.new.mem) _ (M.buffers c.create.new.mem) c.args.msg c.requires.message.0 c.requires.message.1 c.requires.message.2 grows.rest grows.buffers in
    let r = record_is c.args.types.now (M.places c.create.new.mem) (M.buffers c.create.new.mem) c.args.msg c.requires.message.0 c.requires.message.1 st in
    let long : length c.link_slot-element.result ≡ 16 = search rules in
    list_may_grow c.args.types.now c.record_is_there.ensures.lawful (M.places c.create.new.mem) (M.buffers c.create.new.mem) c.args.msg c.args.field one r.bytes
    c.entry_in-entry.ensures.found c.entry_in-entry.ensures.number has.0 r.there (length c.link_slot-element.result) (long ∙ sym (message_bytes _ has.1)) c.requires.message.0 c.requires.message.1 st (c.requires.few c.requires.message.0 c.requires.message.1 c.requires.message.2)

pub returns-in_err-append_element-clause-stands : goal.returns-in_err-append_element-clause-stands
returns-in_err-append_element-clause-stands g c =
    let M = g.M.Memory in
    let grows = c.create.ensures.grows in
    on_any c.from_residual-in_err-append_element.result (λ t feet st.
    let st1 = stands_grown c.args.types.now _ (M.places c.create.new.mem) _ (M.buffers c.create.new.mem) c.args.msg t feet st grows.rest grows.buffers in
    subst (λ b. Stands c.args.types.now (M.places c.append_element.new.mem) b c.args.msg t feet) (sym c.in_err-append_element.ensures.grows.buffers)
    (subst (λ p. Stands c.args.types.now p (M.buffers c.create.new.mem) c.args.msg t feet) (sym c.in_err-append_element.ensures.unchanged) st1))

pub returns-in_err-append_element-clause-changes : goal.returns-in_err-append_element-clause-changes
returns-in_err-append_element-clause-changes g c = λ t feet st.
    let M = g.M.Memory in
    let grows = c.create.ensures.grows in
    let keeps = growth_keeps (M.places c.args.mem.now) (M.places c.create.new.mem) (M.buffers c.args.mem.now) (M.buffers c.create.new.mem) feet grows.rest grows.buffers in
    changes_then M.key M.places M.buffers M.blocks 1 0 1 feet c.args.mem.now c.create.new.mem c.append_element.new.mem grows c.in_err-append_element.ensures.grows
    (subst (λ b. KeepsOthers (M.places c.args.mem.now) (M.buffers c.args.mem.now) (M.places c.append_element.new.mem) b feet) (sym c.in_err-append_element.ensures.grows.buffers)
    (subst (λ p. KeepsOthers (M.places c.args.mem.now) (M.buffers c.args.mem.now) p (M.buffers c.create.new.mem) feet) (sym c.in_err-append_element.ensures.unchanged) keeps))

pub returns-clause-appended : goal.returns-clause-appended
returns-clause-appended g c = λ t feet st.
    let M = g.M.Memory in
    let one = c.entry_in-entry.result in
    let has = has_field c.args.types.now c.args.msg.type_no c.args.field one.field c.requires.field c.entry_in-entry.ensures.field in
    let grows = c.create.ensures.grows in
    let made = c.in_ok-child.ensures.made in
    let done = c.in_ok-append_element.ensures.appended in
    let st1 = stands_grown c.args.types.now _ (M.places c.create.new.mem) _ (M.buffers c.create.new.mem) c.args.msg t feet st grows.rest grows.buffers in
    let long : length c.link_slot-element.result ≡ 16 = search rules in
    let size_is : length c.link_slot-element.result ≡ slot_of (value_type_of one.field.kind) = long ∙ sym (message_bytes _ has.1) in
    let empty : Shape = empty_with [] (fields_of c.args.types.now c.in_ok-child.child.type_no) in
    let own = InPlace c.in_ok-child.child.place ∷ [] in
    let calls = calls_of c.args.types.now c.record_is_there.ensures.lawful (M.places c.create.new.mem) (M.places c.append_element.new.mem) (M.buffers c.create.new.mem) c.args.msg c.args.field one c.entry_in-entry.ensures.found c.entry_in-entry.ensures.number has.0
    (Sub empty) c.link_slot-element.result own size_is done in
    let child_stands : Stands c.args.types.now (M.places c.create.new.mem) (M.buffers c.create.new.mem) c.in_ok-child.child empty own = subst (λ k. Stands c.args.types.now (M.places c.create.new.mem) (M.buffers c.create.new.mem) c.in_ok-child.child (empty_with [] (fields_of c.args.types.now k)) own) (sym made.type) made.stands in
    let type_is : value_type_of one.field.kind ≡ Nested c.in_ok-child.child.type_no = c.type_of_messages.ensures ∙ ap Nested (sym made.type) in
    let at_element : MessageStands c.args.types.now (M.places c.create.new.mem) (M.buffers c.create.new.mem) c.in_ok-child.child.type_no (place_in c.link_slot-element.result) empty own =
    subst (λ p. MessageStands c.args.types.now (M.places c.create.new.mem) (M.buffers c.create.new.mem) c.in_ok-child.child.type_no p empty own) (sym c.link_slot-element.ensures) child_stands.message in
    let value : ValueStands c.args.types.now (M.places c.create.new.mem) (M.buffers c.create.new.mem) (value_type_of one.field.kind) c.link_slot-element.result (Sub empty) own = sub_stands c.args.types.now (M.places c.create.new.mem) (M.buffers c.create.new.mem) (value_type_of one.field.kind) c.in_ok-child.child.type_no c.link_slot-element.result empty own type_is at_element in
    let there = message_there c.args.types.now (M.places c.args.mem.now) (M.buffers c.args.mem.now) c.args.msg.type_no c.args.msg.place t feet st.message in
    let fresh : (foot : Foot) → IsAmong foot own → foot_bytes (M.places c.args.mem.now) (M.buffers c.args.mem.now) foot ≡ None = λ foot among. subst (λ f. foot_bytes (M.places c.args.mem.now) (M.buffers c.args.mem.now) f ≡ None) (sym (among_one foot (InPlace c.in_ok-child.child.place) among)) made.fresh in
    let a = appended c.args.types.now c.record_is_there.ensures.lawful _ _ _ _ (M.buffers c.create.new.mem) c.args.msg c.args.field one _ _ has.0 (Sub empty) _ own _ _ size_is done.array _ calls t feet st1 (c.requires.few t feet st)
    value child_stands.once (message_there c.args.types.now (M.places c.create.new.mem) (M.buffers c.create.new.mem) c.in_ok-child.child.type_no c.in_ok-child.child.place empty own child_stands.message)
    (λ foot among. fresh_apart (M.places c.args.mem.now) (M.buffers c.args.mem.now) feet foot there (fresh foot among)) in
    let same : M.buffers c.append_element.new.mem ≡ M.buffers c.create.new.mem = c.in_ok-append_element.ensures.grows.buffers in
    let many : done.count ≡ count_at c.args.types.now c.args.msg.type_no c.args.field t = as_many c.args.types.now c.record_is_there.ensures.lawful _ _ _ _ (M.buffers c.create.new.mem) c.args.msg c.args.field one _ _ has.0 (Sub empty) _ own _ _ size_is done.array _ calls t feet st1 (c.requires.few t feet st) in
    let t' : Shape = with_appended c.args.types.now c.args.msg.type_no c.args.field (Sub empty) t in
    let was = record_is c.args.types.now (M.places c.create.new.mem) (M.buffers c.create.new.mem) c.args.msg t feet st1 in
    let element = appended_found c.args.types.now c.record_is_there.ensures.lawful (M.places c.create.new.mem) (M.places c.append_element.new.mem) (M.buffers c.create.new.mem) c.args.msg c.args.field one c.entry_in-entry.ensures.found c.entry_in-entry.ensures.number has.0
    c.in_ok-child.child.type_no type_is c.link_slot-element.result size_is done a.apart c.in_ok-child.child refl (sym c.link_slot-element.ensures)
    (record { field = one.field; found = c.entry_in-entry.ensures.field; card = has.0; type = type_is }) was t' a.now a.stands in
    let element_now = subst (λ k. HasElement c.args.types.now (M.places c.append_element.new.mem) (M.buffers c.create.new.mem) c.args.msg t' a.now c.args.field k c.in_ok-child.child) many element in
    let child_same : SameAt (M.places c.create.new.mem) (M.buffers c.create.new.mem) (M.places c.append_element.new.mem) (M.buffers c.create.new.mem) own = λ foot among.
    let was_there = some_value (foot_bytes (M.places c.create.new.mem) (M.buffers c.create.new.mem) foot) (message_there c.args.types.now (M.places c.create.new.mem) (M.buffers c.create.new.mem) c.in_ok-child.child.type_no c.in_ok-child.child.place empty own child_stands.message foot among) in
    a.keeps foot was_there.0 (fresh_apart (M.places c.args.mem.now) (M.buffers c.args.mem.now) feet foot there (fresh foot among)) was_there.1 ∙ sym was_there.1 in
    let child_now : Stands c.args.types.now (M.places c.append_element.new.mem) (M.buffers c.create.new.mem) c.in_ok-child.child empty own = record {
      message = message_same c.args.types.now (M.places c.create.new.mem) (M.places c.append_element.new.mem) (M.buffers c.create.new.mem) (M.buffers c.create.new.mem) c.in_ok-child.child.type_no c.in_ok-child.child.place empty own child_same child_stands.message;
      once = child_stands.once;
    } in
    record {
      parent = record {
        now = a.now;
        stands = subst (λ b. Stands c.args.types.now (M.places c.append_element.new.mem) b c.args.msg t' a.now) (sym same) a.stands;
        from = appended_from c.args.types.now (M.places c.args.mem.now) (M.places c.create.new.mem) (M.places c.append_element.new.mem) (M.buffers c.args.mem.now) (M.buffers c.create.new.mem) c.args.msg t' feet own done.array a
            (none_before (M.places c.args.mem.now) (M.places c.create.new.mem) (M.buffers c.args.mem.now) (M.buffers c.create.new.mem) grows.rest grows.buffers) fresh;
      };
      fresh = made.fresh;
      empty = subst (λ b. Stands c.args.types.now (M.places c.append_element.new.mem) b c.in_ok-child.child empty own) (sym same) child_now;
      has = subst (λ b. HasElement c.args.types.now (M.places c.append_element.new.mem) b c.args.msg t' a.now c.args.field (count_at c.args.types.now c.args.msg.type_no c.args.field t) c.in_ok-child.child) (sym same) element_now;
    }

pub returns-clause-space : goal.returns-clause-space
returns-clause-space g c = λ t feet st.
    let M = g.M.Memory in
    let one = c.entry_in-entry.result in
    let has = has_field c.args.types.now c.args.msg.type_no c.args.field one.field c.requires.field c.entry_in-entry.ensures.field in
    let grows = c.create.ensures.grows in
    let made = c.in_ok-child.ensures.made in
    let done = c.in_ok-append_element.ensures.appended in
    let st1 = stands_grown c.args.types.now _ (M.places c.create.new.mem) _ (M.buffers c.create.new.mem) c.args.msg t feet st grows.rest grows.buffers in
    let long : length c.link_slot-element.result ≡ 16 = search rules in
    let size_is : length c.link_slot-element.result ≡ slot_of (value_type_of one.field.kind) = long ∙ sym (message_bytes _ has.1) in
    let empty : Shape = empty_with [] (fields_of c.args.types.now c.in_ok-child.child.type_no) in
    let own = InPlace c.in_ok-child.child.place ∷ [] in
    let calls = calls_of c.args.types.now c.record_is_there.ensures.lawful (M.places c.create.new.mem) (M.places c.append_element.new.mem) (M.buffers c.create.new.mem) c.args.msg c.args.field one c.entry_in-entry.ensures.found c.entry_in-entry.ensures.number has.0
    (Sub empty) c.link_slot-element.result own size_is done in
    let many : done.count ≡ count_at c.args.types.now c.args.msg.type_no c.args.field t = as_many c.args.types.now c.record_is_there.ensures.lawful _ _ _ _ (M.buffers c.create.new.mem) c.args.msg c.args.field one _ _ has.0 (Sub empty) _ own _ _ size_is done.array _ calls t feet st1 (c.requires.few t feet st) in
    let word_is : word 4 (list_slot (M.places c.create.new.mem) c.args.msg.place one.slot) ≡ count_at c.args.types.now c.args.msg.type_no c.args.field t = sym done.room.counted ∙ many in
    let first : used (M.places c.create.new.mem) ≡ used (M.places c.args.mem.now) + (layout_of c.args.types.now c.in_ok-child.child.type_no).size = c.in_ok-child.ensures.space ∙ ap (λ k. used (M.places c.args.mem.now) + (layout_of c.args.types.now k).size) (sym made.type) in
    c.in_ok-append_element.ensures.space ∙ (λ i. first i + array_bytes (long i) (word_is i) (word_is i + 1))

pub returns-clause-changes : goal.returns-clause-changes
returns-clause-changes g c = λ t feet st.
    let M = g.M.Memory in
    let one = c.entry_in-entry.result in
    let has = has_field c.args.types.now c.args.msg.type_no c.args.field one.field c.requires.field c.entry_in-entry.ensures.field in
    let grows = c.create.ensures.grows in
    let made = c.in_ok-child.ensures.made in
    let done = c.in_ok-append_element.ensures.appended in
    let st1 = stands_grown c.args.types.now _ (M.places c.create.new.mem) _ (M.buffers c.create.new.mem) c.args.msg t feet st grows.rest grows.buffers in
    let long : length c.link_slot-element.result ≡ 16 = search rules in
    let size_is : length c.link_slot-element.result ≡ slot_of (value_type_of one.field.kind) = long ∙ sym (message_bytes _ has.1) in
    let empty : Shape = empty_with [] (fields_of c.args.types.now c.in_ok-child.child.type_no) in
    let own = InPlace c.in_ok-child.child.place ∷ [] in
    let calls = calls_of c.args.types.now c.record_is_there.ensures.lawful (M.places c.create.new.mem) (M.places c.append_element.new.mem) (M.buffers c.create.new.mem) c.args.msg c.args.field one c.entry_in-entry.ensures.found c.entry_in-entry.ensures.number has.0
    (Sub empty) c.link_slot-element.result own size_is done in
    let child_stands : Stands c.args.types.now (M.places c.create.new.mem) (M.buffers c.create.new.mem) c.in_ok-child.child empty own = subst (λ k. Stands c.args.types.now (M.places c.create.new.mem) (M.buffers c.create.new.mem) c.in_ok-child.child (empty_with [] (fields_of c.args.types.now k)) own) (sym made.type) made.stands in
    let type_is : value_type_of one.field.kind ≡ Nested c.in_ok-child.child.type_no = c.type_of_messages.ensures ∙ ap Nested (sym made.type) in
    let at_element : MessageStands c.args.types.now (M.places c.create.new.mem) (M.buffers c.create.new.mem) c.in_ok-child.child.type_no (place_in c.link_slot-element.result) empty own =
    subst (λ p. MessageStands c.args.types.now (M.places c.create.new.mem) (M.buffers c.create.new.mem) c.in_ok-child.child.type_no p empty own) (sym c.link_slot-element.ensures) child_stands.message in
    let value : ValueStands c.args.types.now (M.places c.create.new.mem) (M.buffers c.create.new.mem) (value_type_of one.field.kind) c.link_slot-element.result (Sub empty) own = sub_stands c.args.types.now (M.places c.create.new.mem) (M.buffers c.create.new.mem) (value_type_of one.field.kind) c.in_ok-child.child.type_no c.link_slot-element.result empty own type_is at_element in
    let there = message_there c.args.types.now (M.places c.args.mem.now) (M.buffers c.args.mem.now) c.args.msg.type_no c.args.msg.place t feet st.message in
    let fresh : (foot : Foot) → IsAmong foot own → foot_bytes (M.places c.args.mem.now) (M.buffers c.args.mem.now) foot ≡ None = λ foot among. subst (λ f. foot_bytes (M.places c.args.mem.now) (M.buffers c.args.mem.now) f ≡ None) (sym (among_one foot (InPlace c.in_ok-child.child.place) among)) made.fresh in
    let a = appended c.args.types.now c.record_is_there.ensures.lawful _ _ _ _ (M.buffers c.create.new.mem) c.args.msg c.args.field one _ _ has.0 (Sub empty) _ own _ _ size_is done.array _ calls t feet st1 (c.requires.few t feet st)
    value child_stands.once (message_there c.args.types.now (M.places c.create.new.mem) (M.buffers c.create.new.mem) c.in_ok-child.child.type_no c.in_ok-child.child.place empty own child_stands.message)
    (λ foot among. fresh_apart (M.places c.args.mem.now) (M.buffers c.args.mem.now) feet foot there (fresh foot among)) in
    let same : M.buffers c.append_element.new.mem ≡ M.buffers c.create.new.mem = c.in_ok-append_element.ensures.grows.buffers in
    changes_then M.key M.places M.buffers M.blocks 1 0 1 feet c.args.mem.now c.create.new.mem c.append_element.new.mem grows c.in_ok-append_element.ensures.grows
    (subst (λ b. KeepsOthers (M.places c.args.mem.now) (M.buffers c.args.mem.now) (M.places c.append_element.new.mem) b feet) (sym same)
    (keeps_join (M.places c.args.mem.now) (M.places c.create.new.mem) (M.places c.append_element.new.mem) (M.buffers c.args.mem.now) (M.buffers c.create.new.mem) (M.buffers c.create.new.mem) feet
    (growth_keeps (M.places c.args.mem.now) (M.places c.create.new.mem) (M.buffers c.args.mem.now) (M.buffers c.create.new.mem) feet grows.rest grows.buffers) a.keeps))
