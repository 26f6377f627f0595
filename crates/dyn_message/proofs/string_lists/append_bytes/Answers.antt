use Rattle.std.proofs.Common.{rules, ◌≡◌, ◌∙◌, ◌+◌, sym, subst, length}
use Rattle.std.specs.Prelude.{Result, Ok, Err, OnErr}
use Rattle.pb_schema.specs.Meter.{array_bytes}
use Rattle.pb_schema.specs.Tree.{Bytes}
use Rattle.pb_schema.specs.Kinds.{value_type_of, slot_of}
use Rattle.dyn_message.specs.Feet.{KeepsOthers}
use Rattle.dyn_message.specs.Stands.{Stands, ValueStands}
use Rattle.dyn_message.specs.Slots.{word}
use Rattle.dyn_message.specs.Rooms.{list_slot}
use Rattle.dyn_message.specs.Lists.{with_appended, count_at}
use Rattle.dyn_message.proofs.Opening.{has_field, record_is}
use Rattle.dyn_message.proofs.Setting.{keeps_join, growth_keeps}
use Rattle.dyn_message.proofs.There.{value_there, message_there}
use Rattle.dyn_message.proofs.Appending.{appended_from, fresh_apart}
use Rattle.dyn_message.proofs.ListLaws.{list_may_grow, stands_grown, string_slot, calls_of, appended, as_many, none_before, changes_then}
use Rattle.dyn_message.proofs.string_lists.append_bytes.Goals as goal

on_any : {T E : Type 0} {P : Type 0} (r : Result T E) → P → OnErr r P
on_any (Ok x) p = tt
on_any (Err e) p = p

pub append_element-requires-clause-list : goal.append_element-requires-clause-list
append_element-requires-clause-list g c =
    let M = g.M.Memory in
    let one = c.entry_in-entry.result in
    let has = has_field c.args.types.now c.args.msg.type_no c.args.field one.field c.requires.field c.entry_in-entry.ensures.field in
    let grows = c.in_ok-element.ensures.grows in
    let st = stands_grown c.args.types.now _ (M.places c.keep_bytes.new.mem) _ (M.buffers c.keep_bytes.new.mem) c.args.msg c.requires.message.0 c.requires.message.1 c.requires.message.2 grows.rest grows.buffers in
    let r = record_is c.args.types.now (M.places c.keep_bytes.new.mem) (M.buffers c.keep_bytes.new.mem) c.args.msg c.requires.message.0 c.requires.message.1 st in
    let long : length c.in_ok-element.element ≡ 24 = search rules in
    list_may_grow c.args.types.now c.record_is_there.ensures.lawful (M.places c.keep_bytes.new.mem) (M.buffers c.keep_bytes.new.mem) c.args.msg c.args.field one r.bytes
    c.entry_in-entry.ensures.found c.entry_in-entry.ensures.number has.0 r.there (length c.in_ok-element.element) (long ∙ sym (string_slot _ c.args.bytes.now has.1)) c.requires.message.0 c.requires.message.1 st (c.requires.few c.requires.message.0 c.requires.message.1 c.requires.message.2)

pub returns-in_err-append_element-clause-stands : goal.returns-in_err-append_element-clause-stands
returns-in_err-append_element-clause-stands g c =
    let M = g.M.Memory in
    let grows = c.in_ok-element.ensures.grows in
    on_any c.from_residual-in_err-append_element.result (λ t feet st.
    let st1 = stands_grown c.args.types.now _ (M.places c.keep_bytes.new.mem) _ (M.buffers c.keep_bytes.new.mem) c.args.msg t feet st grows.rest grows.buffers in
    subst (λ b. Stands c.args.types.now (M.places c.append_element.new.mem) b c.args.msg t feet) (sym c.in_err-append_element.ensures.grows.buffers)
    (subst (λ p. Stands c.args.types.now p (M.buffers c.keep_bytes.new.mem) c.args.msg t feet) (sym c.in_err-append_element.ensures.unchanged) st1))

pub returns-in_err-append_element-clause-changes : goal.returns-in_err-append_element-clause-changes
returns-in_err-append_element-clause-changes g c = λ t feet st.
    let M = g.M.Memory in
    let grows = c.in_ok-element.ensures.grows in
    let keeps = growth_keeps (M.places c.args.mem.now) (M.places c.keep_bytes.new.mem) (M.buffers c.args.mem.now) (M.buffers c.keep_bytes.new.mem) feet grows.rest grows.buffers in
    changes_then M.key M.places M.buffers M.blocks 1 1 1 feet c.args.mem.now c.keep_bytes.new.mem c.append_element.new.mem grows c.in_err-append_element.ensures.grows
    (subst (λ b. KeepsOthers (M.places c.args.mem.now) (M.buffers c.args.mem.now) (M.places c.append_element.new.mem) b feet) (sym c.in_err-append_element.ensures.grows.buffers)
    (subst (λ p. KeepsOthers (M.places c.args.mem.now) (M.buffers c.args.mem.now) p (M.buffers c.keep_bytes.new.mem) feet) (sym c.in_err-append_element.ensures.unchanged) keeps))

pub returns-clause-appended : goal.returns-clause-appended
returns-clause-appended g c = λ t feet st.
    let M = g.M.Memory in
    let one = c.entry_in-entry.result in
    let has = has_field c.args.types.now c.args.msg.type_no c.args.field one.field c.requires.field c.entry_in-entry.ensures.field in
    let grows = c.in_ok-element.ensures.grows in
    let kept = c.in_ok-element.ensures.kept in
    let done = c.in_ok-append_element.ensures.appended in
    let st1 = stands_grown c.args.types.now _ (M.places c.keep_bytes.new.mem) _ (M.buffers c.keep_bytes.new.mem) c.args.msg t feet st grows.rest grows.buffers in
    let long : length c.in_ok-element.element ≡ 24 = search rules in
    let size_is : length c.in_ok-element.element ≡ slot_of (value_type_of one.field.kind) = long ∙ sym (string_slot _ c.args.bytes.now has.1) in
    let calls = calls_of c.args.types.now c.record_is_there.ensures.lawful (M.places c.keep_bytes.new.mem) (M.places c.append_element.new.mem) (M.buffers c.keep_bytes.new.mem) c.args.msg c.args.field one c.entry_in-entry.ensures.found c.entry_in-entry.ensures.number has.0
    (Bytes c.args.bytes.now) c.in_ok-element.element kept.feet size_is done in
    let value : ValueStands c.args.types.now (M.places c.keep_bytes.new.mem) (M.buffers c.keep_bytes.new.mem) (value_type_of one.field.kind) c.in_ok-element.element (Bytes c.args.bytes.now) kept.feet = record { kind = has.1; short = c.requires.short; holds = kept.holds } in
    let there = message_there c.args.types.now (M.places c.args.mem.now) (M.buffers c.args.mem.now) c.args.msg.type_no c.args.msg.place t feet st.message in
    let a = appended c.args.types.now c.record_is_there.ensures.lawful _ _ _ _ (M.buffers c.keep_bytes.new.mem) c.args.msg c.args.field one _ _ has.0 (Bytes c.args.bytes.now) _ kept.feet _ _ size_is done.array _ calls t feet st1 (c.requires.few t feet st)
    value kept.once (value_there c.args.types.now (M.places c.keep_bytes.new.mem) (M.buffers c.keep_bytes.new.mem) (value_type_of one.field.kind) c.in_ok-element.element (Bytes c.args.bytes.now) kept.feet value)
    (λ foot among. fresh_apart (M.places c.args.mem.now) (M.buffers c.args.mem.now) feet foot there (kept.fresh foot among)) in
    let same : M.buffers c.append_element.new.mem ≡ M.buffers c.keep_bytes.new.mem = c.in_ok-append_element.ensures.grows.buffers in
    record {
      now = a.now;
      stands = subst (λ b. Stands c.args.types.now (M.places c.append_element.new.mem) b c.args.msg (with_appended c.args.types.now c.args.msg.type_no c.args.field (Bytes c.args.bytes.now) t) a.now) (sym same) a.stands;
      from = appended_from c.args.types.now (M.places c.args.mem.now) (M.places c.keep_bytes.new.mem) (M.places c.append_element.new.mem) (M.buffers c.args.mem.now) (M.buffers c.keep_bytes.new.mem) c.args.msg _ feet kept.feet done.array a
          (none_before (M.places c.args.mem.now) (M.places c.keep_bytes.new.mem) (M.buffers c.args.mem.now) (M.buffers c.keep_bytes.new.mem) grows.rest grows.buffers) kept.fresh;
    }

pub returns-clause-space : goal.returns-clause-space
returns-clause-space g c = λ t feet st.
    let M = g.M.Memory in
    let one = c.entry_in-entry.result in
    let has = has_field c.args.types.now c.args.msg.type_no c.args.field one.field c.requires.field c.entry_in-entry.ensures.field in
    let grows = c.in_ok-element.ensures.grows in
    let kept = c.in_ok-element.ensures.kept in
    let done = c.in_ok-append_element.ensures.appended in
    let st1 = stands_grown c.args.types.now _ (M.places c.keep_bytes.new.mem) _ (M.buffers c.keep_bytes.new.mem) c.args.msg t feet st grows.rest grows.buffers in
    let long : length c.in_ok-element.element ≡ 24 = search rules in
    let size_is : length c.in_ok-element.element ≡ slot_of (value_type_of one.field.kind) = long ∙ sym (string_slot _ c.args.bytes.now has.1) in
    let calls = calls_of c.args.types.now c.record_is_there.ensures.lawful (M.places c.keep_bytes.new.mem) (M.places c.append_element.new.mem) (M.buffers c.keep_bytes.new.mem) c.args.msg c.args.field one c.entry_in-entry.ensures.found c.entry_in-entry.ensures.number has.0
    (Bytes c.args.bytes.now) c.in_ok-element.element kept.feet size_is done in
    let many : done.count ≡ count_at c.args.types.now c.args.msg.type_no c.args.field t = as_many c.args.types.now c.record_is_there.ensures.lawful _ _ _ _ (M.buffers c.keep_bytes.new.mem) c.args.msg c.args.field one _ _ has.0 (Bytes c.args.bytes.now) _ kept.feet _ _ size_is done.array _ calls t feet st1 (c.requires.few t feet st) in
    let word_is : word 4 (list_slot (M.places c.keep_bytes.new.mem) c.args.msg.place one.slot) ≡ count_at c.args.types.now c.args.msg.type_no c.args.field t = sym done.room.counted ∙ many in
    c.in_ok-append_element.ensures.space ∙ (λ i. c.in_ok-element.ensures.space i + array_bytes (long i) (word_is i) (word_is i + 1))

pub returns-clause-changes : goal.returns-clause-changes
returns-clause-changes g c = λ t feet st.
    let M = g.M.Memory in
    let one = c.entry_in-entry.result in
    let has = has_field c.args.types.now c.args.msg.type_no c.args.field one.field c.requires.field c.entry_in-entry.ensures.field in
    let grows = c.in_ok-element.ensures.grows in
    let kept = c.in_ok-element.ensures.kept in
    let done = c.in_ok-append_element.ensures.appended in
    let st1 = stands_grown c.args.types.now _ (M.places c.keep_bytes.new.mem) _ (M.buffers c.keep_bytes.new.mem) c.args.msg t feet st grows.rest grows.buffers in
    let long : length c.in_ok-element.element ≡ 24 = search rules in
    let size_is : length c.in_ok-element.element ≡ slot_of (value_type_of one.field.kind) = long ∙ sym (string_slot _ c.args.bytes.now has.1) in
    let calls = calls_of c.args.types.now c.record_is_there.ensures.lawful (M.places c.keep_bytes.new.mem) (M.places c.append_element.new.mem) (M.buffers c.keep_bytes.new.mem) c.args.msg c.args.field one c.entry_in-entry.ensures.found c.entry_in-entry.ensures.number has.0
    (Bytes c.args.bytes.now) c.in_ok-element.element kept.feet size_is done in
    let value : ValueStands c.args.types.now (M.places c.keep_bytes.new.mem) (M.buffers c.keep_bytes.new.mem) (value_type_of one.field.kind) c.in_ok-element.element (Bytes c.args.bytes.now) kept.feet = record { kind = has.1; short = c.requires.short; holds = kept.holds } in
    let there = message_there c.args.types.now (M.places c.args.mem.now) (M.buffers c.args.mem.now) c.args.msg.type_no c.args.msg.place t feet st.message in
    let a = appended c.args.types.now c.record_is_there.ensures.lawful _ _ _ _ (M.buffers c.keep_bytes.new.mem) c.args.msg c.args.field one _ _ has.0 (Bytes c.args.bytes.now) _ kept.feet _ _ size_is done.array _ calls t feet st1 (c.requires.few t feet st)
    value kept.once (value_there c.args.types.now (M.places c.keep_bytes.new.mem) (M.buffers c.keep_bytes.new.mem) (value_type_of one.field.kind) c.in_ok-element.element (Bytes c.args.bytes.now) kept.feet value)
    (λ foot among. fresh_apart (M.places c.args.mem.now) (M.buffers c.args.mem.now) feet foot there (kept.fresh foot among)) in
    let same : M.buffers c.append_element.new.mem ≡ M.buffers c.keep_bytes.new.mem = c.in_ok-append_element.ensures.grows.buffers in
    changes_then M.key M.places M.buffers M.blocks 1 1 1 feet c.args.mem.now c.keep_bytes.new.mem c.append_element.new.mem grows c.in_ok-append_element.ensures.grows
    (subst (λ b. KeepsOthers (M.places c.args.mem.now) (M.buffers c.args.mem.now) (M.places c.append_element.new.mem) b feet) (sym same)
    (keeps_join (M.places c.args.mem.now) (M.places c.keep_bytes.new.mem) (M.places c.append_element.new.mem) (M.buffers c.args.mem.now) (M.buffers c.keep_bytes.new.mem) (M.buffers c.keep_bytes.new.mem) feet
    (growth_keeps (M.places c.args.mem.now) (M.places c.keep_bytes.new.mem) (M.buffers c.args.mem.now) (M.buffers c.keep_bytes.new.mem) feet grows.rest grows.buffers) a.keeps))
