use Rattle.std.proofs.Common.{◌≡◌, ◌+◌, ◌-◌, ◌*◌, ◌<◌, suc, length, get_or, sym, ap, ◌∙◌, subst, arith}
use Rattle.std.specs.Prelude.{max}
use Rattle.std.proofs.lemmas.Option.{slice_get-get_or}
use Rattle.pb_schema.specs.Depth.{value_levels, held_levels, values_levels, fields_levels}
use Rattle.pb_schema.specs.Kinds.{value_type_of, slot_of}
use Rattle.pb_schema.specs.Tree.{values_in_list}
use Rattle.pb_schema.specs.Units.{value_units, held_units, values_units, fields_units}
use Rattle.msg_layout.proofs.FindLaws.{past_end_entry}
use Rattle.msg_layout.specs.Layout.{Layout, layout_of}
use Rattle.msg_layout.specs.Slots.{array_slot}
use Rattle.dyn_message.specs.Slots.{part, slot_in, told_in}
use Rattle.dyn_message.specs.Stands.{ValueStands, MessageStands}
use Rattle.dyn_message.proofs.Appending.{count_is}
use Rattle.dyn_message.proofs.ListLaws as list_laws
use Rattle.dyn_message.proofs.Messages.{sound_of}
use Rattle.dyn_message.proofs.Opening.{single_slot}
use Rattle.pb_write.proofs.Lists.{array_live, count_same, elements_there, element_fits, list_is, value_of, index_small}
use Rattle.pb_write.proofs.Parts.{fields_drop, values_drop, value_levels_at, values_end}
use Rattle.pb_write.proofs.Records.{opened, entries_lie, type_known, record_live, pieces_at, entries_at, fields_at}
use Rattle.pb_write.proofs.Singles.{set_value, unset_nothing, single_of}
use Rattle.pb_write.proofs.Values.{message_value, message_place, string_slot, bytes_type, number_type}
use Rattle.msg_merge.specs.Extents.{pieces_bytes}
use Rattle.msg_merge.proofs.Counts.{extent_is, field_at_index, fields_end, value_at_index, number_units, array_numbers, bytes_counted, no_values_extent, message_sizes}
use Rattle.msg_merge.proofs.walk.+walk.Goals as goal

-- VALUES OF A LIST

pub values_extent-values-init : goal.values_extent-values-init
values_extent-values-init g t c = record {
  within = omega arith;
  counted = λ values feet stand counted.
      let none = ap (λ n. values_drop n values) (sym counted) ∙ values_end values in
      extent_is 0 (values_units pieces_bytes (values_drop c.args.count values)) 0 (values_levels (values_drop c.args.count values)) c.none-total.result (sym (ap (values_units pieces_bytes) none)) (sym (ap values_levels none)) c.none-total.ensures;
}

pub values_extent-overflow_mul-i : goal.values_extent-overflow_mul-i
values_extent-overflow_mul-i g t c =
    let less = c.values.invariant.within in let some = c.values-test.true in
    let small = index_small (c.values.i - 1) c.args.count c.single_bytes-size.result c.args.field.kind (omega (arith, less, some)) c.requires.few c.single_bytes-size.ensures in
    omega (arith, small)

pub values_extent-value_extent-value-requires : goal.values_extent-value_extent-value-requires
values_extent-value_extent-value-requires g t c κs within =
    let stand = c.requires.stand in
    let less = c.values.invariant.within in let some = c.values-test.true in
    let size = c.single_bytes-size.ensures in
    let at = value_of c.args.types.now (g.M.Memory.places c.args.mem.now) (g.M.Memory.buffers c.args.mem.now) (value_type_of c.args.field.kind) c.args.elements.now stand.0 stand.1 c.values.i c.args.count c.single_bytes-size.result stand.2 stand.3 some less size in
    let fits = element_fits (c.values.i - 1) c.args.count (slot_of (value_type_of c.args.field.kind)) (length c.args.elements.now) (omega (arith, less, some)) c.requires.within in
    let small = index_small (c.values.i - 1) c.args.count c.single_bytes-size.result c.args.field.kind (omega (arith, less, some)) c.requires.few size in
    let deep = value_levels_at stand.0 (c.values.i - 1) at.0 at.2 in
    let levels = stand.4 in
    (omega (arith, c.decreases), (within.0, (within.1, (omega (arith, fits, ap (λ n. (c.values.i - 1) * n) size), (small, (at.0, at.1, at.3, omega (arith, deep, levels)))))))

pub values_extent-values-preserved : goal.values_extent-values-preserved
values_extent-values-preserved g t c = record {
  within = omega (arith, c.values.invariant.within);
  counted = λ values feet stand counted.
      let some = c.values-test.true in
      let at = value_of c.args.types.now (g.M.Memory.places c.args.mem.now) (g.M.Memory.buffers c.args.mem.now) (value_type_of c.args.field.kind) c.args.elements.now values feet c.values.i c.args.count c.single_bytes-size.result stand counted some c.values.invariant.within c.single_bytes-size.ensures in
      let next : suc (c.values.i - 1) ≡ c.values.i = omega (arith, some) in
      let rest = values_drop c.values.i values in
      let more = values_drop (c.values.i - 1) values in
      let is = value_at_index values (c.values.i - 1) at.0 at.2 in
      extent_is (value_units pieces_bytes at.0 + values_units pieces_bytes rest) (values_units pieces_bytes more) (max (value_levels at.0) (values_levels rest)) (values_levels more) c.and-total.result
      (sym (ap (values_units pieces_bytes) is ∙ ap (λ n. value_units pieces_bytes at.0 + values_units pieces_bytes (values_drop n values)) next))
      (sym (ap values_levels is ∙ ap (λ n. max (value_levels at.0) (values_levels (values_drop n values))) next))
      (c.and-total.ensures _ _ _ _ (c.value_extent-value.ensures at.0 at.1 at.3) (c.values.invariant.counted values feet stand counted));
}

pub values_extent-returns : goal.values_extent-returns
values_extent-returns g t c = λ values feet stand counted.
    let none : c.values.i ≡ 0 = omega (arith, c.values-test.false) in
    extent_is (values_units pieces_bytes (values_drop c.values.i values)) (values_units pieces_bytes values) (values_levels (values_drop c.values.i values)) (values_levels values) c.values.total
    (ap (λ n. values_units pieces_bytes (values_drop n values)) none) (ap (λ n. values_levels (values_drop n values)) none) (c.values.invariant.counted values feet stand counted)

-- A FIELD

pub field_extent-list_extent-requires : goal.field_extent-list_extent-requires
field_extent-list_extent-requires g t c κs within = (omega (arith, c.decreases), (within.0, (within.1, (c.in-Repeated.is, (c.requires.within, c.requires.stand)))))

pub field_extent-single_extent-requires : goal.field_extent-single_extent-requires
field_extent-single_extent-requires g t c κs within = (omega (arith, c.decreases), (within.0, (within.1, (single_of c.args.entry.now.field.card c.in_default.not-Repeated, (c.requires.within, c.requires.stand)))))

-- FIELDS

pub fields_extent-fields-init : goal.fields_extent-fields-init
fields_extent-fields-init g t c = record {
  within = omega arith;
  counted = λ held feet stand.
      let none = fields_end c.args.types.now (g.M.Memory.places c.args.mem.now) (g.M.Memory.buffers c.args.mem.now) c.args.bytes.now c.args.entries.now held feet stand in
      extent_is 0 (fields_units pieces_bytes (fields_drop (length c.args.entries.now) held)) 0 (fields_levels (fields_drop (length c.args.entries.now) held)) c.none-total.result (sym (ap (fields_units pieces_bytes) none)) (sym (ap fields_levels none)) c.none-total.ensures;
}

pub fields_extent-field_extent-field-requires : goal.fields_extent-field_extent-field-requires
fields_extent-field_extent-field-requires g t c κs within =
    let stand = c.requires.stand in
    let less = c.fields.invariant.within in let some = c.fields-test.true in
    let below : c.fields.i - 1 < length c.args.entries.now = omega (arith, less, some) in
    let at = field_at_index c.args.types.now (g.M.Memory.places c.args.mem.now) (g.M.Memory.buffers c.args.mem.now) c.args.bytes.now c.args.entries.now stand.0 stand.1 (c.fields.i - 1) (get_or c.args.entries.now (c.fields.i - 1) past_end_entry) stand.2 (slice_get-get_or c.args.entries.now (c.fields.i - 1) past_end_entry below) in
    let deep = at.levels in let levels = stand.3 in
    (omega (arith, c.decreases), (within.0, (within.1, (c.requires.within (c.fields.i - 1) past_end_entry below, (at.one, at.own, at.stands, omega (arith, deep, levels))))))

pub fields_extent-fields-preserved : goal.fields_extent-fields-preserved
fields_extent-fields-preserved g t c = record {
  within = omega (arith, c.fields.invariant.within);
  counted = λ held feet stand.
      let less = c.fields.invariant.within in let some = c.fields-test.true in
      let below : c.fields.i - 1 < length c.args.entries.now = omega (arith, less, some) in
      let entry = get_or c.args.entries.now (c.fields.i - 1) past_end_entry in
      let at = field_at_index c.args.types.now (g.M.Memory.places c.args.mem.now) (g.M.Memory.buffers c.args.mem.now) c.args.bytes.now c.args.entries.now held feet (c.fields.i - 1) entry stand (slice_get-get_or c.args.entries.now (c.fields.i - 1) past_end_entry below) in
      let next : suc (c.fields.i - 1) ≡ c.fields.i = omega (arith, some) in
      let rest = fields_drop c.fields.i held in
      let more = fields_drop (c.fields.i - 1) held in
      extent_is (held_units pieces_bytes at.one + fields_units pieces_bytes rest) (fields_units pieces_bytes more) (max (held_levels at.one) (fields_levels rest)) (fields_levels more) c.and-total.result
      (sym (ap (fields_units pieces_bytes) at.is ∙ ap (λ n. held_units pieces_bytes at.one + fields_units pieces_bytes (fields_drop n held)) next))
      (sym (ap fields_levels at.is ∙ ap (λ n. max (held_levels at.one) (fields_levels (fields_drop n held))) next))
      (c.and-total.ensures _ _ _ _ (c.field_extent-field.ensures at.one at.own at.stands) (c.fields.invariant.counted held feet stand));
}

pub fields_extent-returns : goal.fields_extent-returns
fields_extent-returns g t c = λ held feet stand.
    let none : c.fields.i ≡ 0 = omega (arith, c.fields-test.false) in
    extent_is (fields_units pieces_bytes (fields_drop c.fields.i held)) (fields_units pieces_bytes held) (fields_levels (fields_drop c.fields.i held)) (fields_levels held) c.fields.total
    (ap (λ n. fields_units pieces_bytes (fields_drop n held)) none) (ap (λ n. fields_levels (fields_drop n held)) none) (c.fields.invariant.counted held feet stand)

-- A LIST

pub list_extent-returns-then-count-eq0 : goal.list_extent-returns-then-count-eq0
list_extent-returns-then-count-eq0 g t c = λ held own stand.
    let list = list_is c.args.types.now (g.M.Memory.places c.args.mem.now) (g.M.Memory.buffers c.args.mem.now) c.args.entry.now c.args.bytes.now c.args.packed c.requires.list held own stand in
    let none = sym (count_is (g.M.Memory.places c.args.mem.now) (slot_of (value_type_of c.args.entry.now.field.kind)) (length (values_in_list list.values)) (part c.args.entry.now.slot array_slot c.args.bytes.now) own list.holds) ∙ sym c.list_at-count.ensures.count ∙ c.if-count-eq0.true in
    let empty = no_values_extent list.values none in
    extent_is 0 (held_units pieces_bytes held) 0 (held_levels held) c.none.result (empty.0 ∙ sym (ap (held_units pieces_bytes) list.is)) (empty.1 ∙ sym (ap held_levels list.is)) c.none.ensures

pub list_extent-read-requires : goal.list_extent-read-requires
list_extent-read-requires g t c =
    let stand = c.requires.stand in
    let list = list_is c.args.types.now (g.M.Memory.places c.args.mem.now) (g.M.Memory.buffers c.args.mem.now) c.args.entry.now c.args.bytes.now c.args.packed c.requires.list stand.0 stand.1 stand.2 in
    array_live (g.M.Memory.places c.args.mem.now) (slot_of (value_type_of c.args.entry.now.field.kind)) (length (values_in_list list.values)) (part c.args.entry.now.slot array_slot c.args.bytes.now) stand.1 list.holds c.list_at-count.result.0 c.list_at-count.result.1 c.list_at-count.ensures.place c.list_at-count.ensures.count c.if-count-eq0.false

pub list_extent-values_extent-requires : goal.list_extent-values_extent-requires
list_extent-values_extent-requires g t c κs within =
    let stand = c.requires.stand in
    let list = list_is c.args.types.now (g.M.Memory.places c.args.mem.now) (g.M.Memory.buffers c.args.mem.now) c.args.entry.now c.args.bytes.now c.args.packed c.requires.list stand.0 stand.1 stand.2 in
    let there = elements_there (g.M.Memory.places c.args.mem.now) (slot_of (value_type_of c.args.entry.now.field.kind)) (length (values_in_list list.values)) (part c.args.entry.now.slot array_slot c.args.bytes.now) stand.1 list.holds c.list_at-count.result.0 c.list_at-count.result.1 c.list_at-count.ensures.place c.list_at-count.ensures.count c.if-count-eq0.false c.read.result.now c.read.ensures.value in
    let counted = count_same (g.M.Memory.places c.args.mem.now) (slot_of (value_type_of c.args.entry.now.field.kind)) (length (values_in_list list.values)) (part c.args.entry.now.slot array_slot c.args.bytes.now) stand.1 list.holds c.list_at-count.result.0 c.list_at-count.result.1 c.list_at-count.ensures.place c.list_at-count.ensures.count c.if-count-eq0.false in
    let levels = stand.3 in
    (omega (arith, c.decreases), (within.0, (within.1, (there.fit, (there.most, (list.values, there.behind, there.stand, sym counted, omega (arith, levels, ap held_levels list.is)))))))

pub list_extent-returns-in-Message : goal.list_extent-returns-in-Message
list_extent-returns-in-Message g t c = λ held own stand.
    let list = list_is c.args.types.now (g.M.Memory.places c.args.mem.now) (g.M.Memory.buffers c.args.mem.now) c.args.entry.now c.args.bytes.now c.args.packed c.requires.list held own stand in
    let there = elements_there (g.M.Memory.places c.args.mem.now) (slot_of (value_type_of c.args.entry.now.field.kind)) (length (values_in_list list.values)) (part c.args.entry.now.slot array_slot c.args.bytes.now) own list.holds c.list_at-count.result.0 c.list_at-count.result.1 c.list_at-count.ensures.place c.list_at-count.ensures.count c.if-count-eq0.false c.read.result.now c.read.ensures.value in
    let counted = count_same (g.M.Memory.places c.args.mem.now) (slot_of (value_type_of c.args.entry.now.field.kind)) (length (values_in_list list.values)) (part c.args.entry.now.slot array_slot c.args.bytes.now) own list.holds c.list_at-count.result.0 c.list_at-count.result.1 c.list_at-count.ensures.place c.list_at-count.ensures.count c.if-count-eq0.false in
    extent_is (values_units pieces_bytes list.values) (held_units pieces_bytes held) (values_levels list.values) (held_levels held) c.values_extent.result (sym (ap (held_units pieces_bytes) list.is)) (sym (ap held_levels list.is))
    (c.values_extent.ensures list.values there.behind there.stand (sym counted))

pub list_extent-returns-in_default : goal.list_extent-returns-in_default
list_extent-returns-in_default g t c = λ held own stand.
    let list = list_is c.args.types.now (g.M.Memory.places c.args.mem.now) (g.M.Memory.buffers c.args.mem.now) c.args.entry.now c.args.bytes.now c.args.packed c.requires.list held own stand in
    let type = number_type c.args.entry.now.field.kind c.in_default.not-Text c.in_default.not-Message c.in_default.not-Bytes in
    let sizes = array_numbers c.args.types.now (g.M.Memory.places c.args.mem.now) (g.M.Memory.buffers c.args.mem.now) (value_type_of c.args.entry.now.field.kind) type list.values (part c.args.entry.now.slot array_slot c.args.bytes.now) own list.holds in
    let counted = c.from.ensures ∙ (c.list_at-count.ensures.count ∙ count_is (g.M.Memory.places c.args.mem.now) (slot_of (value_type_of c.args.entry.now.field.kind)) (length (values_in_list list.values)) (part c.args.entry.now.slot array_slot c.args.bytes.now) own list.holds) in
    extent_is c.from.result (held_units pieces_bytes held) 0 (held_levels held) c.flat.result (counted ∙ (sizes.0 ∙ sym (ap (held_units pieces_bytes) list.is))) (sizes.1 ∙ sym (ap held_levels list.is)) c.flat.ensures

-- A MESSAGE

pub message_extent-of_type-layout-requires : goal.message_extent-of_type-layout-requires
message_extent-of_type-layout-requires g t c = let r = c.requires in type_known c.args.types.now (g.M.Memory.places c.args.mem.now) (g.M.Memory.buffers c.args.mem.now) c.args.msg.type_no c.args.msg.place r.0 r.1 r.2

pub message_extent-read-bytes-requires : goal.message_extent-read-bytes-requires
message_extent-read-bytes-requires g t c = let r = c.requires in record_live c.args.types.now (g.M.Memory.places c.args.mem.now) (g.M.Memory.buffers c.args.mem.now) c.args.msg.type_no c.args.msg.place r.0 r.1 r.2

pub message_extent-unknown_bytes-unknown-requires-clause-within : goal.message_extent-unknown_bytes-unknown-requires-clause-within
message_extent-unknown_bytes-unknown-requires-clause-within g t c =
    let r = c.requires in
    let o = opened c.args.types.now (g.M.Memory.places c.args.mem.now) (g.M.Memory.buffers c.args.mem.now) c.args.msg.type_no c.args.msg.place r.0 r.1 c.read-bytes.result.now r.2 c.read-bytes.ensures.value in
    let size = o.size in
    let unknown = c.unknown.ensures ∙ ap (λ (l : Layout). l.unknown) c.of_type-layout.ensures in
    let sound = (sound_of c.args.types.now c.schema-schema.ensures.lawful c.args.msg.type_no o.known).unknown in
    omega (arith, size, unknown, sound)

pub message_extent-unknown_bytes-unknown-requires-clause-stand : goal.message_extent-unknown_bytes-unknown-requires-clause-stand
message_extent-unknown_bytes-unknown-requires-clause-stand g t c =
    let r = c.requires in
    let o = opened c.args.types.now (g.M.Memory.places c.args.mem.now) (g.M.Memory.buffers c.args.mem.now) c.args.msg.type_no c.args.msg.place r.0 r.1 c.read-bytes.result.now r.2 c.read-bytes.ensures.value in
    let unknown = c.unknown.ensures ∙ ap (λ (l : Layout). l.unknown) c.of_type-layout.ensures in
    (o.pieces, o.own, pieces_at (g.M.Memory.places c.args.mem.now) (g.M.Memory.buffers c.args.mem.now) o.pieces o.own c.read-bytes.result.now (layout_of c.args.types.now c.args.msg.type_no).unknown c.unknown.result unknown o.unknown)

pub message_extent-fields_extent-requires : goal.message_extent-fields_extent-requires
message_extent-fields_extent-requires g t c κs within =
    let r = c.requires in
    let o = opened c.args.types.now (g.M.Memory.places c.args.mem.now) (g.M.Memory.buffers c.args.mem.now) c.args.msg.type_no c.args.msg.place r.0 r.1 c.read-bytes.result.now r.2 c.read-bytes.ensures.value in
    let entries = c.entries.ensures ∙ ap (λ (l : Layout). l.entries) c.of_type-layout.ensures in
    let levels = o.levels in let deep = r.3 in
    (omega (arith, c.decreases), (within.0, (within.1, (entries_at c.read-bytes.result.now (layout_of c.args.types.now c.args.msg.type_no).entries c.entries.result.now entries (entries_lie c.args.types.now c.schema-schema.ensures.lawful c.args.msg.type_no o.known c.read-bytes.result.now o.size), (o.held, o.rest, fields_at c.args.types.now (g.M.Memory.places c.args.mem.now) (g.M.Memory.buffers c.args.mem.now) c.read-bytes.result.now (layout_of c.args.types.now c.args.msg.type_no).entries c.entries.result.now o.held o.rest entries o.fields, omega (arith, levels, deep))))))

pub message_extent-returns : goal.message_extent-returns
message_extent-returns g t c = λ u feet stand.
    let o = opened c.args.types.now (g.M.Memory.places c.args.mem.now) (g.M.Memory.buffers c.args.mem.now) c.args.msg.type_no c.args.msg.place u feet c.read-bytes.result.now stand c.read-bytes.ensures.value in
    let entries = c.entries.ensures ∙ ap (λ (l : Layout). l.entries) c.of_type-layout.ensures in
    let unknown = c.unknown.ensures ∙ ap (λ (l : Layout). l.unknown) c.of_type-layout.ensures in
    message_sizes u o.held o.pieces c.of_message.result o.is
    (c.of_message.ensures (fields_units pieces_bytes o.held) (fields_levels o.held) (pieces_bytes o.pieces)
    (c.fields_extent.ensures o.held o.rest (fields_at c.args.types.now (g.M.Memory.places c.args.mem.now) (g.M.Memory.buffers c.args.mem.now) c.read-bytes.result.now (layout_of c.args.types.now c.args.msg.type_no).entries c.entries.result.now o.held o.rest entries o.fields))
    (c.unknown_bytes-unknown.ensures o.pieces o.own (pieces_at (g.M.Memory.places c.args.mem.now) (g.M.Memory.buffers c.args.mem.now) o.pieces o.own c.read-bytes.result.now (layout_of c.args.types.now c.args.msg.type_no).unknown c.unknown.result unknown o.unknown)))

-- A FIELD OF ONE VALUE

pub single_extent-returns-then-not-is_held : goal.single_extent-returns-then-not-is_held
single_extent-returns-then-not-is_held g t c = λ held own stand.
    let none = unset_nothing c.args.types.now c.schema-schema.ensures.lawful (g.M.Memory.places c.args.mem.now) (g.M.Memory.buffers c.args.mem.now) c.args.entry.now.field (told_in c.args.entry.now c.args.bytes.now) (slot_in c.args.entry.now c.args.bytes.now) own c.requires.single c.requires.within.untold held stand (sym c.is_held.ensures ∙ c.if-not-is_held.true) in
    extent_is 0 (held_units pieces_bytes held) 0 (held_levels held) c.none.result (sym (ap (held_units pieces_bytes) none)) (sym (ap held_levels none)) c.none.ensures

pub single_extent-value_extent-requires : goal.single_extent-value_extent-requires
unfolding slot_in
single_extent-value_extent-requires g t c κs within =
    let stand = c.requires.stand in
    let field = c.args.entry.now.field in
    let is = set_value c.args.types.now c.schema-schema.ensures.lawful (g.M.Memory.places c.args.mem.now) (g.M.Memory.buffers c.args.mem.now) field (told_in c.args.entry.now c.args.bytes.now) (slot_in c.args.entry.now c.args.bytes.now) stand.1 c.requires.single stand.0 stand.2 (sym c.is_held.ensures ∙ c.if-not-is_held.false) in
    let size = single_slot field c.requires.single in
    let slot = c.requires.within.slot in let small = c.requires.within.small in let levels = stand.3 in
    (omega (arith, c.decreases), (within.0, (within.1, (omega (arith, slot, size), (omega (arith, slot, small), (is.value, is.own, subst (λ n. ValueStands c.args.types.now (g.M.Memory.places c.args.mem.now) (g.M.Memory.buffers c.args.mem.now) (value_type_of field.kind) (part c.args.entry.now.slot n c.args.bytes.now) is.value is.own) size is.stands, omega (arith, levels, ap held_levels is.is)))))))

pub single_extent-returns : goal.single_extent-returns
unfolding slot_in
single_extent-returns g t c = λ held own stand.
    let field = c.args.entry.now.field in
    let is = set_value c.args.types.now c.schema-schema.ensures.lawful (g.M.Memory.places c.args.mem.now) (g.M.Memory.buffers c.args.mem.now) field (told_in c.args.entry.now c.args.bytes.now) (slot_in c.args.entry.now c.args.bytes.now) own c.requires.single held stand (sym c.is_held.ensures ∙ c.if-not-is_held.false) in
    let size = single_slot field c.requires.single in
    extent_is (value_units pieces_bytes is.value) (held_units pieces_bytes held) (value_levels is.value) (held_levels held) c.value_extent.result (sym (ap (held_units pieces_bytes) is.is)) (sym (ap held_levels is.is))
    (c.value_extent.ensures is.value is.own (subst (λ n. ValueStands c.args.types.now (g.M.Memory.places c.args.mem.now) (g.M.Memory.buffers c.args.mem.now) (value_type_of field.kind) (part c.args.entry.now.slot n c.args.bytes.now) is.value is.own) size is.stands))

-- A VALUE

pub value_extent-overflow_sub-left : goal.value_extent-overflow_sub-left
value_extent-overflow_sub-left g t c =
    let stand = c.requires.stand in
    let m = message_value c.args.types.now (g.M.Memory.places c.args.mem.now) (g.M.Memory.buffers c.args.mem.now) c.args.field (part c.args.at (slot_of (value_type_of c.args.field.kind)) c.args.bytes.now) stand.0 stand.1 c.in-Message.type_no c.in-Message.is stand.2 in
    let levels = stand.3 in omega (arith, levels, ap value_levels m.is)

pub value_extent-message_extent-requires : goal.value_extent-message_extent-requires
value_extent-message_extent-requires g t c κs within =
    let stand = c.requires.stand in
    let m = message_value c.args.types.now (g.M.Memory.places c.args.mem.now) (g.M.Memory.buffers c.args.mem.now) c.args.field (part c.args.at (slot_of (value_type_of c.args.field.kind)) c.args.bytes.now) stand.0 stand.1 c.in-Message.type_no c.in-Message.is stand.2 in
    let levels = stand.3 in let deep = ap value_levels m.is in
    (omega (arith, c.decreases, levels, deep), (within.0, (within.1, (m.tree, stand.1, subst (λ p. MessageStands c.args.types.now (g.M.Memory.places c.args.mem.now) (g.M.Memory.buffers c.args.mem.now) c.in-Message.type_no p m.tree stand.1) (message_place c.args.field c.in-Message.type_no c.in-Message.is c.args.at c.args.bytes.now ∙ sym c.link_at.ensures) m.stands, omega (arith, levels, deep)))))

pub value_extent-returns-in-Message : goal.value_extent-returns-in-Message
value_extent-returns-in-Message g t c = λ value own stand.
    let m = message_value c.args.types.now (g.M.Memory.places c.args.mem.now) (g.M.Memory.buffers c.args.mem.now) c.args.field (part c.args.at (slot_of (value_type_of c.args.field.kind)) c.args.bytes.now) value own c.in-Message.type_no c.in-Message.is stand in
    extent_is _ (value_units pieces_bytes value) _ (value_levels value) c.nested.result (sym (ap (value_units pieces_bytes) m.is)) (sym (ap value_levels m.is))
    (c.nested.ensures _ _ (c.message_extent.ensures m.tree own (subst (λ p. MessageStands c.args.types.now (g.M.Memory.places c.args.mem.now) (g.M.Memory.buffers c.args.mem.now) c.in-Message.type_no p m.tree own) (message_place c.args.field c.in-Message.type_no c.in-Message.is c.args.at c.args.bytes.now ∙ sym c.link_at.ensures) m.stands)))

pub value_extent-returns-in-Text : goal.value_extent-returns-in-Text
value_extent-returns-in-Text g t c = λ value own stand.
    let type = bytes_type c.args.field.kind c.in-Text.is in
    let v = list_laws.bytes_value c.args.types.now (g.M.Memory.places c.args.mem.now) (g.M.Memory.buffers c.args.mem.now) (value_type_of c.args.field.kind) (part c.args.at (slot_of (value_type_of c.args.field.kind)) c.args.bytes.now) value own type stand in
    let holds = string_slot (g.M.Memory.places c.args.mem.now) (g.M.Memory.buffers c.args.mem.now) (value_type_of c.args.field.kind) c.args.at c.args.bytes.now c.slot_at.result.now v.0 own type c.slot_at.ensures v.2 in
    let counted = c.from.ensures ∙ (c.word.ensures ∙ bytes_counted (g.M.Memory.places c.args.mem.now) (g.M.Memory.buffers c.args.mem.now) c.slot_at.result.now v.0 own holds) in
    extent_is (1 + c.from.result) (value_units pieces_bytes value) 0 (value_levels value) c.flat.result (ap (λ n. 1 + n) counted ∙ sym (ap (value_units pieces_bytes) v.1)) (sym (ap value_levels v.1)) c.flat.ensures

pub value_extent-returns-in_default : goal.value_extent-returns-in_default
value_extent-returns-in_default g t c = λ value own stand.
    let type = number_type c.args.field.kind c.in_default.not-Text c.in_default.not-Message c.in_default.not-Bytes in
    let sizes = number_units c.args.types.now (g.M.Memory.places c.args.mem.now) (g.M.Memory.buffers c.args.mem.now) (value_type_of c.args.field.kind) type (part c.args.at (slot_of (value_type_of c.args.field.kind)) c.args.bytes.now) value own stand in
    extent_is 1 (value_units pieces_bytes value) 0 (value_levels value) c.flat-in_default.result sizes.0 sizes.1 c.flat-in_default.ensures
