use Rattle.std.proofs.Common.{◌≡◌, ◌-◌, ◌*◌, ◌<◌, ◌++◌, suc, [], length, drop, get_or, sym, ap, ◌∙◌, subst, append_assoc, arith}
use Rattle.std.specs.Prelude.{OnOk}
use Rattle.pb_schema.specs.Fitted.{IsPatternOf}
use Rattle.pb_schema.specs.Varint.{varint_of}
use Rattle.std.specs.List.{concat}
use Rattle.std.proofs.lemmas.Option.{slice_get-get_or}
use Rattle.pb_schema.specs.Depth.{value_levels, held_levels}
use Rattle.pb_schema.specs.Fits.{fields_of}
use Rattle.pb_schema.specs.Kinds.{value_type_of, slot_of}
use Rattle.pb_schema.specs.Text.{field_tag, framed, packed_text, spelled_text, value_text, held_text, values_text, fields_text, message_text}
use Rattle.pb_schema.specs.Tree.{value_map, held_map, values_map, fields_map, tree_map, values_in_list}
use Rattle.msg_layout.proofs.FindLaws.{past_end_entry}
use Rattle.msg_layout.specs.Layout.{Layout, layout_of}
use Rattle.msg_layout.specs.Slots.{array_slot}
use Rattle.dyn_message.specs.Slots.{part, slot_in, told_in}
use Rattle.dyn_message.specs.Stands.{ValueStands, MessageStands}
use Rattle.dyn_message.proofs.Appending.{count_is}
use Rattle.dyn_message.proofs.Messages.{sound_of}
use Rattle.dyn_message.proofs.Opening.{single_slot}
use Rattle.pb_write.specs.Puts.{Gains, front_of, fields_in}
use Rattle.pb_write.proofs.Gaining.{gains_nothing, gains_same, gains_two, then_gains, on_ok_same, gains_framed, gains_packed, gains_packed_none}
use Rattle.pb_write.proofs.Lists.{array_live, count_same, elements_there, element_fits, list_is, many_text, many_is, no_values_text, value_of, index_small}
use Rattle.pb_write.proofs.Parts.{fields_drop, values_drop, field_at_index, fields_end, value_levels_at, value_text_at, values_end}
use Rattle.pb_write.proofs.Records.{opened, entries_lie, type_known, record_live, pieces_at, entries_at, fields_at}
use Rattle.pb_write.proofs.Singles.{set_value, single_of}
use Rattle.pb_write.proofs.Unset.{unset_text, held_of}
use Rattle.pb_write.proofs.Values.{message_value, message_place, string_value, string_slot, bytes_type, number_value, number_type}
use Rattle.pb_write.proofs.backwards.+backwards.Goals as goal

-- VALUES OF A LIST

pub put_values-values-init : goal.put_values-values-init
put_values-values-init g t c = record {
  within = omega arith;
  gained = λ values feet stand counted.
      gains_same (g.T.Target.holds c.args.target.now) (g.T.Target.holds c.args.target.now) [] (values_text c.args.types.now c.args.field (front_of c.args.packed c.args.field) (values_map concat (values_drop c.args.count values)))
      (ap (λ vs. values_text c.args.types.now c.args.field (front_of c.args.packed c.args.field) (values_map concat vs)) (sym (ap (λ n. values_drop n values) (sym counted) ∙ values_end values))) (gains_nothing (g.T.Target.holds c.args.target.now));
}

pub put_values-overflow_mul-i : goal.put_values-overflow_mul-i
put_values-overflow_mul-i g t c =
    let less = c.values.invariant.within in let some = c.values-test.true in
    let small = index_small (c.values.i - 1) c.args.count c.single_bytes-size.result c.args.field.kind (omega (arith, less, some)) c.requires.few c.single_bytes-size.ensures in
    omega (arith, small)

pub put_values-put_value-requires : goal.put_values-put_value-requires
put_values-put_value-requires g t c κs within =
    let stand = c.requires.stand in
    let less = c.values.invariant.within in let some = c.values-test.true in
    let size = c.single_bytes-size.ensures in
    let at = value_of c.args.types.now (g.M.Memory.places c.args.mem.now) (g.M.Memory.buffers c.args.mem.now) (value_type_of c.args.field.kind) c.args.elements.now stand.0 stand.1 c.values.i c.args.count c.single_bytes-size.result stand.2 stand.3 some less size in
    let fits = element_fits (c.values.i - 1) c.args.count (slot_of (value_type_of c.args.field.kind)) (length c.args.elements.now) (omega (arith, less, some)) c.requires.within in
    let small = index_small (c.values.i - 1) c.args.count c.single_bytes-size.result c.args.field.kind (omega (arith, less, some)) c.requires.few size in
    let deep = value_levels_at stand.0 (c.values.i - 1) at.0 at.2 in
    let levels = stand.4 in
    (omega (arith, c.decreases), (within.0, (within.1.0, (within.1.1.0, (within.1.1.1, (omega (arith, fits, ap (λ n. (c.values.i - 1) * n) size), (small, (at.0, at.1, at.3, omega (arith, deep, levels)))))))))

pub put_values-values-preserved : goal.put_values-values-preserved
put_values-values-preserved g t c = record {
  within = omega (arith, c.values.invariant.within);
  gained = λ values feet stand counted.
      let some = c.values-test.true in
      let at = value_of c.args.types.now (g.M.Memory.places c.args.mem.now) (g.M.Memory.buffers c.args.mem.now) (value_type_of c.args.field.kind) c.args.elements.now values feet c.values.i c.args.count c.single_bytes-size.result stand counted some c.values.invariant.within c.single_bytes-size.ensures in
      let front = front_of c.args.packed c.args.field in
      let own = value_text c.args.types.now c.args.field (value_map concat at.0) in
      let next : suc (c.values.i - 1) ≡ c.values.i = omega (arith, some) in
      let A = g.T.Target.holds c.args.target.now in let B = g.T.Target.holds c.values.target in let C = g.T.Target.holds c.put_value.new.target in let D = g.T.Target.holds c.put_front.new.target in
      let rest = values_text c.args.types.now c.args.field front (values_map concat (values_drop c.values.i values)) in
      gains_same A D (front ++ (own ++ rest)) (values_text c.args.types.now c.args.field front (values_map concat (values_drop (c.values.i - 1) values)))
      (sym (value_text_at c.args.types.now c.args.field front values (c.values.i - 1) at.0 at.2 ∙ ap (λ n. (front ++ own) ++ values_text c.args.types.now c.args.field front (values_map concat (values_drop n values))) next ∙ append_assoc front own rest))
      (gains_two A C D (own ++ rest) front (gains_two A B C rest own (c.values.invariant.gained values feet stand counted) (c.in_ok-put_value.ensures at.0 at.1 at.3)) c.in_ok-put_front.ensures);
}

pub put_values-returns : goal.put_values-returns
put_values-returns g t c = λ values feet stand counted.
    let none : c.values.i ≡ 0 = omega (arith, c.values-test.false) in
    gains_same (g.T.Target.holds c.args.target.now) (g.T.Target.holds c.values.target) (values_text c.args.types.now c.args.field (front_of c.args.packed c.args.field) (values_map concat (values_drop c.values.i values))) (values_text c.args.types.now c.args.field (front_of c.args.packed c.args.field) (values_map concat values))
    (ap (λ n. values_text c.args.types.now c.args.field (front_of c.args.packed c.args.field) (values_map concat (values_drop n values))) none) (c.values.invariant.gained values feet stand counted)

pub put_elements-put_numbers-requires : goal.put_elements-put_numbers-requires
put_elements-put_numbers-requires g t c =
    let stand = c.requires.stand in
    record {
      within = c.requires.within;
      few = c.requires.few;
      number = c.requires.number;
      kind = number_type c.args.field.kind c.in_default.not-Text c.in_default.not-Message c.in_default.not-Bytes;
      stand = (c.args.types.now, g.M.Memory.places c.args.mem.now, g.M.Memory.buffers c.args.mem.now, stand.0, stand.1, stand.2, stand.3);
    }

-- A FIELD

pub put_some-put_list-requires : goal.put_some-put_list-requires
put_some-put_list-requires g t c κs within = (omega (arith, c.decreases), (within.0, (within.1.0, (within.1.1.0, (within.1.1.1, (c.in-Repeated.is, (c.requires.within, c.requires.stand)))))))

pub put_some-put_single-requires : goal.put_some-put_single-requires
put_some-put_single-requires g t c κs within =
    let single = single_of c.args.entry.now.field.card c.in_default.not-Repeated in
    (omega (arith, c.decreases), (within.0, (within.1.0, (within.1.1.0, (within.1.1.1, (single, (held_of c.args.entry.now c.args.bytes.now single c.requires.some, (c.requires.within, c.requires.stand))))))))

-- FIELDS

pub put_fields-fields-init : goal.put_fields-fields-init
put_fields-fields-init g t c = record {
  within = omega arith;
  gained = λ held feet stand.
      gains_same (g.T.Target.holds c.args.target.now) (g.T.Target.holds c.args.target.now) [] (fields_text c.args.types.now (drop (length c.args.entries.now) (fields_in c.args.entries.now)) (fields_map concat (fields_drop (length c.args.entries.now) held)))
      (sym (fields_end c.args.types.now (g.M.Memory.places c.args.mem.now) (g.M.Memory.buffers c.args.mem.now) c.args.bytes.now c.args.entries.now held feet stand)) (gains_nothing (g.T.Target.holds c.args.target.now));
}

pub put_fields-offset_bounds-entries-i : goal.put_fields-offset_bounds-entries-i
put_fields-offset_bounds-entries-i g t c = let less = c.fields.invariant.within in omega (arith, less)

pub put_fields-bounds-entries-i : goal.put_fields-bounds-entries-i
put_fields-bounds-entries-i g t c = let less = c.fields.invariant.within in let some = c.fields-test.true in omega (arith, less, some)

pub put_fields-put_some-requires : goal.put_fields-put_some-requires
put_fields-put_some-requires g t c κs within =
    let stand = c.requires.stand in
    let less = c.fields.invariant.within in let some = c.fields-test.true in
    let below : c.fields.i - 1 < length c.args.entries.now = omega (arith, less, some) in
    let at = field_at_index c.args.types.now (g.M.Memory.places c.args.mem.now) (g.M.Memory.buffers c.args.mem.now) c.args.bytes.now c.args.entries.now stand.0 stand.1 (c.fields.i - 1) (get_or c.args.entries.now (c.fields.i - 1) past_end_entry) stand.2 (slice_get-get_or c.args.entries.now (c.fields.i - 1) past_end_entry below) in
    let deep = at.levels in let levels = stand.3 in
    (omega (arith, c.decreases), (within.0, (within.1.0, (within.1.1.0, (within.1.1.1, (sym c.holds_some.ensures ∙ c.if-holds_some.true, (c.requires.within (c.fields.i - 1) past_end_entry below, (at.one, at.own, at.stands, omega (arith, deep, levels)))))))))

pub put_fields-fields-preserved-in-Continue-1 : goal.put_fields-fields-preserved-in-Continue-1
put_fields-fields-preserved-in-Continue-1 g t c = record {
  within = omega (arith, c.fields.invariant.within);
  gained = λ held feet stand.
      let less = c.fields.invariant.within in let some = c.fields-test.true in
      let below : c.fields.i - 1 < length c.args.entries.now = omega (arith, less, some) in
      let entry = get_or c.args.entries.now (c.fields.i - 1) past_end_entry in
      let at = field_at_index c.args.types.now (g.M.Memory.places c.args.mem.now) (g.M.Memory.buffers c.args.mem.now) c.args.bytes.now c.args.entries.now held feet (c.fields.i - 1) entry stand (slice_get-get_or c.args.entries.now (c.fields.i - 1) past_end_entry below) in
      let next : suc (c.fields.i - 1) ≡ c.fields.i = omega (arith, some) in
      let A = g.T.Target.holds c.args.target.now in let B = g.T.Target.holds c.fields.target in let C = g.T.Target.holds c.put_some.new.target in
      let own = held_text c.args.types.now entry.field (held_map concat at.one) in
      let rest = fields_text c.args.types.now (drop c.fields.i (fields_in c.args.entries.now)) (fields_map concat (fields_drop c.fields.i held)) in
      gains_same A C (own ++ rest) (fields_text c.args.types.now (drop (c.fields.i - 1) (fields_in c.args.entries.now)) (fields_map concat (fields_drop (c.fields.i - 1) held)))
      (sym (at.text ∙ ap (λ n. own ++ fields_text c.args.types.now (drop n (fields_in c.args.entries.now)) (fields_map concat (fields_drop n held))) next))
      (gains_two A B C rest own (c.fields.invariant.gained held feet stand) (c.in_ok-put_some.ensures at.one at.own at.stands));
}

pub put_fields-fields-preserved : goal.put_fields-fields-preserved
put_fields-fields-preserved g t c = record {
  within = omega (arith, c.fields.invariant.within);
  gained = λ held feet stand.
      let less = c.fields.invariant.within in let some = c.fields-test.true in
      let below : c.fields.i - 1 < length c.args.entries.now = omega (arith, less, some) in
      let entry = get_or c.args.entries.now (c.fields.i - 1) past_end_entry in
      let at = field_at_index c.args.types.now (g.M.Memory.places c.args.mem.now) (g.M.Memory.buffers c.args.mem.now) c.args.bytes.now c.args.entries.now held feet (c.fields.i - 1) entry stand (slice_get-get_or c.args.entries.now (c.fields.i - 1) past_end_entry below) in
      let next : suc (c.fields.i - 1) ≡ c.fields.i = omega (arith, some) in
      let A = g.T.Target.holds c.args.target.now in let B = g.T.Target.holds c.fields.target in
      let none = unset_text c.args.types.now c.schema-schema.ensures.lawful (g.M.Memory.places c.args.mem.now) (g.M.Memory.buffers c.args.mem.now) entry c.args.bytes.now (c.requires.within (c.fields.i - 1) past_end_entry below) at.one at.own at.stands (sym c.holds_some.ensures ∙ c.if-holds_some.false) in
      let rest = fields_text c.args.types.now (drop c.fields.i (fields_in c.args.entries.now)) (fields_map concat (fields_drop c.fields.i held)) in
      gains_same A B rest (fields_text c.args.types.now (drop (c.fields.i - 1) (fields_in c.args.entries.now)) (fields_map concat (fields_drop (c.fields.i - 1) held)))
      (sym (at.text ∙ ap (λ n. held_text c.args.types.now entry.field (held_map concat at.one) ++ fields_text c.args.types.now (drop n (fields_in c.args.entries.now)) (fields_map concat (fields_drop n held))) next ∙ ap (λ own. own ++ rest) none))
      (c.fields.invariant.gained held feet stand);
}

pub put_fields-returns : goal.put_fields-returns
put_fields-returns g t c = λ held feet stand.
    let none : c.fields.i ≡ 0 = omega (arith, c.fields-test.false) in
    gains_same (g.T.Target.holds c.args.target.now) (g.T.Target.holds c.fields.target) (fields_text c.args.types.now (drop c.fields.i (fields_in c.args.entries.now)) (fields_map concat (fields_drop c.fields.i held))) (fields_text c.args.types.now (fields_in c.args.entries.now) (fields_map concat held))
    (ap (λ n. fields_text c.args.types.now (drop n (fields_in c.args.entries.now)) (fields_map concat (fields_drop n held))) none) (c.fields.invariant.gained held feet stand)

-- A LIST

pub put_list-returns-then-count-eq0 : goal.put_list-returns-then-count-eq0
put_list-returns-then-count-eq0 g t c = λ held own stand.
    let list = list_is c.args.types.now (g.M.Memory.places c.args.mem.now) (g.M.Memory.buffers c.args.mem.now) c.args.entry.now c.args.bytes.now c.args.packed c.requires.list held own stand in
    let none = sym (count_is (g.M.Memory.places c.args.mem.now) (slot_of (value_type_of c.args.entry.now.field.kind)) (length (values_in_list list.values)) (part c.args.entry.now.slot array_slot c.args.bytes.now) own list.holds) ∙ sym c.list_at-count.ensures.count ∙ c.if-count-eq0.true in
    gains_same (g.T.Target.holds c.args.target.now) (g.T.Target.holds c.args.target.now) [] (held_text c.args.types.now c.args.entry.now.field (held_map concat held))
    (no_values_text c.args.types.now c.args.entry.now.field c.args.packed list.values none ∙ sym (ap (λ h. held_text c.args.types.now c.args.entry.now.field (held_map concat h)) list.is ∙ many_is c.args.types.now c.args.entry.now.field (values_map concat list.values) c.args.packed c.requires.list))
    (gains_nothing (g.T.Target.holds c.args.target.now))

pub put_list-read-elements-requires : goal.put_list-read-elements-requires
put_list-read-elements-requires g t c =
    let stand = c.requires.stand in
    let list = list_is c.args.types.now (g.M.Memory.places c.args.mem.now) (g.M.Memory.buffers c.args.mem.now) c.args.entry.now c.args.bytes.now c.args.packed c.requires.list stand.0 stand.1 stand.2 in
    array_live (g.M.Memory.places c.args.mem.now) (slot_of (value_type_of c.args.entry.now.field.kind)) (length (values_in_list list.values)) (part c.args.entry.now.slot array_slot c.args.bytes.now) stand.1 list.holds c.list_at-count.result.0 c.list_at-count.result.1 c.list_at-count.ensures.place c.list_at-count.ensures.count c.if-count-eq0.false

pub put_list-put_elements-requires : goal.put_list-put_elements-requires
put_list-put_elements-requires g t c κs within =
    let stand = c.requires.stand in
    let list = list_is c.args.types.now (g.M.Memory.places c.args.mem.now) (g.M.Memory.buffers c.args.mem.now) c.args.entry.now c.args.bytes.now c.args.packed c.requires.list stand.0 stand.1 stand.2 in
    let there = elements_there (g.M.Memory.places c.args.mem.now) (slot_of (value_type_of c.args.entry.now.field.kind)) (length (values_in_list list.values)) (part c.args.entry.now.slot array_slot c.args.bytes.now) stand.1 list.holds c.list_at-count.result.0 c.list_at-count.result.1 c.list_at-count.ensures.place c.list_at-count.ensures.count c.if-count-eq0.false c.read-elements.result.now c.read-elements.ensures.value in
    let counted = count_same (g.M.Memory.places c.args.mem.now) (slot_of (value_type_of c.args.entry.now.field.kind)) (length (values_in_list list.values)) (part c.args.entry.now.slot array_slot c.args.bytes.now) stand.1 list.holds c.list_at-count.result.0 c.list_at-count.result.1 c.list_at-count.ensures.place c.list_at-count.ensures.count c.if-count-eq0.false in
    let levels = stand.3 in
    (omega (arith, c.decreases), (within.0, (within.1.0, (within.1.1.0, (within.1.1.1, (there.fit, (there.most, (c.requires.within.number, (list.values, there.behind, there.stand, sym counted, omega (arith, levels, ap held_levels list.is))))))))))

pub put_list-put_elements-requires-2 : goal.put_list-put_elements-requires-2
put_list-put_elements-requires-2 g t c κs within =
    let stand = c.requires.stand in
    let list = list_is c.args.types.now (g.M.Memory.places c.args.mem.now) (g.M.Memory.buffers c.args.mem.now) c.args.entry.now c.args.bytes.now c.args.packed c.requires.list stand.0 stand.1 stand.2 in
    let there = elements_there (g.M.Memory.places c.args.mem.now) (slot_of (value_type_of c.args.entry.now.field.kind)) (length (values_in_list list.values)) (part c.args.entry.now.slot array_slot c.args.bytes.now) stand.1 list.holds c.list_at-count.result.0 c.list_at-count.result.1 c.list_at-count.ensures.place c.list_at-count.ensures.count c.if-count-eq0.false c.read-elements.result.now c.read-elements.ensures.value in
    let counted = count_same (g.M.Memory.places c.args.mem.now) (slot_of (value_type_of c.args.entry.now.field.kind)) (length (values_in_list list.values)) (part c.args.entry.now.slot array_slot c.args.bytes.now) stand.1 list.holds c.list_at-count.result.0 c.list_at-count.result.1 c.list_at-count.ensures.place c.list_at-count.ensures.count c.if-count-eq0.false in
    let levels = stand.3 in
    (omega (arith, c.decreases), (within.0, (within.1.0, (within.1.1.0, (within.1.1.1, (there.fit, (there.most, (c.requires.within.number, (list.values, there.behind, there.stand, sym counted, omega (arith, levels, ap held_levels list.is))))))))))

pub put_list-returns-then-not-packed : goal.put_list-returns-then-not-packed
put_list-returns-then-not-packed g t c = λ held own stand.
    let list = list_is c.args.types.now (g.M.Memory.places c.args.mem.now) (g.M.Memory.buffers c.args.mem.now) c.args.entry.now c.args.bytes.now c.args.packed c.requires.list held own stand in
    let there = elements_there (g.M.Memory.places c.args.mem.now) (slot_of (value_type_of c.args.entry.now.field.kind)) (length (values_in_list list.values)) (part c.args.entry.now.slot array_slot c.args.bytes.now) own list.holds c.list_at-count.result.0 c.list_at-count.result.1 c.list_at-count.ensures.place c.list_at-count.ensures.count c.if-count-eq0.false c.read-elements.result.now c.read-elements.ensures.value in
    let counted = count_same (g.M.Memory.places c.args.mem.now) (slot_of (value_type_of c.args.entry.now.field.kind)) (length (values_in_list list.values)) (part c.args.entry.now.slot array_slot c.args.bytes.now) own list.holds c.list_at-count.result.0 c.list_at-count.result.1 c.list_at-count.ensures.place c.list_at-count.ensures.count c.if-count-eq0.false in
    let text = ap (λ h. held_text c.args.types.now c.args.entry.now.field (held_map concat h)) list.is ∙ many_is c.args.types.now c.args.entry.now.field (values_map concat list.values) c.args.packed c.requires.list ∙ ap (many_text c.args.types.now c.args.entry.now.field (values_map concat list.values)) c.if-not-packed.true in
    on_ok_same c.put_elements.result (g.T.Target.holds c.args.target.now) (g.T.Target.holds c.put_elements.new.target) (values_text c.args.types.now c.args.entry.now.field (field_tag c.args.entry.now.field) (values_map concat list.values)) (held_text c.args.types.now c.args.entry.now.field (held_map concat held)) (sym text)
    (c.put_elements.ensures list.values there.behind there.stand (sym counted))

pub put_list-returns-then-len-eq0 : goal.put_list-returns-then-len-eq0
put_list-returns-then-len-eq0 g t c = λ held own stand.
    let list = list_is c.args.types.now (g.M.Memory.places c.args.mem.now) (g.M.Memory.buffers c.args.mem.now) c.args.entry.now c.args.bytes.now c.args.packed c.requires.list held own stand in
    let there = elements_there (g.M.Memory.places c.args.mem.now) (slot_of (value_type_of c.args.entry.now.field.kind)) (length (values_in_list list.values)) (part c.args.entry.now.slot array_slot c.args.bytes.now) own list.holds c.list_at-count.result.0 c.list_at-count.result.1 c.list_at-count.ensures.place c.list_at-count.ensures.count c.if-count-eq0.false c.read-elements.result.now c.read-elements.ensures.value in
    let counted = count_same (g.M.Memory.places c.args.mem.now) (slot_of (value_type_of c.args.entry.now.field.kind)) (length (values_in_list list.values)) (part c.args.entry.now.slot array_slot c.args.bytes.now) own list.holds c.list_at-count.result.0 c.list_at-count.result.1 c.list_at-count.ensures.place c.list_at-count.ensures.count c.if-count-eq0.false in
    let text = ap (λ h. held_text c.args.types.now c.args.entry.now.field (held_map concat h)) list.is ∙ many_is c.args.types.now c.args.entry.now.field (values_map concat list.values) c.args.packed c.requires.list ∙ ap (many_text c.args.types.now c.args.entry.now.field (values_map concat list.values)) c.if-not-packed.false in
    let inner = values_text c.args.types.now c.args.entry.now.field [] (values_map concat list.values) in
    gains_same (g.T.Target.holds c.args.target.now) (g.T.Target.holds c.put_elements-2.new.target) (packed_text c.args.entry.now.field.number inner) (held_text c.args.types.now c.args.entry.now.field (held_map concat held)) (sym text)
    (gains_packed_none (g.T.Target.holds c.args.target.now) (g.T.Target.holds c.put_elements-2.new.target) c.args.entry.now.field.number inner c.len-before.result c.len.result c.len-before.ensures c.len.ensures
    (c.in_ok-put_elements.ensures list.values there.behind there.stand (sym counted)) (sym c.saturating_sub-len.ensures ∙ c.if-len-eq0.true))

pub put_list-returns : goal.put_list-returns
put_list-returns g t c = λ held own stand.
    let list = list_is c.args.types.now (g.M.Memory.places c.args.mem.now) (g.M.Memory.buffers c.args.mem.now) c.args.entry.now c.args.bytes.now c.args.packed c.requires.list held own stand in
    let there = elements_there (g.M.Memory.places c.args.mem.now) (slot_of (value_type_of c.args.entry.now.field.kind)) (length (values_in_list list.values)) (part c.args.entry.now.slot array_slot c.args.bytes.now) own list.holds c.list_at-count.result.0 c.list_at-count.result.1 c.list_at-count.ensures.place c.list_at-count.ensures.count c.if-count-eq0.false c.read-elements.result.now c.read-elements.ensures.value in
    let counted = count_same (g.M.Memory.places c.args.mem.now) (slot_of (value_type_of c.args.entry.now.field.kind)) (length (values_in_list list.values)) (part c.args.entry.now.slot array_slot c.args.bytes.now) own list.holds c.list_at-count.result.0 c.list_at-count.result.1 c.list_at-count.ensures.place c.list_at-count.ensures.count c.if-count-eq0.false in
    let text = ap (λ h. held_text c.args.types.now c.args.entry.now.field (held_map concat h)) list.is ∙ many_is c.args.types.now c.args.entry.now.field (values_map concat list.values) c.args.packed c.requires.list ∙ ap (many_text c.args.types.now c.args.entry.now.field (values_map concat list.values)) c.if-not-packed.false in
    let inner = values_text c.args.types.now c.args.entry.now.field [] (values_map concat list.values) in
    let A = g.T.Target.holds c.args.target.now in let B = g.T.Target.holds c.put_elements-2.new.target in let C = g.T.Target.holds c.put_varint.new.self in let D = g.T.Target.holds c.put_varint-2.new.self in
    on_ok_same c.put_varint-2.result A D (packed_text c.args.entry.now.field.number inner) (held_text c.args.types.now c.args.entry.now.field (held_map concat held)) (sym text)
    (gains_packed c.put_varint-2.result A B C D c.args.entry.now.field.number inner c.len-before.result c.len.result c.len-before.ensures c.len.ensures
    (c.in_ok-put_elements.ensures list.values there.behind there.stand (sym counted)) (λ none. c.if-len-eq0.false (c.saturating_sub-len.ensures ∙ none))
    (subst (λ n. Gains B C (varint_of n)) c.saturating_sub-len.ensures c.in_ok-put_varint.ensures) (subst (λ n. OnOk c.put_varint-2.result (Gains C D (varint_of n))) c.from.ensures c.put_varint-2.ensures))

-- A MESSAGE

pub put_message-of_type-layout-requires : goal.put_message-of_type-layout-requires
put_message-of_type-layout-requires g t c = let r = c.requires in type_known c.args.types.now (g.M.Memory.places c.args.mem.now) (g.M.Memory.buffers c.args.mem.now) c.args.msg.type_no c.args.msg.place r.0 r.1 r.2

pub put_message-read-bytes-requires : goal.put_message-read-bytes-requires
put_message-read-bytes-requires g t c = let r = c.requires in record_live c.args.types.now (g.M.Memory.places c.args.mem.now) (g.M.Memory.buffers c.args.mem.now) c.args.msg.type_no c.args.msg.place r.0 r.1 r.2

pub put_message-put_pieces-requires-clause-within : goal.put_message-put_pieces-requires-clause-within
put_message-put_pieces-requires-clause-within g t c =
    let r = c.requires in
    let o = opened c.args.types.now (g.M.Memory.places c.args.mem.now) (g.M.Memory.buffers c.args.mem.now) c.args.msg.type_no c.args.msg.place r.0 r.1 c.read-bytes.result.now r.2 c.read-bytes.ensures.value in
    let size = o.size in
    let unknown = c.unknown.ensures ∙ ap (λ (l : Layout). l.unknown) c.of_type-layout.ensures in
    let sound = (sound_of c.args.types.now c.schema-schema.ensures.lawful c.args.msg.type_no o.known).unknown in
    omega (arith, size, unknown, sound)

pub put_message-put_pieces-requires-clause-stand : goal.put_message-put_pieces-requires-clause-stand
put_message-put_pieces-requires-clause-stand g t c =
    let r = c.requires in
    let o = opened c.args.types.now (g.M.Memory.places c.args.mem.now) (g.M.Memory.buffers c.args.mem.now) c.args.msg.type_no c.args.msg.place r.0 r.1 c.read-bytes.result.now r.2 c.read-bytes.ensures.value in
    let unknown = c.unknown.ensures ∙ ap (λ (l : Layout). l.unknown) c.of_type-layout.ensures in
    (o.pieces, o.own, pieces_at (g.M.Memory.places c.args.mem.now) (g.M.Memory.buffers c.args.mem.now) o.pieces o.own c.read-bytes.result.now (layout_of c.args.types.now c.args.msg.type_no).unknown c.unknown.result unknown o.unknown)

pub put_message-put_fields-requires : goal.put_message-put_fields-requires
put_message-put_fields-requires g t c κs within =
    let r = c.requires in
    let o = opened c.args.types.now (g.M.Memory.places c.args.mem.now) (g.M.Memory.buffers c.args.mem.now) c.args.msg.type_no c.args.msg.place r.0 r.1 c.read-bytes.result.now r.2 c.read-bytes.ensures.value in
    let entries = c.entries.ensures ∙ ap (λ (l : Layout). l.entries) c.of_type-layout.ensures in
    let levels = o.levels in let deep = r.3 in
    (omega (arith, c.decreases), (within.0, (within.1.0, (within.1.1.0, (within.1.1.1, (entries_at c.read-bytes.result.now (layout_of c.args.types.now c.args.msg.type_no).entries c.entries.result.now entries (entries_lie c.args.types.now c.schema-schema.ensures.lawful c.args.msg.type_no o.known c.read-bytes.result.now o.size), (o.held, o.rest, fields_at c.args.types.now (g.M.Memory.places c.args.mem.now) (g.M.Memory.buffers c.args.mem.now) c.read-bytes.result.now (layout_of c.args.types.now c.args.msg.type_no).entries c.entries.result.now o.held o.rest entries o.fields, omega (arith, levels, deep))))))))

pub put_message-returns : goal.put_message-returns
put_message-returns g t c = λ u feet stand.
    let o = opened c.args.types.now (g.M.Memory.places c.args.mem.now) (g.M.Memory.buffers c.args.mem.now) c.args.msg.type_no c.args.msg.place u feet c.read-bytes.result.now stand c.read-bytes.ensures.value in
    let entries = c.entries.ensures ∙ ap (λ (l : Layout). l.entries) c.of_type-layout.ensures in
    let unknown = c.unknown.ensures ∙ ap (λ (l : Layout). l.unknown) c.of_type-layout.ensures in
    then_gains c.put_fields.result (g.T.Target.holds c.args.target.now) (g.T.Target.holds c.put_pieces.new.target) (g.T.Target.holds c.put_fields.new.target) (concat o.pieces) (fields_text c.args.types.now (fields_in c.entries.result.now) (fields_map concat o.held)) (message_text c.args.types.now (fields_of c.args.types.now c.args.msg.type_no) (tree_map concat u))
    (c.in_ok-put_pieces.ensures o.pieces o.own (pieces_at (g.M.Memory.places c.args.mem.now) (g.M.Memory.buffers c.args.mem.now) o.pieces o.own c.read-bytes.result.now (layout_of c.args.types.now c.args.msg.type_no).unknown c.unknown.result unknown o.unknown))
    (c.put_fields.ensures o.held o.rest (fields_at c.args.types.now (g.M.Memory.places c.args.mem.now) (g.M.Memory.buffers c.args.mem.now) c.read-bytes.result.now (layout_of c.args.types.now c.args.msg.type_no).entries c.entries.result.now o.held o.rest entries o.fields))
    (o.text ∙ ap (λ es. fields_text c.args.types.now (fields_in es) (fields_map concat o.held) ++ concat o.pieces) (sym entries))

pub put_nested-put_message-requires : goal.put_nested-put_message-requires
put_nested-put_message-requires g t c κs within = (omega (arith, c.decreases), (within.0, (within.1.0, (within.1.1.0, (within.1.1.1, c.requires)))))

pub put_nested-returns : goal.put_nested-returns
put_nested-returns g t c = λ u feet stand.
    gains_framed c.put_varint.result (g.T.Target.holds c.args.target.now) (g.T.Target.holds c.put_message.new.target) (g.T.Target.holds c.put_varint.new.self) (message_text c.args.types.now (fields_of c.args.types.now c.args.msg.type_no) (tree_map concat u)) c.len-before.result c.len.result c.len-before.ensures c.len.ensures
    (c.in_ok-put_message.ensures u feet stand)
    (subst (λ n. OnOk c.put_varint.result (Gains (g.T.Target.holds c.put_message.new.target) (g.T.Target.holds c.put_varint.new.self) (varint_of n))) c.saturating_sub.ensures c.put_varint.ensures)

-- A FIELD OF ONE VALUE

pub put_single-put_value-requires : goal.put_single-put_value-requires
unfolding slot_in
put_single-put_value-requires g t c κs within =
    let stand = c.requires.stand in
    let field = c.args.entry.now.field in
    let is = set_value c.args.types.now c.schema-schema.ensures.lawful (g.M.Memory.places c.args.mem.now) (g.M.Memory.buffers c.args.mem.now) field (told_in c.args.entry.now c.args.bytes.now) (slot_in c.args.entry.now c.args.bytes.now) stand.1 c.requires.single stand.0 stand.2 c.requires.held in
    let size = single_slot field c.requires.single in
    let slot = c.requires.within.slot in let small = c.requires.within.small in let levels = stand.3 in
    (omega (arith, c.decreases), (within.0, (within.1.0, (within.1.1.0, (within.1.1.1, (omega (arith, slot, size), (omega (arith, slot, small), (is.value, is.own, subst (λ n. ValueStands c.args.types.now (g.M.Memory.places c.args.mem.now) (g.M.Memory.buffers c.args.mem.now) (value_type_of field.kind) (part c.args.entry.now.slot n c.args.bytes.now) is.value is.own) size is.stands, omega (arith, levels, ap held_levels is.is)))))))))

pub put_single-returns : goal.put_single-returns
unfolding slot_in
put_single-returns g t c = λ held own stand.
    let field = c.args.entry.now.field in
    let is = set_value c.args.types.now c.schema-schema.ensures.lawful (g.M.Memory.places c.args.mem.now) (g.M.Memory.buffers c.args.mem.now) field (told_in c.args.entry.now c.args.bytes.now) (slot_in c.args.entry.now c.args.bytes.now) own c.requires.single held stand c.requires.held in
    let size = single_slot field c.requires.single in
    then_gains c.put_tag.result (g.T.Target.holds c.args.target.now) (g.T.Target.holds c.put_value.new.target) (g.T.Target.holds c.put_tag.new.target) (value_text c.args.types.now field (value_map concat is.value)) (field_tag field) (held_text c.args.types.now field (held_map concat held))
    (c.in_ok-put_value.ensures is.value is.own (subst (λ n. ValueStands c.args.types.now (g.M.Memory.places c.args.mem.now) (g.M.Memory.buffers c.args.mem.now) (value_type_of field.kind) (part c.args.entry.now.slot n c.args.bytes.now) is.value is.own) size is.stands)) c.put_tag.ensures
    (ap (λ h. held_text c.args.types.now field (held_map concat h)) is.is)

-- A VALUE

pub put_value-overflow_sub-left : goal.put_value-overflow_sub-left
put_value-overflow_sub-left g t c =
    let stand = c.requires.stand in
    let m = message_value c.args.types.now (g.M.Memory.places c.args.mem.now) (g.M.Memory.buffers c.args.mem.now) c.args.field (part c.args.at (slot_of (value_type_of c.args.field.kind)) c.args.bytes.now) stand.0 stand.1 c.in-Message.type_no c.in-Message.is stand.2 in
    let levels = stand.3 in omega (arith, levels, ap value_levels m.is)

pub put_value-put_nested-requires : goal.put_value-put_nested-requires
put_value-put_nested-requires g t c κs within =
    let stand = c.requires.stand in
    let m = message_value c.args.types.now (g.M.Memory.places c.args.mem.now) (g.M.Memory.buffers c.args.mem.now) c.args.field (part c.args.at (slot_of (value_type_of c.args.field.kind)) c.args.bytes.now) stand.0 stand.1 c.in-Message.type_no c.in-Message.is stand.2 in
    let levels = stand.3 in let deep = ap value_levels m.is in
    (omega (arith, c.decreases), (within.0, (within.1.0, (within.1.1.0, (within.1.1.1, (m.tree, stand.1, subst (λ p. MessageStands c.args.types.now (g.M.Memory.places c.args.mem.now) (g.M.Memory.buffers c.args.mem.now) c.in-Message.type_no p m.tree stand.1) (message_place c.args.field c.in-Message.type_no c.in-Message.is c.args.at c.args.bytes.now ∙ sym c.link_at.ensures) m.stands, omega (arith, levels, deep)))))))

pub put_value-bytes_in-requires-clause-holds : goal.put_value-bytes_in-requires-clause-holds
put_value-bytes_in-requires-clause-holds g t c =
    let stand = c.requires.stand in
    let type = bytes_type c.args.field.kind c.in-Text.is in
    let v = string_value c.args.types.now (g.M.Memory.places c.args.mem.now) (g.M.Memory.buffers c.args.mem.now) c.args.field (part c.args.at (slot_of (value_type_of c.args.field.kind)) c.args.bytes.now) stand.0 stand.1 type stand.2 in
    (v.bytes, stand.1, string_slot (g.M.Memory.places c.args.mem.now) (g.M.Memory.buffers c.args.mem.now) (value_type_of c.args.field.kind) c.args.at c.args.bytes.now c.slot_at.result.now v.bytes stand.1 type c.slot_at.ensures v.holds)

pub put_value-put_short-requires-clause-pattern : goal.put_value-put_short-requires-clause-pattern
put_value-put_short-requires-clause-pattern g t c =
    let stand = c.requires.stand in
    let type = number_type c.args.field.kind c.in_default.not-Text c.in_default.not-Message c.in_default.not-Bytes in
    let v = number_value c.args.types.now (g.M.Memory.places c.args.mem.now) (g.M.Memory.buffers c.args.mem.now) c.args.field (part c.args.at (slot_of (value_type_of c.args.field.kind)) c.args.bytes.now) stand.0 stand.1 type stand.2 in
    subst (IsPatternOf (value_type_of c.args.field.kind)) (sym c.number_at-bits.ensures) v.pattern

pub put_value-returns-in-Message : goal.put_value-returns-in-Message
put_value-returns-in-Message g t c = λ value own stand.
    let m = message_value c.args.types.now (g.M.Memory.places c.args.mem.now) (g.M.Memory.buffers c.args.mem.now) c.args.field (part c.args.at (slot_of (value_type_of c.args.field.kind)) c.args.bytes.now) value own c.in-Message.type_no c.in-Message.is stand in
    on_ok_same c.put_nested.result (g.T.Target.holds c.args.target.now) (g.T.Target.holds c.put_nested.new.target) (framed (message_text c.args.types.now (fields_of c.args.types.now c.in-Message.type_no) (tree_map concat m.tree))) (value_text c.args.types.now c.args.field (value_map concat value)) (sym m.text)
    (c.put_nested.ensures m.tree own (subst (λ p. MessageStands c.args.types.now (g.M.Memory.places c.args.mem.now) (g.M.Memory.buffers c.args.mem.now) c.in-Message.type_no p m.tree own) (message_place c.args.field c.in-Message.type_no c.in-Message.is c.args.at c.args.bytes.now ∙ sym c.link_at.ensures) m.stands))

pub put_value-returns-in-Text : goal.put_value-returns-in-Text
put_value-returns-in-Text g t c = λ value own stand.
    let type = bytes_type c.args.field.kind c.in-Text.is in
    let v = string_value c.args.types.now (g.M.Memory.places c.args.mem.now) (g.M.Memory.buffers c.args.mem.now) c.args.field (part c.args.at (slot_of (value_type_of c.args.field.kind)) c.args.bytes.now) value own type stand in
    let is = c.bytes_in.ensures v.bytes own (string_slot (g.M.Memory.places c.args.mem.now) (g.M.Memory.buffers c.args.mem.now) (value_type_of c.args.field.kind) c.args.at c.args.bytes.now c.slot_at.result.now v.bytes own type c.slot_at.ensures v.holds) in
    on_ok_same c.put_framed.result (g.T.Target.holds c.args.target.now) (g.T.Target.holds c.put_framed.new.target) (framed c.bytes_in.result.now) (value_text c.args.types.now c.args.field (value_map concat value)) (ap framed is ∙ sym v.text) c.put_framed.ensures

pub put_value-returns-in_default : goal.put_value-returns-in_default
put_value-returns-in_default g t c = λ value own stand.
    let type = number_type c.args.field.kind c.in_default.not-Text c.in_default.not-Message c.in_default.not-Bytes in
    let v = number_value c.args.types.now (g.M.Memory.places c.args.mem.now) (g.M.Memory.buffers c.args.mem.now) c.args.field (part c.args.at (slot_of (value_type_of c.args.field.kind)) c.args.bytes.now) value own type stand in
    on_ok_same c.put_short.result (g.T.Target.holds c.args.target.now) (g.T.Target.holds c.put_short.new.target) (spelled_text (value_type_of c.args.field.kind) c.number_at-bits.result) (value_text c.args.types.now c.args.field (value_map concat value)) (ap (spelled_text (value_type_of c.args.field.kind)) c.number_at-bits.ensures ∙ sym v.text) c.put_short.ensures
