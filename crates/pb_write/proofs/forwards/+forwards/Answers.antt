use Rattle.std.proofs.Common.{◌≡◌, ◌+◌, ◌*◌, ◌<◌, ◌^◌, ◌++◌, ℕ, suc, List, [], length, drop, get_or, refl, sym, ap, ◌∙◌, subst, append_assoc, length-append, Ok, arith}
use Rattle.arena_mem.specs.Outside.{TookPart, Gathers}
use Rattle.std.specs.List.{concat}
use Rattle.std.proofs.lemmas.Option.{slice_get-get_or}
use Rattle.std.proofs.lemmas.Result.{err_from_is_err_and}
use Rattle.pb_schema.specs.Depth.{value_levels, held_levels}
use Rattle.pb_schema.specs.Fits.{fields_of}
use Rattle.pb_schema.specs.Fitted.{IsPatternOf}
use Rattle.pb_schema.specs.Kinds.{value_type_of, slot_of}
use Rattle.pb_schema.specs.Tag.{tag_of}
use Rattle.pb_schema.specs.Varint.{varint_of}
use Rattle.pb_schema.specs.Text.{field_tag, framed, packed_text, spelled_text, value_text, held_text, values_text, fields_text, message_text}
use Rattle.pb_schema.specs.Tree.{value_map, held_map, values_map, fields_map, tree_map, values_in_list}
use Rattle.msg_layout.proofs.FindLaws.{past_end_entry}
use Rattle.msg_layout.specs.Layout.{Layout, layout_of}
use Rattle.msg_layout.specs.Slots.{array_slot}
use Rattle.dyn_message.specs.Slots.{part, slot_in, told_in}
use Rattle.dyn_message.specs.Stands.{ValueStands, MessageStands}
use Rattle.dyn_message.proofs.Appending.{count_is}
use Rattle.dyn_message.proofs.Messages.{sound_of}
use Rattle.dyn_message.proofs.Opening.{single_slot}
use Rattle.pb_write.specs.Puts.{front_of, fields_in}
use Rattle.pb_write.specs.Writes.{gathered_in}
use Rattle.pb_write.proofs.Gaining.{packed_longer, packed_some, no_bytes}
use Rattle.pb_write.proofs.Gathering.{KeepsTaken-refl}
use Rattle.pb_write.proofs.Lists.{array_live, count_same, elements_there, element_fits, list_is, many_text, many_is, no_values_text, value_here, index_small}
use Rattle.pb_write.proofs.Parts.{fields_drop, values_drop, field_at_index, fields_end, value_levels_at, value_text_at, values_end}
use Rattle.pb_write.proofs.Records.{opened, entries_lie, type_known, record_live, pieces_at, entries_at, fields_at}
use Rattle.pb_write.proofs.Singles.{set_value, unset_nothing, single_of}
use Rattle.pb_write.proofs.Taken.{KeepsTaken-trans, Counts-refl, Counts-trans}
use Rattle.pb_write.proofs.Values.{message_value, message_place, string_value, string_slot, bytes_type, number_value, number_type}
use Rattle.pb_write.proofs.Writing.{IsWritten, writes_same, writes_nothing, written_none, written_more, written_failed, written_last, written_all, piece_short, failed_with, sends_more, room_put}
use Rattle.pb_write.proofs.forwards.+forwards.Goals as goal

-- VALUES OF A LIST

pub write_elements-values-init : goal.write_elements-values-init
write_elements-values-init g t c = record {
  within = omega arith;
  longer = KeepsTaken-refl (g.S.Sink.taken c.args.sink.now);
  counted = Counts-refl (g.S.Sink.taken c.args.sink.now) c.args.out.now.taken;
  faults = omega arith;
  written = λ values feet stand counted short. written_none (g.S.Sink.taken c.args.sink.now) (gathered_in c.args.out.now) (values_text c.args.types.now c.args.field (front_of c.args.packed c.args.field) (values_map concat values));
}

pub write_elements-returns-in_err-gather_front-clause-written : goal.write_elements-returns-in_err-gather_front-clause-written
write_elements-returns-in_err-gather_front-clause-written g t c = λ values feet stand counted short.
    let p = err_from_is_err_and c.from_residual.result c.from_residual.ensures.1 in
    let less = c.values.invariant.within in let more = c.values-test.true in
    let size = c.single_bytes-size.ensures in
    let at = value_here c.args.types.now (g.M.Memory.places c.args.mem.now) (g.M.Memory.buffers c.args.mem.now) (value_type_of c.args.field.kind) c.args.elements.now values feet stand c.values.i c.args.count c.single_bytes-size.result counted more size in
    let front = front_of c.args.packed c.args.field in
    let own = value_text c.args.types.now c.args.field (value_map concat at.0) in
    let whole = values_text c.args.types.now c.args.field front (values_map concat values) in
    let rest = values_text c.args.types.now c.args.field front (values_map concat (values_drop c.values.i values)) in
    let later = values_text c.args.types.now c.args.field front (values_map concat (values_drop (suc c.values.i) values)) in
    let so_far = c.values.invariant.written values feet stand counted short in
    let rest_is : rest ≡ front ++ (own ++ later) = value_text_at c.args.types.now c.args.field front values c.values.i at.0 at.2 ∙ append_assoc front own later in
    let a = (g.S.Sink.taken c.args.sink.now) in let b = (g.S.Sink.taken c.values.sink) in
    let before = (gathered_in c.args.out.now) in let middle = (gathered_in c.values.out) in
    failed_with a (g.S.Sink.taken c.gather_front.new.sink) before (gathered_in c.gather_front.new.out) whole c.from_residual.result p.0 p.1
    (written_failed a b (g.S.Sink.taken c.gather_front.new.sink) before middle whole rest front (own ++ later) c.values.invariant.longer so_far rest_is c.in_err-gather_front.ensures.written.err)

pub write_elements-returns-in_err-gather_front-clause-sent : goal.write_elements-returns-in_err-gather_front-clause-sent
write_elements-returns-in_err-gather_front-clause-sent g t c =
    let p = err_from_is_err_and c.from_residual.result c.from_residual.ensures.1 in
    sends_more (g.S.Sink.taken c.args.sink.now) (g.S.Sink.taken c.values.sink) (g.S.Sink.taken c.gather_front.new.sink) (g.S.Sink.faults c.args.sink.now) (g.S.Sink.faults c.values.sink) (g.S.Sink.faults c.gather_front.new.sink) c.from_residual.result c.gather_front.result p.0 c.values.invariant.longer c.values.invariant.faults c.in_err-gather_front.ensures.sent p.1

pub write_elements-returns-in_err-gather_front-clause-counted : goal.write_elements-returns-in_err-gather_front-clause-counted
write_elements-returns-in_err-gather_front-clause-counted g t c = Counts-trans (g.S.Sink.taken c.args.sink.now) (g.S.Sink.taken c.values.sink) (g.S.Sink.taken c.gather_front.new.sink) c.args.out.now.taken c.values.out.taken c.gather_front.new.out.taken c.values.invariant.counted c.in_err-gather_front.ensures.counted

pub write_elements-write_value-requires : goal.write_elements-write_value-requires
write_elements-write_value-requires g t c κs within =
    let stand = c.requires.stand in
    let less = c.values.invariant.within in let more = c.values-test.true in
    let size = c.single_bytes-size.ensures in
    let at = value_here c.args.types.now (g.M.Memory.places c.args.mem.now) (g.M.Memory.buffers c.args.mem.now) (value_type_of c.args.field.kind) c.args.elements.now stand.0 stand.1 stand.2 c.values.i c.args.count c.single_bytes-size.result stand.3 more size in
    let fits = element_fits c.values.i c.args.count (slot_of (value_type_of c.args.field.kind)) (length c.args.elements.now) more c.requires.within in
    let small = index_small c.values.i c.args.count c.single_bytes-size.result c.args.field.kind more c.requires.few size in
    let deep = value_levels_at stand.0 c.values.i at.0 at.2 in
    let levels = stand.4 in
    (omega (arith, c.decreases), (within.0, (within.1.0, (within.1.1, (omega (arith, fits, ap (λ n. c.values.i * n) size), (small, (at.0, at.1, at.3, omega (arith, deep, levels))))))))

pub write_elements-overflow_mul-i : goal.write_elements-overflow_mul-i
write_elements-overflow_mul-i g t c =
    let small = index_small c.values.i c.args.count c.single_bytes-size.result c.args.field.kind c.values-test.true c.requires.few c.single_bytes-size.ensures in
    omega (arith, small)

pub write_elements-returns-in_err-write_value-clause-written : goal.write_elements-returns-in_err-write_value-clause-written
write_elements-returns-in_err-write_value-clause-written g t c = λ values feet stand counted short.
    let p = err_from_is_err_and c.from_residual-in_err-write_value.result c.from_residual-in_err-write_value.ensures.1 in
    let less = c.values.invariant.within in let more = c.values-test.true in
    let size = c.single_bytes-size.ensures in
    let at = value_here c.args.types.now (g.M.Memory.places c.args.mem.now) (g.M.Memory.buffers c.args.mem.now) (value_type_of c.args.field.kind) c.args.elements.now values feet stand c.values.i c.args.count c.single_bytes-size.result counted more size in
    let front = front_of c.args.packed c.args.field in
    let own = value_text c.args.types.now c.args.field (value_map concat at.0) in
    let whole = values_text c.args.types.now c.args.field front (values_map concat values) in
    let rest = values_text c.args.types.now c.args.field front (values_map concat (values_drop c.values.i values)) in
    let later = values_text c.args.types.now c.args.field front (values_map concat (values_drop (suc c.values.i) values)) in
    let so_far = c.values.invariant.written values feet stand counted short in
    let rest_is : rest ≡ front ++ (own ++ later) = value_text_at c.args.types.now c.args.field front values c.values.i at.0 at.2 ∙ append_assoc front own later in
    let a = (g.S.Sink.taken c.args.sink.now) in let b = (g.S.Sink.taken c.values.sink) in
    let before = (gathered_in c.args.out.now) in let middle = (gathered_in c.values.out) in
    let b2 = (g.S.Sink.taken c.gather_front.new.sink) in let middle2 = (gathered_in c.gather_front.new.out) in
    let then = written_more a b b2 before middle middle2 whole rest front (own ++ later) so_far rest_is c.in_ok-gather_front.ensures.written.ok in
    let small = piece_short a b2 before middle2 whole (own ++ later) own later then refl short in
    failed_with a (g.S.Sink.taken c.write_value.new.sink) before (gathered_in c.write_value.new.out) whole c.from_residual-in_err-write_value.result p.0 p.1
    (written_failed a b2 (g.S.Sink.taken c.write_value.new.sink) before middle2 whole (own ++ later) own later (KeepsTaken-trans a b b2 c.values.invariant.longer c.in_ok-gather_front.ensures.sent.longer) then refl (c.in_err-write_value.ensures.written at.0 at.1 at.3 small).err)

pub write_elements-returns-in_err-write_value-clause-sent : goal.write_elements-returns-in_err-write_value-clause-sent
write_elements-returns-in_err-write_value-clause-sent g t c =
    let p = err_from_is_err_and c.from_residual-in_err-write_value.result c.from_residual-in_err-write_value.ensures.1 in
    let less = c.values.invariant.faults in let next = c.in_ok-gather_front.ensures.sent.cause.never_falls in
    sends_more (g.S.Sink.taken c.args.sink.now) (g.S.Sink.taken c.gather_front.new.sink) (g.S.Sink.taken c.write_value.new.sink) (g.S.Sink.faults c.args.sink.now) (g.S.Sink.faults c.gather_front.new.sink) (g.S.Sink.faults c.write_value.new.sink) c.from_residual-in_err-write_value.result c.write_value.result p.0
    (KeepsTaken-trans (g.S.Sink.taken c.args.sink.now) (g.S.Sink.taken c.values.sink) (g.S.Sink.taken c.gather_front.new.sink) c.values.invariant.longer c.in_ok-gather_front.ensures.sent.longer) (omega (arith, less, next)) c.in_err-write_value.ensures.sent p.1

pub write_elements-returns-in_err-write_value-clause-counted : goal.write_elements-returns-in_err-write_value-clause-counted
write_elements-returns-in_err-write_value-clause-counted g t c = Counts-trans (g.S.Sink.taken c.args.sink.now) (g.S.Sink.taken c.gather_front.new.sink) (g.S.Sink.taken c.write_value.new.sink) c.args.out.now.taken c.gather_front.new.out.taken c.write_value.new.out.taken (Counts-trans (g.S.Sink.taken c.args.sink.now) (g.S.Sink.taken c.values.sink) (g.S.Sink.taken c.gather_front.new.sink) c.args.out.now.taken c.values.out.taken c.gather_front.new.out.taken c.values.invariant.counted c.in_ok-gather_front.ensures.counted) c.in_err-write_value.ensures.counted

pub write_elements-values-preserved : goal.write_elements-values-preserved
write_elements-values-preserved g t c = record {
  within = omega (arith, c.values-test.true);
  longer = KeepsTaken-trans (g.S.Sink.taken c.args.sink.now) (g.S.Sink.taken c.gather_front.new.sink) (g.S.Sink.taken c.write_value.new.sink) (KeepsTaken-trans (g.S.Sink.taken c.args.sink.now) (g.S.Sink.taken c.values.sink) (g.S.Sink.taken c.gather_front.new.sink) c.values.invariant.longer c.in_ok-gather_front.ensures.sent.longer) c.in_ok-write_value.ensures.sent.longer;
  counted = Counts-trans (g.S.Sink.taken c.args.sink.now) (g.S.Sink.taken c.gather_front.new.sink) (g.S.Sink.taken c.write_value.new.sink) c.args.out.now.taken c.gather_front.new.out.taken c.write_value.new.out.taken (Counts-trans (g.S.Sink.taken c.args.sink.now) (g.S.Sink.taken c.values.sink) (g.S.Sink.taken c.gather_front.new.sink) c.args.out.now.taken c.values.out.taken c.gather_front.new.out.taken c.values.invariant.counted c.in_ok-gather_front.ensures.counted) c.in_ok-write_value.ensures.counted;
  faults = omega (arith, c.values.invariant.faults, c.in_ok-gather_front.ensures.sent.cause.never_falls, c.in_ok-write_value.ensures.sent.cause.never_falls);
  written = λ values feet stand counted short.
      let less = c.values.invariant.within in let more = c.values-test.true in
      let size = c.single_bytes-size.ensures in
      let at = value_here c.args.types.now (g.M.Memory.places c.args.mem.now) (g.M.Memory.buffers c.args.mem.now) (value_type_of c.args.field.kind) c.args.elements.now values feet stand c.values.i c.args.count c.single_bytes-size.result counted more size in
      let front = front_of c.args.packed c.args.field in
      let own = value_text c.args.types.now c.args.field (value_map concat at.0) in
      let whole = values_text c.args.types.now c.args.field front (values_map concat values) in
      let rest = values_text c.args.types.now c.args.field front (values_map concat (values_drop c.values.i values)) in
      let later = values_text c.args.types.now c.args.field front (values_map concat (values_drop (suc c.values.i) values)) in
      let so_far = c.values.invariant.written values feet stand counted short in
      let rest_is : rest ≡ front ++ (own ++ later) = value_text_at c.args.types.now c.args.field front values c.values.i at.0 at.2 ∙ append_assoc front own later in
      let a = (g.S.Sink.taken c.args.sink.now) in let b = (g.S.Sink.taken c.values.sink) in
      let before = (gathered_in c.args.out.now) in let middle = (gathered_in c.values.out) in
      let b2 = (g.S.Sink.taken c.gather_front.new.sink) in let middle2 = (gathered_in c.gather_front.new.out) in
      let d = (g.S.Sink.taken c.write_value.new.sink) in let after = (gathered_in c.write_value.new.out) in
      let then = written_more a b b2 before middle middle2 whole rest front (own ++ later) so_far rest_is c.in_ok-gather_front.ensures.written.ok in
      let small = piece_short a b2 before middle2 whole (own ++ later) own later then refl short in
      let done = written_more a b2 d before middle2 after whole (own ++ later) own later then refl (c.in_ok-write_value.ensures.written at.0 at.1 at.3 small).ok in
      let next : suc c.values.i ≡ c.values.i + 1 = omega arith in
      subst (λ n. IsWritten a before d after whole (values_text c.args.types.now c.args.field front (values_map concat (values_drop n values)))) next done;
}

pub write_elements-returns-clause-written : goal.write_elements-returns-clause-written
write_elements-returns-clause-written g t c = λ values feet stand counted short.
    let front = front_of c.args.packed c.args.field in
    let less = c.values.invariant.within in let past = c.values-test.false in
    let last : c.values.i ≡ length (values_in_list values) = omega (arith, less, past, counted) in
    record {
      ok = written_all (g.S.Sink.taken c.args.sink.now) (g.S.Sink.taken c.values.sink) (gathered_in c.args.out.now) (gathered_in c.values.out) (values_text c.args.types.now c.args.field front (values_map concat values)) (values_text c.args.types.now c.args.field front (values_map concat (values_drop c.values.i values))) (c.values.invariant.written values feet stand counted short)
          (ap (λ n. values_text c.args.types.now c.args.field front (values_map concat (values_drop n values))) last ∙ ap (λ vs. values_text c.args.types.now c.args.field front (values_map concat vs)) (values_end values));
      err = tt;
    }

pub write_elements-returns-clause-sent : goal.write_elements-returns-clause-sent
write_elements-returns-clause-sent g t c = record { longer = c.values.invariant.longer; cause = record { never_falls = c.values.invariant.faults; failed = tt } }

-- A FIELD

pub write_field-write_list-requires : goal.write_field-write_list-requires
write_field-write_list-requires g t c κs within = (omega (arith, c.decreases), (within.0, (within.1.0, (within.1.1, (c.in-Repeated.is, (c.requires.within, c.requires.stand))))))

pub write_field-write_single-requires : goal.write_field-write_single-requires
write_field-write_single-requires g t c κs within = (omega (arith, c.decreases), (within.0, (within.1.0, (within.1.1, (single_of c.args.entry.field.card c.in_default-card.not-Repeated, (c.requires.within, c.requires.stand))))))

-- FIELDS

pub write_fields-fields-init : goal.write_fields-fields-init
write_fields-fields-init g t c = record {
  within = omega arith;
  longer = KeepsTaken-refl (g.S.Sink.taken c.args.sink.now);
  counted = Counts-refl (g.S.Sink.taken c.args.sink.now) c.args.out.now.taken;
  faults = omega arith;
  written = λ held feet stand short. written_none (g.S.Sink.taken c.args.sink.now) (gathered_in c.args.out.now) (fields_text c.args.types.now (fields_in c.args.entries.now) (fields_map concat held));
}

pub write_fields-write_field-requires : goal.write_fields-write_field-requires
write_fields-write_field-requires g t c κs within =
    let stand = c.requires.stand in
    let below = c.fields-test.true in
    let entry = get_or c.args.entries.now c.fields.i past_end_entry in
    let at = field_at_index c.args.types.now (g.M.Memory.places c.args.mem.now) (g.M.Memory.buffers c.args.mem.now) c.args.bytes.now c.args.entries.now stand.0 stand.1 c.fields.i entry stand.2 (slice_get-get_or c.args.entries.now c.fields.i past_end_entry below) in
    let deep = at.levels in let levels = stand.3 in
    (omega (arith, c.decreases), (within.0, (within.1.0, (within.1.1, (c.requires.within c.fields.i past_end_entry below, (at.one, at.own, at.stands, omega (arith, deep, levels)))))))

pub write_fields-returns-in_err-write_field-clause-written : goal.write_fields-returns-in_err-write_field-clause-written
write_fields-returns-in_err-write_field-clause-written g t c = λ held feet stand short.
    let p = err_from_is_err_and c.from_residual.result c.from_residual.ensures.1 in
    let below = c.fields-test.true in
    let entry = get_or c.args.entries.now c.fields.i past_end_entry in
    let at = field_at_index c.args.types.now (g.M.Memory.places c.args.mem.now) (g.M.Memory.buffers c.args.mem.now) c.args.bytes.now c.args.entries.now held feet c.fields.i entry stand (slice_get-get_or c.args.entries.now c.fields.i past_end_entry below) in
    let own = held_text c.args.types.now entry.field (held_map concat at.one) in
    let whole = fields_text c.args.types.now (fields_in c.args.entries.now) (fields_map concat held) in
    let rest = fields_text c.args.types.now (drop c.fields.i (fields_in c.args.entries.now)) (fields_map concat (fields_drop c.fields.i held)) in
    let later = fields_text c.args.types.now (drop (suc c.fields.i) (fields_in c.args.entries.now)) (fields_map concat (fields_drop (suc c.fields.i) held)) in
    let so_far = c.fields.invariant.written held feet stand short in
    let a = (g.S.Sink.taken c.args.sink.now) in let b = (g.S.Sink.taken c.fields.sink) in let d = (g.S.Sink.taken c.write_field.new.sink) in
    let before = (gathered_in c.args.out.now) in let middle = (gathered_in c.fields.out) in let after = (gathered_in c.write_field.new.out) in
    let small = piece_short a b before middle whole rest own later so_far at.text short in
    failed_with a d before after whole c.from_residual.result p.0 p.1
    (written_failed a b d before middle whole rest own later c.fields.invariant.longer so_far at.text (c.in_err-write_field.ensures.written at.one at.own at.stands small).err)

pub write_fields-returns-in_err-write_field-clause-sent : goal.write_fields-returns-in_err-write_field-clause-sent
write_fields-returns-in_err-write_field-clause-sent g t c =
    let p = err_from_is_err_and c.from_residual.result c.from_residual.ensures.1 in
    sends_more (g.S.Sink.taken c.args.sink.now) (g.S.Sink.taken c.fields.sink) (g.S.Sink.taken c.write_field.new.sink) (g.S.Sink.faults c.args.sink.now) (g.S.Sink.faults c.fields.sink) (g.S.Sink.faults c.write_field.new.sink) c.from_residual.result c.write_field.result p.0 c.fields.invariant.longer c.fields.invariant.faults c.in_err-write_field.ensures.sent p.1

pub write_fields-returns-in_err-write_field-clause-counted : goal.write_fields-returns-in_err-write_field-clause-counted
write_fields-returns-in_err-write_field-clause-counted g t c = Counts-trans (g.S.Sink.taken c.args.sink.now) (g.S.Sink.taken c.fields.sink) (g.S.Sink.taken c.write_field.new.sink) c.args.out.now.taken c.fields.out.taken c.write_field.new.out.taken c.fields.invariant.counted c.in_err-write_field.ensures.counted

pub write_fields-fields-preserved : goal.write_fields-fields-preserved
write_fields-fields-preserved g t c = record {
  within = omega (arith, c.fields-test.true);
  longer = KeepsTaken-trans (g.S.Sink.taken c.args.sink.now) (g.S.Sink.taken c.fields.sink) (g.S.Sink.taken c.write_field.new.sink) c.fields.invariant.longer c.in_ok-write_field.ensures.sent.longer;
  counted = Counts-trans (g.S.Sink.taken c.args.sink.now) (g.S.Sink.taken c.fields.sink) (g.S.Sink.taken c.write_field.new.sink) c.args.out.now.taken c.fields.out.taken c.write_field.new.out.taken c.fields.invariant.counted c.in_ok-write_field.ensures.counted;
  faults = omega (arith, c.fields.invariant.faults, c.in_ok-write_field.ensures.sent.cause.never_falls);
  written = λ held feet stand short.
      let below = c.fields-test.true in
      let entry = get_or c.args.entries.now c.fields.i past_end_entry in
      let at = field_at_index c.args.types.now (g.M.Memory.places c.args.mem.now) (g.M.Memory.buffers c.args.mem.now) c.args.bytes.now c.args.entries.now held feet c.fields.i entry stand (slice_get-get_or c.args.entries.now c.fields.i past_end_entry below) in
      let own = held_text c.args.types.now entry.field (held_map concat at.one) in
      let whole = fields_text c.args.types.now (fields_in c.args.entries.now) (fields_map concat held) in
      let rest = fields_text c.args.types.now (drop c.fields.i (fields_in c.args.entries.now)) (fields_map concat (fields_drop c.fields.i held)) in
      let later = fields_text c.args.types.now (drop (suc c.fields.i) (fields_in c.args.entries.now)) (fields_map concat (fields_drop (suc c.fields.i) held)) in
      let so_far = c.fields.invariant.written held feet stand short in
      let a = (g.S.Sink.taken c.args.sink.now) in let b = (g.S.Sink.taken c.fields.sink) in let d = (g.S.Sink.taken c.write_field.new.sink) in
      let before = (gathered_in c.args.out.now) in let middle = (gathered_in c.fields.out) in let after = (gathered_in c.write_field.new.out) in
      let small = piece_short a b before middle whole rest own later so_far at.text short in
      let done = written_more a b d before middle after whole rest own later so_far at.text (c.in_ok-write_field.ensures.written at.one at.own at.stands small).ok in
      let next : suc c.fields.i ≡ c.fields.i + 1 = omega arith in
      subst (λ n. IsWritten a before d after whole (fields_text c.args.types.now (drop n (fields_in c.args.entries.now)) (fields_map concat (fields_drop n held)))) next done;
}

pub write_fields-returns-clause-written : goal.write_fields-returns-clause-written
write_fields-returns-clause-written g t c = λ held feet stand short.
    let less = c.fields.invariant.within in let past = c.fields-test.false in
    let last : c.fields.i ≡ length c.args.entries.now = omega (arith, less, past) in
    record {
      ok = written_all (g.S.Sink.taken c.args.sink.now) (g.S.Sink.taken c.fields.sink) (gathered_in c.args.out.now) (gathered_in c.fields.out) (fields_text c.args.types.now (fields_in c.args.entries.now) (fields_map concat held)) (fields_text c.args.types.now (drop c.fields.i (fields_in c.args.entries.now)) (fields_map concat (fields_drop c.fields.i held))) (c.fields.invariant.written held feet stand short)
          (ap (λ n. fields_text c.args.types.now (drop n (fields_in c.args.entries.now)) (fields_map concat (fields_drop n held))) last ∙ fields_end c.args.types.now (g.M.Memory.places c.args.mem.now) (g.M.Memory.buffers c.args.mem.now) c.args.bytes.now c.args.entries.now held feet stand);
      err = tt;
    }

pub write_fields-returns-clause-sent : goal.write_fields-returns-clause-sent
write_fields-returns-clause-sent g t c = record { longer = c.fields.invariant.longer; cause = record { never_falls = c.fields.invariant.faults; failed = tt } }

-- A LIST

pub write_list-returns-then-count-eq0-clause-written : goal.write_list-returns-then-count-eq0-clause-written
write_list-returns-then-count-eq0-clause-written g t c = λ held own stand short.
    let list = list_is c.args.types.now (g.M.Memory.places c.args.mem.now) (g.M.Memory.buffers c.args.mem.now) c.args.entry c.args.bytes.now c.args.packed c.requires.list held own stand in
    let none = sym (count_is (g.M.Memory.places c.args.mem.now) (slot_of (value_type_of c.args.entry.field.kind)) (length (values_in_list list.values)) (part c.args.entry.slot array_slot c.args.bytes.now) own list.holds) ∙ sym c.list_at-count.ensures.count ∙ c.if-count-eq0.true in
    writes_same (g.S.Sink.taken c.args.sink.now) (g.S.Sink.taken c.args.sink.now) (gathered_in c.args.out.now) (gathered_in c.args.out.now) [] (held_text c.args.types.now c.args.entry.field (held_map concat held)) (Ok tt)
    (no_values_text c.args.types.now c.args.entry.field c.args.packed list.values none ∙ sym (ap (λ h. held_text c.args.types.now c.args.entry.field (held_map concat h)) list.is ∙ many_is c.args.types.now c.args.entry.field (values_map concat list.values) c.args.packed c.requires.list))
    (record { ok = writes_nothing (g.S.Sink.taken c.args.sink.now) (gathered_in c.args.out.now); err = tt })

pub write_list-read-elements-requires : goal.write_list-read-elements-requires
write_list-read-elements-requires g t c =
    let stand = c.requires.stand in
    let list = list_is c.args.types.now (g.M.Memory.places c.args.mem.now) (g.M.Memory.buffers c.args.mem.now) c.args.entry c.args.bytes.now c.args.packed c.requires.list stand.0 stand.1 stand.2 in
    array_live (g.M.Memory.places c.args.mem.now) (slot_of (value_type_of c.args.entry.field.kind)) (length (values_in_list list.values)) (part c.args.entry.slot array_slot c.args.bytes.now) stand.1 list.holds c.list_at-count.result.0 c.list_at-count.result.1 c.list_at-count.ensures.place c.list_at-count.ensures.count c.if-count-eq0.false

pub write_list-write_elements-requires : goal.write_list-write_elements-requires
write_list-write_elements-requires g t c κs within =
    let stand = c.requires.stand in
    let list = list_is c.args.types.now (g.M.Memory.places c.args.mem.now) (g.M.Memory.buffers c.args.mem.now) c.args.entry c.args.bytes.now c.args.packed c.requires.list stand.0 stand.1 stand.2 in
    let there = elements_there (g.M.Memory.places c.args.mem.now) (slot_of (value_type_of c.args.entry.field.kind)) (length (values_in_list list.values)) (part c.args.entry.slot array_slot c.args.bytes.now) stand.1 list.holds c.list_at-count.result.0 c.list_at-count.result.1 c.list_at-count.ensures.place c.list_at-count.ensures.count c.if-count-eq0.false c.read-elements.result.now c.read-elements.ensures.value in
    let counted = count_same (g.M.Memory.places c.args.mem.now) (slot_of (value_type_of c.args.entry.field.kind)) (length (values_in_list list.values)) (part c.args.entry.slot array_slot c.args.bytes.now) stand.1 list.holds c.list_at-count.result.0 c.list_at-count.result.1 c.list_at-count.ensures.place c.list_at-count.ensures.count c.if-count-eq0.false in
    let levels = stand.3 in
    (omega (arith, c.decreases), (within.0, (within.1.0, (within.1.1, (there.fit, (there.most, (c.requires.within.number, (list.values, there.behind, there.stand, sym counted, omega (arith, levels, ap held_levels list.is)))))))))

pub write_list-write_elements-requires-2 : goal.write_list-write_elements-requires-2
write_list-write_elements-requires-2 g t c κs within =
    let stand = c.requires.stand in
    let list = list_is c.args.types.now (g.M.Memory.places c.args.mem.now) (g.M.Memory.buffers c.args.mem.now) c.args.entry c.args.bytes.now c.args.packed c.requires.list stand.0 stand.1 stand.2 in
    let there = elements_there (g.M.Memory.places c.args.mem.now) (slot_of (value_type_of c.args.entry.field.kind)) (length (values_in_list list.values)) (part c.args.entry.slot array_slot c.args.bytes.now) stand.1 list.holds c.list_at-count.result.0 c.list_at-count.result.1 c.list_at-count.ensures.place c.list_at-count.ensures.count c.if-count-eq0.false c.read-elements.result.now c.read-elements.ensures.value in
    let counted = count_same (g.M.Memory.places c.args.mem.now) (slot_of (value_type_of c.args.entry.field.kind)) (length (values_in_list list.values)) (part c.args.entry.slot array_slot c.args.bytes.now) stand.1 list.holds c.list_at-count.result.0 c.list_at-count.result.1 c.list_at-count.ensures.place c.list_at-count.ensures.count c.if-count-eq0.false in
    let levels = stand.3 in
    (omega (arith, c.decreases), (within.0, (within.1.0, (within.1.1, (there.fit, (there.most, (c.requires.within.number, (list.values, there.behind, there.stand, sym counted, omega (arith, levels, ap held_levels list.is)))))))))

pub write_list-elements_size-len-requires-clause-within : goal.write_list-elements_size-len-requires-clause-within
write_list-elements_size-len-requires-clause-within g t c =
    let stand = c.requires.stand in
    let list = list_is c.args.types.now (g.M.Memory.places c.args.mem.now) (g.M.Memory.buffers c.args.mem.now) c.args.entry c.args.bytes.now c.args.packed c.requires.list stand.0 stand.1 stand.2 in
    let there = elements_there (g.M.Memory.places c.args.mem.now) (slot_of (value_type_of c.args.entry.field.kind)) (length (values_in_list list.values)) (part c.args.entry.slot array_slot c.args.bytes.now) stand.1 list.holds c.list_at-count.result.0 c.list_at-count.result.1 c.list_at-count.ensures.place c.list_at-count.ensures.count c.if-count-eq0.false c.read-elements.result.now c.read-elements.ensures.value in
    let counted = count_same (g.M.Memory.places c.args.mem.now) (slot_of (value_type_of c.args.entry.field.kind)) (length (values_in_list list.values)) (part c.args.entry.slot array_slot c.args.bytes.now) stand.1 list.holds c.list_at-count.result.0 c.list_at-count.result.1 c.list_at-count.ensures.place c.list_at-count.ensures.count c.if-count-eq0.false in
    let levels = stand.3 in
    there.fit

pub write_list-elements_size-len-requires-clause-few : goal.write_list-elements_size-len-requires-clause-few
write_list-elements_size-len-requires-clause-few g t c =
    let stand = c.requires.stand in
    let list = list_is c.args.types.now (g.M.Memory.places c.args.mem.now) (g.M.Memory.buffers c.args.mem.now) c.args.entry c.args.bytes.now c.args.packed c.requires.list stand.0 stand.1 stand.2 in
    let there = elements_there (g.M.Memory.places c.args.mem.now) (slot_of (value_type_of c.args.entry.field.kind)) (length (values_in_list list.values)) (part c.args.entry.slot array_slot c.args.bytes.now) stand.1 list.holds c.list_at-count.result.0 c.list_at-count.result.1 c.list_at-count.ensures.place c.list_at-count.ensures.count c.if-count-eq0.false c.read-elements.result.now c.read-elements.ensures.value in
    let counted = count_same (g.M.Memory.places c.args.mem.now) (slot_of (value_type_of c.args.entry.field.kind)) (length (values_in_list list.values)) (part c.args.entry.slot array_slot c.args.bytes.now) stand.1 list.holds c.list_at-count.result.0 c.list_at-count.result.1 c.list_at-count.ensures.place c.list_at-count.ensures.count c.if-count-eq0.false in
    let levels = stand.3 in
    there.most

pub write_list-elements_size-len-requires-clause-stand : goal.write_list-elements_size-len-requires-clause-stand
write_list-elements_size-len-requires-clause-stand g t c =
    let stand = c.requires.stand in
    let list = list_is c.args.types.now (g.M.Memory.places c.args.mem.now) (g.M.Memory.buffers c.args.mem.now) c.args.entry c.args.bytes.now c.args.packed c.requires.list stand.0 stand.1 stand.2 in
    let there = elements_there (g.M.Memory.places c.args.mem.now) (slot_of (value_type_of c.args.entry.field.kind)) (length (values_in_list list.values)) (part c.args.entry.slot array_slot c.args.bytes.now) stand.1 list.holds c.list_at-count.result.0 c.list_at-count.result.1 c.list_at-count.ensures.place c.list_at-count.ensures.count c.if-count-eq0.false c.read-elements.result.now c.read-elements.ensures.value in
    let counted = count_same (g.M.Memory.places c.args.mem.now) (slot_of (value_type_of c.args.entry.field.kind)) (length (values_in_list list.values)) (part c.args.entry.slot array_slot c.args.bytes.now) stand.1 list.holds c.list_at-count.result.0 c.list_at-count.result.1 c.list_at-count.ensures.place c.list_at-count.ensures.count c.if-count-eq0.false in
    let levels = stand.3 in
    (list.values, there.behind, there.stand, sym counted, omega (arith, levels, ap held_levels list.is))

pub write_list-returns-then-not-packed-clause-written : goal.write_list-returns-then-not-packed-clause-written
write_list-returns-then-not-packed-clause-written g t c = λ held own stand short.
    let list = list_is c.args.types.now (g.M.Memory.places c.args.mem.now) (g.M.Memory.buffers c.args.mem.now) c.args.entry c.args.bytes.now c.args.packed c.requires.list held own stand in
    let there = elements_there (g.M.Memory.places c.args.mem.now) (slot_of (value_type_of c.args.entry.field.kind)) (length (values_in_list list.values)) (part c.args.entry.slot array_slot c.args.bytes.now) own list.holds c.list_at-count.result.0 c.list_at-count.result.1 c.list_at-count.ensures.place c.list_at-count.ensures.count c.if-count-eq0.false c.read-elements.result.now c.read-elements.ensures.value in
    let counted = count_same (g.M.Memory.places c.args.mem.now) (slot_of (value_type_of c.args.entry.field.kind)) (length (values_in_list list.values)) (part c.args.entry.slot array_slot c.args.bytes.now) own list.holds c.list_at-count.result.0 c.list_at-count.result.1 c.list_at-count.ensures.place c.list_at-count.ensures.count c.if-count-eq0.false in
    let text = ap (λ h. held_text c.args.types.now c.args.entry.field (held_map concat h)) list.is ∙ many_is c.args.types.now c.args.entry.field (values_map concat list.values) c.args.packed c.requires.list ∙ ap (many_text c.args.types.now c.args.entry.field (values_map concat list.values)) c.if-not-packed.true in
    let inner = values_text c.args.types.now c.args.entry.field (field_tag c.args.entry.field) (values_map concat list.values) in
    writes_same (g.S.Sink.taken c.args.sink.now) (g.S.Sink.taken c.write_elements.new.sink) (gathered_in c.args.out.now) (gathered_in c.write_elements.new.out) inner (held_text c.args.types.now c.args.entry.field (held_map concat held)) c.write_elements.result (sym text)
    (c.write_elements.ensures.written list.values there.behind there.stand (sym counted) (omega (arith, short, ap (λ (l : List ℕ). length l) text)))

pub write_list-returns-then-len-eq0-clause-written : goal.write_list-returns-then-len-eq0-clause-written
write_list-returns-then-len-eq0-clause-written g t c = λ held own stand short.
    let list = list_is c.args.types.now (g.M.Memory.places c.args.mem.now) (g.M.Memory.buffers c.args.mem.now) c.args.entry c.args.bytes.now c.args.packed c.requires.list held own stand in
    let there = elements_there (g.M.Memory.places c.args.mem.now) (slot_of (value_type_of c.args.entry.field.kind)) (length (values_in_list list.values)) (part c.args.entry.slot array_slot c.args.bytes.now) own list.holds c.list_at-count.result.0 c.list_at-count.result.1 c.list_at-count.ensures.place c.list_at-count.ensures.count c.if-count-eq0.false c.read-elements.result.now c.read-elements.ensures.value in
    let counted = count_same (g.M.Memory.places c.args.mem.now) (slot_of (value_type_of c.args.entry.field.kind)) (length (values_in_list list.values)) (part c.args.entry.slot array_slot c.args.bytes.now) own list.holds c.list_at-count.result.0 c.list_at-count.result.1 c.list_at-count.ensures.place c.list_at-count.ensures.count c.if-count-eq0.false in
    let text = ap (λ h. held_text c.args.types.now c.args.entry.field (held_map concat h)) list.is ∙ many_is c.args.types.now c.args.entry.field (values_map concat list.values) c.args.packed c.requires.list ∙ ap (many_text c.args.types.now c.args.entry.field (values_map concat list.values)) c.if-not-packed.false in
    let inner = values_text c.args.types.now c.args.entry.field [] (values_map concat list.values) in
    let small : length inner < 2 ^ 63 = omega (arith, short, ap (λ (l : List ℕ). length l) text, packed_longer c.args.entry.field.number inner) in
    let len = c.elements_size-len.ensures list.values there.behind there.stand (sym counted) small in
    writes_same (g.S.Sink.taken c.args.sink.now) (g.S.Sink.taken c.args.sink.now) (gathered_in c.args.out.now) (gathered_in c.args.out.now) [] (held_text c.args.types.now c.args.entry.field (held_map concat held)) (Ok tt) (sym (text ∙ ap (packed_text c.args.entry.field.number) (no_bytes inner (sym len ∙ c.if-len-eq0.true))))
    (record { ok = writes_nothing (g.S.Sink.taken c.args.sink.now) (gathered_in c.args.out.now); err = tt })

pub write_list-returns-in_err-gather_varint-clause-written : goal.write_list-returns-in_err-gather_varint-clause-written
write_list-returns-in_err-gather_varint-clause-written g t c = λ held own stand short.
    let p = err_from_is_err_and c.from_residual.result c.from_residual.ensures.1 in
    let list = list_is c.args.types.now (g.M.Memory.places c.args.mem.now) (g.M.Memory.buffers c.args.mem.now) c.args.entry c.args.bytes.now c.args.packed c.requires.list held own stand in
    let there = elements_there (g.M.Memory.places c.args.mem.now) (slot_of (value_type_of c.args.entry.field.kind)) (length (values_in_list list.values)) (part c.args.entry.slot array_slot c.args.bytes.now) own list.holds c.list_at-count.result.0 c.list_at-count.result.1 c.list_at-count.ensures.place c.list_at-count.ensures.count c.if-count-eq0.false c.read-elements.result.now c.read-elements.ensures.value in
    let counted = count_same (g.M.Memory.places c.args.mem.now) (slot_of (value_type_of c.args.entry.field.kind)) (length (values_in_list list.values)) (part c.args.entry.slot array_slot c.args.bytes.now) own list.holds c.list_at-count.result.0 c.list_at-count.result.1 c.list_at-count.ensures.place c.list_at-count.ensures.count c.if-count-eq0.false in
    let text = ap (λ h. held_text c.args.types.now c.args.entry.field (held_map concat h)) list.is ∙ many_is c.args.types.now c.args.entry.field (values_map concat list.values) c.args.packed c.requires.list ∙ ap (many_text c.args.types.now c.args.entry.field (values_map concat list.values)) c.if-not-packed.false in
    let inner = values_text c.args.types.now c.args.entry.field [] (values_map concat list.values) in
    let small : length inner < 2 ^ 63 = omega (arith, short, ap (λ (l : List ℕ). length l) text, packed_longer c.args.entry.field.number inner) in
    let len = c.elements_size-len.ensures list.values there.behind there.stand (sym counted) small in
    let tag = varint_of (tag_of c.args.entry.field.number 2) in
    let front = varint_of (length inner) in
    let whole = held_text c.args.types.now c.args.entry.field (held_map concat held) in
    let whole_is : whole ≡ tag ++ (front ++ inner) = text ∙ packed_some c.args.entry.field.number inner (λ none. c.if-len-eq0.false (len ∙ none)) in
    let a = (g.S.Sink.taken c.args.sink.now) in let before = (gathered_in c.args.out.now) in
    failed_with a (g.S.Sink.taken c.gather_varint.new.sink) before (gathered_in c.gather_varint.new.out) whole c.from_residual.result p.0 p.1
    (written_failed a a (g.S.Sink.taken c.gather_varint.new.sink) before before whole whole tag (front ++ inner) (KeepsTaken-refl a) (written_none a before whole) whole_is
    (subst (λ n. TookPart a (g.S.Sink.taken c.gather_varint.new.sink) (before ++ varint_of n)) c.from.ensures c.in_err-gather_varint.ensures.written.err))

pub write_list-returns-in_err-gather_varint-2-clause-written : goal.write_list-returns-in_err-gather_varint-2-clause-written
write_list-returns-in_err-gather_varint-2-clause-written g t c = λ held own stand short.
    let p = err_from_is_err_and c.from_residual-in_err-gather_varint-2.result c.from_residual-in_err-gather_varint-2.ensures.1 in
    let list = list_is c.args.types.now (g.M.Memory.places c.args.mem.now) (g.M.Memory.buffers c.args.mem.now) c.args.entry c.args.bytes.now c.args.packed c.requires.list held own stand in
    let there = elements_there (g.M.Memory.places c.args.mem.now) (slot_of (value_type_of c.args.entry.field.kind)) (length (values_in_list list.values)) (part c.args.entry.slot array_slot c.args.bytes.now) own list.holds c.list_at-count.result.0 c.list_at-count.result.1 c.list_at-count.ensures.place c.list_at-count.ensures.count c.if-count-eq0.false c.read-elements.result.now c.read-elements.ensures.value in
    let counted = count_same (g.M.Memory.places c.args.mem.now) (slot_of (value_type_of c.args.entry.field.kind)) (length (values_in_list list.values)) (part c.args.entry.slot array_slot c.args.bytes.now) own list.holds c.list_at-count.result.0 c.list_at-count.result.1 c.list_at-count.ensures.place c.list_at-count.ensures.count c.if-count-eq0.false in
    let text = ap (λ h. held_text c.args.types.now c.args.entry.field (held_map concat h)) list.is ∙ many_is c.args.types.now c.args.entry.field (values_map concat list.values) c.args.packed c.requires.list ∙ ap (many_text c.args.types.now c.args.entry.field (values_map concat list.values)) c.if-not-packed.false in
    let inner = values_text c.args.types.now c.args.entry.field [] (values_map concat list.values) in
    let small : length inner < 2 ^ 63 = omega (arith, short, ap (λ (l : List ℕ). length l) text, packed_longer c.args.entry.field.number inner) in
    let len = c.elements_size-len.ensures list.values there.behind there.stand (sym counted) small in
    let tag = varint_of (tag_of c.args.entry.field.number 2) in
    let front = varint_of (length inner) in
    let whole = held_text c.args.types.now c.args.entry.field (held_map concat held) in
    let whole_is : whole ≡ tag ++ (front ++ inner) = text ∙ packed_some c.args.entry.field.number inner (λ none. c.if-len-eq0.false (len ∙ none)) in
    let a = (g.S.Sink.taken c.args.sink.now) in let before = (gathered_in c.args.out.now) in
    let b = (g.S.Sink.taken c.gather_varint.new.sink) in let middle = (gathered_in c.gather_varint.new.out) in
    let then = written_more a a b before before middle whole whole tag (front ++ inner) (written_none a before whole) whole_is (subst (λ n. Gathers a before b middle (varint_of n)) c.from.ensures c.in_ok-gather_varint.ensures.written.ok) in
    failed_with a (g.S.Sink.taken c.gather_varint-2.new.sink) before (gathered_in c.gather_varint-2.new.out) whole c.from_residual-in_err-gather_varint-2.result p.0 p.1
    (written_failed a b (g.S.Sink.taken c.gather_varint-2.new.sink) before middle whole (front ++ inner) front inner c.in_ok-gather_varint.ensures.sent.longer then refl
    (subst (λ n. TookPart b (g.S.Sink.taken c.gather_varint-2.new.sink) (middle ++ varint_of n)) len c.in_err-gather_varint-2.ensures.written.err))

pub write_list-returns-clause-written : goal.write_list-returns-clause-written
write_list-returns-clause-written g t c = λ held own stand short.
    let list = list_is c.args.types.now (g.M.Memory.places c.args.mem.now) (g.M.Memory.buffers c.args.mem.now) c.args.entry c.args.bytes.now c.args.packed c.requires.list held own stand in
    let there = elements_there (g.M.Memory.places c.args.mem.now) (slot_of (value_type_of c.args.entry.field.kind)) (length (values_in_list list.values)) (part c.args.entry.slot array_slot c.args.bytes.now) own list.holds c.list_at-count.result.0 c.list_at-count.result.1 c.list_at-count.ensures.place c.list_at-count.ensures.count c.if-count-eq0.false c.read-elements.result.now c.read-elements.ensures.value in
    let counted = count_same (g.M.Memory.places c.args.mem.now) (slot_of (value_type_of c.args.entry.field.kind)) (length (values_in_list list.values)) (part c.args.entry.slot array_slot c.args.bytes.now) own list.holds c.list_at-count.result.0 c.list_at-count.result.1 c.list_at-count.ensures.place c.list_at-count.ensures.count c.if-count-eq0.false in
    let text = ap (λ h. held_text c.args.types.now c.args.entry.field (held_map concat h)) list.is ∙ many_is c.args.types.now c.args.entry.field (values_map concat list.values) c.args.packed c.requires.list ∙ ap (many_text c.args.types.now c.args.entry.field (values_map concat list.values)) c.if-not-packed.false in
    let inner = values_text c.args.types.now c.args.entry.field [] (values_map concat list.values) in
    let small : length inner < 2 ^ 63 = omega (arith, short, ap (λ (l : List ℕ). length l) text, packed_longer c.args.entry.field.number inner) in
    let len = c.elements_size-len.ensures list.values there.behind there.stand (sym counted) small in
    let tag = varint_of (tag_of c.args.entry.field.number 2) in
    let front = varint_of (length inner) in
    let whole = held_text c.args.types.now c.args.entry.field (held_map concat held) in
    let whole_is : whole ≡ tag ++ (front ++ inner) = text ∙ packed_some c.args.entry.field.number inner (λ none. c.if-len-eq0.false (len ∙ none)) in
    let a = (g.S.Sink.taken c.args.sink.now) in let before = (gathered_in c.args.out.now) in
    let b = (g.S.Sink.taken c.gather_varint.new.sink) in let middle = (gathered_in c.gather_varint.new.out) in
    let d = (g.S.Sink.taken c.gather_varint-2.new.sink) in let after = (gathered_in c.gather_varint-2.new.out) in
    let then = written_more a a b before before middle whole whole tag (front ++ inner) (written_none a before whole) whole_is (subst (λ n. Gathers a before b middle (varint_of n)) c.from.ensures c.in_ok-gather_varint.ensures.written.ok) in
    let next = written_more a b d before middle after whole (front ++ inner) front inner then refl (subst (λ n. Gathers b middle d after (varint_of n)) len c.in_ok-gather_varint-2.ensures.written.ok) in
    written_last a d (g.S.Sink.taken c.write_elements-2.new.sink) before after (gathered_in c.write_elements-2.new.out) whole inner inner c.write_elements-2.result (KeepsTaken-trans a b d c.in_ok-gather_varint.ensures.sent.longer c.in_ok-gather_varint-2.ensures.sent.longer) next refl
    (c.write_elements-2.ensures.written list.values there.behind there.stand (sym counted) small)

-- A MESSAGE BEHIND ITS LENGTH

pub write_nested-returns-in-Ok-clause-written : goal.write_nested-returns-in-Ok-clause-written
write_nested-returns-in-Ok-clause-written g t c = λ u feet stand short.
    let whole = framed (message_text c.args.types.now (fields_of c.args.types.now c.args.msg.type_no) (tree_map concat u)) in
    let is = room_put (drop c.clear.new.self.at c.clear.new.self.bytes) (drop c.put_nested.new.target.at c.put_nested.new.target.bytes) whole c.clear.ensures (c.in-Ok.ensures u feet stand) short in
    writes_same (g.S.Sink.taken c.args.sink.now) (g.S.Sink.taken c.gather.new.sink) (gathered_in c.args.out.now) (gathered_in c.gather.new.out) c.text.result.now whole c.gather.result (c.text.ensures ∙ is) c.gather.ensures.written

pub write_nested-returns-in_err-gather_varint-clause-written : goal.write_nested-returns-in_err-gather_varint-clause-written
write_nested-returns-in_err-gather_varint-clause-written g t c = λ u feet stand short.
    let p = err_from_is_err_and c.from_residual.result c.from_residual.ensures.1 in
    let text = message_text c.args.types.now (fields_of c.args.types.now c.args.msg.type_no) (tree_map concat u) in
    let front = varint_of (length text) in
    let whole = framed text in
    let small : length text < 2 ^ 63 = omega (arith, short, length-append front text) in
    let len = c.message_size.ensures u feet stand small in
    let a = (g.S.Sink.taken c.args.sink.now) in let before = (gathered_in c.args.out.now) in
    failed_with a (g.S.Sink.taken c.gather_varint.new.sink) before (gathered_in c.gather_varint.new.out) whole c.from_residual.result p.0 p.1
    (written_failed a a (g.S.Sink.taken c.gather_varint.new.sink) before before whole whole front text (KeepsTaken-refl a) (written_none a before whole) refl
    (subst (λ n. TookPart a (g.S.Sink.taken c.gather_varint.new.sink) (before ++ varint_of n)) len c.in_err-gather_varint.ensures.written.err))

pub write_nested-write_text-requires : goal.write_nested-write_text-requires
write_nested-write_text-requires g t c κs within = (omega (arith, c.decreases), (within.0, (within.1.0, (within.1.1, c.requires))))

pub write_nested-returns-clause-written : goal.write_nested-returns-clause-written
write_nested-returns-clause-written g t c = λ u feet stand short.
    let text = message_text c.args.types.now (fields_of c.args.types.now c.args.msg.type_no) (tree_map concat u) in
    let front = varint_of (length text) in
    let whole = framed text in
    let small : length text < 2 ^ 63 = omega (arith, short, length-append front text) in
    let len = c.message_size.ensures u feet stand small in
    let a = (g.S.Sink.taken c.args.sink.now) in let before = (gathered_in c.args.out.now) in
    let b = (g.S.Sink.taken c.gather_varint.new.sink) in let middle = (gathered_in c.gather_varint.new.out) in
    let then = written_more a a b before before middle whole whole front text (written_none a before whole) refl (subst (λ n. Gathers a before b middle (varint_of n)) len c.in_ok-gather_varint.ensures.written.ok) in
    written_last a b (g.S.Sink.taken c.write_text.new.sink) before middle (gathered_in c.write_text.new.out) whole text text c.write_text.result c.in_ok-gather_varint.ensures.sent.longer then refl (c.write_text.ensures.written u feet stand small)

-- A FIELD OF ONE VALUE

pub write_single-returns-then-not-is_held-clause-written : goal.write_single-returns-then-not-is_held-clause-written
write_single-returns-then-not-is_held-clause-written g t c = λ held own stand short.
    let none = unset_nothing c.args.types.now c.schema-schema.ensures.lawful (g.M.Memory.places c.args.mem.now) (g.M.Memory.buffers c.args.mem.now) c.args.entry.field (told_in c.args.entry c.args.bytes.now) (slot_in c.args.entry c.args.bytes.now) own c.requires.single c.requires.within.untold held stand (sym c.is_held.ensures ∙ c.if-not-is_held.true) in
    writes_same (g.S.Sink.taken c.args.sink.now) (g.S.Sink.taken c.args.sink.now) (gathered_in c.args.out.now) (gathered_in c.args.out.now) [] (held_text c.args.types.now c.args.entry.field (held_map concat held)) (Ok tt) (sym (ap (λ h. held_text c.args.types.now c.args.entry.field (held_map concat h)) none)) (record { ok = writes_nothing (g.S.Sink.taken c.args.sink.now) (gathered_in c.args.out.now); err = tt })

pub write_single-returns-in_err-gather_tag-clause-written : goal.write_single-returns-in_err-gather_tag-clause-written
write_single-returns-in_err-gather_tag-clause-written g t c = λ held own stand short.
    let p = err_from_is_err_and c.from_residual.result c.from_residual.ensures.1 in
    let field = c.args.entry.field in
    let is = set_value c.args.types.now c.schema-schema.ensures.lawful (g.M.Memory.places c.args.mem.now) (g.M.Memory.buffers c.args.mem.now) field (told_in c.args.entry c.args.bytes.now) (slot_in c.args.entry c.args.bytes.now) own c.requires.single held stand (sym c.is_held.ensures ∙ c.if-not-is_held.false) in
    let size = single_slot field c.requires.single in
    let tag = field_tag field in
    let text = value_text c.args.types.now field (value_map concat is.value) in
    let whole = held_text c.args.types.now c.args.entry.field (held_map concat held) in
    let whole_is : whole ≡ tag ++ text = ap (λ h. held_text c.args.types.now field (held_map concat h)) is.is in
    let a = (g.S.Sink.taken c.args.sink.now) in let before = (gathered_in c.args.out.now) in
    failed_with a (g.S.Sink.taken c.gather_tag.new.sink) before (gathered_in c.gather_tag.new.out) whole c.from_residual.result p.0 p.1
    (written_failed a a (g.S.Sink.taken c.gather_tag.new.sink) before before whole whole tag text (KeepsTaken-refl a) (written_none a before whole) whole_is c.in_err-gather_tag.ensures.written.err)

pub write_single-write_value-requires : goal.write_single-write_value-requires
unfolding slot_in
write_single-write_value-requires g t c κs within =
    let stand = c.requires.stand in
    let field = c.args.entry.field in
    let is = set_value c.args.types.now c.schema-schema.ensures.lawful (g.M.Memory.places c.args.mem.now) (g.M.Memory.buffers c.args.mem.now) field (told_in c.args.entry c.args.bytes.now) (slot_in c.args.entry c.args.bytes.now) stand.1 c.requires.single stand.0 stand.2 (sym c.is_held.ensures ∙ c.if-not-is_held.false) in
    let size = single_slot field c.requires.single in
    let slot = c.requires.within.slot in let small = c.requires.within.small in let levels = stand.3 in
    (omega (arith, c.decreases), (within.0, (within.1.0, (within.1.1, (omega (arith, slot, size), (omega (arith, slot, small), (is.value, is.own, (subst (λ n. ValueStands c.args.types.now (g.M.Memory.places c.args.mem.now) (g.M.Memory.buffers c.args.mem.now) (value_type_of field.kind) (part c.args.entry.slot n c.args.bytes.now) is.value is.own) size is.stands), omega (arith, levels, ap held_levels is.is))))))))

pub write_single-returns-clause-written : goal.write_single-returns-clause-written
unfolding slot_in
write_single-returns-clause-written g t c = λ held own stand short.
    let field = c.args.entry.field in
    let is = set_value c.args.types.now c.schema-schema.ensures.lawful (g.M.Memory.places c.args.mem.now) (g.M.Memory.buffers c.args.mem.now) field (told_in c.args.entry c.args.bytes.now) (slot_in c.args.entry c.args.bytes.now) own c.requires.single held stand (sym c.is_held.ensures ∙ c.if-not-is_held.false) in
    let size = single_slot field c.requires.single in
    let tag = field_tag field in
    let text = value_text c.args.types.now field (value_map concat is.value) in
    let whole = held_text c.args.types.now c.args.entry.field (held_map concat held) in
    let whole_is : whole ≡ tag ++ text = ap (λ h. held_text c.args.types.now field (held_map concat h)) is.is in
    let a = (g.S.Sink.taken c.args.sink.now) in let before = (gathered_in c.args.out.now) in
    let b = (g.S.Sink.taken c.gather_tag.new.sink) in let middle = (gathered_in c.gather_tag.new.out) in
    let then = written_more a a b before before middle whole whole tag text (written_none a before whole) whole_is c.in_ok-gather_tag.ensures.written.ok in
    written_last a b (g.S.Sink.taken c.write_value.new.sink) before middle (gathered_in c.write_value.new.out) whole text text c.write_value.result c.in_ok-gather_tag.ensures.sent.longer then refl (c.write_value.ensures.written is.value is.own (subst (λ n. ValueStands c.args.types.now (g.M.Memory.places c.args.mem.now) (g.M.Memory.buffers c.args.mem.now) (value_type_of field.kind) (part c.args.entry.slot n c.args.bytes.now) is.value is.own) size is.stands) (omega (arith, short, ap (λ (l : List ℕ). length l) whole_is, length-append tag text)))

-- A MESSAGE

pub write_text-of_type-layout-requires : goal.write_text-of_type-layout-requires
write_text-of_type-layout-requires g t c = let r = c.requires in type_known c.args.types.now (g.M.Memory.places c.args.mem.now) (g.M.Memory.buffers c.args.mem.now) c.args.msg.type_no c.args.msg.place r.0 r.1 r.2

pub write_text-read-bytes-requires : goal.write_text-read-bytes-requires
write_text-read-bytes-requires g t c = let r = c.requires in record_live c.args.types.now (g.M.Memory.places c.args.mem.now) (g.M.Memory.buffers c.args.mem.now) c.args.msg.type_no c.args.msg.place r.0 r.1 r.2

pub write_text-write_fields-requires : goal.write_text-write_fields-requires
write_text-write_fields-requires g t c κs within =
    let r = c.requires in
    let o = opened c.args.types.now (g.M.Memory.places c.args.mem.now) (g.M.Memory.buffers c.args.mem.now) c.args.msg.type_no c.args.msg.place r.0 r.1 c.read-bytes.result.now r.2 c.read-bytes.ensures.value in
    let entries = c.entries.ensures ∙ ap (λ (l : Layout). l.entries) c.of_type-layout.ensures in
    let levels = o.levels in let deep = r.3 in
    (omega (arith, c.decreases), (within.0, (within.1.0, (within.1.1, (entries_at c.read-bytes.result.now (layout_of c.args.types.now c.args.msg.type_no).entries c.entries.result.now entries (entries_lie c.args.types.now c.schema-schema.ensures.lawful c.args.msg.type_no o.known c.read-bytes.result.now o.size), (o.held, o.rest, fields_at c.args.types.now (g.M.Memory.places c.args.mem.now) (g.M.Memory.buffers c.args.mem.now) c.read-bytes.result.now (layout_of c.args.types.now c.args.msg.type_no).entries c.entries.result.now o.held o.rest entries o.fields, omega (arith, levels, deep)))))))

pub write_text-returns-in_err-write_fields-clause-written : goal.write_text-returns-in_err-write_fields-clause-written
write_text-returns-in_err-write_fields-clause-written g t c = λ u feet stand short.
    let p = err_from_is_err_and c.from_residual.result c.from_residual.ensures.1 in
    let o = opened c.args.types.now (g.M.Memory.places c.args.mem.now) (g.M.Memory.buffers c.args.mem.now) c.args.msg.type_no c.args.msg.place u feet c.read-bytes.result.now stand c.read-bytes.ensures.value in
    let entries = c.entries.ensures ∙ ap (λ (l : Layout). l.entries) c.of_type-layout.ensures in
    let fields = fields_text c.args.types.now (fields_in c.entries.result.now) (fields_map concat o.held) in
    let pieces = concat o.pieces in
    let whole = message_text c.args.types.now (fields_of c.args.types.now c.args.msg.type_no) (tree_map concat u) in
    let whole_is : whole ≡ fields ++ pieces = o.text ∙ ap (λ es. fields_text c.args.types.now (fields_in es) (fields_map concat o.held) ++ concat o.pieces) (sym entries) in
    let small : length fields < 2 ^ 63 = omega (arith, short, ap (λ (l : List ℕ). length l) whole_is, length-append fields pieces) in
    let standing = fields_at c.args.types.now (g.M.Memory.places c.args.mem.now) (g.M.Memory.buffers c.args.mem.now) c.read-bytes.result.now (layout_of c.args.types.now c.args.msg.type_no).entries c.entries.result.now o.held o.rest entries o.fields in
    let a = (g.S.Sink.taken c.args.sink.now) in let before = (gathered_in c.args.out.now) in
    failed_with a (g.S.Sink.taken c.write_fields.new.sink) before (gathered_in c.write_fields.new.out) whole c.from_residual.result p.0 p.1
    (written_failed a a (g.S.Sink.taken c.write_fields.new.sink) before before whole whole fields pieces (KeepsTaken-refl a) (written_none a before whole) whole_is (c.in_err-write_fields.ensures.written o.held o.rest standing small).err)

pub write_text-write_pieces-requires-clause-within : goal.write_text-write_pieces-requires-clause-within
write_text-write_pieces-requires-clause-within g t c =
    let r = c.requires in
    let o = opened c.args.types.now (g.M.Memory.places c.args.mem.now) (g.M.Memory.buffers c.args.mem.now) c.args.msg.type_no c.args.msg.place r.0 r.1 c.read-bytes.result.now r.2 c.read-bytes.ensures.value in
    let size = o.size in
    let unknown = c.unknown.ensures ∙ ap (λ (l : Layout). l.unknown) c.of_type-layout.ensures in
    let sound = (sound_of c.args.types.now c.schema-schema.ensures.lawful c.args.msg.type_no o.known).unknown in
    omega (arith, size, unknown, sound)

pub write_text-write_pieces-requires-clause-stand : goal.write_text-write_pieces-requires-clause-stand
write_text-write_pieces-requires-clause-stand g t c =
    let r = c.requires in
    let o = opened c.args.types.now (g.M.Memory.places c.args.mem.now) (g.M.Memory.buffers c.args.mem.now) c.args.msg.type_no c.args.msg.place r.0 r.1 c.read-bytes.result.now r.2 c.read-bytes.ensures.value in
    let unknown = c.unknown.ensures ∙ ap (λ (l : Layout). l.unknown) c.of_type-layout.ensures in
    (o.pieces, o.own, pieces_at (g.M.Memory.places c.args.mem.now) (g.M.Memory.buffers c.args.mem.now) o.pieces o.own c.read-bytes.result.now (layout_of c.args.types.now c.args.msg.type_no).unknown c.unknown.result unknown o.unknown)

pub write_text-returns-clause-written : goal.write_text-returns-clause-written
write_text-returns-clause-written g t c = λ u feet stand short.
    let o = opened c.args.types.now (g.M.Memory.places c.args.mem.now) (g.M.Memory.buffers c.args.mem.now) c.args.msg.type_no c.args.msg.place u feet c.read-bytes.result.now stand c.read-bytes.ensures.value in
    let entries = c.entries.ensures ∙ ap (λ (l : Layout). l.entries) c.of_type-layout.ensures in
    let fields = fields_text c.args.types.now (fields_in c.entries.result.now) (fields_map concat o.held) in
    let pieces = concat o.pieces in
    let whole = message_text c.args.types.now (fields_of c.args.types.now c.args.msg.type_no) (tree_map concat u) in
    let whole_is : whole ≡ fields ++ pieces = o.text ∙ ap (λ es. fields_text c.args.types.now (fields_in es) (fields_map concat o.held) ++ concat o.pieces) (sym entries) in
    let small : length fields < 2 ^ 63 = omega (arith, short, ap (λ (l : List ℕ). length l) whole_is, length-append fields pieces) in
    let standing = fields_at c.args.types.now (g.M.Memory.places c.args.mem.now) (g.M.Memory.buffers c.args.mem.now) c.read-bytes.result.now (layout_of c.args.types.now c.args.msg.type_no).entries c.entries.result.now o.held o.rest entries o.fields in
    let a = (g.S.Sink.taken c.args.sink.now) in let before = (gathered_in c.args.out.now) in
    let unknown = c.unknown.ensures ∙ ap (λ (l : Layout). l.unknown) c.of_type-layout.ensures in
    let b = (g.S.Sink.taken c.write_fields.new.sink) in let middle = (gathered_in c.write_fields.new.out) in
    let then = written_more a a b before before middle whole whole fields pieces (written_none a before whole) whole_is (c.in_ok-write_fields.ensures.written o.held o.rest standing small).ok in
    written_last a b (g.S.Sink.taken c.write_pieces.new.sink) before middle (gathered_in c.write_pieces.new.out) whole pieces pieces c.write_pieces.result c.in_ok-write_fields.ensures.sent.longer then refl
    (c.write_pieces.ensures.written o.pieces o.own (pieces_at (g.M.Memory.places c.args.mem.now) (g.M.Memory.buffers c.args.mem.now) o.pieces o.own c.read-bytes.result.now (layout_of c.args.types.now c.args.msg.type_no).unknown c.unknown.result unknown o.unknown) (omega (arith, short, ap (λ (l : List ℕ). length l) whole_is, length-append fields pieces)))

-- A VALUE

pub write_value-overflow_sub-left : goal.write_value-overflow_sub-left
write_value-overflow_sub-left g t c =
    let stand = c.requires.stand in
    let m = message_value c.args.types.now (g.M.Memory.places c.args.mem.now) (g.M.Memory.buffers c.args.mem.now) c.args.field (part c.args.at (slot_of (value_type_of c.args.field.kind)) c.args.bytes.now) stand.0 stand.1 c.in-Message.type_no c.in-Message.is stand.2 in
    let levels = stand.3 in omega (arith, levels, ap value_levels m.is)

pub write_value-write_nested-requires : goal.write_value-write_nested-requires
write_value-write_nested-requires g t c κs within =
    let stand = c.requires.stand in
    let m = message_value c.args.types.now (g.M.Memory.places c.args.mem.now) (g.M.Memory.buffers c.args.mem.now) c.args.field (part c.args.at (slot_of (value_type_of c.args.field.kind)) c.args.bytes.now) stand.0 stand.1 c.in-Message.type_no c.in-Message.is stand.2 in
    let levels = stand.3 in let deep = ap value_levels m.is in
    (omega (arith, c.decreases), (within.0, (within.1.0, (within.1.1, (m.tree, stand.1, (subst (λ p. MessageStands c.args.types.now (g.M.Memory.places c.args.mem.now) (g.M.Memory.buffers c.args.mem.now) c.in-Message.type_no p m.tree stand.1) (message_place c.args.field c.in-Message.type_no c.in-Message.is c.args.at c.args.bytes.now ∙ sym c.link_at.ensures) m.stands), omega (arith, levels, deep))))))

pub write_value-bytes_in-requires-clause-holds : goal.write_value-bytes_in-requires-clause-holds
write_value-bytes_in-requires-clause-holds g t c =
    let stand = c.requires.stand in
    let type = bytes_type c.args.field.kind c.in-Text.is in
    let v = string_value c.args.types.now (g.M.Memory.places c.args.mem.now) (g.M.Memory.buffers c.args.mem.now) c.args.field (part c.args.at (slot_of (value_type_of c.args.field.kind)) c.args.bytes.now) stand.0 stand.1 type stand.2 in
    (v.bytes, stand.1, string_slot (g.M.Memory.places c.args.mem.now) (g.M.Memory.buffers c.args.mem.now) (value_type_of c.args.field.kind) c.args.at c.args.bytes.now c.slot_at.result.now v.bytes stand.1 type c.slot_at.ensures v.holds)

pub write_value-gather_number-requires : goal.write_value-gather_number-requires
write_value-gather_number-requires g t c =
    let stand = c.requires.stand in
    let type = number_type c.args.field.kind c.in_default.not-Text c.in_default.not-Message c.in_default.not-Bytes in
    let v = number_value c.args.types.now (g.M.Memory.places c.args.mem.now) (g.M.Memory.buffers c.args.mem.now) c.args.field (part c.args.at (slot_of (value_type_of c.args.field.kind)) c.args.bytes.now) stand.0 stand.1 type stand.2 in
    subst (IsPatternOf (value_type_of c.args.field.kind)) (sym c.number_at.ensures) v.pattern

pub write_value-returns-in-Message-clause-written : goal.write_value-returns-in-Message-clause-written
write_value-returns-in-Message-clause-written g t c = λ value own stand short.
    let m = message_value c.args.types.now (g.M.Memory.places c.args.mem.now) (g.M.Memory.buffers c.args.mem.now) c.args.field (part c.args.at (slot_of (value_type_of c.args.field.kind)) c.args.bytes.now) value own c.in-Message.type_no c.in-Message.is stand in
    writes_same (g.S.Sink.taken c.args.sink.now) (g.S.Sink.taken c.write_nested.new.sink) (gathered_in c.args.out.now) (gathered_in c.write_nested.new.out) (framed (message_text c.args.types.now (fields_of c.args.types.now c.in-Message.type_no) (tree_map concat m.tree))) (value_text c.args.types.now c.args.field (value_map concat value)) c.write_nested.result (sym m.text)
    (c.write_nested.ensures.written m.tree own (subst (λ p. MessageStands c.args.types.now (g.M.Memory.places c.args.mem.now) (g.M.Memory.buffers c.args.mem.now) c.in-Message.type_no p m.tree own) (message_place c.args.field c.in-Message.type_no c.in-Message.is c.args.at c.args.bytes.now ∙ sym c.link_at.ensures) m.stands) (subst (λ (l : List ℕ). length l < 2 ^ 63) m.text short))

pub write_value-returns-in-Text-clause-written : goal.write_value-returns-in-Text-clause-written
write_value-returns-in-Text-clause-written g t c = λ value own stand short.
    let type = bytes_type c.args.field.kind c.in-Text.is in
    let v = string_value c.args.types.now (g.M.Memory.places c.args.mem.now) (g.M.Memory.buffers c.args.mem.now) c.args.field (part c.args.at (slot_of (value_type_of c.args.field.kind)) c.args.bytes.now) value own type stand in
    let is = c.bytes_in.ensures v.bytes own (string_slot (g.M.Memory.places c.args.mem.now) (g.M.Memory.buffers c.args.mem.now) (value_type_of c.args.field.kind) c.args.at c.args.bytes.now c.slot_at.result.now v.bytes own type c.slot_at.ensures v.holds) in
    writes_same (g.S.Sink.taken c.args.sink.now) (g.S.Sink.taken c.gather_framed.new.sink) (gathered_in c.args.out.now) (gathered_in c.gather_framed.new.out) (framed c.bytes_in.result.now) (value_text c.args.types.now c.args.field (value_map concat value)) c.gather_framed.result (ap framed is ∙ sym v.text) c.gather_framed.ensures.written

pub write_value-returns-in_default-clause-written : goal.write_value-returns-in_default-clause-written
write_value-returns-in_default-clause-written g t c = λ value own stand short.
    let type = number_type c.args.field.kind c.in_default.not-Text c.in_default.not-Message c.in_default.not-Bytes in
    let v = number_value c.args.types.now (g.M.Memory.places c.args.mem.now) (g.M.Memory.buffers c.args.mem.now) c.args.field (part c.args.at (slot_of (value_type_of c.args.field.kind)) c.args.bytes.now) value own type stand in
    writes_same (g.S.Sink.taken c.args.sink.now) (g.S.Sink.taken c.gather_number.new.sink) (gathered_in c.args.out.now) (gathered_in c.gather_number.new.out) (spelled_text (value_type_of c.args.field.kind) c.number_at.result) (value_text c.args.types.now c.args.field (value_map concat value)) c.gather_number.result (ap (spelled_text (value_type_of c.args.field.kind)) c.number_at.ensures ∙ sym v.text) c.gather_number.ensures.written
