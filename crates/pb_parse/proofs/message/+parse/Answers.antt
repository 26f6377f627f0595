use Rattle.std.proofs.Common.{◌≡◌, ◌+◌, ◌-◌, ◌*◌, ◌≤◌, ◌<◌, List, [], length, drop, take, refl, sym, ap, ◌∙◌, subst, arith, length-take-le}
use Rattle.std.specs.Prelude.{IfOk, IfErr, IsOk, IsErr}
use Rattle.pb_schema.specs.declared.kind.FieldType.{FieldType}
use Rattle.pb_schema.specs.Fits.{fields_of}
use Rattle.pb_schema.specs.Kinds.{value_type_of}
use Rattle.pb_schema.specs.Records.{Record, Records}
use Rattle.pb_schema.specs.Tree.{Shape}
use Rattle.pb_wire.specs.declared.wire_record.WireRecord.{WireRecord}
use Rattle.dyn_message.specs.Feet.{Foot}
use Rattle.dyn_message.specs.Stands.{Stands}
use Rattle.dyn_message.specs.Changes.{Changes, NowStands}
use Rattle.dyn_message.proofs.Opening.{some_record}
use Rattle.pb_parse.specs.Costs.{rest_cost, taken_cost}
use Rattle.pb_parse.specs.Parsing.{CostsTaken, IsCause, IsFor, pending}
use Rattle.pb_parse.specs.Reading.{contents_read, finished, record_at, walked, with_taken}
use Rattle.pb_parse.proofs.ContentsRead.{ok_is, err_is, payload_front, sub_too_deep}
use Rattle.pb_parse.proofs.CostCame.{all_counts, found_counts, found_other}
use Rattle.pb_parse.proofs.CostNested.{element_spends, sub_spends}
use Rattle.pb_parse.proofs.Memories.{all_entries, then_within, within_more, record_changes, stays}
use Rattle.pb_parse.proofs.Nested.{all_ok, if_ok, if_err, same_both, same_cause, nested_type, sound_inside, broken_inside, made_type, sub_put, appended_type, element_in, nested_changes}
use Rattle.pb_parse.proofs.RecordCame.{found_at, none_at, found_is_for, found_walk, found_broken, found_goes, other_walk, other_stays, other_piece, came_more, came_all}
use Rattle.pb_parse.proofs.RecordSteps.{walk_end}
use Rattle.pb_parse.proofs.Runs.{all_left, more_left}
use Rattle.pb_parse.proofs.Spending.{nothing_spent, spends_by}
use Rattle.pb_parse.proofs.message.+parse.Goals as goal

-- MESSAGES

pub parse_message-loop-at-preserved : goal.parse_message-loop-at-preserved
parse_message-loop-at-preserved g t c =
    let M = g.M.Memory in
    let schema = c.args.types.now in
    let inv = c.loop-at.invariant in
    let first = c.requires.message in
    let p = inv.came first.0 first.1 first.2 in
    let d = c.in-Ok.ensures.came p.shape p.stands.now p.stands.stands in
    let bound = c.in-Ok.ensures.bound in
    record {
      message = (d.shape, d.stands.now, d.stands.stands);
      from = omega (arith, inv.from, bound.0);
      lies = c.in-Ok.ensures.lies;
      whole = c.in-Ok.ensures.whole;
      walk = inv.walk ∙ c.in-Ok.ensures.walk;
      came = λ u feet st.
          let q = inv.came u feet st in
          came_more schema c.args.left (M.places c.args.mem.now) (M.places c.loop-at.mem) (M.places c.parse_record.new.mem) (M.buffers c.args.mem.now) (M.buffers c.loop-at.mem) (M.buffers c.parse_record.new.mem) c.args.msg c.args.bytes.now c.args.start c.loop-at.at c.in-Ok.next
          [] _ _ u feet (inv.changes u feet st).still_there q (c.in-Ok.ensures.came q.shape q.stands.now q.stands.stands) c.in-Ok.ensures.walk;
      changes = λ u feet st.
          let q = inv.came u feet st in
          then_within M.key M.places M.buffers M.blocks (4 * (c.loop-at.at - c.args.start)) (4 * (c.in-Ok.next - c.loop-at.at)) (4 * (c.loop-at.at - c.args.start)) (4 * (c.in-Ok.next - c.loop-at.at)) (4 * (c.in-Ok.next - c.args.start)) (4 * (c.in-Ok.next - c.args.start))
          feet q.stands.now c.args.mem.now c.loop-at.mem c.parse_record.new.mem (inv.changes u feet st) q.stands.from (c.in-Ok.ensures.few q.shape q.stands.now q.stands.stands)
          (omega (arith, inv.from, bound.0)) (omega (arith, inv.from, bound.0));
    }

pub parse_message-short_number-requires-clause-known : goal.parse_message-short_number-requires-clause-known
parse_message-short_number-requires-clause-known g t c =
    let M = g.M.Memory in
    (some_record c.args.types.now (M.places c.loop-at.mem) (M.buffers c.loop-at.mem) c.args.msg c.loop-at.invariant.message).type

pub parse_message-loop-at-preserved-in-Some : goal.parse_message-loop-at-preserved-in-Some
parse_message-loop-at-preserved-in-Some g t c =
    let M = g.M.Memory in
    let schema = c.args.types.now in
    let inv = c.loop-at.invariant in
    let first = c.requires.message in
    let p = inv.came first.0 first.1 first.2 in
    let short = c.in-Some.short in
    let s = c.in-Some.ensures in
    let d = c.set_short.ensures.came c.args.left (pending c.loop-at.unknown c.args.bytes.now) p.shape p.stands.now p.stands.stands in
    let after : c.loop-at.at < short.end = omega (arith, s.tag, s.some) in
    record {
      message = (d.shape, d.stands.now, d.stands.stands);
      from = omega (arith, inv.from, after);
      lies = record { ordered = inv.lies.ordered; before = omega (arith, inv.lies.before, after); within = s.within; few = omega (arith, inv.lies.few, after) };
      whole = inv.whole;
      walk = inv.walk ∙ c.set_short.ensures.walk c.args.left;
      came = λ u feet st.
          let q = inv.came u feet st in
          came_more schema c.args.left (M.places c.args.mem.now) (M.places c.loop-at.mem) (M.places c.set_short.new.mem) (M.buffers c.args.mem.now) (M.buffers c.loop-at.mem) (M.buffers c.set_short.new.mem) c.args.msg c.args.bytes.now c.args.start c.loop-at.at short.end
          [] _ _ u feet (inv.changes u feet st).still_there q (c.set_short.ensures.came c.args.left (pending c.loop-at.unknown c.args.bytes.now) q.shape q.stands.now q.stands.stands) (c.set_short.ensures.walk c.args.left);
      changes = λ u feet st.
          let q = inv.came u feet st in
          then_within M.key M.places M.buffers M.blocks (4 * (c.loop-at.at - c.args.start)) 0 (4 * (c.loop-at.at - c.args.start)) 0 (4 * (short.end - c.args.start)) (4 * (short.end - c.args.start))
          feet q.stands.now c.args.mem.now c.loop-at.mem c.set_short.new.mem (inv.changes u feet st) q.stands.from
          (record_changes M.key M.places M.buffers M.blocks 0 0 0 0 schema c.args.msg q.shape q.stands.now c.loop-at.mem c.set_short.new.mem q.stands.stands c.set_short.ensures.changes (omega arith) (omega arith))
          (omega (arith, inv.from, after)) (omega (arith, inv.from, after));
    }

pub parse_message-returns-in-Ok-append_pending-clause-stands : goal.parse_message-returns-in-Ok-append_pending-clause-stands
parse_message-returns-in-Ok-append_pending-clause-stands g t c = λ u feet st.
    let M = g.M.Memory in
    let inv = c.loop-at.invariant in
    let q = inv.came u feet st in
    came_all c.args.types.now c.args.left (M.places c.args.mem.now) (M.places c.loop-at.mem) (M.places c.append_pending.new.mem) (M.buffers c.args.mem.now) (M.buffers c.loop-at.mem) (M.buffers c.append_pending.new.mem) c.args.msg c.args.bytes.now c.args.start c.loop-at.at
    _ u feet (inv.changes u feet st).still_there (all_left c.loop-at.at c.args.bytes.now (omega (arith, c.loop-at-test.false))) q
    (c.in-Ok-append_pending.ensures.appended q.shape q.stands.now q.stands.stands)

pub parse_message-returns-in-Ok-append_pending-clause-sound : goal.parse_message-returns-in-Ok-append_pending-clause-sound
parse_message-returns-in-Ok-append_pending-clause-sound g t c =
    let fields = fields_of c.args.types.now c.args.msg.type_no in
    let none = all_left c.loop-at.at c.args.bytes.now (omega (arith, c.loop-at-test.false)) in
    ok_is _ (c.loop-at.at, c.loop-at.at)
    (c.loop-at.invariant.walk ∙ (ap (walked c.args.types.now c.args.left fields c.loop-at.at) none ∙ walk_end c.args.types.now c.args.left fields c.loop-at.at))

pub parse_message-returns-in-Ok-append_pending-clause-costs : goal.parse_message-returns-in-Ok-append_pending-clause-costs
parse_message-returns-in-Ok-append_pending-clause-costs g t c = λ u feet st.
    let M = g.M.Memory in
    let q = c.loop-at.invariant.came u feet st in
    all_counts c.args.types.now c.args.left (M.places c.args.mem.now) (M.places c.loop-at.mem) (M.places c.append_pending.new.mem) (M.buffers c.args.mem.now) (M.buffers c.loop-at.mem) (M.buffers c.append_pending.new.mem) c.args.msg c.args.bytes.now c.args.start c.loop-at.at
    (pending c.loop-at.unknown c.args.bytes.now) u feet (all_left c.loop-at.at c.args.bytes.now (omega (arith, c.loop-at-test.false))) q
    (c.in-Ok-append_pending.ensures.costs q.shape q.stands.now q.stands.stands)

-- RECORDS

pub parse_record-returns-in_default-clause-stopped : goal.parse_record-returns-in_default-clause-stopped
parse_record-returns-in_default-clause-stopped g t c =
    none_at c.args.types.now c.args.left c.args.at c.args.bytes.now c.args.msg.type_no c.in_default.field-0 c.requires.left c.requires.at c.in_default.ensures.exact

pub parse_record-field_for-requires : goal.parse_record-field_for-requires
parse_record-field_for-requires g t c =
    let M = g.M.Memory in
    (some_record c.args.types.now (M.places c.args.mem.now) (M.buffers c.args.mem.now) c.args.msg c.requires.message).type

pub parse_record-parse_taken-requires : goal.parse_record-parse_taken-requires
parse_record-parse_taken-requires g t c κs within =
    let schema = c.args.types.now in
    let bytes = c.args.bytes.now in
    let found = c.in-Ok.found in
    let f = found_at c.args.left c.args.at bytes found c.requires.left c.in-Ok.ensures.exact in
    let own = c.in-Some.ensures (record_at found bytes) refl refl in
    let is : IsFor schema c.args.msg.type_no bytes found c.in-Some.field = found_is_for schema c.args.left c.args.msg.type_no c.args.at bytes found f c.in-Some.field own.0 own.1 c.in-Ok.ensures.bound.2 in
    (omega arith, (within.0, (within.1, (c.requires.message, (is, (c.requires.short, c.requires.left))))))

pub parse_record-returns-in-Ok-parse_taken-clause-walk : goal.parse_record-returns-in-Ok-parse_taken-clause-walk
parse_record-returns-in-Ok-parse_taken-clause-walk g t c =
    let bytes = c.args.bytes.now in
    let found = c.in-Ok.found in
    let f = found_at c.args.left c.args.at bytes found c.requires.left c.in-Ok.ensures.exact in
    let own = c.in-Some.ensures (record_at found bytes) refl refl in
    found_walk c.args.types.now c.args.left c.args.msg.type_no c.args.at bytes found f c.in-Some.field own.0 own.1 c.in-Ok-parse_taken.ensures.sound

pub parse_record-returns-in-Ok-parse_taken-clause-came : goal.parse_record-returns-in-Ok-parse_taken-clause-came
parse_record-returns-in-Ok-parse_taken-clause-came g t c = λ u feet st.
    let M = g.M.Memory in
    let schema = c.args.types.now in
    let type_no = c.args.msg.type_no in
    let bytes = c.args.bytes.now in
    let found = c.in-Ok.found in
    let f = found_at c.args.left c.args.at bytes found c.requires.left c.in-Ok.ensures.exact in
    let own = c.in-Some.ensures (record_at found bytes) refl refl in
    record {
      shape = with_taken c.args.types.now c.args.left c.args.msg.type_no c.in-Some.field (record_at found bytes) u;
      stands = c.in-Ok-parse_taken.ensures.put u feet st;
      goes = λ stop ok. found_goes c.args.types.now c.args.left c.args.msg.type_no c.args.at bytes found f c.schema-schema.ensures.lawful c.in-Some.field own.0 u (pending c.args.unknown.now bytes) stop own.1 c.in-Ok-parse_taken.ensures.sound ok;
      costs = λ stop ok.
          spends_by schema (M.places c.args.mem.now) (M.places c.parse_taken.new.mem) (M.buffers c.args.mem.now) (M.buffers c.parse_taken.new.mem)
          (λ meter. taken_cost meter schema c.args.left type_no c.in-Some.field (record_at found bytes) u)
          (λ meter. rest_cost meter schema c.args.left type_no u (pending c.args.unknown.now bytes) (drop c.args.at bytes))
          (λ meter. rest_cost meter schema c.args.left type_no (with_taken schema c.args.left type_no c.in-Some.field (record_at found bytes) u) (pending c.args.unknown.now bytes) (drop found.end bytes))
          (c.in-Ok-parse_taken.ensures.costs u feet st)
          (λ meter grows. found_counts meter grows schema c.args.left type_no c.args.at bytes found f c.schema-schema.ensures.lawful c.in-Some.field own.0 u (pending c.args.unknown.now bytes) stop
          (all_entries schema (M.places c.args.mem.now) (M.buffers c.args.mem.now) c.args.msg u feet st) own.1 c.in-Ok-parse_taken.ensures.sound ok);
    }

pub parse_record-returns-in-Err-clause-stopped : goal.parse_record-returns-in-Err-clause-stopped
parse_record-returns-in-Err-clause-stopped g t c =
    let M = g.M.Memory in
    let bytes = c.args.bytes.now in
    let found = c.in-Ok.found in
    let f = found_at c.args.left c.args.at bytes found c.requires.left c.in-Ok.ensures.exact in
    let own = c.in-Some.ensures (record_at found bytes) refl refl in
    same_cause (M.blocks c.parse_taken.new.mem) _ _
    (found_broken c.args.types.now c.args.left c.args.msg.type_no c.args.at bytes found f c.in-Some.field own.0 own.1 (more_left c.args.at bytes c.requires.at))
    c.in-Err.halt c.in-Err.ensures.stopped

pub parse_record-returns-in-Ok-add-clause-walk : goal.parse_record-returns-in-Ok-add-clause-walk
parse_record-returns-in-Ok-add-clause-walk g t c =
    let bytes = c.args.bytes.now in
    let found = c.in-Ok.found in
    let f = found_at c.args.left c.args.at bytes found c.requires.left c.in-Ok.ensures.exact in
    other_walk c.args.types.now c.args.left c.args.msg.type_no c.args.at bytes found f (c.in-None.ensures (record_at found bytes) refl refl)

pub parse_record-returns-in-Ok-add-clause-came : goal.parse_record-returns-in-Ok-add-clause-came
parse_record-returns-in-Ok-add-clause-came g t c = λ u feet st.
    let M = g.M.Memory in
    let schema = c.args.types.now in
    let bytes = c.args.bytes.now in
    let found = c.in-Ok.found in
    let f = found_at c.args.left c.args.at bytes found c.requires.left c.in-Ok.ensures.exact in
    record {
      shape = u;
      stands = stays schema (M.places c.args.mem.now) (M.buffers c.args.mem.now) c.args.msg u feet st;
      goes = λ stop ok.
          other_stays schema c.args.left c.args.msg.type_no c.args.at bytes found f u (pending c.args.unknown.now bytes) stop (c.in-None.ensures (record_at found bytes) refl refl) ok
          ∙ ap (λ s. finished schema c.args.left (fields_of schema c.args.msg.type_no) u s (drop found.end bytes)) (sym c.in-Ok-add.ensures.added);
      costs = λ stop ok.
          nothing_spent schema (M.places c.args.mem.now) (M.buffers c.args.mem.now)
          (λ meter. rest_cost meter schema c.args.left c.args.msg.type_no u (pending c.args.unknown.now bytes) (drop c.args.at bytes))
          (λ meter. rest_cost meter schema c.args.left c.args.msg.type_no u (pending c.add.new.self bytes) (drop found.end bytes))
          (λ meter grows. found_other meter grows schema c.args.left c.args.msg.type_no c.args.at bytes found f u (pending c.args.unknown.now bytes) stop (c.in-None.ensures (record_at found bytes) refl refl) ok
          ∙ ap (λ s. rest_cost meter schema c.args.left c.args.msg.type_no u s (drop found.end bytes)) (sym c.in-Ok-add.ensures.added));
    }

pub parse_record-returns-in-Ok-add-clause-whole : goal.parse_record-returns-in-Ok-add-clause-whole
parse_record-returns-in-Ok-add-clause-whole g t c =
    let bytes = c.args.bytes.now in
    let found = c.in-Ok.found in
    let f = found_at c.args.left c.args.at bytes found c.requires.left c.in-Ok.ensures.exact in
    subst (λ s. (rs : List Record) × Records s rs) (sym c.in-Ok-add.ensures.added)
    (other_piece c.args.types.now c.args.left c.args.msg.type_no c.args.at bytes found f (pending c.args.unknown.now bytes) c.requires.whole)

-- A MESSAGE IN A FIELD

pub parse_sub-returns-then-left-eq0-clause-stopped : goal.parse_sub-returns-then-left-eq0-clause-stopped
parse_sub-returns-then-left-eq0-clause-stopped g t c =
    let n = nested_type (value_type_of c.args.field.kind) c.requires.kind in
    err_is _ _ (ap (λ left. contents_read c.args.types.now left c.args.field c.args.found c.args.bytes.now) c.if-left-eq0.true ∙ sub_too_deep c.args.types.now c.args.field c.args.found c.args.bytes.now n.0 n.1)

pub parse_sub-returns-clause-put : goal.parse_sub-returns-clause-put
parse_sub-returns-clause-put g t c =
    let M = g.M.Memory in
    if_ok _ _ c.parse_message.result
    (λ _ read. λ u feet st.
    let made = c.in-Ok.ensures.made u feet st in
    sub_put c.args.types.now (M.places c.args.mem.now) (M.places c.make_sub.new.mem) (M.buffers c.args.mem.now) (M.buffers c.make_sub.new.mem) c.args.msg u feet st c.args.field c.requires.taken.known c.in-Ok.child
    c.args.left c.args.found c.args.bytes.now _ (M.places c.parse_message.new.mem) (M.buffers c.parse_message.new.mem) c.if-left-eq0.false c.requires.single (payload_front c.args.found c.args.bytes.now c.requires.taken.payload)
    c.make_sub.ensures.changes.still_there made
    (read made.has.tree made.has.own made.has.stands) (c.parse_message.ensures.changes made.has.tree made.has.own made.has.stands).others)
    c.parse_message.ensures.stands

pub parse_sub-returns-clause-sound : goal.parse_sub-returns-clause-sound
parse_sub-returns-clause-sound g t c =
    let M = g.M.Memory in
    let first = c.requires.message in
    let type = made_type c.args.types.now (M.places c.args.mem.now) (M.places c.make_sub.new.mem) (M.buffers c.args.mem.now) (M.buffers c.make_sub.new.mem) c.args.msg first.0 first.1 first.2 c.args.field c.requires.taken.known c.in-Ok.child c.requires.single (c.in-Ok.ensures.made first.0 first.1 first.2) in
    if_ok _ _ c.parse_message.result
    (λ _ sound. sound_inside c.args.types.now c.args.left c.args.field c.args.found c.args.bytes.now c.in-Ok.child.type_no type c.if-left-eq0.false _ (payload_front c.args.found c.args.bytes.now c.requires.taken.payload) sound)
    c.parse_message.ensures.sound

pub parse_sub-returns-clause-stopped : goal.parse_sub-returns-clause-stopped
parse_sub-returns-clause-stopped g t c =
    let M = g.M.Memory in
    let first = c.requires.message in
    let type = made_type c.args.types.now (M.places c.args.mem.now) (M.places c.make_sub.new.mem) (M.buffers c.args.mem.now) (M.buffers c.make_sub.new.mem) c.args.msg first.0 first.1 first.2 c.args.field c.requires.taken.known c.in-Ok.child c.requires.single (c.in-Ok.ensures.made first.0 first.1 first.2) in
    if_err _ _ c.parse_message.result
    (same_cause (M.blocks c.parse_message.new.mem) _ _
    (broken_inside c.args.types.now c.args.left c.args.field c.args.found c.args.bytes.now c.in-Ok.child.type_no type c.if-left-eq0.false _ (payload_front c.args.found c.args.bytes.now c.requires.taken.payload)))
    c.parse_message.ensures.stopped

pub parse_sub-returns-clause-changes : goal.parse_sub-returns-clause-changes
parse_sub-returns-clause-changes g t c = λ u feet st.
    let M = g.M.Memory in
    let made = c.in-Ok.ensures.made u feet st in
    let len : length (take c.args.found.end c.args.bytes.now) - c.args.found.payload ≡ c.args.found.payload_len = omega (arith, length-take-le c.args.found.end c.args.bytes.now c.requires.taken.within, c.requires.taken.payload) in
    nested_changes M.key M.places M.buffers M.blocks 1 0 c.args.found.payload_len feet made.parent.now made.has.own c.args.mem.now c.make_sub.new.mem c.parse_message.new.mem
    (record_changes M.key M.places M.buffers M.blocks 1 1 0 0 c.args.types.now c.args.msg u feet c.args.mem.now c.make_sub.new.mem st c.make_sub.ensures.changes (omega arith) (omega arith)) made.parent.from made.has.within
    (subst (λ n. Changes M.key M.places M.buffers M.blocks (4 * n + 2) (4 * n + 2) made.has.own c.make_sub.new.mem c.parse_message.new.mem) len (c.parse_message.ensures.changes made.has.tree made.has.own made.has.stands))
    (omega arith) (omega arith)

pub parse_sub-returns-clause-costs : goal.parse_sub-returns-clause-costs
parse_sub-returns-clause-costs g t c =
    let M = g.M.Memory in
    if_ok _ _ c.parse_message.result
    (λ _ read. λ u feet st.
    let made = c.in-Ok.ensures.made u feet st in
    sub_spends c.args.types.now (M.places c.args.mem.now) (M.places c.make_sub.new.mem) (M.buffers c.args.mem.now) (M.buffers c.make_sub.new.mem) c.args.msg u feet st c.args.field c.requires.taken.known c.in-Ok.child
    c.args.left c.args.found c.args.bytes.now (drop c.args.found.payload (take c.args.found.end c.args.bytes.now)) (M.places c.parse_message.new.mem) (M.buffers c.parse_message.new.mem) c.if-left-eq0.false (payload_front c.args.found c.args.bytes.now c.requires.taken.payload)
    c.schema-schema.ensures.lawful c.requires.single made (c.in-Ok.ensures.space u feet st) c.make_sub.ensures.buffers
    (read made.has.tree made.has.own made.has.stands))
    c.parse_message.ensures.costs

-- A MESSAGE IN A LIST

pub parse_element-returns-then-left-eq0-clause-stopped : goal.parse_element-returns-then-left-eq0-clause-stopped
parse_element-returns-then-left-eq0-clause-stopped g t c =
    let n = nested_type (value_type_of c.args.field.kind) c.requires.kind in
    err_is _ _ (ap (λ left. contents_read c.args.types.now left c.args.field c.args.found c.args.bytes.now) c.if-left-eq0.true ∙ sub_too_deep c.args.types.now c.args.field c.args.found c.args.bytes.now n.0 n.1)

pub parse_element-returns-clause-put : goal.parse_element-returns-clause-put
parse_element-returns-clause-put g t c =
    let M = g.M.Memory in
    if_ok _ _ c.parse_message.result
    (λ _ read. λ u feet st.
    let made = c.in-Ok.ensures.appended u feet st in
    element_in c.args.types.now (M.places c.args.mem.now) (M.places c.append_sub.new.mem) (M.buffers c.args.mem.now) (M.buffers c.append_sub.new.mem) c.args.msg u feet st c.args.field c.requires.taken.known c.in-Ok.child
    c.args.left c.args.found c.args.bytes.now _ (M.places c.parse_message.new.mem) (M.buffers c.parse_message.new.mem) c.if-left-eq0.false c.requires.list (payload_front c.args.found c.args.bytes.now c.requires.taken.payload)
    (c.append_sub.ensures.changes u feet st).still_there made
    (read made.has.tree made.has.own made.has.stands) (c.parse_message.ensures.changes made.has.tree made.has.own made.has.stands).others)
    c.parse_message.ensures.stands

pub parse_element-returns-clause-sound : goal.parse_element-returns-clause-sound
parse_element-returns-clause-sound g t c =
    let M = g.M.Memory in
    let first = c.requires.message in
    let type = appended_type c.args.types.now (M.places c.args.mem.now) (M.places c.append_sub.new.mem) (M.buffers c.args.mem.now) (M.buffers c.append_sub.new.mem) c.args.msg first.0 first.1 first.2 c.args.field c.requires.taken.known c.in-Ok.child c.requires.list (c.in-Ok.ensures.appended first.0 first.1 first.2) in
    if_ok _ _ c.parse_message.result
    (λ _ sound. sound_inside c.args.types.now c.args.left c.args.field c.args.found c.args.bytes.now c.in-Ok.child.type_no type c.if-left-eq0.false _ (payload_front c.args.found c.args.bytes.now c.requires.taken.payload) sound)
    c.parse_message.ensures.sound

pub parse_element-returns-clause-stopped : goal.parse_element-returns-clause-stopped
parse_element-returns-clause-stopped g t c =
    let M = g.M.Memory in
    let first = c.requires.message in
    let type = appended_type c.args.types.now (M.places c.args.mem.now) (M.places c.append_sub.new.mem) (M.buffers c.args.mem.now) (M.buffers c.append_sub.new.mem) c.args.msg first.0 first.1 first.2 c.args.field c.requires.taken.known c.in-Ok.child c.requires.list (c.in-Ok.ensures.appended first.0 first.1 first.2) in
    if_err _ _ c.parse_message.result
    (same_cause (M.blocks c.parse_message.new.mem) _ _
    (broken_inside c.args.types.now c.args.left c.args.field c.args.found c.args.bytes.now c.in-Ok.child.type_no type c.if-left-eq0.false _ (payload_front c.args.found c.args.bytes.now c.requires.taken.payload)))
    c.parse_message.ensures.stopped

pub parse_element-returns-clause-changes : goal.parse_element-returns-clause-changes
parse_element-returns-clause-changes g t c = λ u feet st.
    let M = g.M.Memory in
    let made = c.in-Ok.ensures.appended u feet st in
    let len : length (take c.args.found.end c.args.bytes.now) - c.args.found.payload ≡ c.args.found.payload_len = omega (arith, length-take-le c.args.found.end c.args.bytes.now c.requires.taken.within, c.requires.taken.payload) in
    nested_changes M.key M.places M.buffers M.blocks 2 0 c.args.found.payload_len feet made.parent.now made.has.own c.args.mem.now c.append_sub.new.mem c.parse_message.new.mem
    (c.append_sub.ensures.changes u feet st) made.parent.from made.has.within
    (subst (λ n. Changes M.key M.places M.buffers M.blocks (4 * n + 2) (4 * n + 2) made.has.own c.append_sub.new.mem c.parse_message.new.mem) len (c.parse_message.ensures.changes made.has.tree made.has.own made.has.stands))
    (omega arith) (omega arith)

pub parse_element-returns-clause-costs : goal.parse_element-returns-clause-costs
parse_element-returns-clause-costs g t c =
    let M = g.M.Memory in
    if_ok _ _ c.parse_message.result
    (λ _ read. λ u feet st.
    let made = c.in-Ok.ensures.appended u feet st in
    element_spends c.args.types.now (M.places c.args.mem.now) (M.places c.append_sub.new.mem) (M.buffers c.args.mem.now) (M.buffers c.append_sub.new.mem) c.args.msg u feet st c.args.field c.requires.taken.known c.in-Ok.child
    c.args.left c.args.found c.args.bytes.now (drop c.args.found.payload (take c.args.found.end c.args.bytes.now)) (M.places c.parse_message.new.mem) (M.buffers c.parse_message.new.mem) c.if-left-eq0.false (payload_front c.args.found c.args.bytes.now c.requires.taken.payload)
    c.requires.list made (c.in-Ok.ensures.space u feet st) c.append_sub.ensures.buffers
    (read made.has.tree made.has.own made.has.stands))
    c.parse_message.ensures.costs

-- A RECORD OF A FIELD

pub parse_taken-returns-in-Text-2-clause-changes : goal.parse_taken-returns-in-Text-2-clause-changes
parse_taken-returns-in-Text-2-clause-changes g t c = λ u feet st.
    let M = g.M.Memory in
    let some : 1 ≤ 4 * (c.args.found.end - c.args.found.start) = omega (arith, c.requires.taken.tag, c.requires.taken.payload) in
    record_changes M.key M.places M.buffers M.blocks 1 (4 * (c.args.found.end - c.args.found.start)) 1 (4 * (c.args.found.end - c.args.found.start)) c.args.types.now c.args.msg u feet c.args.mem.now c.set_string.new.mem st c.set_string.ensures.changes some some

pub parse_taken-returns-in_default-3 : goal.parse_taken-returns-in_default-3
parse_taken-returns-in_default-3 g t c =
    let M = g.M.Memory in
    record {
      put = c.set_number.ensures.put c.args.left;
      sound = c.set_number.ensures.sound c.args.left;
      stopped = tt;
      costs = λ u feet st. c.set_number.ensures.costs c.args.left u;
      changes = λ u feet st.
          record_changes M.key M.places M.buffers M.blocks 0 (4 * (c.args.found.end - c.args.found.start)) 0 (4 * (c.args.found.end - c.args.found.start)) c.args.types.now c.args.msg u feet c.args.mem.now c.set_number.new.mem st c.set_number.ensures.changes (omega arith) (omega arith);
    }

pub parse_taken-returns-in-Text-clause-costs : goal.parse_taken-returns-in-Text-clause-costs
parse_taken-returns-in-Text-clause-costs g t c = if_ok _ _ c.append_string.result (λ _ h. h c.args.left) c.append_string.ensures.costs

pub parse_taken-returns-in_default : goal.parse_taken-returns-in_default
parse_taken-returns-in_default g t c =
    let M = g.M.Memory in
    let schema = c.args.types.now in
    let left = c.args.left in
    let msg = c.args.msg in
    let bytes = c.args.bytes.now in
    let p0 = M.places c.args.mem.now in
    let b0 = M.buffers c.args.mem.now in
    let p1 = M.places c.append_packed.new.mem in
    let b1 = M.buffers c.append_packed.new.mem in
    let told = c.append_packed.ensures in
    let result = c.append_packed.result in
    let one = c.copy_record-own.result in
    let its = c.copy_field-its.result in
    let same_one = c.copy_record-own.ensures in
    let same_its = c.copy_field-its.ensures in
    record {
      put = same_both (λ (w : WireRecord) (f : FieldType). IfOk result (λ _. (u : Shape) (feet : List Foot) → Stands schema p0 b0 msg u feet → NowStands schema p0 b0 p1 b1 msg (with_taken schema left msg.type_no f (record_at w bytes) u) feet))
          one c.args.found its c.args.field same_one same_its (if_ok _ _ result (λ _ h. h left) told.put);
      sound = same_both (λ (w : WireRecord) (f : FieldType). IfOk result (λ _. IsOk (contents_read schema left f w bytes))) one c.args.found its c.args.field same_one same_its (if_ok _ _ result (λ _ h. h left) told.sound);
      stopped = same_both (λ (w : WireRecord) (f : FieldType). IfErr result (IsCause (M.blocks c.append_packed.new.mem) (IsErr (contents_read schema left f w bytes)))) one c.args.found its c.args.field same_one same_its
          (if_err _ _ result (same_cause (M.blocks c.append_packed.new.mem) _ _ (λ h. h left)) told.stopped);
      costs = same_both (λ (w : WireRecord) (f : FieldType). IfOk result (λ _. (u : Shape) (feet : List Foot) → Stands schema p0 b0 msg u feet → CostsTaken schema left p0 b0 p1 b1 msg f (record_at w bytes) u))
          one c.args.found its c.args.field same_one same_its (if_ok _ _ result (λ _ h. h left) told.costs);
      changes = λ u feet st.
          within_more M.key M.places M.buffers M.blocks one.payload_len (4 * (c.args.found.end - c.args.found.start)) 0 (4 * (c.args.found.end - c.args.found.start)) feet c.args.mem.now c.append_packed.new.mem (told.changes u feet st)
          (omega (arith, ap (λ (w : WireRecord). w.payload_len) same_one, c.requires.taken.tag, c.requires.taken.payload)) (omega arith);
    }

pub parse_taken-returns-in_default-2 : goal.parse_taken-returns-in_default-2
parse_taken-returns-in_default-2 g t c =
    let M = g.M.Memory in
    let own = c.append_number.ensures in
    let result = c.append_number.result in
    record {
      put = if_ok _ _ result (λ _ h. h c.args.left) own.put;
      sound = all_ok _ result (λ _. own.sound c.args.left);
      stopped = if_err _ _ result (same_cause (M.blocks c.append_number.new.mem) _ _ (λ h. absurd h)) own.stopped;
      costs = if_ok _ _ result (λ _ h. h c.args.left) own.costs;
      changes = λ u feet st.
          within_more M.key M.places M.buffers M.blocks 1 (4 * (c.args.found.end - c.args.found.start)) 0 (4 * (c.args.found.end - c.args.found.start)) feet c.args.mem.now c.append_number.new.mem (own.changes u feet st)
          (omega (arith, c.requires.taken.tag, c.requires.taken.payload)) (omega arith);
    }
