use Rattle.std.proofs.Common.{◌≡◌, ◌+◌, ◌-◌, ◌<◌, ◌≤◌, refl, sym, ap, ◌∙◌, subst, length, drop, take, arith, length-drop, length-take-le}
use Rattle.pb_schema.specs.Fitted.{IsPatternOf}
use Rattle.pb_schema.specs.Kinds.{value_type_of}
use Rattle.pb_schema.specs.Walk.{numbers_end}
use Rattle.dyn_message.specs.Changes.{NowStands}
use Rattle.dyn_message.proofs.Opening.{some_record}
use Rattle.pb_schema.specs.TreeOf.{elements_from}
use Rattle.dyn_message.specs.Lists.{count_at, element_bytes}
use Rattle.pb_parse.specs.Costs.{taken_cost}
use Rattle.pb_parse.specs.Reading.{payload_at, record_at}
use Rattle.pb_parse.proofs.CostArms.{numbers_cost}
use Rattle.pb_parse.proofs.Spending.{costs_by}
use Rattle.pb_parse.proofs.ContentsRead.{ok_is, err_is, packed_holds, payload_front}
use Rattle.pb_parse.proofs.Memories.{nothing_changes, then_within, within_more}
use Rattle.pb_parse.proofs.NumberSteps.{numbers_step, numbers_bad, numbers_none}
use Rattle.pb_parse.proofs.Packed.{PackedTo, packed_none, packed_more, packed_all, packed_costs}
use Rattle.pb_parse.proofs.Runs.{left_behind, none_left, some_left}
use Rattle.pb_parse.proofs.TakenShapes.{number_coding, packed_listed}
use Rattle.pb_parse.proofs.values.append_packed.Goals as goal

pub entry_in-entry-requires-clause-known : goal.entry_in-entry-requires-clause-known
entry_in-entry-requires-clause-known g c =
    let M = g.M.Memory in
    (some_record c.args.types.now (M.places c.args.mem.now) (M.buffers c.args.mem.now) c.args.msg c.requires.message).type

pub loop-at-init : goal.loop-at-init
loop-at-init g c =
    let M = g.M.Memory in
    let found = c.args.found in
    let bytes = c.args.bytes.now in
    let front = payload_front found bytes c.requires.taken.payload in
    record {
      message = c.requires.message;
      from = omega arith;
      to = omega (arith, c.requires.taken.payload);
      walk = λ coding e. ap (numbers_end coding.wire found.payload 0) (sym front);
      put = λ coding e t feet st. subst (λ s. PackedTo c.args.types.now (M.places c.args.mem.now) (M.buffers c.args.mem.now) (M.places c.args.mem.now) (M.buffers c.args.mem.now) c.args.msg c.args.field.number coding (payload_at found bytes) s t feet) (sym front)
          (packed_none c.args.types.now c.args.msg c.args.field.number coding c.args.field c.requires.taken.known (M.places c.args.mem.now) (M.buffers c.args.mem.now) (payload_at found bytes) t feet st);
      told = c.list_by-count.ensures.told;
      changes = λ t feet st. within_more M.key M.places M.buffers M.blocks 0 _ 0 0 feet c.args.mem.now c.args.mem.now (nothing_changes M.key M.places M.buffers M.blocks feet c.args.mem.now) (omega arith) (omega arith);
    }

pub returns-in_default-clause-stopped : goal.returns-in_default-clause-stopped
returns-in_default-clause-stopped g c = λ left.
    let k = number_coding (value_type_of c.args.field.kind) c.requires.number in
    let bad = c.in_default.ensures k.0 k.1 in
    let some = some_left c.loop-at.at c.args.found.end c.args.bytes.now c.loop-at-test.true c.requires.taken.within in
    err_is _ bad.0
    (packed_holds c.args.types.now left c.args.field c.args.found c.args.bytes.now k.0 k.1 c.requires.packed
    ∙ (c.loop-at.invariant.walk k.0 k.1 ∙ numbers_bad k.0.wire c.loop-at.at (drop c.loop-at.at (take c.args.found.end c.args.bytes.now)) bad.0 some bad.1))

pub append_next-requires-clause-field : goal.append_next-requires-clause-field
append_next-requires-clause-field g c =
    let k = number_coding (value_type_of c.args.field.kind) c.requires.number in
    let good = c.in-Some.ensures k.0 k.1 in
    record { field = c.args.field; found = c.requires.taken.known; card = c.requires.list; type = subst (λ type. IsPatternOf type c.in-Some.bits) (sym k.1) good.4 }

pub returns-in-Err-clause-changes : goal.returns-in-Err-clause-changes
returns-in-Err-clause-changes g c = λ t feet st.
    let M = g.M.Memory in
    let k = number_coding (value_type_of c.args.field.kind) c.requires.number in
    let p = c.loop-at.invariant.put k.0 k.1 t feet st in
    then_within M.key M.places M.buffers M.blocks (c.loop-at.at - c.args.found.payload) 1 0 0 c.args.found.payload_len 0 feet p.stands.now c.args.mem.now c.loop-at.mem c.append_next.new.mem
    (c.loop-at.invariant.changes t feet st) p.stands.from (c.append_next.ensures.changes p.shape p.stands.now p.stands.stands)
    (omega (arith, c.loop-at-test.true, c.loop-at.invariant.from, c.requires.taken.payload)) (omega arith)

pub loop-at-smaller : goal.loop-at-smaller
loop-at-smaller g c =
    let k = number_coding (value_type_of c.args.field.kind) c.requires.number in
    let good = c.in-Some.ensures k.0 k.1 in
    omega (arith, c.loop-at-test.true, good.1)

pub loop-at-preserved : goal.loop-at-preserved
loop-at-preserved g c =
    let M = g.M.Memory in
    let schema = c.args.types.now in
    let found = c.args.found in
    let bytes = c.args.bytes.now in
    let at = c.loop-at.at in
    let behind = c.in-Some.behind in
    let inv = c.loop-at.invariant in
    let front = take found.end bytes in
    let k = number_coding (value_type_of c.args.field.kind) c.requires.number in
    let good = c.in-Some.ensures k.0 k.1 in
    let long : length front ≡ found.end = length-take-le found.end bytes c.requires.taken.within in
    let some : 0 < behind - at = omega (arith, good.1) in
    let within : behind - at ≤ length (drop at front) = omega (arith, good.1, good.2, length-drop at front) in
    let there : at + (behind - at) ≡ behind = omega (arith, good.1) in
    let before : at ≤ behind = omega (arith, good.1) in
    let first = c.requires.message in
    let p = inv.put k.0 k.1 first.0 first.1 first.2 in
    let now = c.in-Ok.ensures.appended p.shape p.stands.now p.stands.stands in
    record {
      message = (_, now.now, now.stands);
      from = omega (arith, inv.from, before);
      to = omega (arith, good.2, long);
      walk = λ coding e.
          let own = c.in-Some.ensures coding e in
          inv.walk coding e
          ∙ (numbers_step coding.wire at (drop at front) (behind - at) own.0 some within
          ∙ (ap (λ n. numbers_end coding.wire n 0 (drop (behind - at) (drop at front))) there
          ∙ ap (numbers_end coding.wire behind 0) (left_behind at behind front before)));
      put = λ coding e t feet st.
          let own = c.in-Some.ensures coding e in
          let q = inv.put coding e t feet st in
          subst (λ s. PackedTo schema (M.places c.args.mem.now) (M.buffers c.args.mem.now) (M.places c.append_next.new.mem) (M.buffers c.append_next.new.mem) c.args.msg c.args.field.number coding (payload_at found bytes) s t feet) (left_behind at behind front before)
          (packed_more schema c.args.msg c.args.field.number coding c.args.field c.requires.taken.known (M.places c.args.mem.now) (M.places c.loop-at.mem) (M.places c.append_next.new.mem) (M.buffers c.args.mem.now) (M.buffers c.loop-at.mem) (M.buffers c.append_next.new.mem)
          (payload_at found bytes) (drop at front) t feet at (behind - at) c.in-Some.bits (inv.changes t feet st).still_there q own.0 some within own.3
          (c.in-Ok.ensures.appended q.shape q.stands.now q.stands.stands) (c.in-Ok.ensures.space q.shape q.stands.now q.stands.stands) c.append_next.ensures.buffers);
      told = c.in-Ok.ensures.told;
      changes = λ t feet st.
          let q = inv.put k.0 k.1 t feet st in
          then_within M.key M.places M.buffers M.blocks (at - found.payload) 1 0 0 (behind - found.payload) 0 feet q.stands.now c.args.mem.now c.loop-at.mem c.append_next.new.mem
          (inv.changes t feet st) q.stands.from (c.append_next.ensures.changes q.shape q.stands.now q.stands.stands) (omega (arith, inv.from, good.1)) (omega arith);
    }

pub returns-clause-put : goal.returns-clause-put
returns-clause-put g c = λ left t feet st.
    let M = g.M.Memory in
    let schema = c.args.types.now in
    let found = c.args.found in
    let bytes = c.args.bytes.now in
    let k = number_coding (value_type_of c.args.field.kind) c.requires.number in
    let none = none_left c.loop-at.at found.end bytes c.loop-at-test.false in
    subst (λ u. NowStands schema (M.places c.args.mem.now) (M.buffers c.args.mem.now) (M.places c.loop-at.mem) (M.buffers c.loop-at.mem) c.args.msg u feet)
    (packed_listed schema left c.args.msg.type_no found bytes c.args.field t k.0 k.1 c.requires.list)
    (packed_all schema c.args.msg c.args.field.number k.0 c.args.field c.requires.taken.known c.schema-schema.ensures.lawful c.requires.list (M.places c.args.mem.now) (M.places c.loop-at.mem) (M.buffers c.args.mem.now) (M.buffers c.loop-at.mem)
    (payload_at found bytes) _ t feet none (c.loop-at.invariant.put k.0 k.1 t feet st))

pub returns-clause-sound : goal.returns-clause-sound
returns-clause-sound g c = λ left.
    let k = number_coding (value_type_of c.args.field.kind) c.requires.number in
    let none = none_left c.loop-at.at c.args.found.end c.args.bytes.now c.loop-at-test.false in
    ok_is _ c.loop-at.at
    (packed_holds c.args.types.now left c.args.field c.args.found c.args.bytes.now k.0 k.1 c.requires.packed
    ∙ (c.loop-at.invariant.walk k.0 k.1 ∙ (ap (numbers_end k.0.wire c.loop-at.at 0) none ∙ numbers_none k.0.wire c.loop-at.at)))

pub returns-clause-costs : goal.returns-clause-costs
returns-clause-costs g c = λ left t feet st.
    let M = g.M.Memory in
    let schema = c.args.types.now in
    let found = c.args.found in
    let bytes = c.args.bytes.now in
    let type_no = c.args.msg.type_no in
    let field = c.args.field in
    let before = count_at schema type_no field.number t in
    let size = element_bytes schema type_no field.number in
    let k = number_coding (value_type_of field.kind) c.requires.number in
    let none = none_left c.loop-at.at found.end bytes c.loop-at-test.false in
    let long = length (elements_from k.0.wire 0 (payload_at found bytes)) in
    costs_by schema (M.places c.args.mem.now) (M.places c.loop-at.mem) (M.buffers c.args.mem.now) (M.buffers c.loop-at.mem)
    (λ meter. meter.growth size before (before + long)) (λ meter. taken_cost meter schema left type_no field (record_at found bytes) t)
    (packed_costs schema c.args.msg field.number k.0 field c.requires.taken.known (M.places c.args.mem.now) (M.places c.loop-at.mem) (M.buffers c.args.mem.now) (M.buffers c.loop-at.mem) (payload_at found bytes) _ t feet none (c.loop-at.invariant.put k.0 k.1 t feet st))
    (λ meter grows. numbers_cost meter schema left type_no field (record_at found bytes) t k.0 long k.1 c.requires.list c.requires.taken.known refl)
