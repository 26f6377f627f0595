use Rattle.std.proofs.Common.{◌<◌, ◌≤◌, ◌-◌, ◌+◌, sym, subst, length, drop, arith, length-drop}
use Rattle.dyn_message.specs.Changes.{NowStands}
use Rattle.pb_schema.specs.Fitted.{IsPatternOf}
use Rattle.pb_schema.specs.Kinds.{value_type_of}
use Rattle.pb_parse.proofs.ContentsRead.{ok_is, number_holds}
use Rattle.dyn_message.specs.Lists.{count_at, element_bytes}
use Rattle.pb_parse.specs.Costs.{taken_cost}
use Rattle.pb_parse.specs.Reading.{record_at}
use Rattle.pb_parse.proofs.CostArms.{number_cost}
use Rattle.pb_parse.proofs.Spending.{array_placed, costs_by}
use Rattle.pb_parse.proofs.TakenShapes.{number_coding, number_listed}
use Rattle.pb_parse.proofs.ValuesRead.{no_value_none, value_is, value_some, value_whole}
use Rattle.pb_parse.proofs.values.append_number.Goals as goal

pub unreachable-requires : goal.unreachable-requires
unreachable-requires g c =
    let k = number_coding (value_type_of c.args.field.kind) c.requires.number in
    let bad = c.in_default.ensures k.0 k.1 in
    no_value_none c.args.types.now c.args.msg.type_no c.args.bytes.now c.args.found c.args.field k.0 c.requires.taken k.1 c.requires.one bad.0 bad.1

pub append_one-requires-clause-field : goal.append_one-requires-clause-field
append_one-requires-clause-field g c =
    let k = number_coding (value_type_of c.args.field.kind) c.requires.number in
    let good = c.in-Some.ensures k.0 k.1 in
    record { field = c.args.field; found = c.requires.taken.known; card = c.requires.list; type = subst (λ type. IsPatternOf type c.in-Some.bits) (sym k.1) good.4 }

pub returns-in-Ok-clause-put : goal.returns-in-Ok-clause-put
returns-in-Ok-clause-put g c = λ left t feet st.
    let M = g.M.Memory in
    let schema = c.args.types.now in
    let bytes = c.args.bytes.now in
    let found = c.args.found in
    let k = number_coding (value_type_of c.args.field.kind) c.requires.number in
    let good = c.in-Some.ensures k.0 k.1 in
    let some : 0 < c.in-Some.field-0-1 - found.payload = omega (arith, good.1) in
    let within : c.in-Some.field-0-1 - found.payload ≤ length (drop found.payload bytes) = omega (arith, good.1, good.2, length-drop found.payload bytes) in
    subst (λ u. NowStands schema (M.places c.args.mem.now) (M.buffers c.args.mem.now) (M.places c.append_one.new.mem) (M.buffers c.append_one.new.mem) c.args.msg u feet)
    (number_listed schema left c.args.msg.type_no found bytes c.args.field t k.0 c.in-Some.bits k.1 c.requires.list
    (value_is schema c.args.msg.type_no bytes found c.args.field k.0 c.requires.taken k.1 c.requires.one _ c.in-Some.bits good.0 good.3)
    (value_whole schema c.args.msg.type_no bytes found c.args.field k.0 c.requires.taken k.1 c.requires.one _ good.0 within)
    (value_some schema c.args.msg.type_no bytes found c.args.field k.0 c.requires.taken k.1 c.requires.one _ good.0 some within))
    (c.in-Ok.ensures.appended t feet st)

pub returns-in-Ok-clause-sound : goal.returns-in-Ok-clause-sound
returns-in-Ok-clause-sound g c = λ left.
    let k = number_coding (value_type_of c.args.field.kind) c.requires.number in
    ok_is _ _ (number_holds c.args.types.now left c.args.field c.args.found c.args.bytes.now k.0 k.1 c.requires.one)

pub returns-in-Err-clause-sound : goal.returns-in-Err-clause-sound
returns-in-Err-clause-sound g c = λ left.
    let k = number_coding (value_type_of c.args.field.kind) c.requires.number in
    ok_is _ _ (number_holds c.args.types.now left c.args.field c.args.found c.args.bytes.now k.0 k.1 c.requires.one)

pub returns-in-Ok-clause-costs : goal.returns-in-Ok-clause-costs
returns-in-Ok-clause-costs g c = λ left t feet st.
    let M = g.M.Memory in
    let schema = c.args.types.now in
    let bytes = c.args.bytes.now in
    let found = c.args.found in
    let type_no = c.args.msg.type_no in
    let field = c.args.field in
    let before = count_at schema type_no field.number t in
    let size = element_bytes schema type_no field.number in
    let k = number_coding (value_type_of field.kind) c.requires.number in
    let good = c.in-Some.ensures k.0 k.1 in
    let some : 0 < c.in-Some.field-0-1 - found.payload = omega (arith, good.1) in
    let within : c.in-Some.field-0-1 - found.payload ≤ length (drop found.payload bytes) = omega (arith, good.1, good.2, length-drop found.payload bytes) in
    costs_by schema (M.places c.args.mem.now) (M.places c.append_one.new.mem) (M.buffers c.args.mem.now) (M.buffers c.append_one.new.mem)
    (λ meter. meter.growth size before (before + 1)) (λ meter. taken_cost meter schema left type_no field (record_at found bytes) t)
    (array_placed schema (M.places c.args.mem.now) (M.places c.append_one.new.mem) (M.buffers c.args.mem.now) (M.buffers c.append_one.new.mem) size before (before + 1) (c.in-Ok.ensures.space t feet st) c.append_one.ensures.buffers)
    (λ meter grows. number_cost meter schema left type_no field (record_at found bytes) t k.0 found.payload k.1 c.requires.list c.requires.taken.known
    (value_whole schema type_no bytes found field k.0 c.requires.taken k.1 c.requires.one _ good.0 within)
    (value_some schema type_no bytes found field k.0 c.requires.taken k.1 c.requires.one _ good.0 some within))
