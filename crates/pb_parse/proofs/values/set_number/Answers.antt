use Rattle.std.proofs.Common.{sym, subst}
use Rattle.dyn_message.specs.Changes.{NowStands}
use Rattle.pb_schema.specs.Fitted.{IsPatternOf}
use Rattle.pb_parse.specs.Costs.{taken_cost}
use Rattle.pb_parse.specs.Reading.{record_at}
use Rattle.pb_parse.proofs.ContentsRead.{ok_is, number_holds}
use Rattle.pb_parse.proofs.CostArms.{number_free}
use Rattle.pb_parse.proofs.Spending.{costs_by, nothing_placed}
use Rattle.pb_parse.proofs.TakenShapes.{number_coding, number_shape}
use Rattle.pb_parse.proofs.ValuesRead.{single_wire, no_value_none, value_is}
use Rattle.pb_schema.specs.Kinds.{value_type_of}
use Rattle.pb_parse.proofs.values.set_number.Goals as goal

pub unreachable-requires : goal.unreachable-requires
unreachable-requires g c =
    let k = number_coding (value_type_of c.args.field.kind) c.requires.number in
    let other = single_wire c.args.types.now c.args.field (record_at c.args.found c.args.bytes.now) k.0 c.requires.taken.taken k.1 c.requires.single in
    let bad = c.in_default.ensures k.0 k.1 in
    no_value_none c.args.types.now c.args.msg.type_no c.args.bytes.now c.args.found c.args.field k.0 c.requires.taken k.1 other bad.0 bad.1

pub set_scalar-requires-clause-field : goal.set_scalar-requires-clause-field
set_scalar-requires-clause-field g c =
    let k = number_coding (value_type_of c.args.field.kind) c.requires.number in
    let good = c.in-Some.ensures k.0 k.1 in
    record { field = c.args.field; found = c.requires.taken.known; card = c.requires.single; type = subst (λ type. IsPatternOf type c.in-Some.bits) (sym k.1) good.4 }

pub returns-clause-put : goal.returns-clause-put
returns-clause-put g c = λ left t feet st.
    let M = g.M.Memory in
    let k = number_coding (value_type_of c.args.field.kind) c.requires.number in
    let other = single_wire c.args.types.now c.args.field (record_at c.args.found c.args.bytes.now) k.0 c.requires.taken.taken k.1 c.requires.single in
    let good = c.in-Some.ensures k.0 k.1 in
    subst (λ u. NowStands c.args.types.now (M.places c.args.mem.now) (M.buffers c.args.mem.now) (M.places c.set_scalar.new.mem) (M.buffers c.set_scalar.new.mem) c.args.msg u feet)
    (number_shape c.args.types.now left c.args.msg.type_no c.args.found c.args.bytes.now c.args.field t k.0 c.in-Some.bits c.requires.taken.known k.1 c.requires.single
    (value_is c.args.types.now c.args.msg.type_no c.args.bytes.now c.args.found c.args.field k.0 c.requires.taken k.1 other _ c.in-Some.bits good.0 good.3))
    (c.set_scalar.ensures.set t feet st)

pub returns-clause-sound : goal.returns-clause-sound
returns-clause-sound g c = λ left.
    let k = number_coding (value_type_of c.args.field.kind) c.requires.number in
    let other = single_wire c.args.types.now c.args.field (record_at c.args.found c.args.bytes.now) k.0 c.requires.taken.taken k.1 c.requires.single in
    ok_is _ _ (number_holds c.args.types.now left c.args.field c.args.found c.args.bytes.now k.0 k.1 other)

pub returns-clause-costs : goal.returns-clause-costs
returns-clause-costs g c = λ left t.
    let M = g.M.Memory in
    let schema = c.args.types.now in
    let r = record_at c.args.found c.args.bytes.now in
    let k = number_coding (value_type_of c.args.field.kind) c.requires.number in
    costs_by schema (M.places c.args.mem.now) (M.places c.set_scalar.new.mem) (M.buffers c.args.mem.now) (M.buffers c.set_scalar.new.mem) (λ meter. 0) (λ meter. taken_cost meter schema left c.args.msg.type_no c.args.field r t)
    (nothing_placed schema (M.places c.args.mem.now) (M.places c.set_scalar.new.mem) (M.buffers c.args.mem.now) (M.buffers c.set_scalar.new.mem) c.set_scalar.ensures.space c.set_scalar.ensures.buffers)
    (λ meter grows. number_free meter schema left c.args.msg.type_no c.args.field r t k.0 k.1 c.requires.single)
