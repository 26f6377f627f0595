use Rattle.std.proofs.Common.{◌-◌, ◌+◌, length, take, drop, sym, ap, ◌∙◌, subst}
use Rattle.pb_parse.proofs.ContentsRead.{ok_is, err_is, payload_cut, string_holds, string_broken}
use Rattle.pb_parse.specs.Parsing.{fits_kind}
use Rattle.pb_schema.specs.Kinds.{value_type_of}
use Rattle.dyn_message.specs.Changes.{NowStands}
use Rattle.dyn_message.specs.Lists.{count_at}
use Rattle.pb_parse.specs.Costs.{taken_cost}
use Rattle.pb_parse.specs.Reading.{record_at}
use Rattle.pb_parse.proofs.CostArms.{string_listed_counts}
use Rattle.pb_parse.proofs.Spending.{costs_by, string_placed}
use Rattle.pb_parse.proofs.TakenShapes.{string_listed}
use Rattle.pb_parse.proofs.values.append_string.Goals as goal

pub returns-then-not-is_string-clause-stopped : goal.returns-then-not-is_string-clause-stopped
returns-then-not-is_string-clause-stopped g c = λ left.
    err_is _ _ (string_broken c.args.types.now left c.args.field c.args.found c.args.bytes.now c.requires.bytes
    (ap (fits_kind (value_type_of c.args.field.kind)) (sym (payload_cut c.args.found c.args.bytes.now c.requires.taken.payload)) ∙ (sym c.is_string.ensures ∙ c.if-not-is_string.true)))

pub returns-in-Ok-clause-sound : goal.returns-in-Ok-clause-sound
returns-in-Ok-clause-sound g c = λ left.
    ok_is _ _ (string_holds c.args.types.now left c.args.field c.args.found c.args.bytes.now c.requires.bytes
    (ap (fits_kind (value_type_of c.args.field.kind)) (sym (payload_cut c.args.found c.args.bytes.now c.requires.taken.payload)) ∙ (sym c.is_string.ensures ∙ c.if-not-is_string.false)))

pub returns-in-Ok-clause-put : goal.returns-in-Ok-clause-put
returns-in-Ok-clause-put g c = λ left t feet st.
    let M = g.M.Memory in
    let schema = c.args.types.now in
    subst (λ u. NowStands schema (M.places c.args.mem.now) (M.buffers c.args.mem.now) (M.places c.append_some.new.mem) (M.buffers c.append_some.new.mem) c.args.msg u feet)
    (string_listed schema left c.args.msg.type_no c.args.found c.args.bytes.now c.args.field t _ c.requires.bytes c.requires.list (payload_cut c.args.found c.args.bytes.now c.requires.taken.payload))
    (c.in-Ok.ensures.appended t feet st)

pub returns-in-Ok-clause-costs : goal.returns-in-Ok-clause-costs
returns-in-Ok-clause-costs g c = λ left t feet st.
    let M = g.M.Memory in
    let schema = c.args.types.now in
    let found = c.args.found in
    let bytes = c.args.bytes.now in
    let payload = take (found.end - found.payload) (drop found.payload bytes) in
    let before = count_at schema c.args.msg.type_no c.args.field.number t in
    costs_by schema (M.places c.args.mem.now) (M.places c.append_some.new.mem) (M.buffers c.args.mem.now) (M.buffers c.append_some.new.mem)
    (λ meter. meter.growth 24 before (before + 1) + meter.bytes (length payload)) (λ meter. taken_cost meter schema left c.args.msg.type_no c.args.field (record_at found bytes) t)
    (string_placed schema (M.places c.args.mem.now) (M.places c.append_some.new.mem) (M.buffers c.args.mem.now) (M.buffers c.append_some.new.mem) (length payload) before (before + 1) (c.in-Ok.ensures.space t feet st) c.in-Ok.ensures.kept)
    (λ meter grows. string_listed_counts meter schema left c.args.msg.type_no c.args.field (record_at found bytes) t c.requires.bytes c.requires.list ∙ ap (λ s. meter.growth 24 before (before + 1) + meter.bytes (length s)) (sym (payload_cut found bytes c.requires.taken.payload)))
