use Rattle.std.proofs.Common.{[], ◌∷◌, refl, arith}
use Rattle.std.proofs.lemmas.Str.{is_utf8-from_IsUtf8}
use Rattle.pb_schema.specs.Records.{records_of}
use Rattle.pb_schema.proofs.RecordsFront.{records_found_any}
use Rattle.dyn_message.specs.Feet.{InPlace}
use Rattle.dyn_message.proofs.Messages.{some_value}
use Rattle.dyn_message.proofs.NodeFields.{node_has}
use Rattle.pb_write.proofs.Sample.{with_nothing, with_unknown, with_all, child_is}
use Rattle.msg_merge.proofs.Sample.{few_nothing, few_unknown, few_all, flat_nothing, flat_unknown, flat_all}
use Rattle.msg_merge.proofs.tests.sample.Goals as goal

pub returns-then-unknown_count-ne0-clause-countable : goal.returns-then-unknown_count-ne0-clause-countable
returns-then-unknown_count-ne0-clause-countable g c = (with_nothing c.args.types.now, InPlace c.in_ok-msg.msg.place ∷ [], c.in_ok-msg.ensures.made.stands, few_nothing c.args.types.now c.in_ok-msg.msg.type_no c.requires.schema)

pub returns-then-unknown_count-ne0-clause-bounded : goal.returns-then-unknown_count-ne0-clause-bounded
returns-then-unknown_count-ne0-clause-bounded g c = (with_nothing c.args.types.now, InPlace c.in_ok-msg.msg.place ∷ [], c.in_ok-msg.ensures.made.stands, flat_nothing c.args.types.now c.in_ok-msg.msg.type_no c.requires.schema)

pub append_unknown-requires-clause-whole : goal.append_unknown-requires-clause-whole
append_unknown-requires-clause-whole g c =
    let p = some_value (records_of (248 ∷ 7 ∷ 1 ∷ [])) refl in
    (p.0, records_found_any (248 ∷ 7 ∷ 1 ∷ []) p.0 p.1)

pub count-requires-clause-message : goal.count-requires-clause-message
count-requires-clause-message g c =
    let s0 = c.in_ok-msg.ensures.made.stands in
    let s1 = c.in_ok-append_unknown.ensures.appended _ _ s0 in
    (_, s1.now, s1.stands)

pub count-requires-clause-field : goal.count-requires-clause-field
count-requires-clause-field g c = node_has _ _ c.args.types.now c.in_ok-msg.msg.type_no 4 c.requires.schema c.in_ok-msg.ensures.made.type (record { field = _; found = refl; card = tt; type = tt })

pub returns-then-count-ne0-clause-countable : goal.returns-then-count-ne0-clause-countable
returns-then-count-ne0-clause-countable g c =
    let s0 = c.in_ok-msg.ensures.made.stands in
    let s1 = c.in_ok-append_unknown.ensures.appended _ _ s0 in
    (with_unknown c.args.types.now, s1.now, s1.stands, few_unknown c.args.types.now c.in_ok-msg.msg.type_no c.requires.schema)

pub returns-then-count-ne0-clause-bounded : goal.returns-then-count-ne0-clause-bounded
returns-then-count-ne0-clause-bounded g c =
    let s0 = c.in_ok-msg.ensures.made.stands in
    let s1 = c.in_ok-append_unknown.ensures.appended _ _ s0 in
    (with_unknown c.args.types.now, s1.now, s1.stands, flat_unknown c.args.types.now c.in_ok-msg.msg.type_no c.requires.schema)

pub append_scalar-requires-clause-message : goal.append_scalar-requires-clause-message
append_scalar-requires-clause-message g c =
    let s0 = c.in_ok-msg.ensures.made.stands in
    let s1 = c.in_ok-append_unknown.ensures.appended _ _ s0 in
    (_, s1.now, s1.stands)

pub append_scalar-requires-clause-field : goal.append_scalar-requires-clause-field
append_scalar-requires-clause-field g c = node_has _ _ c.args.types.now c.in_ok-msg.msg.type_no 4 c.requires.schema c.in_ok-msg.ensures.made.type (record { field = _; found = refl; card = tt; type = omega arith })

pub set_scalar-requires-clause-message : goal.set_scalar-requires-clause-message
set_scalar-requires-clause-message g c =
    let s0 = c.in_ok-msg.ensures.made.stands in
    let s1 = c.in_ok-append_unknown.ensures.appended _ _ s0 in
    let s2 = c.in_ok-append_scalar.ensures.appended _ _ s1.stands in
    (_, s2.now, s2.stands)

pub set_scalar-requires-clause-field : goal.set_scalar-requires-clause-field
set_scalar-requires-clause-field g c = node_has _ _ c.args.types.now c.in_ok-msg.msg.type_no 2 c.requires.schema c.in_ok-msg.ensures.made.type (record { field = _; found = refl; card = tt; type = omega arith })

pub set_bytes-requires-clause-message : goal.set_bytes-requires-clause-message
set_bytes-requires-clause-message g c =
    let s0 = c.in_ok-msg.ensures.made.stands in
    let s1 = c.in_ok-append_unknown.ensures.appended _ _ s0 in
    let s2 = c.in_ok-append_scalar.ensures.appended _ _ s1.stands in
    let s3 = c.set_scalar.ensures.set _ _ s2.stands in
    (_, s3.now, s3.stands)

pub set_bytes-requires-clause-field : goal.set_bytes-requires-clause-field
set_bytes-requires-clause-field g c = node_has _ _ c.args.types.now c.in_ok-msg.msg.type_no 5 c.requires.schema c.in_ok-msg.ensures.made.type (record { field = _; found = refl; card = tt; type = tt })

pub set_bytes-requires-2-clause-message : goal.set_bytes-requires-2-clause-message
set_bytes-requires-2-clause-message g c =
    let s0 = c.in_ok-msg.ensures.made.stands in
    let s1 = c.in_ok-append_unknown.ensures.appended _ _ s0 in
    let s2 = c.in_ok-append_scalar.ensures.appended _ _ s1.stands in
    let s3 = c.set_scalar.ensures.set _ _ s2.stands in
    let s4 = c.in_ok-set_bytes.ensures.set _ _ s3.stands in
    (_, s4.now, s4.stands)

pub set_bytes-requires-2-clause-field : goal.set_bytes-requires-2-clause-field
set_bytes-requires-2-clause-field g c = node_has _ _ c.args.types.now c.in_ok-msg.msg.type_no 7 c.requires.schema c.in_ok-msg.ensures.made.type (record { field = _; found = refl; card = tt; type = is_utf8-from_IsUtf8 [] ([], (refl, refl)) })

pub make_sub-requires-clause-message : goal.make_sub-requires-clause-message
make_sub-requires-clause-message g c =
    let s0 = c.in_ok-msg.ensures.made.stands in
    let s1 = c.in_ok-append_unknown.ensures.appended _ _ s0 in
    let s2 = c.in_ok-append_scalar.ensures.appended _ _ s1.stands in
    let s3 = c.set_scalar.ensures.set _ _ s2.stands in
    let s4 = c.in_ok-set_bytes.ensures.set _ _ s3.stands in
    let s5 = c.in_ok-set_bytes-2.ensures.set _ _ s4.stands in
    (_, s5.now, s5.stands)

pub make_sub-requires-clause-field : goal.make_sub-requires-clause-field
make_sub-requires-clause-field g c = node_has _ _ c.args.types.now c.in_ok-msg.msg.type_no 6 c.requires.schema c.in_ok-msg.ensures.made.type (record { field = _; found = refl; card = tt; type = tt })

pub returns-clause-countable : goal.returns-clause-countable
returns-clause-countable g c =
    let s0 = c.in_ok-msg.ensures.made.stands in
    let s1 = c.in_ok-append_unknown.ensures.appended _ _ s0 in
    let s2 = c.in_ok-append_scalar.ensures.appended _ _ s1.stands in
    let s3 = c.set_scalar.ensures.set _ _ s2.stands in
    let s4 = c.in_ok-set_bytes.ensures.set _ _ s3.stands in
    let s5 = c.in_ok-set_bytes-2.ensures.set _ _ s4.stands in
    let made = c.in_ok-make_sub.ensures.made _ _ s5.stands in
    let child = child_is c.args.types.now c.in_ok-msg.msg.type_no c.in_ok-make_sub.field-0.type_no c.requires.schema c.in_ok-msg.ensures.made.type made.has.type in
    (with_all c.args.types.now c.in_ok-msg.msg.type_no c.in_ok-make_sub.field-0.type_no c.args.blob.now, made.parent.now, made.parent.stands, few_all c.args.types.now c.in_ok-msg.msg.type_no c.in_ok-make_sub.field-0.type_no c.args.blob.now c.requires.schema c.in_ok-msg.ensures.made.type child c.requires.short)

pub returns-clause-bounded : goal.returns-clause-bounded
returns-clause-bounded g c =
    let s0 = c.in_ok-msg.ensures.made.stands in
    let s1 = c.in_ok-append_unknown.ensures.appended _ _ s0 in
    let s2 = c.in_ok-append_scalar.ensures.appended _ _ s1.stands in
    let s3 = c.set_scalar.ensures.set _ _ s2.stands in
    let s4 = c.in_ok-set_bytes.ensures.set _ _ s3.stands in
    let s5 = c.in_ok-set_bytes-2.ensures.set _ _ s4.stands in
    let made = c.in_ok-make_sub.ensures.made _ _ s5.stands in
    let child = child_is c.args.types.now c.in_ok-msg.msg.type_no c.in_ok-make_sub.field-0.type_no c.requires.schema c.in_ok-msg.ensures.made.type made.has.type in
    (with_all c.args.types.now c.in_ok-msg.msg.type_no c.in_ok-make_sub.field-0.type_no c.args.blob.now, made.parent.now, made.parent.stands, flat_all c.args.types.now c.in_ok-msg.msg.type_no c.in_ok-make_sub.field-0.type_no c.args.blob.now c.requires.schema c.in_ok-msg.ensures.made.type child c.requires.short)
