use Rattle.std.proofs.Common.{◌<◌, ◌≤◌, ◌∙◌, Some, length, refl, sym, ap, subst}
use Rattle.std.specs.Prelude.{nat_lt}
use Rattle.std.specs.Option.{option_map}
use Rattle.std.proofs.lemmas.Bool.{lt-ltb, le-ltb}
use Rattle.pb_schema.specs.Lawful.{most_fields}
use Rattle.desc_pool.specs.declared.file.MessageDecl.{MessageDecl}
use Rattle.desc_pool.proofs.Firsts.{hit_in, miss_in}
use Rattle.desc_pool.proofs.refusals.first_wide.Goals as goal

pub returns-then-as_slice-gt-MOST_FIELDS : goal.returns-then-as_slice-gt-MOST_FIELDS
returns-then-as_slice-gt-MOST_FIELDS c =
    let test = λ (message : MessageDecl). nat_lt most_fields (length message.fields) in
    let wide = subst (λ fs. 512 < length fs) c.as_slice.ensures c.if-as_slice-gt-MOST_FIELDS.true in
    ap Some (c.in_ok-name.ensures ∙ c.as_str.ensures)
    ∙ sym (ap (option_map (λ (message : MessageDecl). message.name)) (hit_in test c.args.messages.now c.args.messages.now c.loop-message.message-index c.message-item.result refl c.loop-message.invariant c.loop-message-test.true c.message-item.is (lt-ltb 512 (length c.message-item.result.fields) wide)))

pub loop-message-preserved : goal.loop-message-preserved
loop-message-preserved c =
    let test = λ (message : MessageDecl). nat_lt most_fields (length message.fields) in
    let few = subst (λ fs. length fs ≤ 512) c.as_slice.ensures c.if-as_slice-gt-MOST_FIELDS.false in
    miss_in test c.args.messages.now c.args.messages.now c.loop-message.message-index c.message-item.result refl c.loop-message.invariant c.loop-message-test.true c.message-item.is (le-ltb 512 (length c.message-item.result.fields) few)
