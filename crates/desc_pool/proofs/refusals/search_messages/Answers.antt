use Rattle.std.proofs.Common.{◌∙◌, refl, sym}
use Rattle.std.specs.Option.{option_map}
use Rattle.desc_pool.specs.declared.file.MessageDecl.{MessageDecl}
use Rattle.desc_pool.specs.Refusals.{field_name}
use Rattle.desc_pool.specs.Rules.{found_by}
use Rattle.desc_pool.proofs.Firsts.{some_hit_in, some_miss_in}
use Rattle.desc_pool.proofs.refusals.search_messages.Goals as goal

pub returns-in-Some : goal.returns-in-Some
returns-in-Some c =
    sym (some_hit_in (λ (message : MessageDecl). option_map (field_name message) (found_by c.args.search c.args.names.now.list message)) c.args.messages.now c.args.messages.now c.loop-message.message-index c.message-item.result c.in-Some.told refl c.loop-message.invariant c.loop-message-test.true c.message-item.is (sym c.in_ok-told.ensures ∙ c.in-Some.is))

pub loop-message-preserved : goal.loop-message-preserved
loop-message-preserved c =
    some_miss_in (λ (message : MessageDecl). option_map (field_name message) (found_by c.args.search c.args.names.now.list message)) c.args.messages.now c.args.messages.now c.loop-message.message-index c.message-item.result refl c.loop-message.invariant c.loop-message-test.true c.message-item.is (sym c.in_ok-told.ensures ∙ c.in_default.is)
