use Rattle.std.proofs.Common.{◌≤◌, ◌++◌, [], ◌∷◌, ap, sym, ◌∙◌, subst, map, take, append_assoc}
use Rattle.std.specs.Prelude.{All}
use Rattle.std.proofs.lemmas.List.Elements.{All-push}
use Rattle.pb_schema.specs.declared.schema.MessageType.{MessageType}
use Rattle.pb_schema.specs.Lawful.{most_oneofs}
use Rattle.desc_pool.specs.Linked.{message_type}
use Rattle.desc_pool.proofs.Nested.{map_more}
use Rattle.desc_pool.proofs.link.push_types.Goals as goal

pub loop-message-preserved : goal.loop-message-preserved
loop-message-preserved c =
    let type = message_type c.args.names.now.list in
    let before = map type (take c.loop-message.message-index c.args.messages.now) in (
      c.in_ok-push.ensures.items
          ∙ (ap (λ types. types ++ c.in_ok-ty.ty ∷ []) c.loop-message.invariant.0
          ∙ (append_assoc c.args.types.now.items before (c.in_ok-ty.ty ∷ [])
          ∙ ap (λ types. c.args.types.now.items ++ types)
          (ap (λ ty. before ++ ty ∷ []) (c.in_ok-ty.ensures.value ∙ ap type c.message-item.is)
          ∙ sym (map_more type c.args.messages.now c.loop-message.message-index c.message-item.result c.loop-message-test.true)))),
      subst (All (λ (ty : MessageType). ty.oneofs ≤ most_oneofs)) (sym c.in_ok-push.ensures.items)
          (All-push (λ (ty : MessageType). ty.oneofs ≤ most_oneofs) c.loop-message.types.items c.in_ok-ty.ty c.loop-message.invariant.1 c.in_ok-ty.ensures.few),
    )
