use Rattle.std.proofs.Common.{List, ◌<◌, ◌∙◌, ap, subst, length, get_or}
use Rattle.pb_schema.specs.declared.schema.MessageType.{MessageType}
use Rattle.msg_layout.proofs.LayoutLaws.{type_allowed}
use Rattle.msg_layout.proofs.make.type_layouts.Goals as goal

pub layout_of_type-requires : goal.layout_of_type-requires
layout_of_type-requires c =
    let types = c.items-types.ensures in (
      length c.args.schema.now.types,
      type_allowed (length c.args.schema.now.types) c.args.schema.now.types c.requires.types c.loop-ty.ty-index c.ty-item.result
          (subst (λ (all : List MessageType). c.loop-ty.ty-index < length all) types c.loop-ty-test.true)
          (c.ty-item.is ∙ ap (λ (all : List MessageType). get_or all c.loop-ty.ty-index c.ty-item.result) types),
    )
