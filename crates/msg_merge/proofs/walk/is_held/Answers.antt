use Rattle.std.proofs.Common.{sym, ap, ◌∙◌}
use Rattle.pb_schema.specs.Kinds.{value_type_of}
use Rattle.dyn_message.specs.Slots.{part, slot_in, told_in, set_by}
use Rattle.dyn_message.proofs.Opening.{single_slot}
use Rattle.pb_write.specs.Puts.{slot_tells}
use Rattle.msg_merge.proofs.walk.is_held.Goals as goal

pub returns : goal.returns
unfolding slot_in
returns c =
    let field = c.args.entry.now.field in
    c.is_set.ensures ∙ ap (set_by (told_in c.args.entry.now c.args.bytes.now)) (c.slot_tells.ensures ∙ ap (λ n. slot_tells (value_type_of field.kind) (part c.args.entry.now.slot n c.args.bytes.now)) (sym (single_slot field c.requires.single)))
