use Rattle.std.proofs.Common.{false, sym, ap, ◌∙◌}
use Rattle.pb_schema.specs.Kinds.{value_type_of}
use Rattle.dyn_message.specs.Slots.{part, slot_in, told_by, told_in, set_by}
use Rattle.dyn_message.proofs.Opening.{single_slot}
use Rattle.pb_write.specs.Puts.{slot_tells}
use Rattle.pb_write.proofs.Singles.{marks_tell}
use Rattle.pb_write.proofs.backwards.is_held.Goals as goal

pub returns-in-Unmarked : goal.returns-in-Unmarked
unfolding slot_in told_in
returns-in-Unmarked c =
    let field = c.args.entry.now.field in
    let tells = c.slot_tells.ensures ∙ ap (λ n. slot_tells (value_type_of field.kind) (part c.args.entry.now.slot n c.args.bytes.now)) (sym (single_slot field c.requires.single)) in
    tells ∙ sym (ap (λ m. set_by (told_by field.number m c.args.bytes.now) (slot_tells (value_type_of field.kind) (slot_in c.args.entry.now c.args.bytes.now))) c.in-Unmarked.is)

pub returns-in_default : goal.returns-in_default
unfolding told_in
returns-in_default c =
    let field = c.args.entry.now.field in
    c.is_set.ensures ∙ marks_tell field.number c.args.entry.now.mark c.args.bytes.now c.in_default.not-Unmarked false (slot_tells (value_type_of field.kind) (slot_in c.args.entry.now c.args.bytes.now))
