use Rattle.std.proofs.Common.{sym, ap, ◌∙◌, nat_eq}
use Rattle.dyn_message.specs.Slots.{told_in, told_by, set_by}
use Rattle.dyn_message.proofs.fields.is_set.Goals as goal

pub returns-in-Unmarked : goal.returns-in-Unmarked
unfolding told_in
returns-in-Unmarked c = sym (ap (λ m. set_by (told_by c.args.entry.field.number m c.args.bytes.now) c.args.slot_tells) c.in-Unmarked.is)

pub returns-in-Bit : goal.returns-in-Bit
unfolding told_in
returns-in-Bit c = c.bit_at.ensures ∙ sym (ap (λ m. set_by (told_by c.args.entry.field.number m c.args.bytes.now) c.args.slot_tells) c.in-Bit.is)

pub returns-in-Word : goal.returns-in-Word
unfolding told_in
returns-in-Word c = ap (λ n. nat_eq n c.args.entry.field.number) c.word_at.ensures ∙ sym (ap (λ m. set_by (told_by c.args.entry.field.number m c.args.bytes.now) c.args.slot_tells) c.in-Word.is)
