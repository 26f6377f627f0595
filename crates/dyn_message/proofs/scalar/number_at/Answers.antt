use Rattle.std.proofs.Common.{sym, ap, ◌∙◌, arith}
use Rattle.dyn_message.specs.Slots.{part, number_in}
use Rattle.dyn_message.proofs.Opening.{word_number}
use Rattle.dyn_message.proofs.scalar.number_at.Goals as goal

pub returns-in-4 : goal.returns-in-4
returns-in-4 c =
    let four = sym c.in-4.is ∙ c.single_bytes.ensures in
    c.from.ensures ∙ c.word_at.ensures ∙ word_number c.args.at c.args.bytes.now (omega (arith, c.requires.within, four)) ∙ ap (λ n. number_in (part c.args.at n c.args.bytes.now)) four
