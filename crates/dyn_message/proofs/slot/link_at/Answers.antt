use Rattle.std.proofs.Common.{sym, ◌∙◌}
use Rattle.dyn_message.proofs.Words.{place_of, link_words}
use Rattle.dyn_message.proofs.slot.link_at.Goals as goal

pub returns : goal.returns
returns c = (λ i. place_of (c.word_at.ensures i) (c.word_at-2.ensures i) (c.word_at-3.ensures i) (c.word_at-4.ensures i)) ∙ sym (link_words c.args.at c.args.bytes.now)
