use Rattle.std.proofs.Common.{take, drop, ap, ◌∙◌, w32, arith}
use Rattle.std.specs.Int.{from_le_bytes}
use Rattle.dyn_message.specs.Slots.{word}
use Rattle.dyn_message.proofs.bytes.word_at.Goals as goal

pub returns : goal.returns
unfolding word
returns c = c.from_le_bytes.ensures ∙ ap (from_le_bytes w32) (c.copy_from_slice.ensures.after ∙ ap (λ n. take n (drop c.args.at c.args.bytes.now)) {y = 4} (omega arith))
