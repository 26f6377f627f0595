use Rattle.std.proofs.Common.{◌*◌, take, drop, ap, ◌∙◌, arith, w32}
use Rattle.std.specs.Int.{from_le_bytes}
use Rattle.dyn_message.specs.Slots.{word}
use Rattle.dyn_message.proofs.slot.word.Goals as goal

pub returns : goal.returns
unfolding word
returns c = c.from_le_bytes.ensures ∙ ap (from_le_bytes w32) (c.copy_from_slice.ensures.after ∙ ap (λ n. take n (drop (4 * c.args.index) c.args.slot.now)) {y = 4} (omega arith))
