use Rattle.std.proofs.Common.{ap, ◌∙◌}
use Rattle.dyn_message.specs.Slots.{place_in}
use Rattle.dyn_message.proofs.Words.{link_front}
use Rattle.dyn_message.proofs.slot.link_slot.Goals as goal

pub returns : goal.returns
returns c = ap place_in c.copy_from_slice.ensures.after ∙ link_front c.place_slot-whole.result ∙ c.place_slot-whole.ensures.place
