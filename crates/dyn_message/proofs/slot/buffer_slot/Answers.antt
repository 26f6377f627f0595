use Rattle.std.proofs.Common.{refl}
use Rattle.dyn_message.proofs.Words.{buffer_read}
use Rattle.dyn_message.proofs.slot.buffer_slot.Goals as goal

pub returns-clause-buffer : goal.returns-clause-buffer
returns-clause-buffer c = buffer_read c.slot_of.result c.args.buffer _ _ 0 c.args.count 2 refl refl c.slot_of.ensures
