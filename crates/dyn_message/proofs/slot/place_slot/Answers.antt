use Rattle.dyn_message.proofs.Words.{place_read}
use Rattle.dyn_message.proofs.slot.place_slot.Goals as goal

pub returns-clause-place : goal.returns-clause-place
returns-clause-place c = place_read c.slot_of.result c.args.place c.args.count c.args.form c.slot_of.ensures
