-- The law of proofs/TickText.
use Rattle.pb_schema.proofs.TickText.{tick_read_back}
use Rattle.pb_schema.proofs.laws.ticks_are_read_back.Goals as goal

pub returns : goal.returns
returns c = tick_read_back
