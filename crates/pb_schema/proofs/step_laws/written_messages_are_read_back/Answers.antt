use Rattle.pb_schema.proofs.ReadBack.{written_back}
use Rattle.pb_schema.proofs.step_laws.written_messages_are_read_back.Goals as goal

pub returns : goal.returns
returns c = written_back
