-- The law of proofs/TextLaws.
use Rattle.pb_schema.proofs.TextLaws.{frames_are_read_back}
use Rattle.pb_schema.proofs.laws.frames_are_read_back.Goals as goal

pub returns : goal.returns
returns c = frames_are_read_back
