-- The law of proofs/TextBound.
use Rattle.pb_parse.proofs.TextBound.{text_bounded}
use Rattle.pb_parse.proofs.laws.decoded_texts_are_bounded.Goals as goal

pub returns : goal.returns
returns c = text_bounded
