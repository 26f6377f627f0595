use Rattle.pb_parse.proofs.NumberLaws.{value_none}
use Rattle.pb_parse.proofs.number.varint_at.Goals as goal

pub returns-in-None : goal.returns-in-None
returns-in-None c = value_none c.args.bytes.now c.args.at c.in-None.ensures.none
