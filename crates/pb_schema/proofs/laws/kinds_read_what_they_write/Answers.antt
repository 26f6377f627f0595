-- Each clause is a law of proofs/KindLaws.
use Rattle.pb_schema.proofs.KindLaws.{kind_back, pattern_back}
use Rattle.pb_schema.proofs.laws.kinds_read_what_they_write.Goals as goal

pub returns-clause-number : goal.returns-clause-number
returns-clause-number c = kind_back

pub returns-clause-bytes : goal.returns-clause-bytes
returns-clause-bytes c = pattern_back
