-- Each clause is a law of proofs/OneRecord.
use Rattle.pb_schema.proofs.OneRecord.{tag_there, tag_read, length_there, length_read, record_there, record_read}
use Rattle.pb_schema.proofs.laws.one_record.Goals as goal

pub returns-clause-tag : goal.returns-clause-tag
returns-clause-tag c = λ at s number wire n. (tag_there at s number wire n, tag_read at s number wire n)

pub returns-clause-prefix : goal.returns-clause-prefix
returns-clause-prefix c = λ at s len n. (length_there at s len n, length_read at s len n)

pub returns-clause-found : goal.returns-clause-found
returns-clause-found c = record_there

pub returns-clause-front : goal.returns-clause-front
returns-clause-front c = record_read
