-- Each clause is a law of proofs/RecordsFront.
use Rattle.pb_schema.proofs.RecordsFront.{one_list_of_records, records_found, records_found_any, records_exact, records_of_spans}
use Rattle.pb_schema.proofs.laws.one_list_of_records.Goals as goal

pub returns-clause-only : goal.returns-clause-only
returns-clause-only c = one_list_of_records

pub returns-clause-exact : goal.returns-clause-exact
returns-clause-exact c = λ s rs. (records_found_any s rs, records_exact s rs)

pub returns-clause-within : goal.returns-clause-within
returns-clause-within c = λ levels s rs. (records_found levels rs s, records_of_spans levels rs s)
