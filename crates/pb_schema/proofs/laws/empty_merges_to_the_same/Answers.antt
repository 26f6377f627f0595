-- Each clause is a law of proofs/MergeLaws.
use Rattle.pb_schema.proofs.MergeLaws.{merge_left, merge_right}
use Rattle.pb_schema.proofs.laws.empty_merges_to_the_same.Goals as goal

pub returns-clause-into : goal.returns-clause-into
returns-clause-into c = merge_left

pub returns-clause-from : goal.returns-clause-from
returns-clause-from c = merge_right
