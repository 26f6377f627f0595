-- Each clause is a law of proofs/PayloadLaws.
use Rattle.pb_schema.proofs.PayloadLaws.{all_have_trees, none_is_bad, first_is_bad}
use Rattle.pb_schema.proofs.laws.trees_where_none_is_bad.Goals as goal

pub returns-clause-trees : goal.returns-clause-trees
returns-clause-trees c = all_have_trees

pub returns-clause-none : goal.returns-clause-none
returns-clause-none c = none_is_bad

pub returns-clause-first : goal.returns-clause-first
returns-clause-first c = first_is_bad
