-- Each clause is a law of proofs/FaultLaws or proofs/FittedLaws.
use Rattle.pb_schema.proofs.FaultLaws.{no_fault_then, tree_there}
use Rattle.pb_schema.proofs.FittedLaws.{records_at, nested_whole, together}
use Rattle.pb_schema.proofs.laws.a_tree_where_no_fault.Goals as goal

pub returns-clause-tree : goal.returns-clause-tree
returns-clause-tree c = λ schema type_no s. (no_fault_then schema type_no s, tree_there schema type_no s)

pub returns-clause-records : goal.returns-clause-records
returns-clause-records c = records_at

pub returns-clause-nested : goal.returns-clause-nested
returns-clause-nested c = nested_whole

pub returns-clause-together : goal.returns-clause-together
returns-clause-together c = together
