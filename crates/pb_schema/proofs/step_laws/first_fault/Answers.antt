-- Each clause is a law of proofs/MovedLaws.
use Rattle.pb_schema.proofs.MovedLaws.{rest_fault, head_fault, fault_found, fault_there}
use Rattle.pb_schema.proofs.step_laws.first_fault.Goals as goal

pub returns-clause-behind : goal.returns-clause-behind
returns-clause-behind c = rest_fault

pub returns-clause-head : goal.returns-clause-head
returns-clause-head c = head_fault

pub returns-clause-exact : goal.returns-clause-exact
returns-clause-exact c = λ schema type_no depth s fault. (fault_found schema type_no depth s fault, fault_there schema type_no depth s fault)
