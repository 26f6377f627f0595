-- Each clause is a law of proofs/AppendLaws; that two payloads without a fault have none one behind the other is one of proofs/FittedLaws.
use Rattle.pb_schema.proofs.FittedLaws.{together}
use Rattle.pb_schema.proofs.AppendLaws.{fault_behind, records_behind}
use Rattle.pb_schema.proofs.laws.what_stands_behind.Goals as goal

pub returns-clause-fault : goal.returns-clause-fault
returns-clause-fault c = λ schema type_no depth x y front. (fault_behind schema type_no depth x y front, together schema type_no depth x y front)

pub returns-clause-records : goal.returns-clause-records
returns-clause-records c = records_behind
