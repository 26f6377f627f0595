-- Each clause is a law of proofs/CostLaws or proofs/MeterLaws.
use Rattle.pb_schema.specs.Broken.{most_levels}
use Rattle.pb_schema.proofs.MeterLaws.{placed_in_parts, cleanups_in_parts}
use Rattle.pb_schema.proofs.CostLaws.{cost_later, cost_of_none}
use Rattle.pb_schema.proofs.laws.later_payloads_count_more.Goals as goal

pub returns-clause-later : goal.returns-clause-later
returns-clause-later c = λ meter schema type_no earlier later grows. cost_later meter grows schema most_levels type_no earlier later

pub returns-clause-none : goal.returns-clause-none
returns-clause-none c = λ meter schema type_no grows. cost_of_none meter grows schema most_levels type_no

pub returns-clause-placed : goal.returns-clause-placed
returns-clause-placed c = placed_in_parts

pub returns-clause-cleanups : goal.returns-clause-cleanups
returns-clause-cleanups c = cleanups_in_parts
