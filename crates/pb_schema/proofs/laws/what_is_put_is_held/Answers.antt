-- Each clause is a law of proofs/HeldLaws.
use Rattle.pb_schema.proofs.HeldLaws.{get_after_set, get_elsewhere, entries_stay, held_no_deeper, changed_no_deeper}
use Rattle.pb_schema.proofs.laws.what_is_put_is_held.Goals as goal

pub returns-clause-here : goal.returns-clause-here
returns-clause-here c = get_after_set

pub returns-clause-elsewhere : goal.returns-clause-elsewhere
returns-clause-elsewhere c = get_elsewhere

pub returns-clause-entries : goal.returns-clause-entries
returns-clause-entries c = entries_stay

pub returns-clause-depth : goal.returns-clause-depth
returns-clause-depth c = λ schema type_no number held t. (held_no_deeper schema type_no number t, changed_no_deeper schema type_no number held t)
