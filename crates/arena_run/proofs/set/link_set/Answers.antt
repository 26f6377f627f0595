use Rattle.arena_run.proofs.SetLaws.{linked_ok, linked_err}
use Rattle.arena_run.proofs.set.link_set.Goals as goal

pub returns-in-Ok-clause-gives : goal.returns-in-Ok-clause-gives
returns-in-Ok-clause-gives c = linked_ok c.args.bytes.now c.in-Ok.schema c.requires c.in-Ok.ensures.answer

pub returns-in-Err-Bad-clause-gives : goal.returns-in-Err-Bad-clause-gives
returns-in-Err-Bad-clause-gives c = λ read. linked_err c.args.bytes.now c.in-Err-Bad.refused c.requires (rw c.in-Err-Bad.field-0-is at c.in-Err-Bad.ensures.answer)
