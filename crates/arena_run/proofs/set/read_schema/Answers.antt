use Rattle.std.proofs.Common.{Ok, ap, sym, ◌∙◌}
use Rattle.arena_run.specs.Ends.{Gives}
use Rattle.arena_run.proofs.SetLaws.{given_in, given_file}
use Rattle.arena_run.proofs.set.read_schema.Goals as goal

pub returns-in-Ok-clause-gives : goal.returns-in-Ok-clause-gives
returns-in-Ok-clause-gives g c =
    given_in (g.F.Files.contents c.args.files.now) c.args.set.now (λ answer. Gives answer (Ok c.in-Ok.schema)) (sym c.eq.ensures ∙ c.if-eq.true) (sym (ap Ok c.in-Ok.ensures.value))

pub returns-else-eq-clause-gives : goal.returns-else-eq-clause-gives
returns-else-eq-clause-gives g c =
    given_file (g.F.Files.contents c.args.files.now) c.args.set.now (λ answer. Gives answer c.read_set_file.result) (sym c.eq.ensures ∙ c.if-eq.false) c.read_set_file.ensures.gives
