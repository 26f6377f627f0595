use Rattle.arena_mem.specs.Outside.{content_of}
use Rattle.std.specs.String.{string_bytes}
use Rattle.std.proofs.Common.{subst}
use Rattle.std.specs.Prelude.{IfSome}
use Rattle.arena_run.specs.Ends.{Gives}
use Rattle.arena_run.specs.Sets.{set_answer}
use Rattle.arena_run.proofs.SetLaws.{gives_err, input_gives}
use Rattle.arena_run.proofs.set.read_set_file.Goals as goal

pub returns-in_err-bytes-clause-gives : goal.returns-in_err-bytes-clause-gives
returns-in_err-bytes-clause-gives g c =
    let F = g.F.Files in
    let input = c.in_err-bytes.ensures in
    subst (λ name. IfSome (content_of (F.contents c.args.files.now) name) (λ content. Gives (set_answer content) c.from_residual.result)) c.in-Ok.ensures.ok
    (gives_err (content_of (F.contents c.args.files.now) (string_bytes c.in-Ok.name)) c.from_residual.result _ c.from_residual.ensures.1
    (input_gives _ (content_of (F.contents c.args.files.now) (string_bytes c.in-Ok.name)) input.kind input.long))
