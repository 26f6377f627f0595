use Rattle.std.specs.String.{string_bytes}
use Rattle.arena_mem.specs.Outside.{content_of}
use Rattle.arena_run.proofs.Firsts.{if_err, each_err, cut_first, input_first}
use Rattle.arena_run.proofs.input.read_frames_file.Goals as goal

pub returns-in_err-bytes-clause-first : goal.returns-in_err-bytes-clause-first
returns-in_err-bytes-clause-first g c =
    let input = c.in_err-bytes.ensures in
    if_err c.from_residual.result _ _ c.from_residual.ensures.1 (input_first _ (content_of (g.F.Files.contents c.args.files.now) (string_bytes c.args.name)) input.kind input.long)

pub returns-clause-first : goal.returns-clause-first
returns-clause-first g c =
    let cut = c.cut_into_frames.ensures in
    let input = c.in_ok-bytes.ensures in
    each_err c.cut_into_frames.result _ _ _ (λ fault kind is. cut_first fault (content_of (g.F.Files.contents c.args.files.now) (string_bytes c.args.name)) c.in_ok-bytes.bytes.items input.content input.limit kind.0 is) cut.kind cut.fault
