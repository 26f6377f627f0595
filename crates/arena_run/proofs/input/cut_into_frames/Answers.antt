use Rattle.arena_run.proofs.Firsts.{answered}
use Rattle.arena_run.proofs.FramesFit.{frames_fit}
use Rattle.arena_run.proofs.input.cut_into_frames.Goals as goal

pub returns-in-Ok-clause-fits : goal.returns-in-Ok-clause-fits
returns-in-Ok-clause-fits c = frames_fit c.args.bytes.items c.in-Ok.frames (answered c.args.bytes.items c.in-Ok.frames c.in-Ok.ensures.exact)
