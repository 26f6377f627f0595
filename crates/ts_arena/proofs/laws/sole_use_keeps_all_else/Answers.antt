use Rattle.ts_arena.proofs.Frames.{frame_tells}
use Rattle.ts_arena.proofs.laws.sole_use_keeps_all_else.Goals as goal

pub returns : goal.returns
returns c = λ at before after same. frame_tells at before after same
