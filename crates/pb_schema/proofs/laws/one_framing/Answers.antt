-- Each clause is a law of proofs/FrameLaws.
use Rattle.pb_schema.proofs.FrameLaws.{one_framing, frames_found, frames_of_frames, cut_found, cut_exact}
use Rattle.pb_schema.proofs.laws.one_framing.Goals as goal

pub returns-clause-only : goal.returns-clause-only
returns-clause-only c = one_framing

pub returns-clause-exact : goal.returns-clause-exact
returns-clause-exact c = λ s ps. (frames_found ps s, frames_of_frames s ps)

pub returns-clause-cut : goal.returns-clause-cut
returns-clause-cut c = λ s n. (cut_found n s, cut_exact n s)
