use Rattle.std.proofs.Common.{⊎_elim, inr}
use Rattle.dyn_message.proofs.Changing.{fresh_before}
use Rattle.dyn_message.proofs.laws.old_or_fresh_joins.Goals as goal

pub returns : goal.returns
returns c = λ places places' buffers buffers' before between now still first second foot among.
    ⊎_elim (λ old. first foot old) (λ fresh. inr (fresh_before places places' buffers buffers' foot (still foot) fresh)) (second foot among)
