use Rattle.dyn_message.proofs.tests.empty.Goals as goal

pub returns : goal.returns
returns g c = (_, _, c.clear.ensures.cleared)
