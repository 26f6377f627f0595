use Rattle.dyn_message.proofs.Changing.{grown}
use Rattle.dyn_message.proofs.laws.growth_changes.Goals as goal

pub returns : goal.returns
returns g c = λ old p a feet grows. let M = g.M.Memory in grown M.key M.places M.buffers M.blocks p a feet old c.args.mem.now grows
