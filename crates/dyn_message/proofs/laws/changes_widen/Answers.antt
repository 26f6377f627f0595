use Rattle.dyn_message.proofs.Changing.{changes_widen}
use Rattle.dyn_message.proofs.laws.changes_widen.Goals as goal

pub returns : goal.returns
returns g c = λ old p q a b feet more change few_p few_a within. let M = g.M.Memory in changes_widen M.key M.places M.buffers M.blocks p q a b feet more old c.args.mem.now change few_p few_a within
