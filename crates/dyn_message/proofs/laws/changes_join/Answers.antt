use Rattle.dyn_message.proofs.Changing.{changes_join}
use Rattle.dyn_message.proofs.laws.changes_join.Goals as goal

pub returns : goal.returns
returns g c = λ old mid p q a b feet first second. let M = g.M.Memory in changes_join M.key M.places M.buffers M.blocks p q a b feet old mid c.args.mem.now first second
