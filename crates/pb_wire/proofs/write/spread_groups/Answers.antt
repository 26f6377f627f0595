use Rattle.pb_wire.proofs.Spread.{spread_eight}
use Rattle.pb_wire.proofs.write.spread_groups.Goals as goal

pub returns-clause-same : goal.returns-clause-same
returns-clause-same c s eight small is = spread_eight s c.args.value eight small is
