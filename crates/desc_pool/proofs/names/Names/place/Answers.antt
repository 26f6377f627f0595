use Rattle.std.proofs.Common.{◌∙◌}
use Rattle.desc_pool.proofs.Naming.{place_within}
use Rattle.desc_pool.proofs.names.Names.place.Goals as goal

pub returns-clause-within : goal.returns-clause-within
returns-clause-within c = place_within c.args.self.now.list c.args.name.now c.find.result (c.find.ensures ∙ c.requires.places c.args.name.now)
