use Rattle.std.proofs.Common.{◌≡◌, ◌∙◌, arith}
use Rattle.std.proofs.lemmas.Grind.{get_or_default_zero}
use Rattle.desc_pool.specs.Linked.{real_below}
use Rattle.desc_pool.proofs.Lawfulness.{real_few}
use Rattle.desc_pool.proofs.link.message_type.Goals as goal

pub returns-clause-few : goal.returns-clause-few
returns-clause-few c =
    let size = c.in_ok-before.ensures.counts.size in
    let is : c.index-oneofs.result.now ≡ real_below c.args.message.now c.args.message.now.oneofs = c.index-oneofs.ensures ∙ get_or_default_zero c.in_ok-before.before.items c.args.message.now.oneofs c.index-oneofs.result.now (omega (arith, size)) ∙ c.in_ok-before.ensures.counts.reals c.args.message.now.oneofs (omega arith) in
    let few = real_few c.args.message.now c.args.message.now.oneofs in
    let most = c.in_ok-before.ensures.few in
    omega (arith, is, few, most)
