use Rattle.std.proofs.Common.{◌-◌, length, refl}
use Rattle.desc_pool.proofs.Members.{real_undeclared}
use Rattle.desc_pool.proofs.link.real_at.Goals as goal

pub returns : goal.returns
returns c = λ message p. real_undeclared message c.args.before.now c.args.oneof (length c.args.before.now - 1) p c.if-oneof-before.false refl
