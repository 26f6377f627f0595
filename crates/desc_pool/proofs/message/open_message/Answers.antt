use Rattle.std.proofs.Common.{subst}
use Rattle.std.specs.Prelude.{All}
use Rattle.desc_pool.specs.declared.descriptor.Descriptor.TheVariants as descriptors
use Rattle.desc_pool.specs.Payloads.{IsSub}
use Rattle.desc_pool.proofs.message.open_message.Goals as goal

pub returns-clause-subs : goal.returns-clause-subs
returns-clause-subs c =
    subst (λ n. All (IsSub descriptors.Message n c.args.bytes.now) c.in_ok-nested.nested.items) c.in_ok-fields.ensures.depth c.in_ok-nested.ensures.subs
