use Rattle.std.proofs.Common.{subst}
use Rattle.desc_pool.specs.Linked.{Answers}
use Rattle.desc_pool.proofs.Answering.{set_is_linked}
use Rattle.desc_pool.proofs.set.read_set.Goals as goal

pub returns-in-Ok-clause-answer : goal.returns-in-Ok-clause-answer
returns-in-Ok-clause-answer c =
    subst (Answers c.link_files.result) (set_is_linked c.args.bytes.now c.in-Ok.files c.as_slice.result.now c.in-Ok.ensures.files c.as_slice.ensures) c.link_files.ensures.answer
