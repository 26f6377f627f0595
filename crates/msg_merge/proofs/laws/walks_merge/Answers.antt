use Rattle.msg_merge.proofs.Steps.{walk_merges}
use Rattle.msg_merge.proofs.laws.walks_merge.Goals as goal

pub returns : goal.returns
returns c = λ schema type_no t u lawful ours theirs. walk_merges schema type_no t u lawful ours theirs
