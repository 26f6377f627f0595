use Rattle.msg_merge.proofs.Costs.{walk_costs}
use Rattle.msg_merge.proofs.laws.walks_cost_what_merges_cost.Goals as goal

pub returns : goal.returns
returns c = λ meter schema type_no t u lawful ours theirs. walk_costs meter schema type_no t u lawful ours theirs
