use Rattle.arena_list.proofs.Words.OneList.{one_list}
use Rattle.arena_list.proofs.laws.words_show_one_list.Goals as goal

pub returns : goal.returns
returns c = record { one_list = one_list }
