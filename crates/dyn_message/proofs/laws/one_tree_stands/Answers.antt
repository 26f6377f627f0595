use Rattle.std.proofs.Common.{sym, ap, ◌∙◌}
use Rattle.std.specs.List.{concat}
use Rattle.pb_schema.specs.Tree.{tree_map}
use Rattle.dyn_message.proofs.OneShape.{message_one}
use Rattle.dyn_message.proofs.laws.one_tree_stands.Goals as goal

pub returns : goal.returns
returns c = λ schema places buffers msg tree other feet others one two.
    let same = message_one schema places buffers msg.type_no msg.place two.shape one.shape others feet two.stands.message one.stands.message in
    (sym two.joined ∙ ap (tree_map concat) same.0 ∙ one.joined, same.1)
