-- Messages that stand for trees side by side stand for one list of trees.
use Rattle.std.proofs.Common.{◌≡◌, ℕ, List, [], ◌∷◌, refl, sym, ap, ◌∙◌}
use Rattle.std.specs.List.{concat}
use Rattle.arena_mem.specs.Places.{Places, Buffers}
use Rattle.pb_schema.specs.declared.schema.Schema.{Schema}
use Rattle.pb_schema.specs.Tree.{Tree, tree_map}
use Rattle.dyn_message.specs.declared.msg_ref.MsgRef.{MsgRef}
use Rattle.dyn_message.specs.Feet.{Foot}
use Rattle.dyn_message.specs.Stands.{StandsFor}
use Rattle.dyn_message.proofs.OneShape.{message_one}
use Rattle.arena_run.specs.Stands.{AllStand, StandApart}

one_tree : (schema : Schema) (places : Places) (buffers : Buffers) (msg : MsgRef) (tree other : Tree) (feet more : List Foot) → StandsFor schema places buffers msg tree feet → StandsFor schema places buffers msg other more → other ≡ tree
one_tree schema places buffers msg tree other feet more one two =
    let same = message_one schema places buffers msg.type_no msg.place two.shape one.shape more feet two.stands.message one.stands.message in
    sym two.joined ∙ ap (tree_map concat) same.0 ∙ one.joined

all_one : (schema : Schema) (places : Places) (buffers : Buffers) (m n : ℕ) (messages : List MsgRef) (trees others : List Tree) (feet more : List Foot) → AllStand schema places buffers m messages trees feet → AllStand schema places buffers n messages others more → others ≡ trees
all_one schema places buffers m n [] [] [] feet more all too = refl
all_one schema places buffers m n [] [] (u ∷ others) feet more all too = absurd too
all_one schema places buffers m n [] (t ∷ trees) others feet more all too = absurd all
all_one schema places buffers m n (msg ∷ messages) [] others feet more all too = absurd all
all_one schema places buffers m n (msg ∷ messages) (t ∷ trees) [] feet more all too = absurd too
all_one schema places buffers m n (msg ∷ messages) (t ∷ trees) (u ∷ others) feet more all too =
    ap (λ x. x ∷ others) (one_tree schema places buffers msg t u all.own too.own all.first.1 too.first.1)
    ∙ ap (λ xs. t ∷ xs) (all_one schema places buffers m n messages trees others all.rest too.rest all.second too.second)

pub apart_one : (schema : Schema) (places : Places) (buffers : Buffers) (m n : ℕ) (messages : List MsgRef) (trees others : List Tree) → StandApart schema places buffers m messages trees → StandApart schema places buffers n messages others → others ≡ trees
apart_one schema places buffers m n messages trees others one two = all_one schema places buffers m n messages trees others one.feet two.feet one.stand two.stand
