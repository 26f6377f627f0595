-- Merging three messages of `pb.Node` depends on which two are merged first, where a oneof changes its member in the middle: a worked value.
use Rattle.std.proofs.Common.{◌≡◌, ℕ, List, [], ◌∷◌, map, refl}
use Rattle.pb_schema.specs.Builtin.{builtin}
use Rattle.pb_schema.specs.Tree.{Held, Nothing, One, Many, Number, Bytes, Sub, Tree, Message, value_list, held_list}
use Rattle.pb_schema.specs.Merge.{merge_of}

-- a message with these marks, and this word and this node picked
abbrev picked : List ℕ → Held → Held → Tree
picked marks word node = Message (held_list (Nothing ∷ Nothing ∷ Many (value_list []) ∷ Many (value_list (map Number marks)) ∷ Nothing ∷ Nothing ∷ word ∷ node ∷ [])) []

-- one that picks a node with these marks, and one that picks a word
abbrev a_node : List ℕ → Tree
a_node marks = picked [] Nothing (One (Sub (picked marks Nothing Nothing)))

abbrev a_word : Tree
a_word = picked [] (One (Bytes (97 ∷ []))) Nothing

-- the word in the middle clears the first node
from_the_left : merge_of builtin 1 (merge_of builtin 1 (a_node (1 ∷ [])) a_word) (a_node (2 ∷ [])) ≡ a_node (2 ∷ [])
from_the_left = refl

-- the last node comes in the word's place, and merges with the first
from_the_right : merge_of builtin 1 (a_node (1 ∷ [])) (merge_of builtin 1 a_word (a_node (2 ∷ []))) ≡ a_node (1 ∷ 2 ∷ [])
from_the_right = refl
