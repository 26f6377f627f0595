-- Worked values of records put into messages of `pb.Node`, by the definitions: another member of the oneof that comes and goes, a list that grows, a message that is there, a default, and unknown bytes. Bytes are decimal.
use Rattle.std.proofs.Common.{◌≡◌, ℕ, List, [], ◌∷◌, map, refl}
use Rattle.std.specs.Str.{is_utf8, chars}
use lib.Utf8.{encode}
use Rattle.pb_schema.specs.Builtin.{builtin}
use Rattle.pb_schema.specs.Tree.{Held, Nothing, One, Many, Number, Bytes, Sub, Tree, Message, value_list, held_list}
use Rattle.pb_schema.specs.Put.{tree_read}

-- what text computes with
with_text : Tree → Tree
unfolding is_utf8 chars encode
with_text t = t

-- a message of `pb.Node` with this count, these marks, this message next, this word and this node picked, and these unknown bytes
abbrev node : Held → List ℕ → Held → Held → Held → List ℕ → Tree
node count marks next word picked unknown = Message (held_list (Nothing ∷ count ∷ Many (value_list []) ∷ Many (value_list (map Number marks)) ∷ Nothing ∷ next ∷ word ∷ picked ∷ [])) unknown

counted : ℕ → Held
counted n = One (Sub (node (One (Number n)) [] Nothing Nothing Nothing []))

-- field 8, then field 7, which clears it, then field 8 again twice: the message goes on, but not from before field 7
a_member_comes_and_goes : tree_read builtin 1 (node Nothing [] Nothing Nothing (counted 1) []) (58 ∷ 1 ∷ 97 ∷ 66 ∷ 2 ∷ 32 ∷ 5 ∷ 66 ∷ 2 ∷ 16 ∷ 7 ∷ []) ≡ node Nothing [] Nothing Nothing (One (Sub (node (One (Number 7)) (5 ∷ []) Nothing Nothing Nothing []))) []
unfolding with_text
a_member_comes_and_goes = refl

another_member_clears : tree_read builtin 1 (node Nothing [] Nothing Nothing (counted 1) []) (58 ∷ 1 ∷ 97 ∷ []) ≡ node Nothing [] Nothing (One (Bytes (97 ∷ []))) Nothing []
unfolding with_text
another_member_clears = refl

-- packed and by itself
a_list_grows : tree_read builtin 1 (node Nothing (1 ∷ []) Nothing Nothing Nothing []) (34 ∷ 2 ∷ 2 ∷ 3 ∷ 32 ∷ 4 ∷ []) ≡ node Nothing (1 ∷ 2 ∷ 3 ∷ 4 ∷ []) Nothing Nothing Nothing []
a_list_grows = refl

-- the count is replaced, the marks grow
a_message_takes_more_in : tree_read builtin 1 (node Nothing [] (One (Sub (node (One (Number 1)) (1 ∷ []) Nothing Nothing Nothing []))) Nothing Nothing []) (50 ∷ 4 ∷ 16 ∷ 9 ∷ 32 ∷ 2 ∷ []) ≡ node Nothing [] (One (Sub (node (One (Number 9)) (1 ∷ 2 ∷ []) Nothing Nothing Nothing []))) Nothing Nothing []
a_message_takes_more_in = refl

a_default_clears : tree_read builtin 1 (node (One (Number 3)) [] Nothing Nothing Nothing []) (16 ∷ 0 ∷ []) ≡ node Nothing [] Nothing Nothing Nothing []
a_default_clears = refl

-- field 9, and field 2 with a wire type that it doesn't take
unknown_bytes_come_behind : tree_read builtin 1 (node Nothing [] Nothing Nothing Nothing (72 ∷ 1 ∷ [])) (72 ∷ 2 ∷ 16 ∷ 5 ∷ 18 ∷ 0 ∷ []) ≡ node (One (Number 5)) [] Nothing Nothing Nothing (72 ∷ 1 ∷ 72 ∷ 2 ∷ 18 ∷ 0 ∷ [])
unfolding with_text
unknown_bytes_come_behind = refl
