-- Worked shapes of payloads, by the definitions: which pieces the unknown bytes are in, what is read as one message, and what the shape of a message is after another payload. Bytes are decimal.
use Rattle.std.proofs.Common.{◌≡◌, ℕ, List, [], ◌∷◌, map, Some, refl}
use Rattle.std.specs.List.{concat}
use Rattle.std.specs.Str.{is_utf8, chars}
use lib.Utf8.{encode}
use Rattle.pb_schema.specs.Builtin.{builtin, node_fields}
use Rattle.pb_schema.specs.Records.{Record}
use Rattle.pb_schema.specs.Tree.{HeldWith, Nothing, One, Many, Number, Sub, Shape, Message, NoFields, FieldAnd, value_list, held_list, tree_map}
use Rattle.pb_schema.specs.Empty.{empty_with}
use Rattle.pb_schema.specs.TreeOf.{records_in, runs, tree_of}
use Rattle.pb_schema.specs.ShapeOf.{shape_of}
use Rattle.pb_schema.specs.Builtin.{field}
use Rattle.pb_schema.specs.declared.kind.Kind.TheVariants as kinds
use Rattle.pb_schema.specs.declared.kind.Card.TheVariants as cards

-- what text computes with
with_text : Shape → Shape
unfolding is_utf8 chars encode
with_text t = t

abbrev tick : HeldWith (List (List ℕ)) → List (List ℕ) → Shape
tick held pieces = Message (FieldAnd held NoFields) pieces

-- field 2 is unknown; two payloads with it give two pieces, and one without gives none
a_piece_for_each_payload : shape_of builtin 0 ((18 ∷ 0 ∷ 18 ∷ 0 ∷ []) ∷ (8 ∷ 5 ∷ []) ∷ (18 ∷ 1 ∷ 7 ∷ 8 ∷ 6 ∷ []) ∷ []) ≡ tick (One (Number 6)) ((18 ∷ 0 ∷ 18 ∷ 0 ∷ []) ∷ (18 ∷ 1 ∷ 7 ∷ []) ∷ [])
a_piece_for_each_payload = refl

no_payload_is_empty : shape_of builtin 1 [] ≡ empty_with [] node_fields
no_payload_is_empty = refl

-- field 6 twice: the message has a piece for each of its two payloads
pieces_inside : shape_of builtin 1 ((50 ∷ 2 ∷ 72 ∷ 1 ∷ 50 ∷ 2 ∷ 72 ∷ 2 ∷ []) ∷ []) ≡ Message (held_list (Nothing ∷ Nothing ∷ Many (value_list []) ∷ Many (value_list []) ∷ Nothing ∷ One (Sub (empty_with ((72 ∷ 1 ∷ []) ∷ (72 ∷ 2 ∷ []) ∷ []) node_fields)) ∷ Nothing ∷ Nothing ∷ [])) []
unfolding with_text
pieces_inside = refl

-- the pieces one behind the other are the unknown bytes of the tree
joined_pieces : Some (tree_map concat (shape_of builtin 1 ((50 ∷ 2 ∷ 72 ∷ 1 ∷ 50 ∷ 2 ∷ 72 ∷ 2 ∷ []) ∷ (72 ∷ 3 ∷ []) ∷ []))) ≡ tree_of builtin 1 (50 ∷ 2 ∷ 72 ∷ 1 ∷ 50 ∷ 2 ∷ 72 ∷ 2 ∷ 72 ∷ 3 ∷ [])
unfolding with_text
joined_pieces = refl

-- the members of the oneof are fields 7 and 8; field 8 has two runs here, of one record and of two, and an empty one at the end
runs_of_a_member : map (map (λ (r : Record). r.payload)) (runs builtin (field 8 (kinds.Message 1) (cards.Member 0)) (records_in 100 (66 ∷ 0 ∷ 58 ∷ 0 ∷ 66 ∷ 2 ∷ 16 ∷ 1 ∷ 66 ∷ 0 ∷ 58 ∷ 1 ∷ 97 ∷ []))) ≡ ([] ∷ []) ∷ ((16 ∷ 1 ∷ []) ∷ [] ∷ []) ∷ [] ∷ []
runs_of_a_member = refl
