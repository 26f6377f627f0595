-- Worked costs over the built-in types, whose records have 32 and 192 bytes, computed by the definitions. Bytes are decimal.
use Rattle.std.proofs.Common.{◌≡◌, ◌+◌, ℕ, zero, suc, List, [], ◌∷◌, ◌++◌, refl}
use Rattle.std.specs.Prelude.{replicate}
use Rattle.pb_schema.specs.Builtin.{builtin}
use Rattle.pb_schema.specs.ShapeOf.{shape_of}
use Rattle.pb_schema.specs.Meter.{Meter, string_bytes, array_bytes, placed_bytes, cleanups}
use Rattle.pb_schema.specs.ParseCost.{parse_cost}
use Rattle.pb_schema.specs.MergeCost.{merge_cost, fresh_cost}

abbrev sizes : ℕ → ℕ
sizes zero = 32
sizes (suc type_no) = 192

abbrev placed : Meter
placed = placed_bytes sizes

no_string : string_bytes 0 ≡ 0
no_string = refl

a_short_string : string_bytes 9 ≡ 16
a_short_string = refl

a_long_string : string_bytes 16 ≡ 0
a_long_string = refl

-- four, eight and sixteen elements of four bytes
nine_elements : array_bytes 4 0 9 ≡ 16 + 32 + 64
nine_elements = refl

one_more : array_bytes 4 8 9 ≡ 64
one_more = refl

room_is_left : array_bytes 4 5 8 ≡ 0
room_is_left = refl

-- two children with names of 17 and 11 bytes, and five marks
abbrev a_node : List ℕ
a_node = 10 ∷ 0 ∷ 16 ∷ 1 ∷ 26 ∷ 19 ∷ 10 ∷ 17 ∷ replicate 17 99 ++ 26 ∷ 13 ∷ 10 ∷ 11 ∷ replicate 11 99 ++ 34 ∷ 9 ∷ 116 ∷ 163 ∷ 1 ∷ 163 ∷ 2 ∷ 215 ∷ 1 ∷ 175 ∷ 1 ∷ []

its_bytes : parse_cost placed builtin 1 (a_node ∷ []) ≡ 704
its_bytes = refl

its_cleanups : parse_cost cleanups builtin 1 (a_node ∷ []) ≡ 1
its_cleanups = refl

-- a copy of it takes as much
a_copy : fresh_cost placed builtin 1 (shape_of builtin 1 (a_node ∷ [])) ≡ 704
a_copy = refl

-- unknown bytes: an array with room for four, and one element of eight bytes
unknown_bytes : parse_cost placed builtin 0 ((13 ∷ 1 ∷ 2 ∷ 3 ∷ 4 ∷ []) ∷ []) ≡ 32 + 96 + 8
unknown_bytes = refl

-- a node, a word and a node again: each run of a member takes its record, also where a later one replaces it
replaced_members : parse_cost placed builtin 1 ((66 ∷ 2 ∷ 16 ∷ 1 ∷ 58 ∷ 1 ∷ 97 ∷ 66 ∷ 0 ∷ []) ∷ []) ≡ 192 + 192 + 8 + 192
replaced_members = refl

-- the name `a` with the marks 1 and 2, and the name `b` with the mark 3, for which there is room
abbrev merged_cost : Meter → List ℕ → List ℕ → ℕ
merged_cost meter into from = merge_cost meter builtin 1 (shape_of builtin 1 (into ∷ [])) (shape_of builtin 1 (from ∷ []))

a_list_with_room : merged_cost placed (10 ∷ 1 ∷ 97 ∷ 34 ∷ 2 ∷ 1 ∷ 2 ∷ []) (10 ∷ 1 ∷ 98 ∷ 34 ∷ 1 ∷ 3 ∷ []) ≡ 8
a_list_with_room = refl

-- a message in a message that is there takes no record, and in one that isn't it does
a_message_there : merged_cost placed (50 ∷ 3 ∷ 10 ∷ 1 ∷ 97 ∷ []) (50 ∷ 3 ∷ 10 ∷ 1 ∷ 98 ∷ []) ≡ 8
a_message_there = refl

a_message_more : merged_cost placed [] (50 ∷ 3 ∷ 10 ∷ 1 ∷ 98 ∷ []) ≡ 192 + 8
a_message_more = refl

-- a piece behind a piece
a_piece_more : merge_cost placed builtin 0 (shape_of builtin 0 ((13 ∷ 1 ∷ 2 ∷ 3 ∷ 4 ∷ []) ∷ [])) (shape_of builtin 0 ((13 ∷ 5 ∷ 6 ∷ 7 ∷ 8 ∷ []) ∷ [])) ≡ 8
a_piece_more = refl

a_long_name : merged_cost cleanups (10 ∷ 1 ∷ 97 ∷ []) (10 ∷ 16 ∷ replicate 16 98) ≡ 1
a_long_name = refl
