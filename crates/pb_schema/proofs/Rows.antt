-- Worked examples, computed by the definitions.
use Rattle.std.proofs.Common.{◌≡◌, ◌-◌, ◌^◌, ℕ, List, [], ◌∷◌, Option, None, Some, Ok, Err, refl}
use Rattle.pb_schema.specs.Varint.{varint_at}
use Rattle.pb_schema.specs.Frames.{frame_at, frames_of}
use Rattle.pb_schema.specs.Builtin.{builtin}
use Rattle.pb_schema.specs.Tree.{Held, Nothing, One, Number, Tree, Message, NoFields, FieldAnd}
use Rattle.pb_schema.specs.TreeOf.{tree_of as tree_by}
use Rattle.pb_schema.specs.Text.{framed, text_of as text_by}

-- a payload of `pb.Tick`, and a message of it with this in its field and without unknown bytes
abbrev tree_of : List ℕ → Option Tree
tree_of s = tree_by builtin 0 s

abbrev text_of : Tree → List ℕ
text_of t = text_by builtin 0 t

abbrev holding : Held → Tree
holding h = Message (FieldAnd h NoFields) []

one_hundred_and_fifty : varint_at 10 (150 ∷ 1 ∷ 8 ∷ []) ≡ Some (150, 2)
one_hundred_and_fifty = refl

a_long_spelling : varint_at 5 (130 ∷ 0 ∷ 8 ∷ 5 ∷ []) ≡ Some (2, 2)
a_long_spelling = refl

no_end : varint_at 10 (128 ∷ []) ≡ None
no_end = refl

too_long : varint_at 5 (128 ∷ 128 ∷ 128 ∷ 128 ∷ 128 ∷ 0 ∷ []) ≡ None
too_long = refl

abbrev all_ones : List ℕ
all_ones = 255 ∷ 255 ∷ 255 ∷ 255 ∷ 255 ∷ 255 ∷ 255 ∷ 255 ∷ 255 ∷ 1 ∷ []

the_greatest : varint_at 10 all_ones ≡ Some (2 ^ 64 - 1, 10)
the_greatest = refl

bits_past_the_last : varint_at 10 (255 ∷ 255 ∷ 255 ∷ 255 ∷ 255 ∷ 255 ∷ 255 ∷ 255 ∷ 255 ∷ 127 ∷ []) ≡ Some (2 ^ 64 - 1, 10)
bits_past_the_last = refl

one_frame : frames_of (3 ∷ 8 ∷ 150 ∷ 1 ∷ []) ≡ Ok ((8 ∷ 150 ∷ 1 ∷ []) ∷ [])
one_frame = refl

no_frame : frames_of [] ≡ Ok []
no_frame = refl

an_empty_frame : frames_of (0 ∷ []) ≡ Ok ([] ∷ [])
an_empty_frame = refl

a_cut_frame : frames_of (5 ∷ 8 ∷ 1 ∷ []) ≡ Err 0
a_cut_frame = refl

a_cut_second_frame : frames_of (2 ∷ 8 ∷ 1 ∷ 2 ∷ 8 ∷ []) ≡ Err 1
a_cut_second_frame = refl

a_long_prefix : frames_of (130 ∷ 0 ∷ 8 ∷ 5 ∷ 0 ∷ []) ≡ Ok ((8 ∷ 5 ∷ []) ∷ [] ∷ [])
a_long_prefix = refl

the_last_record_wins : tree_of (8 ∷ 1 ∷ 8 ∷ 150 ∷ 1 ∷ []) ≡ Some (holding (One (Number 150)))
the_last_record_wins = refl

a_default_is_nothing : tree_of (8 ∷ 5 ∷ 8 ∷ 0 ∷ []) ≡ Some (holding Nothing)
a_default_is_nothing = refl

written_again : framed (text_of (holding (One (Number 150)))) ≡ 3 ∷ 8 ∷ 150 ∷ 1 ∷ []
written_again = refl

a_default_is_not_written : framed (text_of (holding Nothing)) ≡ 0 ∷ []
a_default_is_not_written = refl

ten_bytes : framed (text_of (holding (One (Number (2 ^ 64 - 1))))) ≡ 11 ∷ 8 ∷ 255 ∷ 255 ∷ 255 ∷ 255 ∷ 255 ∷ 255 ∷ 255 ∷ 255 ∷ 255 ∷ 1 ∷ []
ten_bytes = refl

six_bytes : frames_of (130 ∷ 128 ∷ 128 ∷ 128 ∷ 128 ∷ 0 ∷ 8 ∷ 5 ∷ []) ≡ Err 0
six_bytes = refl

five_bytes_of_zero : frames_of (128 ∷ 128 ∷ 128 ∷ 128 ∷ 0 ∷ []) ≡ Ok ([] ∷ [])
five_bytes_of_zero = refl

too_great_a_length : frame_at (128 ∷ 128 ∷ 128 ∷ 128 ∷ 8 ∷ []) ≡ None
too_great_a_length = refl

-- 2 ^ 31 - 1 is a length, whose payload isn't there
the_greatest_length : frame_at (255 ∷ 255 ∷ 255 ∷ 255 ∷ 7 ∷ 0 ∷ []) ≡ None
the_greatest_length = refl

the_framed_greatest : frames_of (11 ∷ 8 ∷ all_ones) ≡ Ok ((8 ∷ all_ones) ∷ [])
the_framed_greatest = refl

its_tree : tree_of (8 ∷ all_ones) ≡ Some (holding (One (Number (2 ^ 64 - 1))))
its_tree = refl

-- a prefix of two bytes where one is enough
a_frame_with_a_long_prefix : frames_of (130 ∷ 0 ∷ 8 ∷ 5 ∷ []) ≡ Ok ((8 ∷ 5 ∷ []) ∷ [])
a_frame_with_a_long_prefix = refl

the_framed_last : frames_of (5 ∷ 8 ∷ 1 ∷ 8 ∷ 150 ∷ 1 ∷ []) ≡ Ok ((8 ∷ 1 ∷ 8 ∷ 150 ∷ 1 ∷ []) ∷ [])
the_framed_last = refl

another_field : tree_of (8 ∷ 7 ∷ 18 ∷ 0 ∷ []) ≡ Some (Message (FieldAnd (One (Number 7)) NoFields) (18 ∷ 0 ∷ []))
another_field = refl

a_tag_of_five_bytes : tree_of (136 ∷ 128 ∷ 128 ∷ 128 ∷ 0 ∷ 5 ∷ []) ≡ Some (holding (One (Number 5)))
a_tag_of_five_bytes = refl

a_tag_of_six_bytes : tree_of (136 ∷ 128 ∷ 128 ∷ 128 ∷ 128 ∷ 0 ∷ 5 ∷ []) ≡ None
a_tag_of_six_bytes = refl

-- the tag's bits past the 32nd count, and no tag has them
a_tag_of_more_bits : tree_of (136 ∷ 128 ∷ 128 ∷ 128 ∷ 16 ∷ 5 ∷ []) ≡ None
a_tag_of_more_bits = refl

no_value : tree_of (8 ∷ 5 ∷ 8 ∷ []) ≡ None
no_value = refl

a_value_without_end : tree_of (8 ∷ 128 ∷ []) ≡ None
a_value_without_end = refl

a_value_of_eleven_bytes : tree_of (8 ∷ 128 ∷ 128 ∷ 128 ∷ 128 ∷ 128 ∷ 128 ∷ 128 ∷ 128 ∷ 128 ∷ 128 ∷ 0 ∷ []) ≡ None
a_value_of_eleven_bytes = refl

-- 2 ^ 64 has no bit among the first 64
no_bit_left : tree_of (8 ∷ 128 ∷ 128 ∷ 128 ∷ 128 ∷ 128 ∷ 128 ∷ 128 ∷ 128 ∷ 128 ∷ 2 ∷ []) ≡ Some (holding Nothing)
no_bit_left = refl

a_long_default : tree_of (8 ∷ 128 ∷ 0 ∷ []) ≡ Some (holding Nothing)
a_long_default = refl

no_such_wire_type : tree_of (15 ∷ 0 ∷ []) ≡ None
no_such_wire_type = refl

no_such_field : tree_of (0 ∷ 0 ∷ []) ≡ None
no_such_field = refl

one_byte : framed (text_of (holding (One (Number 127)))) ≡ 2 ∷ 8 ∷ 127 ∷ []
one_byte = refl

two_bytes : framed (text_of (holding (One (Number 128)))) ≡ 3 ∷ 8 ∷ 128 ∷ 1 ∷ []
two_bytes = refl

the_highest_bit : framed (text_of (holding (One (Number (2 ^ 63))))) ≡ 11 ∷ 8 ∷ 128 ∷ 128 ∷ 128 ∷ 128 ∷ 128 ∷ 128 ∷ 128 ∷ 128 ∷ 128 ∷ 1 ∷ []
the_highest_bit = refl

no_bytes_are_the_empty_message : tree_of [] ≡ Some (holding Nothing)
no_bytes_are_the_empty_message = refl
