-- Worked examples over the built-in types, computed by the definitions. Bytes are decimal.
use Rattle.std.proofs.Common.{◌≡◌, ℕ, zero, suc, List, [], ◌∷◌, None, Some, refl}
use Rattle.std.specs.Prelude.{Option, option_and_then}
use Rattle.std.specs.Option.{option_map}
use Rattle.std.specs.Str.{is_utf8, chars}
use lib.Utf8.{encode}
use Rattle.pb_schema.specs.declared.wire_fault.WireFault.{WireFault}
use Rattle.pb_schema.specs.declared.wire_fault.WireKind.{WireKind}
use Rattle.pb_schema.specs.declared.wire_fault.WireKind.TheVariants.{Cut, LongVarint, BadTag, BadLength, GroupEnd, TooDeep, NotUtf8}
use Rattle.pb_schema.specs.Builtin.{builtin}
use Rattle.pb_schema.specs.Fault.{fault_of}
use Rattle.pb_schema.specs.TreeOf.{tree_of}
use Rattle.pb_schema.specs.Merge.{merge_of}
use Rattle.pb_schema.specs.Units.{units_of}
use Rattle.pb_schema.specs.Depth.{depth_of}
use Rattle.pb_schema.specs.Text.{text_of, framed}

-- what text computes with
with_text : ℕ
unfolding is_utf8 chars encode
with_text = 0

abbrev at : WireKind → ℕ → Option WireFault
at kind byte = Some (record { kind = kind; byte = byte })

-- what is written for a payload that is read at a type
abbrev rewritten : ℕ → List ℕ → Option (List ℕ)
rewritten type_no s = option_map (λ t. text_of builtin type_no t) (tree_of builtin type_no s)

-- what is written for the second payload merged into the first
abbrev merged : ℕ → List ℕ → List ℕ → Option (List ℕ)
merged type_no x y = option_and_then (λ a. option_map (λ b. text_of builtin type_no (merge_of builtin type_no a b)) (tree_of builtin type_no y)) (tree_of builtin type_no x)

-- `pb.Tick`

one_record : rewritten 0 (8 ∷ 150 ∷ 1 ∷ []) ≡ Some (8 ∷ 150 ∷ 1 ∷ [])
unfolding with_text
one_record = refl

the_last_record_wins : rewritten 0 (8 ∷ 1 ∷ 8 ∷ 150 ∷ 1 ∷ []) ≡ Some (8 ∷ 150 ∷ 1 ∷ [])
unfolding with_text
the_last_record_wins = refl

a_default_is_not_written : rewritten 0 (8 ∷ 0 ∷ []) ≡ Some []
unfolding with_text
a_default_is_not_written = refl

an_empty_message : rewritten 0 [] ≡ Some []
unfolding with_text
an_empty_message = refl

another_wire_type_is_unknown : rewritten 0 (13 ∷ 1 ∷ 2 ∷ 3 ∷ 4 ∷ []) ≡ Some (13 ∷ 1 ∷ 2 ∷ 3 ∷ 4 ∷ [])
unfolding with_text
another_wire_type_is_unknown = refl

a_value_without_end : fault_of builtin 0 0 (8 ∷ 128 ∷ []) ≡ at Cut 1
unfolding with_text
a_value_without_end = refl

all_64_bits : rewritten 0 (8 ∷ 255 ∷ 255 ∷ 255 ∷ 255 ∷ 255 ∷ 255 ∷ 255 ∷ 255 ∷ 255 ∷ 1 ∷ []) ≡ Some (8 ∷ 255 ∷ 255 ∷ 255 ∷ 255 ∷ 255 ∷ 255 ∷ 255 ∷ 255 ∷ 255 ∷ 1 ∷ [])
unfolding with_text
all_64_bits = refl

a_group_is_kept : rewritten 0 (19 ∷ 8 ∷ 1 ∷ 20 ∷ []) ≡ Some (19 ∷ 8 ∷ 1 ∷ 20 ∷ [])
unfolding with_text
a_group_is_kept = refl

an_end_outside_a_group : fault_of builtin 0 0 (20 ∷ []) ≡ at GroupEnd 0
unfolding with_text
an_end_outside_a_group = refl

no_such_wire_type : fault_of builtin 0 0 (7 ∷ []) ≡ at BadTag 0
unfolding with_text
no_such_wire_type = refl

an_end_of_another_group : fault_of builtin 0 0 (19 ∷ 28 ∷ []) ≡ at GroupEnd 1
unfolding with_text
an_end_of_another_group = refl

a_group_without_end : fault_of builtin 0 0 (19 ∷ []) ≡ at Cut 1
unfolding with_text
a_group_without_end = refl

unknown_records_in_order_behind_the_known : rewritten 0 (19 ∷ 8 ∷ 1 ∷ 20 ∷ 8 ∷ 5 ∷ 18 ∷ 1 ∷ 255 ∷ []) ≡ Some (8 ∷ 5 ∷ 19 ∷ 8 ∷ 1 ∷ 20 ∷ 18 ∷ 1 ∷ 255 ∷ [])
unfolding with_text
unknown_records_in_order_behind_the_known = refl

no_tree_with_a_fault : rewritten 0 (8 ∷ 128 ∷ []) ≡ None
unfolding with_text
no_tree_with_a_fault = refl

-- `pb.Node`

merged_nodes : merged 1 (10 ∷ 1 ∷ 97 ∷ 34 ∷ 2 ∷ 1 ∷ 2 ∷ []) (10 ∷ 1 ∷ 98 ∷ 34 ∷ 1 ∷ 3 ∷ []) ≡ Some (10 ∷ 1 ∷ 98 ∷ 34 ∷ 3 ∷ 1 ∷ 2 ∷ 3 ∷ [])
unfolding with_text
merged_nodes = refl

released_field : rewritten 1 (50 ∷ 3 ∷ 10 ∷ 1 ∷ 120 ∷ []) ≡ Some (50 ∷ 3 ∷ 10 ∷ 1 ∷ 120 ∷ [])
unfolding with_text
released_field = refl

-- of a oneof the last member is set, from its last run
messages_are_read_as_one : rewritten 1 (58 ∷ 1 ∷ 97 ∷ 66 ∷ 2 ∷ 16 ∷ 1 ∷ 66 ∷ 3 ∷ 10 ∷ 1 ∷ 122 ∷ []) ≡ Some (66 ∷ 5 ∷ 10 ∷ 1 ∷ 122 ∷ 16 ∷ 1 ∷ [])
unfolding with_text
messages_are_read_as_one = refl

packed_and_not : rewritten 1 (32 ∷ 5 ∷ 34 ∷ 2 ∷ 6 ∷ 7 ∷ 32 ∷ 8 ∷ []) ≡ Some (34 ∷ 4 ∷ 5 ∷ 6 ∷ 7 ∷ 8 ∷ [])
unfolding with_text
packed_and_not = refl

a_negative_number : rewritten 1 (32 ∷ 255 ∷ 255 ∷ 255 ∷ 255 ∷ 255 ∷ 255 ∷ 255 ∷ 255 ∷ 255 ∷ 1 ∷ []) ≡ Some (34 ∷ 10 ∷ 255 ∷ 255 ∷ 255 ∷ 255 ∷ 255 ∷ 255 ∷ 255 ∷ 255 ∷ 255 ∷ 1 ∷ [])
unfolding with_text
a_negative_number = refl

text_that_is_none : fault_of builtin 1 0 (10 ∷ 1 ∷ 255 ∷ []) ≡ at NotUtf8 2
unfolding with_text
text_that_is_none = refl

fifteen_and_sixteen : rewritten 1 (10 ∷ 15 ∷ 97 ∷ 97 ∷ 97 ∷ 97 ∷ 97 ∷ 97 ∷ 97 ∷ 97 ∷ 97 ∷ 97 ∷ 97 ∷ 97 ∷ 97 ∷ 97 ∷ 97 ∷ 50 ∷ 18 ∷ 10 ∷ 16 ∷ 97 ∷ 97 ∷ 97 ∷ 97 ∷ 97 ∷ 97 ∷ 97 ∷ 97 ∷ 97 ∷ 97 ∷ 97 ∷ 97 ∷ 97 ∷ 97 ∷ 97 ∷ 97 ∷ []) ≡ Some (10 ∷ 15 ∷ 97 ∷ 97 ∷ 97 ∷ 97 ∷ 97 ∷ 97 ∷ 97 ∷ 97 ∷ 97 ∷ 97 ∷ 97 ∷ 97 ∷ 97 ∷ 97 ∷ 97 ∷ 50 ∷ 18 ∷ 10 ∷ 16 ∷ 97 ∷ 97 ∷ 97 ∷ 97 ∷ 97 ∷ 97 ∷ 97 ∷ 97 ∷ 97 ∷ 97 ∷ 97 ∷ 97 ∷ 97 ∷ 97 ∷ 97 ∷ 97 ∷ [])
unfolding with_text
fifteen_and_sixteen = refl

-- n messages, each inside the one before, by field 6
nested : ℕ → List ℕ
nested zero = []
nested (suc n) = 50 ∷ framed (nested n)

a_hundred_levels : option_map (λ t. depth_of t) (tree_of builtin 1 (nested 100)) ≡ Some 100
unfolding with_text nested
a_hundred_levels = refl

a_hundred_levels_again : rewritten 1 (nested 100) ≡ Some (nested 100)
unfolding with_text nested
a_hundred_levels_again = refl

-- the tag of the innermost message
one_level_more : fault_of builtin 1 0 (nested 101) ≡ at TooDeep 237
unfolding with_text nested
one_level_more = refl

-- Damaged payloads of `pb.Node`

no_length : fault_of builtin 1 0 (10 ∷ []) ≡ at Cut 1
unfolding with_text
no_length = refl

a_payload_that_is_cut : fault_of builtin 1 0 (10 ∷ 5 ∷ 97 ∷ []) ≡ at Cut 2
unfolding with_text
a_payload_that_is_cut = refl

eleven_bytes : fault_of builtin 1 0 (16 ∷ 255 ∷ 255 ∷ 255 ∷ 255 ∷ 255 ∷ 255 ∷ 255 ∷ 255 ∷ 255 ∷ 255 ∷ 1 ∷ []) ≡ at LongVarint 1
unfolding with_text
eleven_bytes = refl

a_tag_of_six_bytes : fault_of builtin 1 0 (128 ∷ 128 ∷ 128 ∷ 128 ∷ 128 ∷ 0 ∷ []) ≡ at LongVarint 0
unfolding with_text
a_tag_of_six_bytes = refl

number_0 : fault_of builtin 1 0 (0 ∷ []) ≡ at BadTag 0
unfolding with_text
number_0 = refl

wire_type_6 : fault_of builtin 1 0 (6 ∷ []) ≡ at BadTag 0
unfolding with_text
wire_type_6 = refl

wire_type_7 : fault_of builtin 1 0 (15 ∷ []) ≡ at BadTag 0
unfolding with_text
wire_type_7 = refl

a_tag_of_33_bits : fault_of builtin 1 0 (128 ∷ 128 ∷ 128 ∷ 128 ∷ 16 ∷ []) ≡ at BadTag 0
unfolding with_text
a_tag_of_33_bits = refl

a_length_of_2_to_the_31 : fault_of builtin 1 0 (10 ∷ 128 ∷ 128 ∷ 128 ∷ 128 ∷ 8 ∷ []) ≡ at BadLength 1
unfolding with_text
a_length_of_2_to_the_31 = refl

cut_in_a_child : fault_of builtin 1 0 (26 ∷ 3 ∷ 10 ∷ 5 ∷ 97 ∷ []) ≡ at Cut 4
unfolding with_text
cut_in_a_child = refl

a_childs_value_without_end : fault_of builtin 1 0 (26 ∷ 2 ∷ 8 ∷ 128 ∷ []) ≡ at Cut 3
unfolding with_text
a_childs_value_without_end = refl

a_packed_value_without_end : fault_of builtin 1 0 (34 ∷ 2 ∷ 1 ∷ 128 ∷ []) ≡ at Cut 3
unfolding with_text
a_packed_value_without_end = refl

overridden_text_counts : fault_of builtin 1 0 (10 ∷ 1 ∷ 255 ∷ 10 ∷ 1 ∷ 97 ∷ []) ≡ at NotUtf8 2
unfolding with_text
overridden_text_counts = refl

bytes_need_not_be_text : rewritten 1 (42 ∷ 1 ∷ 255 ∷ []) ≡ Some (42 ∷ 1 ∷ 255 ∷ [])
unfolding with_text
bytes_need_not_be_text = refl

a_string_in_a_number_field : rewritten 1 (18 ∷ 1 ∷ 97 ∷ []) ≡ Some (18 ∷ 1 ∷ 97 ∷ [])
unfolding with_text
a_string_in_a_number_field = refl

-- Payloads by hand

an_empty_text_is_a_default : rewritten 1 (10 ∷ 0 ∷ []) ≡ Some []
unfolding with_text
an_empty_text_is_a_default = refl

the_last_text_wins_also_where_it_is_empty : rewritten 1 (10 ∷ 1 ∷ 97 ∷ 10 ∷ 0 ∷ []) ≡ Some []
unfolding with_text
the_last_text_wins_also_where_it_is_empty = refl

a_member_with_its_default : rewritten 1 (58 ∷ 0 ∷ []) ≡ Some (58 ∷ 0 ∷ [])
unfolding with_text
a_member_with_its_default = refl

the_last_member_is_set : rewritten 1 (66 ∷ 0 ∷ 58 ∷ 1 ∷ 97 ∷ []) ≡ Some (58 ∷ 1 ∷ 97 ∷ [])
unfolding with_text
the_last_member_is_set = refl

the_last_run_alone_counts : rewritten 1 (66 ∷ 2 ∷ 16 ∷ 1 ∷ 58 ∷ 0 ∷ 66 ∷ 2 ∷ 16 ∷ 2 ∷ []) ≡ Some (66 ∷ 2 ∷ 16 ∷ 2 ∷ [])
unfolding with_text
the_last_run_alone_counts = refl

records_of_other_fields_do_not_end_a_run : rewritten 1 (66 ∷ 2 ∷ 16 ∷ 1 ∷ 8 ∷ 5 ∷ 66 ∷ 3 ∷ 10 ∷ 1 ∷ 97 ∷ []) ≡ Some (66 ∷ 5 ∷ 10 ∷ 1 ∷ 97 ∷ 16 ∷ 1 ∷ 8 ∷ 5 ∷ [])
unfolding with_text
records_of_other_fields_do_not_end_a_run = refl

payloads_are_read_as_one : rewritten 1 (50 ∷ 2 ∷ 8 ∷ 1 ∷ 50 ∷ 2 ∷ 16 ∷ 5 ∷ []) ≡ Some (50 ∷ 4 ∷ 16 ∷ 5 ∷ 8 ∷ 1 ∷ [])
unfolding with_text
payloads_are_read_as_one = refl

an_empty_packed_list : rewritten 1 (34 ∷ 0 ∷ []) ≡ Some []
unfolding with_text
an_empty_packed_list = refl

four_bytes_in_a_list_of_varints : rewritten 1 (37 ∷ 1 ∷ 0 ∷ 0 ∷ 0 ∷ []) ≡ Some (37 ∷ 1 ∷ 0 ∷ 0 ∷ 0 ∷ [])
unfolding with_text
four_bytes_in_a_list_of_varints = refl

the_low_32_bits : rewritten 1 (34 ∷ 6 ∷ 255 ∷ 255 ∷ 255 ∷ 255 ∷ 31 ∷ 1 ∷ []) ≡ Some (34 ∷ 11 ∷ 255 ∷ 255 ∷ 255 ∷ 255 ∷ 255 ∷ 255 ∷ 255 ∷ 255 ∷ 255 ∷ 1 ∷ 1 ∷ [])
unfolding with_text
the_low_32_bits = refl

two_empty_children : rewritten 1 (26 ∷ 0 ∷ 26 ∷ 0 ∷ []) ≡ Some (26 ∷ 0 ∷ 26 ∷ 0 ∷ [])
unfolding with_text
two_empty_children = refl

a_group_fits_no_field : rewritten 1 (43 ∷ 44 ∷ []) ≡ Some (43 ∷ 44 ∷ [])
unfolding with_text
a_group_fits_no_field = refl

a_group_is_read_without_a_type : rewritten 1 (43 ∷ 10 ∷ 1 ∷ 255 ∷ 44 ∷ []) ≡ Some (43 ∷ 10 ∷ 1 ∷ 255 ∷ 44 ∷ [])
unfolding with_text
a_group_is_read_without_a_type = refl

nor_are_messages_in_a_group : rewritten 1 (51 ∷ 50 ∷ 3 ∷ 10 ∷ 1 ∷ 255 ∷ 52 ∷ []) ≡ Some (51 ∷ 50 ∷ 3 ∷ 10 ∷ 1 ∷ 255 ∷ 52 ∷ [])
unfolding with_text
nor_are_messages_in_a_group = refl

ended_by_another_number : fault_of builtin 1 0 (27 ∷ 20 ∷ []) ≡ at GroupEnd 1
unfolding with_text
ended_by_another_number = refl

text_of_a_nested_message : fault_of builtin 1 0 (50 ∷ 3 ∷ 10 ∷ 1 ∷ 255 ∷ []) ≡ at NotUtf8 4
unfolding with_text
text_of_a_nested_message = refl

a_group_is_cut_where_its_message_ends : fault_of builtin 1 0 (50 ∷ 1 ∷ 19 ∷ 0 ∷ []) ≡ at Cut 3
unfolding with_text
a_group_is_cut_where_its_message_ends = refl

another_end_in_a_nested_message : fault_of builtin 1 0 (50 ∷ 2 ∷ 19 ∷ 28 ∷ []) ≡ at GroupEnd 3
unfolding with_text
another_end_in_a_nested_message = refl

a_length_that_goes_on : fault_of builtin 1 0 (50 ∷ 128 ∷ 128 ∷ 128 ∷ 128 ∷ 128 ∷ []) ≡ at LongVarint 1
unfolding with_text
a_length_that_goes_on = refl

a_length_that_is_cut : fault_of builtin 1 0 (50 ∷ 128 ∷ 128 ∷ 128 ∷ 128 ∷ []) ≡ at Cut 1
unfolding with_text
a_length_that_is_cut = refl

ten_bytes_that_go_on : fault_of builtin 0 0 (8 ∷ 128 ∷ 128 ∷ 128 ∷ 128 ∷ 128 ∷ 128 ∷ 128 ∷ 128 ∷ 128 ∷ 128 ∷ []) ≡ at LongVarint 1
unfolding with_text
ten_bytes_that_go_on = refl

nine_bytes_that_go_on : fault_of builtin 0 0 (8 ∷ 128 ∷ 128 ∷ 128 ∷ 128 ∷ 128 ∷ 128 ∷ 128 ∷ 128 ∷ 128 ∷ []) ≡ at Cut 1
unfolding with_text
nine_bytes_that_go_on = refl

a_group_of_the_fields_number : rewritten 0 (11 ∷ 8 ∷ 1 ∷ 12 ∷ 8 ∷ 7 ∷ []) ≡ Some (8 ∷ 7 ∷ 11 ∷ 8 ∷ 1 ∷ 12 ∷ [])
unfolding with_text
a_group_of_the_fields_number = refl

the_end_of_group_0 : fault_of builtin 0 0 (4 ∷ []) ≡ at BadTag 0
unfolding with_text
the_end_of_group_0 = refl

a_single_number_is_not_packed : rewritten 0 (10 ∷ 1 ∷ 5 ∷ []) ≡ Some (10 ∷ 1 ∷ 5 ∷ [])
unfolding with_text
a_single_number_is_not_packed = refl

a_hundred_groups : rewritten 0 (11 ∷ 11 ∷ 11 ∷ 11 ∷ 11 ∷ 11 ∷ 11 ∷ 11 ∷ 11 ∷ 11 ∷ 11 ∷ 11 ∷ 11 ∷ 11 ∷ 11 ∷ 11 ∷ 11 ∷ 11 ∷ 11 ∷ 11 ∷ 11 ∷ 11 ∷ 11 ∷ 11 ∷ 11 ∷ 11 ∷ 11 ∷ 11 ∷ 11 ∷ 11 ∷ 11 ∷ 11 ∷ 11 ∷ 11 ∷ 11 ∷ 11 ∷ 11 ∷ 11 ∷ 11 ∷ 11 ∷ 11 ∷ 11 ∷ 11 ∷ 11 ∷ 11 ∷ 11 ∷ 11 ∷ 11 ∷ 11 ∷ 11 ∷ 11 ∷ 11 ∷ 11 ∷ 11 ∷ 11 ∷ 11 ∷ 11 ∷ 11 ∷ 11 ∷ 11 ∷ 11 ∷ 11 ∷ 11 ∷ 11 ∷ 11 ∷ 11 ∷ 11 ∷ 11 ∷ 11 ∷ 11 ∷ 11 ∷ 11 ∷ 11 ∷ 11 ∷ 11 ∷ 11 ∷ 11 ∷ 11 ∷ 11 ∷ 11 ∷ 11 ∷ 11 ∷ 11 ∷ 11 ∷ 11 ∷ 11 ∷ 11 ∷ 11 ∷ 11 ∷ 11 ∷ 11 ∷ 11 ∷ 11 ∷ 11 ∷ 11 ∷ 11 ∷ 11 ∷ 11 ∷ 11 ∷ 11 ∷ 12 ∷ 12 ∷ 12 ∷ 12 ∷ 12 ∷ 12 ∷ 12 ∷ 12 ∷ 12 ∷ 12 ∷ 12 ∷ 12 ∷ 12 ∷ 12 ∷ 12 ∷ 12 ∷ 12 ∷ 12 ∷ 12 ∷ 12 ∷ 12 ∷ 12 ∷ 12 ∷ 12 ∷ 12 ∷ 12 ∷ 12 ∷ 12 ∷ 12 ∷ 12 ∷ 12 ∷ 12 ∷ 12 ∷ 12 ∷ 12 ∷ 12 ∷ 12 ∷ 12 ∷ 12 ∷ 12 ∷ 12 ∷ 12 ∷ 12 ∷ 12 ∷ 12 ∷ 12 ∷ 12 ∷ 12 ∷ 12 ∷ 12 ∷ 12 ∷ 12 ∷ 12 ∷ 12 ∷ 12 ∷ 12 ∷ 12 ∷ 12 ∷ 12 ∷ 12 ∷ 12 ∷ 12 ∷ 12 ∷ 12 ∷ 12 ∷ 12 ∷ 12 ∷ 12 ∷ 12 ∷ 12 ∷ 12 ∷ 12 ∷ 12 ∷ 12 ∷ 12 ∷ 12 ∷ 12 ∷ 12 ∷ 12 ∷ 12 ∷ 12 ∷ 12 ∷ 12 ∷ 12 ∷ 12 ∷ 12 ∷ 12 ∷ 12 ∷ 12 ∷ 12 ∷ 12 ∷ 12 ∷ 12 ∷ 12 ∷ 12 ∷ 12 ∷ 12 ∷ 12 ∷ 12 ∷ 12 ∷ []) ≡ Some (11 ∷ 11 ∷ 11 ∷ 11 ∷ 11 ∷ 11 ∷ 11 ∷ 11 ∷ 11 ∷ 11 ∷ 11 ∷ 11 ∷ 11 ∷ 11 ∷ 11 ∷ 11 ∷ 11 ∷ 11 ∷ 11 ∷ 11 ∷ 11 ∷ 11 ∷ 11 ∷ 11 ∷ 11 ∷ 11 ∷ 11 ∷ 11 ∷ 11 ∷ 11 ∷ 11 ∷ 11 ∷ 11 ∷ 11 ∷ 11 ∷ 11 ∷ 11 ∷ 11 ∷ 11 ∷ 11 ∷ 11 ∷ 11 ∷ 11 ∷ 11 ∷ 11 ∷ 11 ∷ 11 ∷ 11 ∷ 11 ∷ 11 ∷ 11 ∷ 11 ∷ 11 ∷ 11 ∷ 11 ∷ 11 ∷ 11 ∷ 11 ∷ 11 ∷ 11 ∷ 11 ∷ 11 ∷ 11 ∷ 11 ∷ 11 ∷ 11 ∷ 11 ∷ 11 ∷ 11 ∷ 11 ∷ 11 ∷ 11 ∷ 11 ∷ 11 ∷ 11 ∷ 11 ∷ 11 ∷ 11 ∷ 11 ∷ 11 ∷ 11 ∷ 11 ∷ 11 ∷ 11 ∷ 11 ∷ 11 ∷ 11 ∷ 11 ∷ 11 ∷ 11 ∷ 11 ∷ 11 ∷ 11 ∷ 11 ∷ 11 ∷ 11 ∷ 11 ∷ 11 ∷ 11 ∷ 11 ∷ 12 ∷ 12 ∷ 12 ∷ 12 ∷ 12 ∷ 12 ∷ 12 ∷ 12 ∷ 12 ∷ 12 ∷ 12 ∷ 12 ∷ 12 ∷ 12 ∷ 12 ∷ 12 ∷ 12 ∷ 12 ∷ 12 ∷ 12 ∷ 12 ∷ 12 ∷ 12 ∷ 12 ∷ 12 ∷ 12 ∷ 12 ∷ 12 ∷ 12 ∷ 12 ∷ 12 ∷ 12 ∷ 12 ∷ 12 ∷ 12 ∷ 12 ∷ 12 ∷ 12 ∷ 12 ∷ 12 ∷ 12 ∷ 12 ∷ 12 ∷ 12 ∷ 12 ∷ 12 ∷ 12 ∷ 12 ∷ 12 ∷ 12 ∷ 12 ∷ 12 ∷ 12 ∷ 12 ∷ 12 ∷ 12 ∷ 12 ∷ 12 ∷ 12 ∷ 12 ∷ 12 ∷ 12 ∷ 12 ∷ 12 ∷ 12 ∷ 12 ∷ 12 ∷ 12 ∷ 12 ∷ 12 ∷ 12 ∷ 12 ∷ 12 ∷ 12 ∷ 12 ∷ 12 ∷ 12 ∷ 12 ∷ 12 ∷ 12 ∷ 12 ∷ 12 ∷ 12 ∷ 12 ∷ 12 ∷ 12 ∷ 12 ∷ 12 ∷ 12 ∷ 12 ∷ 12 ∷ 12 ∷ 12 ∷ 12 ∷ 12 ∷ 12 ∷ 12 ∷ 12 ∷ 12 ∷ 12 ∷ [])
unfolding with_text
a_hundred_groups = refl

a_group_more : fault_of builtin 0 0 (11 ∷ 11 ∷ 11 ∷ 11 ∷ 11 ∷ 11 ∷ 11 ∷ 11 ∷ 11 ∷ 11 ∷ 11 ∷ 11 ∷ 11 ∷ 11 ∷ 11 ∷ 11 ∷ 11 ∷ 11 ∷ 11 ∷ 11 ∷ 11 ∷ 11 ∷ 11 ∷ 11 ∷ 11 ∷ 11 ∷ 11 ∷ 11 ∷ 11 ∷ 11 ∷ 11 ∷ 11 ∷ 11 ∷ 11 ∷ 11 ∷ 11 ∷ 11 ∷ 11 ∷ 11 ∷ 11 ∷ 11 ∷ 11 ∷ 11 ∷ 11 ∷ 11 ∷ 11 ∷ 11 ∷ 11 ∷ 11 ∷ 11 ∷ 11 ∷ 11 ∷ 11 ∷ 11 ∷ 11 ∷ 11 ∷ 11 ∷ 11 ∷ 11 ∷ 11 ∷ 11 ∷ 11 ∷ 11 ∷ 11 ∷ 11 ∷ 11 ∷ 11 ∷ 11 ∷ 11 ∷ 11 ∷ 11 ∷ 11 ∷ 11 ∷ 11 ∷ 11 ∷ 11 ∷ 11 ∷ 11 ∷ 11 ∷ 11 ∷ 11 ∷ 11 ∷ 11 ∷ 11 ∷ 11 ∷ 11 ∷ 11 ∷ 11 ∷ 11 ∷ 11 ∷ 11 ∷ 11 ∷ 11 ∷ 11 ∷ 11 ∷ 11 ∷ 11 ∷ 11 ∷ 11 ∷ 11 ∷ 11 ∷ 12 ∷ 12 ∷ 12 ∷ 12 ∷ 12 ∷ 12 ∷ 12 ∷ 12 ∷ 12 ∷ 12 ∷ 12 ∷ 12 ∷ 12 ∷ 12 ∷ 12 ∷ 12 ∷ 12 ∷ 12 ∷ 12 ∷ 12 ∷ 12 ∷ 12 ∷ 12 ∷ 12 ∷ 12 ∷ 12 ∷ 12 ∷ 12 ∷ 12 ∷ 12 ∷ 12 ∷ 12 ∷ 12 ∷ 12 ∷ 12 ∷ 12 ∷ 12 ∷ 12 ∷ 12 ∷ 12 ∷ 12 ∷ 12 ∷ 12 ∷ 12 ∷ 12 ∷ 12 ∷ 12 ∷ 12 ∷ 12 ∷ 12 ∷ 12 ∷ 12 ∷ 12 ∷ 12 ∷ 12 ∷ 12 ∷ 12 ∷ 12 ∷ 12 ∷ 12 ∷ 12 ∷ 12 ∷ 12 ∷ 12 ∷ 12 ∷ 12 ∷ 12 ∷ 12 ∷ 12 ∷ 12 ∷ 12 ∷ 12 ∷ 12 ∷ 12 ∷ 12 ∷ 12 ∷ 12 ∷ 12 ∷ 12 ∷ 12 ∷ 12 ∷ 12 ∷ 12 ∷ 12 ∷ 12 ∷ 12 ∷ 12 ∷ 12 ∷ 12 ∷ 12 ∷ 12 ∷ 12 ∷ 12 ∷ 12 ∷ 12 ∷ 12 ∷ 12 ∷ 12 ∷ 12 ∷ 12 ∷ 12 ∷ []) ≡ at TooDeep 100
unfolding with_text
a_group_more = refl

bits_past_the_64th : rewritten 1 (16 ∷ 129 ∷ 128 ∷ 128 ∷ 128 ∷ 128 ∷ 128 ∷ 128 ∷ 128 ∷ 128 ∷ 2 ∷ []) ≡ Some (16 ∷ 1 ∷ [])
unfolding with_text
bits_past_the_64th = refl

the_first_fault_stands_in_the_first_record : fault_of builtin 1 0 (50 ∷ 2 ∷ 10 ∷ 5 ∷ 6 ∷ []) ≡ at Cut 4
unfolding with_text
the_first_fault_stands_in_the_first_record = refl

-- a message at depth 100 is the last
a_group_in_the_deepest_message : fault_of builtin 1 99 (50 ∷ 2 ∷ 19 ∷ 20 ∷ []) ≡ at TooDeep 2
unfolding with_text
a_group_in_the_deepest_message = refl

a_message_too_deep : fault_of builtin 1 100 (50 ∷ 0 ∷ []) ≡ at TooDeep 0
unfolding with_text
a_message_too_deep = refl

the_form_stands_before_the_depth : fault_of builtin 1 100 (50 ∷ 5 ∷ []) ≡ at Cut 2
unfolding with_text
the_form_stands_before_the_depth = refl

-- Merging, units and frames

another_member_replaces : merged 1 (58 ∷ 1 ∷ 97 ∷ []) (66 ∷ 0 ∷ []) ≡ Some (66 ∷ 0 ∷ [])
unfolding with_text
another_member_replaces = refl

the_same_message_member_is_merged : merged 1 (66 ∷ 2 ∷ 16 ∷ 1 ∷ []) (66 ∷ 3 ∷ 10 ∷ 1 ∷ 97 ∷ []) ≡ Some (66 ∷ 5 ∷ 10 ∷ 1 ∷ 97 ∷ 16 ∷ 1 ∷ [])
unfolding with_text
the_same_message_member_is_merged = refl

the_same_text_member_is_replaced : merged 1 (58 ∷ 1 ∷ 97 ∷ []) (58 ∷ 1 ∷ 98 ∷ []) ≡ Some (58 ∷ 1 ∷ 98 ∷ [])
unfolding with_text
the_same_text_member_is_replaced = refl

nothing_replaces_nothing : merged 1 (10 ∷ 1 ∷ 97 ∷ 16 ∷ 5 ∷ []) (34 ∷ 1 ∷ 7 ∷ []) ≡ Some (10 ∷ 1 ∷ 97 ∷ 16 ∷ 5 ∷ 34 ∷ 1 ∷ 7 ∷ [])
unfolding with_text
nothing_replaces_nothing = refl

messages_are_merged : merged 1 (50 ∷ 2 ∷ 16 ∷ 1 ∷ []) (50 ∷ 3 ∷ 10 ∷ 1 ∷ 97 ∷ []) ≡ Some (50 ∷ 5 ∷ 10 ∷ 1 ∷ 97 ∷ 16 ∷ 1 ∷ [])
unfolding with_text
messages_are_merged = refl

lists_and_unknown_bytes_follow_one_another : merged 1 (26 ∷ 0 ∷ 13 ∷ 1 ∷ 2 ∷ 3 ∷ 4 ∷ []) (26 ∷ 2 ∷ 16 ∷ 1 ∷ 43 ∷ 44 ∷ []) ≡ Some (26 ∷ 0 ∷ 26 ∷ 2 ∷ 16 ∷ 1 ∷ 13 ∷ 1 ∷ 2 ∷ 3 ∷ 4 ∷ 43 ∷ 44 ∷ [])
unfolding with_text
lists_and_unknown_bytes_follow_one_another = refl

-- 1 for the message, 2 for its unknown bytes, 2 for the text, 2 for the numbers, 1 for the message in it
units : option_map (λ t. units_of t) (tree_of builtin 1 (10 ∷ 1 ∷ 97 ∷ 34 ∷ 2 ∷ 1 ∷ 2 ∷ 50 ∷ 0 ∷ 43 ∷ 44 ∷ [])) ≡ Some 8
unfolding with_text
units = refl

-- groups that are unknown do not count
no_depth : option_map (λ t. depth_of t) (tree_of builtin 1 (51 ∷ 51 ∷ 52 ∷ 52 ∷ [])) ≡ Some 0
unfolding with_text
no_depth = refl
