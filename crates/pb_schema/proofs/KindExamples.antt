-- Worked values of each kind, from bytes that stand here and aren't written by the definitions; and of the rules of cards, faults, trees, merging and text on a type with two oneofs. Bytes are decimal.
use Rattle.std.proofs.Common.{◌≡◌, ◌-◌, ◌^◌, ℕ, List, [], ◌∷◌, map, Some, true, false, refl}
use Rattle.std.specs.Prelude.{Option, option_and_then}
use Rattle.std.specs.Option.{option_map}
use Rattle.std.specs.Str.{is_utf8, chars}
use lib.Utf8.{encode}
use Rattle.pb_schema.specs.declared.kind.Kind.{Kind}
use Rattle.pb_schema.specs.declared.kind.Kind.TheVariants as kinds
use Rattle.pb_schema.specs.declared.kind.Card.TheVariants as cards
use Rattle.pb_schema.specs.declared.kind.FieldType.{FieldType}
use Rattle.pb_schema.specs.declared.schema.Schema.{Schema}
use Rattle.pb_schema.specs.declared.wire_fault.WireFault.{WireFault}
use Rattle.pb_schema.specs.declared.wire_fault.WireKind.{WireKind}
use Rattle.pb_schema.specs.declared.wire_fault.WireKind.TheVariants.{Cut, LongVarint, GroupEnd, NotUtf8}
use Rattle.pb_schema.specs.Kinds.{value_type_of, slot_of, value_wire, is_number}
use Rattle.pb_schema.specs.Builtin.{field}
use Rattle.pb_schema.specs.Tree.{Held, One, Number, Bytes, Tree, Message, held_list}
use Rattle.pb_schema.specs.Fault.{fault_of}
use Rattle.pb_schema.specs.TreeOf.{tree_of}
use Rattle.pb_schema.specs.Merge.{merge_of}
use Rattle.pb_schema.specs.Text.{text_of}

-- what text computes with
with_text : ℕ
unfolding is_utf8 chars encode
with_text = 0

-- THE TABLE OF KINDS

-- in the order of descriptor.proto
abbrev all_kinds : List Kind
all_kinds =
    kinds.Double
    ∷ kinds.Float
    ∷ kinds.Int64
    ∷ kinds.UInt64
    ∷ kinds.Int32
    ∷ kinds.Fixed64
    ∷ kinds.Fixed32
    ∷ kinds.Bool
    ∷ kinds.Text
    ∷ kinds.Message 0
    ∷ kinds.Bytes
    ∷ kinds.UInt32
    ∷ kinds.Enumeration
    ∷ kinds.SFixed32
    ∷ kinds.SFixed64
    ∷ kinds.SInt32
    ∷ kinds.SInt64
    ∷ []

wire_types : map (λ kind. value_wire (value_type_of kind)) all_kinds ≡ 1 ∷ 5 ∷ 0 ∷ 0 ∷ 0 ∷ 1 ∷ 5 ∷ 0 ∷ 2 ∷ 2 ∷ 2 ∷ 0 ∷ 0 ∷ 5 ∷ 1 ∷ 0 ∷ 0 ∷ []
wire_types = refl

slots : map (λ kind. slot_of (value_type_of kind)) all_kinds ≡ 8 ∷ 4 ∷ 8 ∷ 8 ∷ 4 ∷ 8 ∷ 4 ∷ 1 ∷ 24 ∷ 16 ∷ 24 ∷ 4 ∷ 4 ∷ 4 ∷ 8 ∷ 4 ∷ 8 ∷ []
slots = refl

are_numbers : map (λ kind. is_number (value_type_of kind)) all_kinds ≡ true ∷ true ∷ true ∷ true ∷ true ∷ true ∷ true ∷ true ∷ false ∷ false ∷ false ∷ true ∷ true ∷ true ∷ true ∷ true ∷ true ∷ []
are_numbers = refl

-- ONE FIELD

-- a type with one field, which has number 1 and is Explicit
abbrev one_field : Kind → Schema
one_field kind = record { types = record { name = []; fields = field 1 kind cards.Explicit ∷ []; oneofs = 0 } ∷ [] }

abbrev holding : Held → Tree
holding held = Message (held_list (held ∷ [])) []

abbrev read : Kind → List ℕ → Option Tree
read kind s = tree_of (one_field kind) 0 s

-- the number is read
abbrev number : ℕ → Option Tree
number p = Some (holding (One (Number p)))

abbrev written : Kind → ℕ → List ℕ
written kind p = text_of (one_field kind) 0 (holding (One (Number p)))

-- 1.5
a_double_is_read : read kinds.Double (9 ∷ 0 ∷ 0 ∷ 0 ∷ 0 ∷ 0 ∷ 0 ∷ 248 ∷ 63 ∷ []) ≡ number (4609434218613702656)
unfolding with_text
a_double_is_read = refl

a_double_is_written : written kinds.Double (4609434218613702656) ≡ 9 ∷ 0 ∷ 0 ∷ 0 ∷ 0 ∷ 0 ∷ 0 ∷ 248 ∷ 63 ∷ []
a_double_is_written = refl

-- 1.0
a_float_is_read : read kinds.Float (13 ∷ 0 ∷ 0 ∷ 128 ∷ 63 ∷ []) ≡ number (1065353216)
unfolding with_text
a_float_is_read = refl

a_float_is_written : written kinds.Float (1065353216) ≡ 13 ∷ 0 ∷ 0 ∷ 128 ∷ 63 ∷ []
a_float_is_written = refl

-- -2
an_int64_is_read : read kinds.Int64 (8 ∷ 254 ∷ 255 ∷ 255 ∷ 255 ∷ 255 ∷ 255 ∷ 255 ∷ 255 ∷ 255 ∷ 1 ∷ []) ≡ number (2 ^ 64 - 2)
unfolding with_text
an_int64_is_read = refl

an_int64_is_written : written kinds.Int64 (2 ^ 64 - 2) ≡ 8 ∷ 254 ∷ 255 ∷ 255 ∷ 255 ∷ 255 ∷ 255 ∷ 255 ∷ 255 ∷ 255 ∷ 1 ∷ []
an_int64_is_written = refl

a_uint64_is_read : read kinds.UInt64 (8 ∷ 255 ∷ 255 ∷ 255 ∷ 255 ∷ 255 ∷ 255 ∷ 255 ∷ 255 ∷ 255 ∷ 1 ∷ []) ≡ number (2 ^ 64 - 1)
unfolding with_text
a_uint64_is_read = refl

a_uint64_is_written : written kinds.UInt64 (2 ^ 64 - 1) ≡ 8 ∷ 255 ∷ 255 ∷ 255 ∷ 255 ∷ 255 ∷ 255 ∷ 255 ∷ 255 ∷ 255 ∷ 1 ∷ []
a_uint64_is_written = refl

-- -5
an_int32_is_read : read kinds.Int32 (8 ∷ 251 ∷ 255 ∷ 255 ∷ 255 ∷ 255 ∷ 255 ∷ 255 ∷ 255 ∷ 255 ∷ 1 ∷ []) ≡ number (2 ^ 32 - 5)
unfolding with_text
an_int32_is_read = refl

an_int32_is_written : written kinds.Int32 (2 ^ 32 - 5) ≡ 8 ∷ 251 ∷ 255 ∷ 255 ∷ 255 ∷ 255 ∷ 255 ∷ 255 ∷ 255 ∷ 255 ∷ 1 ∷ []
an_int32_is_written = refl

the_greatest_int32_is_read : read kinds.Int32 (8 ∷ 255 ∷ 255 ∷ 255 ∷ 255 ∷ 7 ∷ []) ≡ number (2 ^ 31 - 1)
unfolding with_text
the_greatest_int32_is_read = refl

the_greatest_int32_is_written : written kinds.Int32 (2 ^ 31 - 1) ≡ 8 ∷ 255 ∷ 255 ∷ 255 ∷ 255 ∷ 7 ∷ []
the_greatest_int32_is_written = refl

the_low_32_bits_of_an_int32 : read kinds.Int32 (8 ∷ 129 ∷ 128 ∷ 128 ∷ 128 ∷ 32 ∷ []) ≡ number (1)
unfolding with_text
the_low_32_bits_of_an_int32 = refl

a_fixed64_is_read : read kinds.Fixed64 (9 ∷ 1 ∷ 2 ∷ 3 ∷ 4 ∷ 5 ∷ 6 ∷ 7 ∷ 8 ∷ []) ≡ number (578437695752307201)
unfolding with_text
a_fixed64_is_read = refl

a_fixed64_is_written : written kinds.Fixed64 (578437695752307201) ≡ 9 ∷ 1 ∷ 2 ∷ 3 ∷ 4 ∷ 5 ∷ 6 ∷ 7 ∷ 8 ∷ []
a_fixed64_is_written = refl

a_fixed32_is_read : read kinds.Fixed32 (13 ∷ 1 ∷ 2 ∷ 3 ∷ 4 ∷ []) ≡ number (67305985)
unfolding with_text
a_fixed32_is_read = refl

a_fixed32_is_written : written kinds.Fixed32 (67305985) ≡ 13 ∷ 1 ∷ 2 ∷ 3 ∷ 4 ∷ []
a_fixed32_is_written = refl

true_is_read : read kinds.Bool (8 ∷ 1 ∷ []) ≡ number (1)
unfolding with_text
true_is_read = refl

true_is_written : written kinds.Bool (1) ≡ 8 ∷ 1 ∷ []
true_is_written = refl

false_is_read : read kinds.Bool (8 ∷ 0 ∷ []) ≡ number (0)
unfolding with_text
false_is_read = refl

false_is_written : written kinds.Bool (0) ≡ 8 ∷ 0 ∷ []
false_is_written = refl

-- 150, and 2^32, are true
any_other_value_is_true : read kinds.Bool (8 ∷ 150 ∷ 1 ∷ []) ≡ number (1)
unfolding with_text
any_other_value_is_true = refl

its_upper_bits_count : read kinds.Bool (8 ∷ 128 ∷ 128 ∷ 128 ∷ 128 ∷ 16 ∷ []) ≡ number (1)
unfolding with_text
its_upper_bits_count = refl

a_uint32_is_read : read kinds.UInt32 (8 ∷ 255 ∷ 255 ∷ 255 ∷ 255 ∷ 15 ∷ []) ≡ number (2 ^ 32 - 1)
unfolding with_text
a_uint32_is_read = refl

a_uint32_is_written : written kinds.UInt32 (2 ^ 32 - 1) ≡ 8 ∷ 255 ∷ 255 ∷ 255 ∷ 255 ∷ 15 ∷ []
a_uint32_is_written = refl

the_low_32_bits_of_a_uint32 : read kinds.UInt32 (8 ∷ 255 ∷ 255 ∷ 255 ∷ 255 ∷ 31 ∷ []) ≡ number (2 ^ 32 - 1)
unfolding with_text
the_low_32_bits_of_a_uint32 = refl

-- -1
an_enumeration_is_read : read kinds.Enumeration (8 ∷ 255 ∷ 255 ∷ 255 ∷ 255 ∷ 255 ∷ 255 ∷ 255 ∷ 255 ∷ 255 ∷ 1 ∷ []) ≡ number (2 ^ 32 - 1)
unfolding with_text
an_enumeration_is_read = refl

an_enumeration_is_written : written kinds.Enumeration (2 ^ 32 - 1) ≡ 8 ∷ 255 ∷ 255 ∷ 255 ∷ 255 ∷ 255 ∷ 255 ∷ 255 ∷ 255 ∷ 255 ∷ 1 ∷ []
an_enumeration_is_written = refl

the_low_32_bits_of_an_enumeration : read kinds.Enumeration (8 ∷ 255 ∷ 255 ∷ 255 ∷ 255 ∷ 15 ∷ []) ≡ number (2 ^ 32 - 1)
unfolding with_text
the_low_32_bits_of_an_enumeration = refl

-- -2, a fixed one
an_sfixed32_is_read : read kinds.SFixed32 (13 ∷ 254 ∷ 255 ∷ 255 ∷ 255 ∷ []) ≡ number (2 ^ 32 - 2)
unfolding with_text
an_sfixed32_is_read = refl

an_sfixed32_is_written : written kinds.SFixed32 (2 ^ 32 - 2) ≡ 13 ∷ 254 ∷ 255 ∷ 255 ∷ 255 ∷ []
an_sfixed32_is_written = refl

an_sfixed64_is_read : read kinds.SFixed64 (9 ∷ 254 ∷ 255 ∷ 255 ∷ 255 ∷ 255 ∷ 255 ∷ 255 ∷ 255 ∷ []) ≡ number (2 ^ 64 - 2)
unfolding with_text
an_sfixed64_is_read = refl

an_sfixed64_is_written : written kinds.SFixed64 (2 ^ 64 - 2) ≡ 9 ∷ 254 ∷ 255 ∷ 255 ∷ 255 ∷ 255 ∷ 255 ∷ 255 ∷ 255 ∷ []
an_sfixed64_is_written = refl

-- -2, 1, -2^31 and 2^31 - 1 in zigzag
minus_two_of_32_bits_is_read : read kinds.SInt32 (8 ∷ 3 ∷ []) ≡ number (2 ^ 32 - 2)
unfolding with_text
minus_two_of_32_bits_is_read = refl

minus_two_of_32_bits_is_written : written kinds.SInt32 (2 ^ 32 - 2) ≡ 8 ∷ 3 ∷ []
minus_two_of_32_bits_is_written = refl

one_of_32_bits_is_read : read kinds.SInt32 (8 ∷ 2 ∷ []) ≡ number (1)
unfolding with_text
one_of_32_bits_is_read = refl

one_of_32_bits_is_written : written kinds.SInt32 (1) ≡ 8 ∷ 2 ∷ []
one_of_32_bits_is_written = refl

the_least_of_32_bits_is_read : read kinds.SInt32 (8 ∷ 255 ∷ 255 ∷ 255 ∷ 255 ∷ 15 ∷ []) ≡ number (2 ^ 31)
unfolding with_text
the_least_of_32_bits_is_read = refl

the_least_of_32_bits_is_written : written kinds.SInt32 (2 ^ 31) ≡ 8 ∷ 255 ∷ 255 ∷ 255 ∷ 255 ∷ 15 ∷ []
the_least_of_32_bits_is_written = refl

the_greatest_of_32_bits_is_read : read kinds.SInt32 (8 ∷ 254 ∷ 255 ∷ 255 ∷ 255 ∷ 15 ∷ []) ≡ number (2 ^ 31 - 1)
unfolding with_text
the_greatest_of_32_bits_is_read = refl

the_greatest_of_32_bits_is_written : written kinds.SInt32 (2 ^ 31 - 1) ≡ 8 ∷ 254 ∷ 255 ∷ 255 ∷ 255 ∷ 15 ∷ []
the_greatest_of_32_bits_is_written = refl

the_low_32_bits_of_zigzag : read kinds.SInt32 (8 ∷ 131 ∷ 128 ∷ 128 ∷ 128 ∷ 16 ∷ []) ≡ number (2 ^ 32 - 2)
unfolding with_text
the_low_32_bits_of_zigzag = refl

-- the same of 64 bits
minus_two_of_64_bits_is_read : read kinds.SInt64 (8 ∷ 3 ∷ []) ≡ number (2 ^ 64 - 2)
unfolding with_text
minus_two_of_64_bits_is_read = refl

minus_two_of_64_bits_is_written : written kinds.SInt64 (2 ^ 64 - 2) ≡ 8 ∷ 3 ∷ []
minus_two_of_64_bits_is_written = refl

one_of_64_bits_is_read : read kinds.SInt64 (8 ∷ 2 ∷ []) ≡ number (1)
unfolding with_text
one_of_64_bits_is_read = refl

one_of_64_bits_is_written : written kinds.SInt64 (1) ≡ 8 ∷ 2 ∷ []
one_of_64_bits_is_written = refl

the_least_of_64_bits_is_read : read kinds.SInt64 (8 ∷ 255 ∷ 255 ∷ 255 ∷ 255 ∷ 255 ∷ 255 ∷ 255 ∷ 255 ∷ 255 ∷ 1 ∷ []) ≡ number (2 ^ 63)
unfolding with_text
the_least_of_64_bits_is_read = refl

the_least_of_64_bits_is_written : written kinds.SInt64 (2 ^ 63) ≡ 8 ∷ 255 ∷ 255 ∷ 255 ∷ 255 ∷ 255 ∷ 255 ∷ 255 ∷ 255 ∷ 255 ∷ 1 ∷ []
the_least_of_64_bits_is_written = refl

the_greatest_of_64_bits_is_read : read kinds.SInt64 (8 ∷ 254 ∷ 255 ∷ 255 ∷ 255 ∷ 255 ∷ 255 ∷ 255 ∷ 255 ∷ 255 ∷ 1 ∷ []) ≡ number (2 ^ 63 - 1)
unfolding with_text
the_greatest_of_64_bits_is_read = refl

the_greatest_of_64_bits_is_written : written kinds.SInt64 (2 ^ 63 - 1) ≡ 8 ∷ 254 ∷ 255 ∷ 255 ∷ 255 ∷ 255 ∷ 255 ∷ 255 ∷ 255 ∷ 255 ∷ 1 ∷ []
the_greatest_of_64_bits_is_written = refl

-- text is a letter of two bytes, bytes are none
letters_are_read : read kinds.Text (10 ∷ 2 ∷ 195 ∷ 164 ∷ []) ≡ Some (holding (One (Bytes (195 ∷ 164 ∷ []))))
unfolding with_text
letters_are_read = refl

letters_are_written : text_of (one_field kinds.Text) 0 (holding (One (Bytes (195 ∷ 164 ∷ [])))) ≡ 10 ∷ 2 ∷ 195 ∷ 164 ∷ []
letters_are_written = refl

octets_are_read : read kinds.Bytes (10 ∷ 1 ∷ 255 ∷ []) ≡ Some (holding (One (Bytes (255 ∷ []))))
unfolding with_text
octets_are_read = refl

octets_are_written : text_of (one_field kinds.Bytes) 0 (holding (One (Bytes (255 ∷ [])))) ≡ 10 ∷ 1 ∷ 255 ∷ []
octets_are_written = refl

-- MANY FIELDS

abbrev mixed_fields : List FieldType
mixed_fields =
    field 1 kinds.SInt32 cards.Implicit
    ∷ field 2 kinds.Bool cards.Implicit
    ∷ field 3 kinds.Fixed32 cards.Implicit
    ∷ field 4 kinds.Double cards.Implicit
    ∷ field 5 kinds.SFixed64 (cards.Repeated true)
    ∷ field 6 kinds.Fixed32 (cards.Repeated false)
    ∷ field 7 (kinds.Message 0) (cards.Member 0)
    ∷ field 8 kinds.Bool (cards.Member 0)
    ∷ field 9 kinds.Text (cards.Repeated false)
    ∷ field 10 kinds.Enumeration cards.Explicit
    ∷ field 11 kinds.Text cards.Explicit
    ∷ field 12 kinds.Bytes cards.Explicit
    ∷ field 13 kinds.Int64 (cards.Member 1)
    ∷ field 14 kinds.Text (cards.Member 1)
    ∷ field 15 (kinds.Message 0) (cards.Repeated false)
    ∷ []

abbrev mixed : Schema
mixed = record { types = record { name = []; fields = mixed_fields; oneofs = 2 } ∷ [] }

abbrev at : WireKind → ℕ → Option WireFault
at kind byte = Some (record { kind = kind; byte = byte })

abbrev fault_in : List ℕ → Option WireFault
fault_in s = fault_of mixed 0 0 s

-- what is written for a payload
abbrev rewritten : List ℕ → Option (List ℕ)
rewritten s = option_map (λ t. text_of mixed 0 t) (tree_of mixed 0 s)

-- what is written for the second payload merged into the first
abbrev merged : List ℕ → List ℕ → Option (List ℕ)
merged x y = option_and_then (λ a. option_map (λ b. text_of mixed 0 (merge_of mixed 0 a b)) (tree_of mixed 0 y)) (tree_of mixed 0 x)

-- Which records fit

a_list_that_is_written_apart_is_read_packed : rewritten (50 ∷ 8 ∷ 1 ∷ 0 ∷ 0 ∷ 0 ∷ 2 ∷ 0 ∷ 0 ∷ 0 ∷ []) ≡ Some (53 ∷ 1 ∷ 0 ∷ 0 ∷ 0 ∷ 53 ∷ 2 ∷ 0 ∷ 0 ∷ 0 ∷ [])
unfolding with_text
a_list_that_is_written_apart_is_read_packed = refl

a_list_that_is_written_packed_is_read_apart : rewritten (41 ∷ 1 ∷ 0 ∷ 0 ∷ 0 ∷ 0 ∷ 0 ∷ 0 ∷ 0 ∷ 41 ∷ 2 ∷ 0 ∷ 0 ∷ 0 ∷ 0 ∷ 0 ∷ 0 ∷ 0 ∷ []) ≡ Some (42 ∷ 16 ∷ 1 ∷ 0 ∷ 0 ∷ 0 ∷ 0 ∷ 0 ∷ 0 ∷ 0 ∷ 2 ∷ 0 ∷ 0 ∷ 0 ∷ 0 ∷ 0 ∷ 0 ∷ 0 ∷ [])
unfolding with_text
a_list_that_is_written_packed_is_read_apart = refl

a_member_is_not_packed : rewritten (66 ∷ 1 ∷ 1 ∷ []) ≡ Some (66 ∷ 1 ∷ 1 ∷ [])
unfolding with_text
a_member_is_not_packed = refl

an_explicit_number_is_not_packed : rewritten (82 ∷ 1 ∷ 1 ∷ []) ≡ Some (82 ∷ 1 ∷ 1 ∷ [])
unfolding with_text
an_explicit_number_is_not_packed = refl

-- four bytes where a varint is wanted, and eight bytes where a message is
another_wire_type_of_fixed_width : rewritten (13 ∷ 1 ∷ 2 ∷ 3 ∷ 4 ∷ 57 ∷ 1 ∷ 2 ∷ 3 ∷ 4 ∷ 5 ∷ 6 ∷ 7 ∷ 8 ∷ []) ≡ Some (13 ∷ 1 ∷ 2 ∷ 3 ∷ 4 ∷ 57 ∷ 1 ∷ 2 ∷ 3 ∷ 4 ∷ 5 ∷ 6 ∷ 7 ∷ 8 ∷ [])
unfolding with_text
another_wire_type_of_fixed_width = refl

text_of_a_repeated_field_is_not_packed : rewritten (72 ∷ 1 ∷ []) ≡ Some (72 ∷ 1 ∷ [])
unfolding with_text
text_of_a_repeated_field_is_not_packed = refl

-- Faults

a_packed_value_of_four_bytes_is_cut : fault_in (50 ∷ 6 ∷ 1 ∷ 0 ∷ 0 ∷ 0 ∷ 2 ∷ 0 ∷ []) ≡ at Cut 6
unfolding with_text
a_packed_value_of_four_bytes_is_cut = refl

a_packed_value_of_eight_bytes_is_cut : fault_in (42 ∷ 11 ∷ 1 ∷ 0 ∷ 0 ∷ 0 ∷ 0 ∷ 0 ∷ 0 ∷ 0 ∷ 2 ∷ 0 ∷ 0 ∷ []) ≡ at Cut 10
unfolding with_text
a_packed_value_of_eight_bytes_is_cut = refl

four_bytes_are_cut : fault_in (29 ∷ 1 ∷ 2 ∷ 3 ∷ []) ≡ at Cut 1
unfolding with_text
four_bytes_are_cut = refl

eight_bytes_are_cut : fault_in (33 ∷ 1 ∷ 2 ∷ 3 ∷ 4 ∷ 5 ∷ 6 ∷ 7 ∷ []) ≡ at Cut 1
unfolding with_text
eight_bytes_are_cut = refl

each_text_of_a_list_is_checked : fault_in (74 ∷ 0 ∷ 74 ∷ 1 ∷ 255 ∷ []) ≡ at NotUtf8 4
unfolding with_text
each_text_of_a_list_is_checked = refl

explicit_text_is_checked : fault_in (90 ∷ 1 ∷ 255 ∷ []) ≡ at NotUtf8 2
unfolding with_text
explicit_text_is_checked = refl

text_of_a_oneof_is_checked : fault_in (114 ∷ 1 ∷ 255 ∷ []) ≡ at NotUtf8 2
unfolding with_text
text_of_a_oneof_is_checked = refl

a_member_that_is_replaced_is_checked : fault_in (114 ∷ 1 ∷ 255 ∷ 104 ∷ 1 ∷ []) ≡ at NotUtf8 2
unfolding with_text
a_member_that_is_replaced_is_checked = refl

a_message_of_a_oneof_is_read : fault_in (58 ∷ 3 ∷ 11 ∷ 12 ∷ 12 ∷ []) ≡ at GroupEnd 4
unfolding with_text
a_message_of_a_oneof_is_read = refl

each_message_of_a_list_is_read : fault_in (122 ∷ 0 ∷ 122 ∷ 3 ∷ 11 ∷ 12 ∷ 12 ∷ []) ≡ at GroupEnd 6
unfolding with_text
each_message_of_a_list_is_read = refl

-- a record that fits no field, whose form is read all the same
a_long_varint_of_a_field_of_four_bytes : fault_in (48 ∷ 128 ∷ 128 ∷ 128 ∷ 128 ∷ 128 ∷ 128 ∷ 128 ∷ 128 ∷ 128 ∷ 128 ∷ 1 ∷ []) ≡ at LongVarint 1
unfolding with_text
a_long_varint_of_a_field_of_four_bytes = refl

-- The value of a field

the_last_explicit_number_wins : rewritten (80 ∷ 1 ∷ 80 ∷ 2 ∷ []) ≡ Some (80 ∷ 2 ∷ [])
unfolding with_text
the_last_explicit_number_wins = refl

the_last_explicit_number_wins_also_where_it_is_0 : rewritten (80 ∷ 1 ∷ 80 ∷ 0 ∷ []) ≡ Some (80 ∷ 0 ∷ [])
unfolding with_text
the_last_explicit_number_wins_also_where_it_is_0 = refl

the_last_explicit_text_wins : rewritten (90 ∷ 1 ∷ 97 ∷ 90 ∷ 0 ∷ []) ≡ Some (90 ∷ 0 ∷ [])
unfolding with_text
the_last_explicit_text_wins = refl

the_last_explicit_bytes_win : rewritten (98 ∷ 1 ∷ 255 ∷ 98 ∷ 1 ∷ 254 ∷ []) ≡ Some (98 ∷ 1 ∷ 254 ∷ [])
unfolding with_text
the_last_explicit_bytes_win = refl

the_last_implicit_number_wins_also_where_it_is_0 : rewritten (8 ∷ 3 ∷ 8 ∷ 0 ∷ []) ≡ Some ([])
unfolding with_text
the_last_implicit_number_wins_also_where_it_is_0 = refl

an_implicit_default_of_four_bytes : rewritten (29 ∷ 0 ∷ 0 ∷ 0 ∷ 0 ∷ 33 ∷ 0 ∷ 0 ∷ 0 ∷ 0 ∷ 0 ∷ 0 ∷ 0 ∷ 0 ∷ 16 ∷ 0 ∷ []) ≡ Some ([])
unfolding with_text
an_implicit_default_of_four_bytes = refl

minus_0_is_no_default : rewritten (33 ∷ 0 ∷ 0 ∷ 0 ∷ 0 ∷ 0 ∷ 0 ∷ 0 ∷ 128 ∷ []) ≡ Some (33 ∷ 0 ∷ 0 ∷ 0 ∷ 0 ∷ 0 ∷ 0 ∷ 0 ∷ 128 ∷ [])
unfolding with_text
minus_0_is_no_default = refl

elements_that_are_0_are_kept : rewritten (53 ∷ 0 ∷ 0 ∷ 0 ∷ 0 ∷ 74 ∷ 0 ∷ []) ≡ Some (53 ∷ 0 ∷ 0 ∷ 0 ∷ 0 ∷ 74 ∷ 0 ∷ [])
unfolding with_text
elements_that_are_0_are_kept = refl

-- Oneofs

each_oneof_has_its_own_member : rewritten (64 ∷ 1 ∷ 104 ∷ 2 ∷ []) ≡ Some (64 ∷ 1 ∷ 104 ∷ 2 ∷ [])
unfolding with_text
each_oneof_has_its_own_member = refl

the_other_oneof_does_not_end_a_run : rewritten (58 ∷ 2 ∷ 16 ∷ 1 ∷ 104 ∷ 2 ∷ 58 ∷ 2 ∷ 8 ∷ 3 ∷ []) ≡ Some (58 ∷ 4 ∷ 8 ∷ 3 ∷ 16 ∷ 1 ∷ 104 ∷ 2 ∷ [])
unfolding with_text
the_other_oneof_does_not_end_a_run = refl

a_member_in_place_of_a_message : rewritten (58 ∷ 2 ∷ 16 ∷ 1 ∷ 64 ∷ 0 ∷ []) ≡ Some (64 ∷ 0 ∷ [])
unfolding with_text
a_member_in_place_of_a_message = refl

-- Merging

an_explicit_number_is_replaced : merged (80 ∷ 1 ∷ []) (80 ∷ 2 ∷ []) ≡ Some (80 ∷ 2 ∷ [])
unfolding with_text
an_explicit_number_is_replaced = refl

an_explicit_number_is_replaced_by_its_default : merged (80 ∷ 1 ∷ []) (80 ∷ 0 ∷ []) ≡ Some (80 ∷ 0 ∷ [])
unfolding with_text
an_explicit_number_is_replaced_by_its_default = refl

an_explicit_text_is_replaced_by_its_default : merged (90 ∷ 1 ∷ 97 ∷ []) (90 ∷ 0 ∷ []) ≡ Some (90 ∷ 0 ∷ [])
unfolding with_text
an_explicit_text_is_replaced_by_its_default = refl

an_explicit_number_that_is_not_set_replaces_nothing : merged (80 ∷ 1 ∷ 90 ∷ 1 ∷ 97 ∷ 98 ∷ 1 ∷ 255 ∷ []) (8 ∷ 3 ∷ []) ≡ Some (8 ∷ 3 ∷ 80 ∷ 1 ∷ 90 ∷ 1 ∷ 97 ∷ 98 ∷ 1 ∷ 255 ∷ [])
unfolding with_text
an_explicit_number_that_is_not_set_replaces_nothing = refl

a_member_of_another_oneof_replaces_nothing : merged (64 ∷ 1 ∷ []) (104 ∷ 2 ∷ []) ≡ Some (64 ∷ 1 ∷ 104 ∷ 2 ∷ [])
unfolding with_text
a_member_of_another_oneof_replaces_nothing = refl

another_member_of_the_oneof_replaces : merged (104 ∷ 2 ∷ []) (114 ∷ 0 ∷ []) ≡ Some (114 ∷ 0 ∷ [])
unfolding with_text
another_member_of_the_oneof_replaces = refl

the_same_number_member_is_replaced : merged (64 ∷ 1 ∷ []) (64 ∷ 0 ∷ []) ≡ Some (64 ∷ 0 ∷ [])
unfolding with_text
the_same_number_member_is_replaced = refl

lists_of_each_kind_follow_one_another : merged (53 ∷ 1 ∷ 0 ∷ 0 ∷ 0 ∷ 74 ∷ 1 ∷ 97 ∷ 122 ∷ 0 ∷ []) (53 ∷ 2 ∷ 0 ∷ 0 ∷ 0 ∷ 74 ∷ 0 ∷ 122 ∷ 2 ∷ 16 ∷ 1 ∷ []) ≡ Some (53 ∷ 1 ∷ 0 ∷ 0 ∷ 0 ∷ 53 ∷ 2 ∷ 0 ∷ 0 ∷ 0 ∷ 74 ∷ 1 ∷ 97 ∷ 74 ∷ 0 ∷ 122 ∷ 0 ∷ 122 ∷ 2 ∷ 16 ∷ 1 ∷ [])
unfolding with_text
lists_of_each_kind_follow_one_another = refl
