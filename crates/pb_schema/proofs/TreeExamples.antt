-- Trees of a type with every card and most kinds: what is written for them decodes to them again.
use Rattle.std.proofs.Common.{◌≡◌, ◌-◌, ◌^◌, ℕ, List, [], ◌∷◌, map, Some, true, false, refl}
use Rattle.std.specs.Prelude.{◌==◌, if◌then◌else◌, Option}
use Rattle.std.specs.Str.{is_utf8, chars}
use lib.Utf8.{encode}
use Rattle.pb_schema.specs.declared.kind.Kind.TheVariants as kinds
use Rattle.pb_schema.specs.declared.kind.Card.TheVariants as cards
use Rattle.pb_schema.specs.declared.kind.FieldType.{FieldType}
use Rattle.pb_schema.specs.declared.schema.Schema.{Schema}
use Rattle.pb_schema.specs.Builtin.{field}
use Rattle.pb_schema.specs.Tree.{Held, One, Many, Number, Bytes, Sub, Tree, Message, value_list, held_list}
use Rattle.pb_schema.specs.Empty.{unset}
use Rattle.pb_schema.specs.TreeOf.{tree_of}
use Rattle.pb_schema.specs.Text.{text_of}

-- what text computes with
with_text : ℕ
unfolding is_utf8 chars encode
with_text = 0

abbrev outer_fields : List FieldType
outer_fields =
    field 1 kinds.Double cards.Implicit
    ∷ field 2 kinds.Float cards.Explicit
    ∷ field 3 kinds.Int64 (cards.Member 0)
    ∷ field 4 kinds.UInt32 (cards.Repeated true)
    ∷ field 5 kinds.SInt32 (cards.Repeated true)
    ∷ field 6 kinds.SInt64 cards.Implicit
    ∷ field 7 kinds.Fixed32 (cards.Repeated false)
    ∷ field 8 kinds.Fixed64 (cards.Member 0)
    ∷ field 9 kinds.Bool cards.Explicit
    ∷ field 10 kinds.Text (cards.Repeated false)
    ∷ field 11 kinds.Bytes (cards.Member 1)
    ∷ field 12 (kinds.Message 1) cards.Explicit
    ∷ field 13 (kinds.Message 1) (cards.Member 1)
    ∷ field 14 (kinds.Message 0) (cards.Repeated false)
    ∷ field 15 kinds.Enumeration cards.Implicit
    ∷ field 16 kinds.SFixed32 (cards.Repeated true)
    ∷ field 17 kinds.SFixed64 cards.Explicit
    ∷ field 18 kinds.Bool (cards.Repeated true)
    ∷ field 19 kinds.Text cards.Explicit
    ∷ field 20 kinds.Bytes (cards.Repeated false)
    ∷ field 21 kinds.Int32 (cards.Repeated false)
    ∷ []

abbrev inner_fields : List FieldType
inner_fields = field 1 kinds.Int32 cards.Implicit ∷ field 2 kinds.Text (cards.Member 0) ∷ field 3 kinds.UInt64 (cards.Member 0) ∷ field 536870911 kinds.UInt64 cards.Explicit ∷ []

abbrev two_types : Schema
two_types = record { types = record { name = []; fields = outer_fields; oneofs = 2 } ∷ record { name = []; fields = inner_fields; oneofs = 1 } ∷ [] }

-- a message whose fields hold this, by their numbers, and which holds nothing else
abbrev held_at : List (ℕ × Held) → FieldType → Held
held_at [] type = unset type.card
held_at (set ∷ sets) type = if set.0 == type.number then set.1 else held_at sets type

abbrev outer : List (ℕ × Held) → List ℕ → Tree
outer sets unknown = Message (held_list (map (held_at sets) outer_fields)) unknown

abbrev inner : List (ℕ × Held) → List ℕ → Tree
inner sets unknown = Message (held_list (map (held_at sets) inner_fields)) unknown

abbrev number : ℕ → Held
number p = One (Number p)

abbrev numbers : List ℕ → Held
numbers ps = Many (value_list (map Number ps))

abbrev bytes : List ℕ → Held
bytes s = One (Bytes s)

-- what is read of what is written
abbrev again : Tree → Option Tree
again t = tree_of two_types 0 (text_of two_types 0 t)

nothing_set : again (outer [] []) ≡ Some (outer [] [])
unfolding with_text
nothing_set = refl

-- -0.0 is no default, and an explicit default is kept
bit_patterns : again (outer ((1, number (2 ^ 63)) ∷ (2, number 0) ∷ (17, number (2 ^ 64 - 1)) ∷ []) []) ≡ Some (outer ((1, number (2 ^ 63)) ∷ (2, number 0) ∷ (17, number (2 ^ 64 - 1)) ∷ []) [])
unfolding with_text
bit_patterns = refl

-- the signed ones hold 0, -1, 1, -2^31 and 2^31 - 1
packed_numbers : again (outer ((4, numbers (0 ∷ 127 ∷ 128 ∷ (2 ^ 32 - 1) ∷ [])) ∷ (5, numbers (0 ∷ (2 ^ 32 - 1) ∷ 1 ∷ (2 ^ 31) ∷ (2 ^ 31 - 1) ∷ [])) ∷ (16, numbers (1 ∷ (2 ^ 32 - 2) ∷ [])) ∷ (18, numbers (1 ∷ 0 ∷ 1 ∷ [])) ∷ []) []) ≡ Some (outer ((4, numbers (0 ∷ 127 ∷ 128 ∷ (2 ^ 32 - 1) ∷ [])) ∷ (5, numbers (0 ∷ (2 ^ 32 - 1) ∷ 1 ∷ (2 ^ 31) ∷ (2 ^ 31 - 1) ∷ [])) ∷ (16, numbers (1 ∷ (2 ^ 32 - 2) ∷ [])) ∷ (18, numbers (1 ∷ 0 ∷ 1 ∷ [])) ∷ []) [])
unfolding with_text
packed_numbers = refl

numbers_in_records_of_their_own : again (outer ((7, numbers (7 ∷ 0 ∷ (2 ^ 32 - 1) ∷ [])) ∷ (21, numbers ((2 ^ 32 - 5) ∷ 5 ∷ [])) ∷ []) []) ≡ Some (outer ((7, numbers (7 ∷ 0 ∷ (2 ^ 32 - 1) ∷ [])) ∷ (21, numbers ((2 ^ 32 - 5) ∷ 5 ∷ [])) ∷ []) [])
unfolding with_text
numbers_in_records_of_their_own = refl

negative_numbers : again (outer ((6, number (2 ^ 64 - 2)) ∷ (15, number (2 ^ 32 - 1)) ∷ []) []) ≡ Some (outer ((6, number (2 ^ 64 - 2)) ∷ (15, number (2 ^ 32 - 1)) ∷ []) [])
unfolding with_text
negative_numbers = refl

-- a member is kept also with its default
a_number_of_a_oneof : again (outer ((3, number 0) ∷ (9, number 0) ∷ []) []) ≡ Some (outer ((3, number 0) ∷ (9, number 0) ∷ []) [])
unfolding with_text
a_number_of_a_oneof = refl

-- two oneofs
another_member : again (outer ((8, number 5) ∷ (11, bytes []) ∷ []) []) ≡ Some (outer ((8, number 5) ∷ (11, bytes []) ∷ []) [])
unfolding with_text
another_member = refl

a_message_of_a_oneof : again (outer ((13, One (Sub (inner ((3, number 9) ∷ []) []))) ∷ []) []) ≡ Some (outer ((13, One (Sub (inner ((3, number 9) ∷ []) []))) ∷ []) [])
unfolding with_text
a_message_of_a_oneof = refl

-- of one letter, of none, and of one letter of two bytes; the bytes are no text
texts : again (outer ((10, Many (value_list (Bytes (97 ∷ []) ∷ Bytes [] ∷ Bytes (195 ∷ 164 ∷ []) ∷ []))) ∷ (19, bytes []) ∷ (20, Many (value_list (Bytes (255 ∷ []) ∷ []))) ∷ []) []) ≡ Some (outer ((10, Many (value_list (Bytes (97 ∷ []) ∷ Bytes [] ∷ Bytes (195 ∷ 164 ∷ []) ∷ []))) ∷ (19, bytes []) ∷ (20, Many (value_list (Bytes (255 ∷ []) ∷ []))) ∷ []) [])
unfolding with_text
texts = refl

-- with a field of the greatest number, and an unknown record
a_message : again (outer ((12, One (Sub (inner ((1, number (2 ^ 32 - 1)) ∷ (2, bytes (120 ∷ [])) ∷ (536870911, number 1) ∷ []) (32 ∷ 1 ∷ [])))) ∷ []) []) ≡ Some (outer ((12, One (Sub (inner ((1, number (2 ^ 32 - 1)) ∷ (2, bytes (120 ∷ [])) ∷ (536870911, number 1) ∷ []) (32 ∷ 1 ∷ [])))) ∷ []) [])
unfolding with_text
a_message = refl

messages_in_a_list : again (outer ((14, Many (value_list (Sub (outer [] []) ∷ Sub (outer ((9, number 1) ∷ []) []) ∷ []))) ∷ (1, number 1) ∷ []) []) ≡ Some (outer ((14, Many (value_list (Sub (outer [] []) ∷ Sub (outer ((9, number 1) ∷ []) []) ∷ []))) ∷ (1, number 1) ∷ []) [])
unfolding with_text
messages_in_a_list = refl

-- a group of number 127 with a group in it, and two records with wire types that their fields do not take
unknown_records : again (outer ((9, number 1) ∷ []) (251 ∷ 7 ∷ 8 ∷ 1 ∷ 11 ∷ 12 ∷ 252 ∷ 7 ∷ 13 ∷ 1 ∷ 2 ∷ 3 ∷ 4 ∷ 18 ∷ 0 ∷ [])) ≡ Some (outer ((9, number 1) ∷ []) (251 ∷ 7 ∷ 8 ∷ 1 ∷ 11 ∷ 12 ∷ 252 ∷ 7 ∷ 13 ∷ 1 ∷ 2 ∷ 3 ∷ 4 ∷ 18 ∷ 0 ∷ []))
unfolding with_text
unknown_records = refl
