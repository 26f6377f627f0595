-- Trees that messages of the built-in types may be, and for each rule one that they may not.
use Rattle.std.proofs.Common.{◌≡◌, ◌-◌, ◌^◌, ℕ, zero, suc, List, [], ◌∷◌, map, refl, sym, ◌∙◌, subst, arith}
use Rattle.std.proofs.lemmas.Bool.{false≢true}
use Rattle.std.proofs.lemmas.Option.{none-some, same_Some}
use Rattle.std.specs.Prelude.{◌==◌, if◌then◌else◌, None}
use Rattle.std.specs.Str.{is_utf8, chars}
use lib.Utf8.{encode}
use Rattle.pb_schema.specs.declared.kind.FieldType.{FieldType}
use Rattle.pb_schema.specs.Builtin.{builtin, node_fields}
use Rattle.pb_schema.specs.Empty.{unset}
use Rattle.pb_schema.specs.Records.{Record, records_within}
use Rattle.pb_schema.specs.Tree.{Held, Nothing, One, Many, Value, Number, Bytes, Sub, Tree, Message, NoFields, FieldAnd, value_list, held_list}
use Rattle.pb_schema.specs.Fitted.{NoneTaken, IsUnknown, MessageFits, Fitted}
use Rattle.pb_schema.proofs.RecordsFront.{records_found, records_of_spans}

-- what text computes with
with_text : ℕ
unfolding is_utf8 chars encode
with_text = 0

abbrev held_at : List (ℕ × Held) → FieldType → Held
held_at [] type = unset type.card
held_at (set ∷ sets) type = if set.0 == type.number then set.1 else held_at sets type

-- a `pb.Node` whose fields hold this, by their numbers, and which holds nothing else
abbrev node : List (ℕ × Held) → List ℕ → Tree
node sets unknown = Message (held_list (map (held_at sets) node_fields)) unknown

abbrev tick : Held → Tree
tick held = Message (FieldAnd held NoFields) []

abbrev many : List Value → Held
many values = Many (value_list values)

-- TREES THAT FIT

none_unknown : (fields : List FieldType) → IsUnknown builtin fields []
none_unknown fields = ([], refl, tt)

nothing_set : Fitted builtin 1 (node [] [])
nothing_set = record { fits = ((tt, tt, tt, (tt, tt, tt, (tt, tt, tt, (tt, tt, tt, (tt, tt, tt, (tt, tt, tt, (tt, tt, tt, (tt, tt, tt, tt)))))))), none_unknown node_fields); depth = omega arith }

-- a group of the number of a field, and a record of another number
abbrev a_group : Record
a_group = record { number = 5; wire = 3; payload = []; span = 43 ∷ 44 ∷ [] }

abbrev a_stranger : Record
a_stranger = record { number = 9; wire = 0; payload = 1 ∷ []; span = 72 ∷ 1 ∷ [] }

two_unknown : IsUnknown builtin node_fields (43 ∷ 44 ∷ 72 ∷ 1 ∷ [])
unfolding with_text
two_unknown = (a_group ∷ a_stranger ∷ [], records_found 100 (a_group ∷ a_stranger ∷ []) (43 ∷ 44 ∷ 72 ∷ 1 ∷ []) refl, (refl, (refl, tt)))

-- the greatest numbers, texts of a letter, an empty child, an empty member, and unknown bytes
abbrev with_all : Tree
with_all = node ((1, One (Bytes (195 ∷ 164 ∷ []))) ∷ (2, One (Number (2 ^ 64 - 1))) ∷ (3, many (Sub (node [] []) ∷ [])) ∷ (4, many (Number 0 ∷ Number (2 ^ 32 - 1) ∷ [])) ∷ (5, One (Bytes (255 ∷ []))) ∷ (7, One (Bytes [])) ∷ []) (43 ∷ 44 ∷ 72 ∷ 1 ∷ [])

all_set : Fitted builtin 1 with_all
unfolding with_text
all_set = record {
  fits = (
    (
      (λ e. absurd (not_nil 195 (164 ∷ []) e)),
      refl,
      tt,
      (
        omega arith,
        omega arith,
        tt,
        (
          tt,
          (nothing_set.fits, tt),
          tt,
          (
            tt,
            (omega arith, (omega arith, tt)),
            tt,
            ((λ e. absurd (not_nil 255 [] e)), tt, tt, (tt, tt, tt, (tt, refl, refl, (tt, tt, tt, tt)))),
          ),
        ),
      ),
    ),
    two_unknown,
  );
  depth = omega arith;
}
  where
    not_nil : (b : ℕ) (s : List ℕ) → b ∷ s ≡ [] → ⊥
    not_nil b s e = cc

-- n messages, each inside the one before, by field 6
nested : ℕ → Tree
nested zero = node [] []
nested (suc n) = node ((6, One (Sub (nested n))) ∷ []) []

nested_fits : (n : ℕ) → MessageFits builtin node_fields (nested n)
unfolding nested
nested_fits zero = nothing_set.fits
nested_fits (suc n) = ((tt, tt, tt, (tt, tt, tt, (tt, tt, tt, (tt, tt, tt, (tt, tt, tt, (tt, nested_fits n, tt, (tt, tt, tt, (tt, tt, tt, tt)))))))), none_unknown node_fields)

a_hundred_levels : Fitted builtin 1 (nested 100)
unfolding nested
a_hundred_levels = record { fits = nested_fits 100; depth = omega arith }

-- TREES THAT DON'T

a_level_more : Fitted builtin 1 (nested 101) → ⊥
unfolding nested
a_level_more p = absurd (omega (arith, p.depth))

no_entry_for_a_field : Fitted builtin 0 (Message NoFields []) → ⊥
no_entry_for_a_field p = p.fits.0

an_entry_for_no_field : Fitted builtin 0 (Message (FieldAnd Nothing (FieldAnd Nothing NoFields)) []) → ⊥
an_entry_for_no_field p = p.fits.0.3

a_number_of_33_bits : Fitted builtin 1 (node ((4, many (Number (2 ^ 32) ∷ [])) ∷ []) []) → ⊥
a_number_of_33_bits p = absurd (omega (arith, p.fits.0.3.3.3.1.0))

a_number_of_65_bits : Fitted builtin 0 (tick (One (Number (2 ^ 64)))) → ⊥
a_number_of_65_bits p = absurd (omega (arith, p.fits.0.1))

a_number_in_place_of_text : Fitted builtin 1 (node ((1, One (Number 1)) ∷ []) []) → ⊥
a_number_in_place_of_text p = p.fits.0.1

a_number_in_place_of_bytes : Fitted builtin 1 (node ((5, One (Number 1)) ∷ []) []) → ⊥
a_number_in_place_of_bytes p = p.fits.0.3.3.3.3.1

a_number_in_place_of_a_message : Fitted builtin 1 (node ((6, One (Number 1)) ∷ []) []) → ⊥
a_number_in_place_of_a_message p = p.fits.0.3.3.3.3.3.1

bytes_in_place_of_a_number : Fitted builtin 0 (tick (One (Bytes (97 ∷ [])))) → ⊥
bytes_in_place_of_a_number p = p.fits.0.1

bytes_in_place_of_a_message : Fitted builtin 1 (node ((6, One (Bytes [])) ∷ []) []) → ⊥
bytes_in_place_of_a_message p = p.fits.0.3.3.3.3.3.1

a_message_in_place_of_a_number : Fitted builtin 0 (tick (One (Sub (tick Nothing)))) → ⊥
a_message_in_place_of_a_number p = p.fits.0.1

a_message_in_place_of_text : Fitted builtin 1 (node ((7, One (Sub (node [] []))) ∷ []) []) → ⊥
a_message_in_place_of_text p = p.fits.0.3.3.3.3.3.3.1

a_message_in_place_of_bytes : Fitted builtin 1 (node ((5, One (Sub (node [] []))) ∷ []) []) → ⊥
a_message_in_place_of_bytes p = p.fits.0.3.3.3.3.1

a_message_of_another_type : Fitted builtin 1 (node ((6, One (Sub (tick Nothing))) ∷ []) []) → ⊥
a_message_of_another_type p = p.fits.0.3.3.3.3.3.1.0.3

an_implicit_0 : Fitted builtin 0 (tick (One (Number 0))) → ⊥
an_implicit_0 p = absurd (omega (arith, p.fits.0.0))

an_implicit_text_that_is_empty : Fitted builtin 1 (node ((1, One (Bytes [])) ∷ []) []) → ⊥
an_implicit_text_that_is_empty p = p.fits.0.0 refl

a_list_that_holds_nothing : Fitted builtin 1 (node ((3, Nothing) ∷ []) []) → ⊥
a_list_that_holds_nothing p = p.fits.0.3.3.0

a_list_that_holds_one : Fitted builtin 1 (node ((4, One (Number 1)) ∷ []) []) → ⊥
a_list_that_holds_one p = p.fits.0.3.3.3.0

many_in_an_implicit_field : Fitted builtin 0 (tick (many (Number 1 ∷ []))) → ⊥
many_in_an_implicit_field p = p.fits.0.0

many_in_an_explicit_field : Fitted builtin 1 (node ((6, many []) ∷ []) []) → ⊥
many_in_an_explicit_field p = p.fits.0.3.3.3.3.3.0

many_in_a_oneof : Fitted builtin 1 (node ((7, many []) ∷ []) []) → ⊥
many_in_a_oneof p = p.fits.0.3.3.3.3.3.3.0

text_that_is_none : Fitted builtin 1 (node ((1, One (Bytes (255 ∷ []))) ∷ []) []) → ⊥
unfolding with_text
text_that_is_none p = absurd (false≢true p.fits.0.1)

two_members_of_a_oneof : Fitted builtin 1 (node ((7, One (Bytes [])) ∷ (8, One (Sub (node [] []))) ∷ []) []) → ⊥
two_members_of_a_oneof p = absurd (false≢true (sym p.fits.0.3.3.3.3.3.3.2))

-- unknown bytes that no list of records is
no_records : (s : List ℕ) → records_within 100 s ≡ None → Fitted builtin 1 (node [] s) → ⊥
no_records s none p = absurd (none-some p.fits.1.0 (sym none ∙ records_of_spans 100 p.fits.1.0 s p.fits.1.1))

unknown_bytes_that_are_cut : Fitted builtin 1 (node [] (72 ∷ [])) → ⊥
unknown_bytes_that_are_cut = no_records (72 ∷ []) refl

-- groups, each inside the one before
groups : ℕ → List ℕ → List ℕ
groups zero s = s
groups (suc n) s = 11 ∷ groups n (12 ∷ s)

unknown_groups_of_101_levels : Fitted builtin 1 (node [] (groups 101 [])) → ⊥
unfolding groups
unknown_groups_of_101_levels = no_records (groups 101 []) refl

-- a record of field 2 among them
abbrev a_count : Record
a_count = record { number = 2; wire = 0; payload = 1 ∷ []; span = 16 ∷ 1 ∷ [] }

an_unknown_record_that_fits : Fitted builtin 1 (node [] (16 ∷ 1 ∷ [])) → ⊥
an_unknown_record_that_fits p =
    let same : p.fits.1.0 ≡ a_count ∷ [] = same_Some p.fits.1.0 (a_count ∷ []) (sym (records_of_spans 100 p.fits.1.0 (16 ∷ 1 ∷ []) p.fits.1.1)) in
    absurd (false≢true (sym (subst (NoneTaken builtin node_fields) same p.fits.1.2).0))

a_nested_message_that_does_not_fit : Fitted builtin 1 (node ((6, One (Sub (node ((2, One (Number 0)) ∷ []) []))) ∷ []) []) → ⊥
a_nested_message_that_does_not_fit p = absurd (omega (arith, p.fits.0.3.3.3.3.3.1.0.3.0))

a_child_that_does_not_fit : Fitted builtin 1 (node ((3, many (Sub (node [] []) ∷ Sub (node ((2, One (Number 0)) ∷ []) []) ∷ [])) ∷ []) []) → ⊥
a_child_that_does_not_fit p = absurd (omega (arith, p.fits.0.3.3.1.1.0.0.3.0))
