-- The layouts of types that a lawful schema may have are sound.
use Rattle.std.proofs.Common.{◌≡◌, ◌⊎◌, ℕ, zero, suc, ◌+◌, ◌*◌, ◌/◌, ◌%◌, ◌^◌, ◌<◌, ◌≤◌, Bool, true, false, cond, ◌&&◌, not, List, [], ◌∷◌, ◌++◌, length, eqb, ltb, refl, inl, inr, ap, arith}
use Rattle.std.specs.List.{All}
use Rattle.std.proofs.lemmas.Bool.{cases_lt}
use Rattle.std.proofs.lemmas.List.Elements.{All-nil, All-cons}
use Rattle.pb_schema.specs.declared.kind.Card.{Card}
use Rattle.pb_schema.specs.declared.kind.Card.TheVariants as cards
use Rattle.pb_schema.specs.declared.kind.FieldType.{FieldType}
use Rattle.pb_schema.specs.declared.schema.MessageType.{MessageType}
use Rattle.pb_schema.specs.Lawful.{TypeAllowed, TypesAllowed, NumbersAscend, FieldsAllowed, CardAllowed}
use Rattle.pb_schema.specs.Kinds.{ValueType, value_type_of}
use Rattle.pb_schema.specs.Meter.{round8}
use Rattle.msg_layout.specs.declared.entry.Mark.{Mark}
use Rattle.msg_layout.specs.declared.entry.Mark.TheVariants as marks
use Rattle.msg_layout.specs.Slots.{slot_bytes, is_message, is_explicit, bytes_if, bytes_where, has_bit, bit_count, bit_bytes, front_bytes}
use Rattle.msg_layout.specs.Layout.{slots_start, slot_at, word_of, mark_at, entry_at, entries_from, layout_of_type, layout_among}
use Rattle.msg_layout.specs.Sound.{EachTwo, MarkWithin, FitsIn, MarksApart, OneWord, Beside, IsSound}
use Rattle.msg_layout.proofs.SlotLaws.{some_bytes, few_bits, few_slot_bytes, where_more, bits_more, sizes_once, own_size}

-- WHERE A FIELD STANDS

-- some fields of a type, and others behind them: together they are all that there are
record Parts (type : MessageType) (before after : List FieldType) : Type 0 where
  bytes : (test : ℕ → Bool) → bytes_where test before + bytes_where test after ≡ bytes_where test type.fields
  bits : bit_count before + bit_count after ≡ bit_count type.fields

parts_start : (type : MessageType) → Parts type [] type.fields
parts_start type = record { bytes = λ test. omega arith; bits = omega arith }

parts_next : (type : MessageType) (before : List FieldType) (field : FieldType) (after : List FieldType) → Parts type before (field ∷ after) → Parts type (before ++ field ∷ []) after
parts_next type before field after p = record {
  bytes = λ test. omega (arith, p.bytes test, where_more test before field);
  bits = omega (arith, p.bits, bits_more before field);
}

-- a field stands behind the first of these, and all up to it are among the second
record Follows (first : List FieldType) (field : FieldType) (second : List FieldType) : Type 0 where
  bytes : (test : ℕ → Bool) → bytes_where test first + bytes_if test field ≤ bytes_where test second
  bits : bit_count first + cond (has_bit field) 1 0 ≤ bit_count second

follows_itself : (before : List FieldType) (field : FieldType) → Follows before field (before ++ field ∷ [])
follows_itself before field = record { bytes = λ test. omega (arith, where_more test before field); bits = omega (arith, bits_more before field) }

follows_more : (first : List FieldType) (field : FieldType) (second : List FieldType) (other : FieldType) → Follows first field second → Follows first field (second ++ other ∷ [])
follows_more first field second other p = record {
  bytes = λ test. omega (arith, p.bytes test, where_more test second other);
  bits = omega (arith, p.bits, bits_more second other);
}

-- ROUNDING

rounded_up : (n : ℕ) → n ≤ round8 n
rounded_up n = omega arith

not_far_up : (n : ℕ) → round8 n ≤ n + 7
not_far_up n = omega arith

eights : (n : ℕ) → round8 n % 8 ≡ 0
eights n = omega arith

-- SLOTS

-- a slot ends where the smaller slots begin, or before
ends_before : (type : MessageType) (before : List FieldType) (field : FieldType) (after : List FieldType) (bytes : ℕ) → Parts type before (field ∷ after) → bytes < slot_bytes field
    → slot_at type before field + slot_bytes field ≤ slots_start type bytes
ends_before type before field after bytes p h =
    omega (arith, sizes_once bytes (slot_bytes field) h type.fields, own_size field, p.bytes (λ size. eqb size (slot_bytes field)))

-- of two fields of one size the one of the lower number has the lower slot
same_size : (type : MessageType) (first : List FieldType) (field : FieldType) (second : List FieldType) (other : FieldType) → Follows first field second → slot_bytes field ≡ slot_bytes other
    → slot_at type first field + slot_bytes field ≤ slot_at type second other
same_size type first field second other p e =
    let start : slots_start type (slot_bytes field) ≡ slots_start type (slot_bytes other) = ap (slots_start type) e in
    let level : bytes_where (λ size. eqb size (slot_bytes field)) second ≡ bytes_where (λ size. eqb size (slot_bytes other)) second = ap (λ n. bytes_where (λ size. eqb size n) second) e in
    omega (arith, start, level, own_size field, p.bytes (λ size. eqb size (slot_bytes field)))

slots_apart : (type : MessageType) (first : List FieldType) (field : FieldType) (between : List FieldType) (second : List FieldType) (other : FieldType) (after : List FieldType)
    → Parts type first (field ∷ between) → Parts type second (other ∷ after) → Follows first field second
    → (slot_at type first field + slot_bytes field ≤ slot_at type second other) ⊎ (slot_at type second other + slot_bytes other ≤ slot_at type first field)
slots_apart type first field between second other after p q f =
    elim (cases_lt (slot_bytes field) (slot_bytes other)) [
      | inl less ↦ let end = ends_before type second other after (slot_bytes field) q less in inr (omega (arith, end))
      | inr no_less ↦
          elim (cases_lt (slot_bytes other) (slot_bytes field)) [
            | inl greater ↦ let end = ends_before type first field between (slot_bytes other) p greater in inl (omega (arith, end))
            | inr no_greater ↦ inl (same_size type first field second other f (omega (arith, no_less, no_greater)))
          ]
    ]

-- MARKS

abbrev one : ℕ
one = 1

bit_in_words : (bits words : ℕ) → bits < words → bits / 8 < (words + 31) / 32 * 4
bit_in_words bits words h = omega arith

mark_cases : (P : Mark → Type 0) (type : MessageType) (before : List FieldType) (field : FieldType) → (has_bit field ≡ true → P (marks.Bit (bit_count before))) → (has_bit field ≡ false → P (word_of (bit_bytes type) field.card)) → P (mark_at type before field)
mark_cases P type before field bit word = go (has_bit field) refl
  where
    go : (b : Bool) → has_bit field ≡ b → P (cond b (marks.Bit (bit_count before)) (word_of (bit_bytes type) field.card))
    go true e = bit e
    go false e = word e

one_bit : (field : FieldType) → has_bit field ≡ true → cond (has_bit field) one 0 ≡ one
one_bit field e = ap (λ b. cond b one 0) e

bit_within : (type : MessageType) (before : List FieldType) (field : FieldType) (after : List FieldType) → Parts type before (field ∷ after) → has_bit field ≡ true → bit_count before / 8 < bit_bytes type
bit_within type before field after p e = let counted = one_bit field e in bit_in_words (bit_count before) (bit_count type.fields) (omega (arith, p.bits, counted))

bits_in_front : (type : MessageType) → bit_bytes type + 4 * type.oneofs ≤ front_bytes type
bits_in_front type = rounded_up (bit_bytes type + 4 * type.oneofs)

word_within : (type : MessageType) (values : ValueType) (card : Card) → CardAllowed type.oneofs values card → MarkWithin (front_bytes type) (word_of (bit_bytes type) card)
word_within type values cards.Implicit h = tt
word_within type values cards.Explicit h = tt
word_within type values (cards.Member oneof) h = omega (arith, h, bits_in_front type)
word_within type values (cards.Repeated packed) h = tt

mark_within : (type : MessageType) (before : List FieldType) (field : FieldType) (after : List FieldType) → Parts type before (field ∷ after) → CardAllowed type.oneofs (value_type_of field.kind) field.card
    → MarkWithin (front_bytes type) (mark_at type before field)
mark_within type before field after p allowed =
    mark_cases (MarkWithin (front_bytes type)) type before field
    (λ e. omega (arith, bit_within type before field after p e, bits_in_front type))
    (λ _. word_within type (value_type_of field.kind) field.card allowed)

bit_before_word : (type : MessageType) (bit : ℕ) → bit / 8 < bit_bytes type → (card : Card) → MarksApart (marks.Bit bit) (word_of (bit_bytes type) card) × MarksApart (word_of (bit_bytes type) card) (marks.Bit bit)
bit_before_word type bit h cards.Implicit = (tt, tt)
bit_before_word type bit h cards.Explicit = (tt, tt)
bit_before_word type bit h (cards.Member oneof) = (omega (arith, h), omega (arith, h))
bit_before_word type bit h (cards.Repeated packed) = (tt, tt)

words_apart : (type : MessageType) (card card' : Card) → MarksApart (word_of (bit_bytes type) card) (word_of (bit_bytes type) card')
words_apart type (cards.Member one) (cards.Member other) =
    elim (cases_lt one other) [
      | inl less ↦ inr (inl (omega (arith, less)))
      | inr no_less ↦
          elim (cases_lt other one) [
            | inl greater ↦ inr (inr (omega (arith, greater)))
            | inr no_greater ↦ inl (omega (arith, no_less, no_greater))
          ]
    ]
words_apart type (cards.Member one) cards.Implicit = tt
words_apart type (cards.Member one) cards.Explicit = tt
words_apart type (cards.Member one) (cards.Repeated packed) = tt
words_apart type cards.Implicit card' = tt
words_apart type cards.Explicit card' = tt
words_apart type (cards.Repeated packed) card' = tt

marks_apart : (type : MessageType) (first : List FieldType) (field : FieldType) (between : List FieldType) (second : List FieldType) (other : FieldType) (after : List FieldType)
    → Parts type first (field ∷ between) → Parts type second (other ∷ after) → Follows first field second → MarksApart (mark_at type first field) (mark_at type second other)
marks_apart type first field between second other after p q f =
    mark_cases (λ m. MarksApart m (mark_at type second other)) type first field
    (λ e. mark_cases (MarksApart (marks.Bit (bit_count first))) type second other
    (λ _. let counted = one_bit field e in λ same. absurd (omega (arith, f.bits, counted, same)))
    (λ _. (bit_before_word type (bit_count first) (bit_within type first field between p e) other.card).0))
    (λ _. mark_cases (MarksApart (word_of (bit_bytes type) field.card)) type second other
    (λ e. (bit_before_word type (bit_count second) (bit_within type second other after q e) field.card).1)
    (λ _. words_apart type field.card other.card))

one_word : (type : MessageType) (first second : List FieldType) (field other : FieldType) → OneWord field.card other.card (mark_at type first field) (mark_at type second other)
one_word type first second field other = go field.card other.card
  where
    go : (card card' : Card)
        → OneWord card card' (cond (is_explicit card && not (is_message (value_type_of field.kind))) (marks.Bit (bit_count first)) (word_of (bit_bytes type) card))
        (cond (is_explicit card' && not (is_message (value_type_of other.kind))) (marks.Bit (bit_count second)) (word_of (bit_bytes type) card'))
    go (cards.Member one) (cards.Member two) = (
      (λ e. ap (λ n. marks.Word (bit_bytes type + 4 * n)) e),
      (λ e. let same : bit_bytes type + 4 * one ≡ bit_bytes type + 4 * two = cc in omega (arith, same)),
    )
    go (cards.Member one) cards.Implicit = tt
    go (cards.Member one) cards.Explicit = tt
    go (cards.Member one) (cards.Repeated packed) = tt
    go cards.Implicit card' = tt
    go cards.Explicit card' = tt
    go (cards.Repeated packed) card' = tt

-- ENTRIES

-- numbers that ascend are above the least
above_least : (least number : ℕ) → number < least → (fields : List FieldType) → NumbersAscend least fields → NumbersAscend (number + 1) fields
above_least least number h [] n = tt
above_least least number h (field ∷ fields) n = (omega (arith, n.0, h), n.1, n.2)

fits_in : (types : ℕ) (type : MessageType) (before after : List FieldType) → Parts type before after → FieldsAllowed types type.oneofs after → All (FitsIn (layout_of_type type)) (entries_from type before after)
fits_in types type before [] p allowed = All-nil (FitsIn (layout_of_type type))
fits_in types type before (field ∷ after) p allowed =
    All-cons
    (FitsIn (layout_of_type type))
    (entry_at type before field)
    (entries_from type (before ++ field ∷ []) after)
    record {
      behind = omega arith;
      within = let end = ends_before type before field after 0 p (some_bytes field) in omega (arith, end, rounded_up (slots_start type 0));
      mark = mark_within type before field after p allowed.1;
    }
    (fits_in types type (before ++ field ∷ []) after (parts_next type before field after p) allowed.2)

beside_rest : (type : MessageType) (first : List FieldType) (field : FieldType) (between : List FieldType) → Parts type first (field ∷ between)
    → (second after : List FieldType) → Parts type second after → Follows first field second → NumbersAscend (field.number + 1) after
    → All (Beside (entry_at type first field)) (entries_from type second after)
beside_rest type first field between p second [] q f n = All-nil (Beside (entry_at type first field))
beside_rest type first field between p second (other ∷ after) q f n =
    All-cons
    (Beside (entry_at type first field))
    (entry_at type second other)
    (entries_from type (second ++ other ∷ []) after)
    record {
      numbers = omega (arith, n.0);
      slots = slots_apart type first field between second other after p q f;
      marks = marks_apart type first field between second other after p q f;
      oneofs = one_word type first second field other;
    }
    (beside_rest type first field between p (second ++ other ∷ []) after (parts_next type second other after q) (follows_more first field second other f)
    (above_least (other.number + 1) field.number (omega (arith, n.0)) after n.2))

each_beside : (type : MessageType) (least : ℕ) (before after : List FieldType) → Parts type before after → NumbersAscend least after → EachTwo Beside (entries_from type before after)
each_beside type least before [] p n = tt
each_beside type least before (field ∷ after) p n = (
  beside_rest type before field after p (before ++ field ∷ []) after (parts_next type before field after p) (follows_itself before field) n.2,
  each_beside type (field.number + 1) (before ++ field ∷ []) after (parts_next type before field after p) n.2,
)

-- SIZES

-- how many bytes there are at most in front of the slots, and up to their end
pub front_small : (types : ℕ) (type : MessageType) → TypeAllowed types type → front_bytes type ≤ 2 ^ 24 + 128
front_small types type allowed = bound (bit_count type.fields) type.oneofs (omega (arith, few_bits type.fields, allowed.size)) allowed.oneofs
  where
    bound : (bits oneofs : ℕ) → bits ≤ 512 → oneofs ≤ 2 ^ 22 → round8 ((bits + 31) / 32 * 4 + 4 * oneofs) ≤ 2 ^ 24 + 128
    bound bits oneofs h l = omega arith

pub slots_small : (types : ℕ) (type : MessageType) → TypeAllowed types type → (bytes : ℕ) → slots_start type bytes ≤ 2 ^ 24 + 16384
slots_small types type allowed bytes = omega (arith, front_small types type allowed, few_slot_bytes (λ other. ltb bytes other) type.fields, allowed.size)

pub type_is_sound : (types : ℕ) (type : MessageType) → TypeAllowed types type → IsSound (layout_of_type type)
type_is_sound types type allowed = record {
  entries = fits_in types type [] type.fields (parts_start type) allowed.fields;
  apart = each_beside type 1 [] type.fields (parts_start type) allowed.numbers;
  unknown = omega (arith, rounded_up (slots_start type 0));
  rounded = (eights (bit_bytes type + 4 * type.oneofs), eights (slots_start type 0));
  small = omega (arith, slots_small types type allowed 0, not_far_up (slots_start type 0));
}

pub layout_is_sound : (types : ℕ) (all : List MessageType) → TypesAllowed types all → (type_no : ℕ) → type_no < length all → IsSound (layout_among all type_no)
layout_is_sound types [] allowed type_no h = absurd (omega (arith, h))
layout_is_sound types (type ∷ all) allowed zero h = type_is_sound types type allowed.0
layout_is_sound types (type ∷ all) allowed (suc type_no) h = layout_is_sound types all allowed.1 type_no (omega (arith, h))
