-- Which of a list of layouts is that of a type; and the entries of a type, one after the other.
use Rattle.std.proofs.Common.{◌≡◌, ◌≢◌, ℕ, zero, suc, ◌+◌, ◌^◌, ◌<◌, ◌≤◌, List, [], ◌∷◌, ◌++◌, map, length, get_or, take, eqb, refl, sym, ap, subst, ◌∙◌, inl, inr, append_assoc, arith, get_or-set_other, get_or-set_same}
use Rattle.std.proofs.Math.ListN.{set}
use Rattle.std.proofs.lemmas.List.{take_more, append-nil}
use Rattle.std.proofs.lemmas.Bool.{cases_eq}
use Rattle.pb_schema.specs.declared.kind.Card.{Card}
use Rattle.pb_schema.specs.declared.kind.Card.TheVariants as cards
use Rattle.pb_schema.specs.declared.kind.Kind.TheVariants as kinds
use Rattle.pb_schema.specs.declared.kind.FieldType.{FieldType}
use Rattle.pb_schema.specs.Kinds.{ValueType, value_type_of}
use Rattle.pb_schema.specs.Lawful.{TypeAllowed, TypesAllowed, FieldsAllowed, CardAllowed}
use Rattle.msg_layout.specs.declared.entry.Entry.{Entry}
use Rattle.msg_layout.specs.declared.entry.Mark.{Mark}
use Rattle.msg_layout.specs.Slots.{slot_bytes, bytes_if, bytes_where, bit_bytes, bit_count}
use Rattle.msg_layout.proofs.SlotLaws.{few_bytes, few_bytes_before, where_more, own_size, other_size}
use Rattle.msg_layout.proofs.SoundLaws.{slots_small}
use Rattle.pb_schema.specs.declared.schema.MessageType.{MessageType}
use Rattle.pb_schema.specs.declared.schema.Schema.{Schema}
use Rattle.msg_layout.specs.Layout.{Layout, SlotsAfter, WordFits, slots_start, slot_at, mark_with, mark_at, entry_at, entries_from, layout_among, layout_of_type, layout_of}

layout_there : (types : List MessageType) (type_no : ℕ) (d : Layout) → type_no < length types → get_or (map layout_of_type types) type_no d ≡ layout_among types type_no
layout_there [] type_no d h = absurd (omega (arith, h))
layout_there (type ∷ types) zero d h = refl
layout_there (type ∷ types) (suc type_no) d h = layout_there types type_no d (omega (arith, h))

pub layout_read : (schema : Schema) (inside : Schema) (layouts : List Layout) (type_no : ℕ) (layout : Layout) → inside ≡ schema → layouts ≡ map layout_of_type inside.types → layout ≡ get_or layouts type_no layout
    → type_no < length schema.types → layout ≡ layout_of schema type_no
layout_read schema inside layouts type_no layout s l e h =
    let moved : layouts ≡ map layout_of_type schema.types = l ∙ ap (λ (x : Schema). map layout_of_type x.types) s in
    e ∙ ap (λ all. get_or all type_no layout) moved ∙ layout_there schema.types type_no layout h

-- what reading past the end of fields would give
abbrev pub past_end : FieldType
past_end = record { number = 0; kind = kinds.Double; card = cards.Implicit }

-- ONE FIELD AFTER THE OTHER

entries_more : (type : MessageType) (before fields : List FieldType) (field : FieldType) → entries_from type before (fields ++ field ∷ []) ≡ entries_from type before fields ++ entry_at type (before ++ fields) field ∷ []
entries_more type before [] field = ap (λ all. entry_at type all field ∷ []) (sym (append-nil before))
entries_more type before (f ∷ fields) field =
    ap (λ rest. entry_at type before f ∷ rest)
    (entries_more type (before ++ f ∷ []) fields field ∙ ap (λ all. entries_from type (before ++ f ∷ []) fields ++ entry_at type all field ∷ []) (append_assoc before (f ∷ []) fields))

pub entries_next : (type : MessageType) (fields : List FieldType) → fields ≡ type.fields → (i : ℕ) (d : FieldType) (entries : List Entry) (slot : ℕ) (mark : Mark) → i < length fields
    → entries ≡ entries_from type [] (take i fields) → slot ≡ slot_at type (take i fields) (get_or fields i d) → mark ≡ mark_at type (take i fields) (get_or fields i d)
    → entries ++ record { field = get_or fields i d; slot = slot; mark = mark } ∷ [] ≡ entries_from type [] (take (i + 1) fields)
entries_next type fields f i d entries slot mark h e s m =
    let more = entries_more type [] (take i fields) (get_or fields i d) in
    let taken = ap (entries_from type []) (take_more fields i d h) in
    ap (λ all. all ++ record { field = get_or fields i d; slot = slot; mark = mark } ∷ []) e
    ∙ ap (λ n. entries_from type [] (take i fields) ++ record { field = get_or fields i d; slot = n; mark = mark } ∷ []) s
    ∙ ap (λ m. entries_from type [] (take i fields) ++ record { field = get_or fields i d; slot = slot_at type (take i fields) (get_or fields i d); mark = m } ∷ []) m
    ∙ sym more ∙ sym taken

pub slots_next : (type : MessageType) (before : List FieldType) (field : FieldType) (next : List ℕ) (own slot : ℕ) → SlotsAfter type before next → length next ≡ 25 → own ≡ slot_bytes field → slot ≡ slot_at type before field
    → SlotsAfter type (before ++ field ∷ []) (set next own (slot + own))
slots_next type before field next own slot after len o s other =
    elim (cases_eq (slot_bytes other) own) [
      | inl same ↦ at_same same
      | inr differ ↦ at_other differ
    ]
  where
    at_same : slot_bytes other ≡ own → get_or (set next own (slot + own)) (slot_bytes other) 0 ≡ slot_at type (before ++ field ∷ []) other
    at_same e =
        let here = ap (λ k. get_or (set next own (slot + own)) k 0) e ∙ get_or-set_same next own (slot + own) 0 (omega (arith, len, o, few_bytes field)) in
        let level = where_more (λ size. eqb size (slot_bytes other)) before field in
        let counts : bytes_if (λ size. eqb size (slot_bytes other)) field ≡ slot_bytes field = ap (λ k. bytes_if (λ size. eqb size k) field) (e ∙ o) ∙ own_size field in
        let slots : slot_at type before other ≡ slot_at type before field = ap (λ k. slots_start type k + bytes_where (λ size. eqb size k) before) (e ∙ o) in
        omega (arith, here, level, counts, slots)

    at_other : slot_bytes other ≢ own → get_or (set next own (slot + own)) (slot_bytes other) 0 ≡ slot_at type (before ++ field ∷ []) other
    at_other e =
        let here = get_or-set_other next own (slot_bytes other) (slot + own) 0 e in
        let level = where_more (λ size. eqb size (slot_bytes other)) before field in
        let none = other_size field (slot_bytes other) (λ x. e (sym (o ∙ x))) in
        omega (arith, here, level, none, after other)

-- what a type allows one of its fields
card_allowed : (types oneofs : ℕ) (fields : List FieldType) → FieldsAllowed types oneofs fields → (i : ℕ) (d : FieldType) → i < length fields → CardAllowed oneofs (value_type_of (get_or fields i d).kind) (get_or fields i d).card
card_allowed types oneofs [] allowed i d h = absurd (omega (arith, h))
card_allowed types oneofs (field ∷ fields) allowed zero d h = allowed.1
card_allowed types oneofs (field ∷ fields) allowed (suc i) d h = card_allowed types oneofs fields allowed.2 i d (omega (arith, h))

word_fits : (bytes oneofs : ℕ) (values : ValueType) (card : Card) → bytes ≤ 64 → oneofs ≤ 2 ^ 22 → CardAllowed oneofs values card → WordFits bytes card
word_fits bytes oneofs values cards.Implicit b o allowed = tt
word_fits bytes oneofs values cards.Explicit b o allowed = tt
word_fits bytes oneofs values (cards.Member oneof) b o allowed = omega (arith, allowed)
word_fits bytes oneofs values (cards.Repeated packed) b o allowed = tt

pub words_fit : (type : MessageType) (bytes : ℕ) → bytes ≤ 64 → (types : ℕ) × TypeAllowed types type → (fields : List FieldType) → fields ≡ type.fields → (i : ℕ) (d : FieldType) → i < length fields → WordFits bytes (get_or fields i d).card
words_fit type bytes b (types, allowed) fields f i d h =
    let fields_allowed = subst (λ (all : List FieldType). FieldsAllowed types type.oneofs all) (sym f) allowed.fields in
    word_fits bytes type.oneofs _ _ b allowed.oneofs (card_allowed types type.oneofs fields fields_allowed i d h)

pub mark_next : (type : MessageType) (before : List FieldType) (field : FieldType) (bytes bits : ℕ) (mark : Mark) → bytes ≡ bit_bytes type → bits ≡ bit_count before → mark ≡ mark_with bytes bits field → mark ≡ mark_at type before field
mark_next type before field bytes bits mark b n m =
    m ∙ ap (λ x. mark_with x bits field) b ∙ ap (λ x. mark_with (bit_bytes type) x field) n

pub slots_next_taken : (type : MessageType) (fields : List FieldType) (i : ℕ) (d : FieldType) (next : List ℕ) (own : ℕ) → i < length fields → SlotsAfter type (take i fields) next → length next ≡ 25 → own ≡ slot_bytes (get_or fields i d)
    → SlotsAfter type (take (i + 1) fields) (set next own (get_or next own 0 + own))
slots_next_taken type fields i d next own h after len o =
    subst (λ (all : List FieldType). SlotsAfter type all (set next own (get_or next own 0 + own))) (sym (take_more fields i d h))
    (slots_next type (take i fields) (get_or fields i d) next own (get_or next own 0) after len o (ap (λ k. get_or next k 0) o ∙ after (get_or fields i d)))

pub next_slot : (type : MessageType) (before : List FieldType) (field : FieldType) (next : List ℕ) (own : ℕ) → SlotsAfter type before next → own ≡ slot_bytes field → get_or next own 0 ≡ slot_at type before field
next_slot type before field next own after o = ap (λ k. get_or next k 0) o ∙ after field

pub next_small : (type : MessageType) → (types : ℕ) × TypeAllowed types type → (fields : List FieldType) → fields ≡ type.fields → (i : ℕ) (field : FieldType) (next : List ℕ) (own : ℕ) → SlotsAfter type (take i fields) next
    → own ≡ slot_bytes field → get_or next own 0 ≤ 2 ^ 25
next_small type (types, allowed) fields f i field next own after o =
    let slot = next_slot type (take i fields) field next own after o in
    omega (arith, slot, slots_small types type allowed (slot_bytes field), few_bytes_before (λ size. eqb size (slot_bytes field)) fields i (omega (arith, ap length f, allowed.size)))

-- TYPES

pub type_allowed : (types : ℕ) (all : List MessageType) → TypesAllowed types all → (i : ℕ) (type : MessageType) → i < length all → type ≡ get_or all i type → TypeAllowed types type
type_allowed types [] allowed i type h e = absurd (omega (arith, h))
type_allowed types (first ∷ all) allowed zero type h e = subst (TypeAllowed types) (sym e) allowed.0
type_allowed types (first ∷ all) allowed (suc i) type h e = type_allowed types all allowed.1 i type (omega (arith, h)) e
