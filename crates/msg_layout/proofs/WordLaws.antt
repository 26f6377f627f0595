-- The words of a type's oneofs.
use Rattle.std.proofs.Common.{◌≡◌, ◌+◌, ◌*◌, ◌^◌, ◌≤◌, ℕ, Bool, true, false, cond, eqb, not, ◌&&◌, List, [], ◌∷◌, ◌++◌, refl, sym, ap, ◌∙◌, subst, inl, inr, arith, eq-eqb}
use Rattle.std.specs.List.{All, AllByRecursion}
use Rattle.std.proofs.lemmas.Bool.Decides.{eqb_tells}
use Rattle.std.proofs.lemmas.List.Elements.{All-from_recursion, recursion_from_All}
use Rattle.pb_schema.specs.declared.kind.Card.{Card}
use Rattle.pb_schema.specs.declared.kind.Card.TheVariants as cards
use Rattle.pb_schema.specs.declared.kind.FieldType.{FieldType}
use Rattle.pb_schema.specs.declared.schema.MessageType.{MessageType}
use Rattle.pb_schema.specs.Cards.{is_member}
use Rattle.pb_schema.specs.Kinds.{ValueType, value_type_of}
use Rattle.pb_schema.specs.Lawful.{TypeAllowed, FieldsAllowed, CardAllowed}
use Rattle.msg_layout.specs.declared.entry.Entry.{Entry}
use Rattle.msg_layout.specs.declared.entry.Mark.TheVariants as marks
use Rattle.msg_layout.specs.Slots.{is_message, is_explicit, bit_bytes, bit_count, front_bytes}
use Rattle.msg_layout.specs.Layout.{entries_from, word_of}
use Rattle.msg_layout.specs.Words.{is_word_at, HasWord, MemberBelow, HasWords}

-- words of two oneofs differ
same_word : (start one other : ℕ) → eqb (start + 4 * other) (start + 4 * one) ≡ eqb one other
same_word start one other =
    elim (eqb_tells one other) [
      | inl same ↦ eq-eqb (start + 4 * other) (start + 4 * one) (ap (λ n. start + 4 * n) (sym same.1)) ∙ sym same.0
      | inr differ ↦
          elim (eqb_tells (start + 4 * other) (start + 4 * one)) [
            | inl same ↦ absurd (differ.1 (omega (arith, same.1)))
            | inr apart ↦ apart.0 ∙ sym differ.0
          ]
    ]

word_by : (start oneof bits : ℕ) (message : Bool) (card : Card) → is_word_at (start + 4 * oneof) (cond (is_explicit card && not message) (marks.Bit bits) (word_of start card)) ≡ is_member oneof card
word_by start oneof bits message cards.Implicit = refl
word_by start oneof bits true cards.Explicit = refl
word_by start oneof bits false cards.Explicit = refl
word_by start oneof bits message (cards.Member other) = same_word start oneof other
word_by start oneof bits message (cards.Repeated packed) = refl

words_from : (type : MessageType) (oneof : ℕ) (before fields : List FieldType) → AllByRecursion (HasWord oneof (bit_bytes type + 4 * oneof)) (entries_from type before fields)
words_from type oneof before [] = tt
words_from type oneof before (field ∷ fields) =
    (word_by (bit_bytes type) oneof (bit_count before) (is_message (value_type_of field.kind)) field.card, words_from type oneof (before ++ field ∷ []) fields)

below_by : (oneofs : ℕ) (values : ValueType) (card : Card) → CardAllowed oneofs values card → MemberBelow oneofs card
below_by oneofs values cards.Implicit allowed = tt
below_by oneofs values cards.Explicit allowed = tt
below_by oneofs values (cards.Member oneof) allowed = allowed
below_by oneofs values (cards.Repeated packed) allowed = tt

below_from : (type : MessageType) (types : ℕ) (before fields : List FieldType) → FieldsAllowed types type.oneofs fields → AllByRecursion (λ (entry : Entry). MemberBelow type.oneofs entry.field.card) (entries_from type before fields)
below_from type types before [] allowed = tt
below_from type types before (field ∷ fields) allowed =
    (below_by type.oneofs (value_type_of field.kind) field.card allowed.1, below_from type types (before ++ field ∷ []) fields allowed.2)

pub has_words : (type : MessageType) → (types : ℕ) × TypeAllowed types type → (entries : List Entry) (start oneofs unknown : ℕ) → entries ≡ entries_from type [] type.fields → start ≡ bit_bytes type → oneofs ≡ type.oneofs → unknown ≡ front_bytes type → unknown ≤ 2 ^ 25
    → HasWords start oneofs unknown entries
has_words type (types, allowed) entries start oneofs unknown e s o u small =
    subst (λ es. HasWords start oneofs unknown es) (sym e)
    (subst (λ n. HasWords n oneofs unknown (entries_from type [] type.fields)) (sym s)
    (subst (λ n. HasWords (bit_bytes type) n unknown (entries_from type [] type.fields)) (sym o)
    (record {
      words = λ oneof. All-from_recursion (HasWord oneof (bit_bytes type + 4 * oneof)) (entries_from type [] type.fields) (words_from type oneof [] type.fields);
      members = All-from_recursion (λ (entry : Entry). MemberBelow type.oneofs entry.field.card) (entries_from type [] type.fields) (below_from type types [] type.fields allowed.fields);
      within = omega (arith, u);
      small = small;
    })))

-- a oneof past the last one has no members
no_member : (oneofs oneof : ℕ) → oneofs ≤ oneof → (card : Card) → MemberBelow oneofs card → is_member oneof card ≡ false
no_member oneofs oneof past cards.Implicit below = refl
no_member oneofs oneof past cards.Explicit below = refl
no_member oneofs oneof past (cards.Member other) below =
    elim (eqb_tells oneof other) [
      | inl same ↦ absurd (omega (arith, same.1, past, below))
      | inr differ ↦ differ.0
    ]
no_member oneofs oneof past (cards.Repeated packed) below = refl

none_from : (oneofs oneof : ℕ) → oneofs ≤ oneof → (entries : List Entry) → AllByRecursion (λ (entry : Entry). MemberBelow oneofs entry.field.card) entries → AllByRecursion (λ (entry : Entry). is_member oneof entry.field.card ≡ false) entries
none_from oneofs oneof past [] all = tt
none_from oneofs oneof past (entry ∷ entries) all = (no_member oneofs oneof past entry.field.card all.0, none_from oneofs oneof past entries all.1)

pub no_members : (start oneofs unknown oneof : ℕ) (entries : List Entry) → oneofs ≤ oneof → HasWords start oneofs unknown entries → All (λ (entry : Entry). is_member oneof entry.field.card ≡ false) entries
no_members start oneofs unknown oneof entries past has = All-from_recursion _ entries (none_from oneofs oneof past entries (recursion_from_All _ entries has.members))
