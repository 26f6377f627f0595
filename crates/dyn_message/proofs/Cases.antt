-- Which member of a oneof is set, by the oneof's word.
use Rattle.std.proofs.Common.{◌≡◌, ◌≢◌, ℕ, Bool, true, false, ◌&&◌, cond, eqb, List, [], ◌∷◌, Option, None, Some, true≢false, refl, sym, ap, ap₂, ◌∙◌, subst, drop, inl, inr, eq-eqb}
use Rattle.std.specs.List.{AllByRecursion}
use Rattle.std.proofs.lemmas.Bool.{eqb-true, ne_eqb}
use Rattle.std.proofs.lemmas.Bool.Decides.{eqb_tells}
use Rattle.std.proofs.lemmas.List.Elements.{recursion_from_All}
use Rattle.pb_schema.specs.Cards.{is_member}
use Rattle.msg_layout.specs.declared.entry.Entry.{Entry}
use Rattle.msg_layout.specs.declared.entry.Mark.{Mark}
use Rattle.msg_layout.specs.declared.entry.Mark.TheVariants as marks
use Rattle.msg_layout.specs.Layout.{Layout, entry_among}
use Rattle.msg_layout.specs.Sound.{EachTwo, Beside}
use Rattle.msg_layout.specs.Words.{is_word_at, HasWord, HasNoMember, IsWordOf}
use Rattle.dyn_message.specs.Slots.{word, told_by, told_in, set_by}
use Rattle.dyn_message.specs.Fields.{first_set}
use Rattle.dyn_message.proofs.Entries.{numbers_differ}
use Rattle.dyn_message.proofs.Focus.{NumbersDiffer}

-- the number that the word tells, where the entry with that number has the word
abbrev pub number_of : ℕ → ℕ → Option Entry → ℕ
number_of at number None = 0
number_of at number (Some entry) = cond (is_word_at at entry.mark) number 0

-- a field that has the word is set exactly where the word tells its number
word_tells : (number at : ℕ) (bytes : List ℕ) (mark : Mark) → is_word_at at mark ≡ true → set_by (told_by number mark bytes) false ≡ eqb (word 0 (drop at bytes)) number
word_tells number at bytes marks.Unmarked here = absurd (true≢false (sym here))
word_tells number at bytes (marks.Bit bit) here = absurd (true≢false (sym here))
word_tells number at bytes (marks.Word there) here = ap (λ k. eqb (word 0 (drop k bytes)) number) (eqb-true there at here)

and_same : (w s e : Bool) → (w ≡ true → s ≡ e) → (w && s) ≡ (w && e)
and_same true s e same = same refl
and_same false s e same = refl

and_false : (w e : Bool) → e ≡ false → (w && e) ≡ false
and_false true e none = none
and_false false e none = refl

entry_sets : (oneof at : ℕ) (bytes : List ℕ) (entry : Entry) → HasWord oneof at entry
    → (is_member oneof entry.field.card && set_by (told_in entry bytes) false) ≡ (is_word_at at entry.mark && eqb (word 0 (drop at bytes)) entry.field.number)
unfolding told_in
entry_sets oneof at bytes entry has =
    ap (λ b. b && set_by (told_by entry.field.number entry.mark bytes) false) (sym has)
    ∙ and_same (is_word_at at entry.mark) (set_by (told_by entry.field.number entry.mark bytes) false) (eqb (word 0 (drop at bytes)) entry.field.number) (λ here. word_tells entry.field.number at bytes entry.mark here)

module _ (oneof at : ℕ) (bytes : List ℕ) where
  abbrev number : ℕ
  number = word 0 (drop at bytes)

  -- a field with another number isn't what the word tells
  other_unset : (entry : Entry) → HasWord oneof at entry → entry.field.number ≢ number → (is_member oneof entry.field.card && set_by (told_in entry bytes) false) ≡ false
  other_unset entry has differs =
      entry_sets oneof at bytes entry has ∙ and_false (is_word_at at entry.mark) (eqb number entry.field.number) (ne_eqb number entry.field.number (λ e. differs (sym e)))

  none_set : (entries : List Entry) → AllByRecursion (HasWord oneof at) entries → AllByRecursion (λ (entry : Entry). entry.field.number ≢ number) entries → first_set oneof bytes entries ≡ 0
  none_set [] words differ = refl
  none_set (entry ∷ entries) words differ =
      ap (λ b. cond b entry.field.number (first_set oneof bytes entries)) (other_unset entry words.0 differ.0) ∙ none_set entries words.1 differ.1

  differ_from : (n : ℕ) (entries : List Entry) → n ≡ number → AllByRecursion (λ (entry : Entry). entry.field.number ≢ n) entries → AllByRecursion (λ (entry : Entry). entry.field.number ≢ number) entries
  differ_from n entries is differ = subst (λ k. AllByRecursion (λ (entry : Entry). entry.field.number ≢ k) entries) is differ

  -- the field with the number that the word tells is set where it has the word
  told_first : (entry : Entry) (entries : List Entry) → HasWord oneof at entry → AllByRecursion (HasWord oneof at) entries → AllByRecursion (λ (other : Entry). other.field.number ≢ entry.field.number) entries → entry.field.number ≡ number
      → (here : Bool) → is_word_at at entry.mark ≡ here → first_set oneof bytes (entry ∷ entries) ≡ cond here number 0
  told_first entry entries has words differ is true here =
      ap (λ b. cond b entry.field.number (first_set oneof bytes entries)) (entry_sets oneof at bytes entry has ∙ ap₂ (λ (a b : Bool). a && b) here (eq-eqb number entry.field.number (sym is))) ∙ is
  told_first entry entries has words differ is false here =
      ap (λ b. cond b entry.field.number (first_set oneof bytes entries)) (entry_sets oneof at bytes entry has ∙ ap (λ (a : Bool). a && eqb number entry.field.number) here)
      ∙ none_set entries words (differ_from entry.field.number entries is differ)

  pub first_by_word : (entries : List Entry) → AllByRecursion (HasWord oneof at) entries → NumbersDiffer entries → first_set oneof bytes entries ≡ number_of at number (entry_among entries number)
  first_by_word [] words differ = refl
  first_by_word (entry ∷ entries) words differ =
      elim (eqb_tells entry.field.number number) [
        | inl same ↦
            told_first entry entries words.0 words.1 differ.0 same.1 (is_word_at at entry.mark) refl
            ∙ sym (ap (λ b. number_of at number (cond b (Some entry) (entry_among entries number))) same.0)
        | inr other ↦
            ap (λ b. cond b entry.field.number (first_set oneof bytes entries)) (other_unset entry words.0 other.1)
            ∙ first_by_word entries words.1 differ.1
            ∙ sym (ap (λ b. number_of at number (cond b (Some entry) (entry_among entries number))) other.0)
      ]

-- no member, and so none that is set
none_member : (oneof : ℕ) (bytes : List ℕ) (entries : List Entry) → AllByRecursion (λ (entry : Entry). is_member oneof entry.field.card ≡ false) entries → first_set oneof bytes entries ≡ 0
none_member oneof bytes [] none = refl
none_member oneof bytes (entry ∷ entries) none =
    ap (λ b. cond (b && set_by (told_in entry bytes) false) entry.field.number (first_set oneof bytes entries)) none.0 ∙ none_member oneof bytes entries none.1

pub no_member_set : (layout : Layout) (oneof : ℕ) (bytes : List ℕ) → HasNoMember layout oneof → first_set oneof bytes layout.entries ≡ 0
no_member_set layout oneof bytes none = none_member oneof bytes layout.entries (recursion_from_All _ layout.entries none)

pub member_by_word : (layout : Layout) (oneof at n : ℕ) (bytes : List ℕ) (found : Option Entry) → EachTwo Beside layout.entries → IsWordOf layout oneof at → n ≡ word 0 (drop at bytes) → found ≡ entry_among layout.entries n
    → first_set oneof bytes layout.entries ≡ number_of at n found
member_by_word layout oneof at n bytes found apart is number_is found_is =
    first_by_word oneof at bytes layout.entries (recursion_from_All _ layout.entries is.members) (numbers_differ layout.entries apart)
    ∙ ap (λ k. number_of at k (entry_among layout.entries k)) (sym number_is) ∙ ap (number_of at n) (sym found_is)
