-- What writes to a record do to its fields: one is set or unset, the other members of its oneof are cleared, and all
-- others stay.
use Rattle.std.proofs.Common.{◌≡◌, ◌≢◌, ◌⊎◌, ◌+◌, ◌/◌, ◌%◌, ◌^◌, ◌≤◌, ◌<◌, ℕ, Bool, true, false, ◌&&◌, not, cond, eqb, length, get_or, drop, replicate, List, [], ◌∷◌, Option, None, Some, true≢false, refl, sym, ap, ap₂, ◌∙◌, subst, inl, inr, ⊎_elim, w8, w32, arith}
use Rattle.std.specs.Int.{to_le_bytes, from_le_bytes, bit_at}
use Rattle.std.specs.List.{AllByRecursion}
use borrow.Author.Tests.{eq-eqb}
use Rattle.std.proofs.lemmas.Bool.{ne_eqb, eqb-true, cases_Bool, cases_lt}
use Rattle.std.proofs.lemmas.List.{length-replicate}
use Rattle.std.proofs.lemmas.Option.{none-some, same_Some}
use Rattle.std.proofs.lemmas.Nat.{from_le_bytes-to_le_bytes_4}
use Rattle.std.proofs.lemmas.Nat.Bits.{bit_at_set_same, bit_at_set_other}
use Rattle.arena_mem.specs.Places.{splice}
use Rattle.pb_schema.specs.declared.kind.Card.{Card}
use Rattle.pb_schema.specs.declared.kind.Card.TheVariants as cards
use Rattle.pb_schema.specs.Kinds.{value_type_of}
use Rattle.pb_schema.specs.Tree.{ValueWith, One}
use Rattle.pb_schema.specs.HeldAt.{clears}
use Rattle.msg_layout.specs.declared.entry.Entry.{Entry}
use Rattle.msg_layout.specs.declared.entry.Mark.{Mark}
use Rattle.msg_layout.specs.declared.entry.Mark.TheVariants as marks
use Rattle.msg_layout.specs.Slots.{slot_bytes, has_bit, is_explicit, is_message, array_slot}
use Rattle.msg_layout.specs.Layout.{Layout, entry_among, word_of}
use Rattle.msg_layout.specs.Sound.{FitsIn, MarkWithin, MarksApart, OneWord, IsSound}
use Rattle.dyn_message.specs.Slots.{part, word, IsZero, slot_in, told_in, told_by, bit_in, MayBeSet, MayBeUnset}
use Rattle.dyn_message.specs.Stands.{IsSingle}
use Rattle.msg_layout.specs.Words.{is_word_at}
use Rattle.dyn_message.specs.Writes.{with_bit, with_word, with_zeros, zeroed, without_other, marked_by, marked, unmarked_by, taken, put}
use Rattle.dyn_message.proofs.Parts.{splice_length, part_here, part_beside, same_byte, byte_of_part}
use Rattle.dyn_message.proofs.Entries.{among_all, found_number, found_fits, Suits, IsApart, ApartFrom, apart_from}
use Rattle.dyn_message.proofs.Focus.{Becomes}

-- ONE WRITE

-- a write of so many bytes from a place on touches no byte of a mark
abbrev Untouched : ℕ → ℕ → Mark → Type 0
Untouched start count marks.Unmarked = Unit {0}
Untouched start count (marks.Bit bit) = (bit / 8 + 1 ≤ start) ⊎ (start + count ≤ bit / 8)
Untouched start count (marks.Word at) = (at + 4 ≤ start) ⊎ (start + count ≤ at)

module _ (start : ℕ) (x b : List ℕ) (fits : start + length x ≤ length b) where
  told_by_same : (number : ℕ) (mark : Mark) → Untouched start (length x) mark → told_by number mark (splice start x b) ≡ told_by number mark b
  unfolding word
  told_by_same number marks.Unmarked free = refl
  told_by_same number (marks.Bit bit) free =
      ap (λ n. Some (eqb (bit_at n (bit % 8)) 1)) (same_byte (bit / 8) b (splice start x b) (part_beside start x b fits (bit / 8) 1 free))
  told_by_same number (marks.Word at) free =
      ap (λ s. Some (eqb (from_le_bytes w32 s) number)) (part_beside start x b fits at 4 free)

  pub told_same : (entry : Entry) → Untouched start (length x) entry.mark → told_in entry (splice start x b) ≡ told_in entry b
  unfolding told_in
  told_same entry free = told_by_same entry.field.number entry.mark free

  pub slot_same : (entry : Entry) → (entry.slot + slot_bytes entry.field ≤ start) ⊎ (start + length x ≤ entry.slot) → slot_in entry (splice start x b) ≡ slot_in entry b
  unfolding slot_in
  slot_same entry free = part_beside start x b fits entry.slot (slot_bytes entry.field) free

slot_written : (entry : Entry) (x b : List ℕ) → entry.slot + length x ≤ length b → length x ≡ slot_bytes entry.field → slot_in entry (splice entry.slot x b) ≡ x
unfolding slot_in
slot_written entry x b fits size = part_here entry.slot x b fits (slot_bytes entry.field) (sym size)

-- what stands behind so many bytes is touched by no write in front of them
pub before_mark : (front start count : ℕ) (mark : Mark) → front ≤ start → MarkWithin front mark → Untouched start count mark
before_mark front start count marks.Unmarked le within = tt
before_mark front start count (marks.Bit bit) le within = inl (omega (arith, within, le))
before_mark front start count (marks.Word at) le within = inl (omega (arith, within, le))

-- A FIELD'S SLOT

module _ (layout : Layout) (sound : IsSound layout) (one : Entry) (fits : FitsIn layout one) (x b : List ℕ) (size : length x ≡ slot_bytes one.field) (full : length b ≡ layout.size) where
  in_record : one.slot + length x ≤ length b
  in_record = omega (arith, fits.within, size, full)

  slot_length : length (splice one.slot x b) ≡ length b
  slot_length = splice_length one.slot x b in_record

  slot_put : slot_in one (splice one.slot x b) ≡ x
  slot_put = slot_written one x b in_record size

  slot_told : (entry : Entry) → FitsIn layout entry → told_in entry (splice one.slot x b) ≡ told_in entry b
  slot_told entry in_it = told_same one.slot x b in_record entry (before_mark layout.unknown one.slot (length x) entry.mark (omega (arith, fits.behind)) in_it.mark)

  slot_unknown : part layout.unknown array_slot (splice one.slot x b) ≡ part layout.unknown array_slot b
  slot_unknown = part_beside one.slot x b in_record layout.unknown array_slot (inl (omega (arith, fits.behind)))

  slot_else : (entry : Entry) → IsApart one entry → slot_in entry (splice one.slot x b) ≡ slot_in entry b
  slot_else entry apart = slot_same one.slot x b in_record entry
      (⊎_elim (λ before. inr (omega (arith, before, size))) (λ behind. inl behind) apart.slots)

-- A BIT AND A WORD IN FRONT

-- a write in front of the slots
module _ (layout : Layout) (sound : IsSound layout) (start : ℕ) (x b : List ℕ) (before : start + length x ≤ layout.unknown) (full : length b ≡ layout.size) where
  front_in : start + length x ≤ length b
  front_in = omega (arith, before, full, sound.unknown)

  front_slot : (entry : Entry) → FitsIn layout entry → slot_in entry (splice start x b) ≡ slot_in entry b
  front_slot entry fits = slot_same start x b front_in entry (inr (omega (arith, before, fits.behind)))

  front_unknown : part layout.unknown array_slot (splice start x b) ≡ part layout.unknown array_slot b
  front_unknown = part_beside start x b front_in layout.unknown array_slot (inr before)

not_same : (n m : ℕ) → eqb n m ≡ false → n ≢ m
not_same n m apart = λ e. true≢false (sym (eq-eqb n m e) ∙ apart)

byte_put : (at n : ℕ) (b : List ℕ) → at + 1 ≤ length b → get_or (splice at (n ∷ []) b) at 0 ≡ n
byte_put at n b fits = sym (byte_of_part at (splice at (n ∷ []) b)) ∙ ap (λ s. get_or s 0 0) (part_here at (n ∷ []) b fits 1 refl)

module _ (bit : ℕ) (b : List ℕ) (fits : bit / 8 + 1 ≤ length b) where
  bit_put : told_by 0 (marks.Bit bit) (with_bit bit b) ≡ Some true
  bit_put =
      ap (λ n. Some (eqb (bit_at n (bit % 8)) 1)) (byte_put (bit / 8) _ b fits)
      ∙ ap (λ n. Some (eqb n 1)) (bit_at_set_same w8 (get_or b (bit / 8) 0) (bit % 8) (omega arith))

  bit_else : (other : ℕ) → bit ≢ other → bit_in other (with_bit bit b) ≡ bit_in other b
  bit_else other differs = ⊎_elim
      (λ same. let here : other / 8 ≡ bit / 8 = eqb-true (other / 8) (bit / 8) same in
      ap (λ n. eqb (bit_at n (other % 8)) 1) (ap (λ k. get_or (with_bit bit b) k 0) here ∙ byte_put (bit / 8) _ b fits)
      ∙ ap (λ n. eqb n 1) (bit_at_set_other w8 (get_or b (bit / 8) 0) (bit % 8) (omega arith) (other % 8) (λ e. differs (omega (arith, here, e))))
      ∙ ap (λ k. eqb (bit_at (get_or b k 0) (other % 8)) 1) (sym here))
      (λ apart. ap (λ n. eqb (bit_at n (other % 8)) 1) (same_byte (other / 8) b (with_bit bit b)
      (part_beside (bit / 8) _ b fits (other / 8) 1 (beside (other / 8) (bit / 8) apart))))
      (cases_Bool (eqb (other / 8) (bit / 8)))
    where
      beside : (n m : ℕ) → eqb n m ≡ false → (n + 1 ≤ m) ⊎ (m + 1 ≤ n)
      beside n m apart = ⊎_elim (λ less. inl (omega (arith, less))) (λ le. inr (omega (arith, le, not_same n m apart))) (cases_lt n m)

word_put : (at n : ℕ) (b : List ℕ) → at + 4 ≤ length b → n < 2 ^ 32 → word 0 (drop at (with_word at n b)) ≡ n
unfolding word
word_put at n b fits small = ap (from_le_bytes w32) (part_here at (to_le_bytes w32 n) b fits 4 refl) ∙ from_le_bytes-to_le_bytes_4 n small

-- MARKED AS SET

-- the members of one oneof share its word
abbrev pub shares : Mark → Mark → Bool
shares (marks.Word at) mark = is_word_at at mark
shares _ mark = false

-- a member that isn't told to be set has a slot of zeros
abbrev pub Tidy : List Entry → List ℕ → Type 0
Tidy entries b = (entry : Entry) → entry_among entries entry.field.number ≡ Some entry → IsSingle entry.field.card → told_in entry b ≡ Some false → IsZero (slot_bytes entry.field) (slot_in entry b)

pub record IsMarked (layout : Layout) (one : Entry) (b b' : List ℕ) : Type 0 where
  pub size : length b' ≡ length b
  pub unknown : part layout.unknown array_slot b' ≡ part layout.unknown array_slot b
  pub told : MayBeSet (told_in one b')
  pub slot : slot_in one b' ≡ slot_in one b
  pub else : (entry : Entry) → entry_among layout.entries entry.field.number ≡ Some entry → entry.field.number ≢ one.field.number → Becomes (shares one.mark entry.mark) entry b b'

abbrev is_word : Mark → Bool
is_word (marks.Word at) = true
is_word _ = false

-- a mark that is a word is that of a member
single_word : (entry : Entry) (at : ℕ) → Suits entry → entry.mark ≡ marks.Word at → IsSingle entry.field.card
single_word entry at suits is = by_card entry.field.card (has_bit entry.field) (sym suits.mark ∙ is)
  where
    no_word : (bit at : ℕ) → marks.Bit bit ≡ marks.Word at → ⊥
    no_word bit at e = true≢false (sym (ap is_word e))

    no_mark : (at : ℕ) → ◌≡◌ {A = Mark} marks.Unmarked (marks.Word at) → ⊥
    no_mark at e = true≢false (sym (ap is_word e))

    by_card : (card : Card) (t : Bool) → cond t (marks.Bit suits.bits) (word_of suits.bytes card) ≡ marks.Word at → IsSingle card
    by_card cards.Implicit t e = tt
    by_card cards.Explicit t e = tt
    by_card (cards.Member oneof) t e = tt
    by_card (cards.Repeated packed) true e = no_word suits.bits at e
    by_card (cards.Repeated packed) false e = no_mark at e

-- where a mark is the word at a place
word_there : (at : ℕ) (mark : Mark) → is_word_at at mark ≡ true → mark ≡ marks.Word at
word_there at (marks.Word there) e = ap marks.Word (eqb-true there at e)
word_there at marks.Unmarked e = absurd (true≢false (sym e))
word_there at (marks.Bit bit) e = absurd (true≢false (sym e))

module _ (layout : Layout) (sound : IsSound layout) (one : Entry) (found : entry_among layout.entries one.field.number ≡ Some one) (suit : AllByRecursion Suits layout.entries) (b : List ℕ) (full : length b ≡ layout.size) (tidy : Tidy layout.entries b) where
  fits_of : (entry : Entry) → entry_among layout.entries entry.field.number ≡ Some entry → FitsIn layout entry
  fits_of entry there = found_fits layout entry.field.number entry sound there

  apart_of : (first second : Entry) → entry_among layout.entries first.field.number ≡ Some first → entry_among layout.entries second.field.number ≡ Some second → ApartFrom first second
  apart_of first second there there' = (among_all (ApartFrom first) layout.entries second.field.number second (apart_from layout.entries first sound.apart there) there').0

  suits_of : (entry : Entry) → entry_among layout.entries entry.field.number ≡ Some entry → Suits entry
  suits_of entry there = (among_all Suits layout.entries entry.field.number entry suit there).0

  unmarked : (mark : Mark) → one.mark ≡ mark → mark ≡ marks.Unmarked → IsMarked layout one b b
  unfolding told_in
  unmarked mark is none = record {
    size = refl;
    unknown = refl;
    told = subst (λ m. MayBeSet (told_by one.field.number m b)) (sym (is ∙ none)) tt;
    slot = refl;
    else = λ entry there differs. rw (is ∙ none) (refl, refl);
  }

  bit_marked : (bit : ℕ) → one.mark ≡ marks.Bit bit → IsMarked layout one b (with_bit bit b)
  unfolding told_in
  bit_marked bit is =
      let within : bit / 8 < layout.unknown = subst (MarkWithin layout.unknown) is (fits_of one found).mark in
      let before : bit / 8 + 1 ≤ layout.unknown = omega (arith, within) in
      let in_it : bit / 8 + 1 ≤ length b = omega (arith, within, full, sound.unknown) in
      record {
        size = splice_length (bit / 8) _ b in_it;
        unknown = front_unknown layout sound (bit / 8) _ b before full;
        told = rw is (subst MayBeSet (sym (bit_put bit b in_it)) refl);
        slot = front_slot layout sound (bit / 8) _ b before full one (fits_of one found);
        else = λ entry there differs. rw is (
          bit_told bit in_it entry.field.number entry.mark (subst (λ m. MarksApart m entry.mark) is ((apart_of one entry found there).else differs).marks),
          front_slot layout sound (bit / 8) _ b before full entry (fits_of entry there),
        );
      }
    where
      bit_told : (bit : ℕ) → bit / 8 + 1 ≤ length b → (number : ℕ) (mark : Mark) → MarksApart (marks.Bit bit) mark → told_by number mark (with_bit bit b) ≡ told_by number mark b
      bit_told bit in_it number marks.Unmarked apart = refl
      bit_told bit in_it number (marks.Bit other) apart = ap Some (bit_else bit b in_it other apart)
      bit_told bit in_it number (marks.Word at) apart = told_by_same (bit / 8) _ b in_it number (marks.Word at) (inr (omega (arith, apart)))

  -- another member's slot is zeroed, and the word is written
  module _ (at : ℕ) (is : one.mark ≡ marks.Word at) (small : one.field.number < 2 ^ 32) where
    set : ℕ
    set = word 0 (drop at b)

    -- what is left without the other member
    record IsWithout (b' : List ℕ) : Type 0 where
      size : length b' ≡ length b
      unknown : part layout.unknown array_slot b' ≡ part layout.unknown array_slot b
      same : (entry : Entry) → entry_among layout.entries entry.field.number ≡ Some entry → told_in entry b' ≡ told_in entry b
      slot : (entry : Entry) → entry_among layout.entries entry.field.number ≡ Some entry → (is_word_at at entry.mark ≡ true → entry.field.number ≡ set → entry.field.number ≡ one.field.number) → slot_in entry b' ≡ slot_in entry b
      zeros : (entry : Entry) → entry_among layout.entries entry.field.number ≡ Some entry → is_word_at at entry.mark ≡ true → entry.field.number ≡ set → entry.field.number ≢ one.field.number → IsZero (slot_bytes entry.field) (slot_in entry b')

    stays_whole : (w : ℕ) → w ≡ set → ((entry : Entry) → entry_among layout.entries entry.field.number ≡ Some entry → is_word_at at entry.mark ≡ true → entry.field.number ≡ w → entry.field.number ≢ one.field.number → ⊥) → IsWithout b
    stays_whole w w_is none = record {
      size = refl;
      unknown = refl;
      same = λ entry there. refl;
      slot = λ entry there why. refl;
      zeros = λ entry there word_here number differs. absurd (none entry there word_here (number ∙ sym w_is) differs);
    }

    zeros_put : (other : Entry) → entry_among layout.entries other.field.number ≡ Some other → other.field.number ≡ set → is_word_at at other.mark ≡ true → other.field.number ≢ one.field.number → IsWithout (with_zeros other b)
    zeros_put other there other_set word_here differs =
        let fits = fits_of other there in
        let size : length (replicate (slot_bytes other.field) 0) ≡ slot_bytes other.field = length-replicate (slot_bytes other.field) 0 in
        let zeros = replicate (slot_bytes other.field) 0 in
        record {
          size = slot_length layout sound other fits zeros b size full;
          unknown = slot_unknown layout sound other fits zeros b size full;
          same = λ entry there'. slot_told layout sound other fits zeros b size full entry (fits_of entry there');
          slot = λ entry there' why. ⊎_elim
              (λ same. let is_other = (apart_of other entry there there').itself (eqb-true entry.field.number other.field.number same) in
              absurd (differs (sym (ap (λ (e : Entry). e.field.number) is_other) ∙ why (ap (λ (e : Entry). is_word_at at e.mark) is_other ∙ word_here) (ap (λ (e : Entry). e.field.number) is_other ∙ other_set))))
              (λ apart. slot_else layout sound other fits zeros b size full entry ((apart_of other entry there there').else (not_same entry.field.number other.field.number apart)))
              (cases_Bool (eqb entry.field.number other.field.number));
          zeros = λ entry there' word_here' number differs'.
              let is_other = (apart_of other entry there there').itself (number ∙ sym other_set) in
              subst (λ (e : Entry). IsZero (slot_bytes e.field) (slot_in e (with_zeros other b))) (sym is_other) (slot_put layout sound other fits zeros b size full);
        }

    without : IsWithout (without_other layout.entries one.field.number at b)
    unfolding set
    without = by_found (entry_among layout.entries set) refl
      where
        by_found : (o : Option Entry) → entry_among layout.entries set ≡ o → IsWithout (zeroed at one.field.number o b)
        by_found None none = stays_whole set refl (λ entry there word_here number differs. none-some entry (sym none ∙ ap (entry_among layout.entries) (sym number) ∙ there))
        by_found (Some other) some = by_test (is_word_at at other.mark) refl (eqb other.field.number one.field.number) refl
          where
            there : entry_among layout.entries other.field.number ≡ Some other
            there = ap (entry_among layout.entries) (found_number layout.entries set other some) ∙ some

            -- who has the number in the word is this one
            it_is : (entry : Entry) → entry_among layout.entries entry.field.number ≡ Some entry → entry.field.number ≡ set → entry ≡ other
            it_is entry there' number = same_Some entry other (sym there' ∙ ap (entry_among layout.entries) number ∙ some)

            by_test : (t : Bool) → is_word_at at other.mark ≡ t → (u : Bool) → eqb other.field.number one.field.number ≡ u → IsWithout (cond (t && not u) (with_zeros other b) b)
            by_test true word_here true same = stays_whole set refl (λ entry there' word_here' number differs.
                differs (ap (λ (e : Entry). e.field.number) (it_is entry there' number) ∙ eqb-true other.field.number one.field.number same))
            by_test true word_here false apart = zeros_put other there (found_number layout.entries set other some) word_here (not_same other.field.number one.field.number apart)
            by_test false word_else u same = stays_whole set refl (λ entry there' word_here number differs.
                true≢false (sym word_here ∙ ap (λ (e : Entry). is_word_at at e.mark) (it_is entry there' number) ∙ word_else))

    word_marked : IsMarked layout one b (with_word at one.field.number (without_other layout.entries one.field.number at b))
    unfolding told_in set
    word_marked =
        let b1 = without_other layout.entries one.field.number at b in
        let w = without in
        let within : at + 4 ≤ layout.unknown = subst (MarkWithin layout.unknown) is (fits_of one found).mark in
        let full1 : length b1 ≡ layout.size = w.size ∙ full in
        let in_it : at + 4 ≤ length b1 = omega (arith, within, full1, sound.unknown) in
        let text = to_le_bytes w32 one.field.number in
        record {
          size = splice_length at text b1 in_it ∙ w.size;
          unknown = front_unknown layout sound at text b1 within full1 ∙ w.unknown;
          told = rw is (ap (λ n. eqb n one.field.number) (word_put at one.field.number b1 in_it small) ∙ eq-eqb one.field.number one.field.number refl);
          slot = front_slot layout sound at text b1 within full1 one (fits_of one found) ∙ w.slot one found (λ word_here number. refl);
          else = λ entry there differs. subst (λ m. Becomes (shares m entry.mark) entry b (with_word at one.field.number b1)) (sym is)
              (by_word b1 w within in_it full1 entry there differs (is_word_at at entry.mark) refl);
        }
      where
        told_before : (entry : Entry) → entry_among layout.entries entry.field.number ≡ Some entry → is_word_at at entry.mark ≡ true → (entry.field.number ≡ set → ⊥) → told_in entry b ≡ Some false
        told_before entry there word_here other =
            ap (λ m. told_by entry.field.number m b) (word_there at entry.mark word_here) ∙ ap Some (ne_eqb set entry.field.number (λ e. other (sym e)))

        told_else : (b1 : List ℕ) → at + 4 ≤ length b1 → (number : ℕ) (mark : Mark) → MarksApart (marks.Word at) mark → is_word_at at mark ≡ false → told_by number mark (with_word at one.field.number b1) ≡ told_by number mark b1
        told_else b1 in_it number marks.Unmarked apart word_else = refl
        told_else b1 in_it number (marks.Bit bit) apart word_else = told_by_same at _ b1 in_it number (marks.Bit bit) (inl (omega (arith, apart)))
        told_else b1 in_it number (marks.Word there) apart word_else = ⊎_elim
            (λ same. absurd (true≢false (sym (eq-eqb there at (sym same)) ∙ word_else)))
            (λ more. told_by_same at _ b1 in_it number (marks.Word there) (⊎_elim (λ behind. inr behind) (λ before. inl before) more))
            apart

        by_word : (b1 : List ℕ) → IsWithout b1 → at + 4 ≤ layout.unknown → at + 4 ≤ length b1 → length b1 ≡ layout.size → (entry : Entry) → entry_among layout.entries entry.field.number ≡ Some entry → entry.field.number ≢ one.field.number
            → (t : Bool) → is_word_at at entry.mark ≡ t → Becomes t entry b (with_word at one.field.number b1)
        by_word b1 w within in_it full1 entry there differs true word_here =
            let text = to_le_bytes w32 one.field.number in
            let single = single_word entry at (suits_of entry there) (word_there at entry.mark word_here) in
            let slot_kept = front_slot layout sound at text b1 within full1 entry (fits_of entry there) in (
              single,
              subst (λ m. MayBeUnset (told_by entry.field.number m (with_word at one.field.number b1))) (sym (word_there at entry.mark word_here))
                  (ap (λ n. eqb n entry.field.number) (word_put at one.field.number b1 in_it small) ∙ ne_eqb one.field.number entry.field.number (λ e. differs (sym e))),
              ⊎_elim
                  (λ same. slot_kept ∙ w.zeros entry there word_here (eqb-true entry.field.number set same) differs)
                  (λ apart. let not_set = not_same entry.field.number set apart in
                  slot_kept ∙ w.slot entry there (λ _ number. absurd (not_set number)) ∙ tidy entry there single (told_before entry there word_here not_set))
                  (cases_Bool (eqb entry.field.number set)),
            )
        by_word b1 w within in_it full1 entry there differs false word_else =
            let text = to_le_bytes w32 one.field.number in (
              told_else b1 in_it entry.field.number entry.mark (subst (λ m. MarksApart m entry.mark) is ((apart_of one entry found there).else differs).marks) word_else ∙ w.same entry there,
              front_slot layout sound at text b1 within full1 entry (fits_of entry there) ∙ w.slot entry there (λ word_here number. absurd (true≢false (sym word_here ∙ word_else))),
            )

  -- where the field is told to be set already
  pub kept_marked : MayBeSet (told_in one b) → IsMarked layout one b b
  unfolding told_in
  kept_marked told = record {
    size = refl;
    unknown = refl;
    told = told;
    slot = refl;
    else = λ entry there differs. by_mark entry there differs one.mark refl;
  }
    where
      by_mark : (entry : Entry) → entry_among layout.entries entry.field.number ≡ Some entry → entry.field.number ≢ one.field.number → (mark : Mark) → one.mark ≡ mark → Becomes (shares mark entry.mark) entry b b
      by_mark entry there differs marks.Unmarked is = (refl, refl)
      by_mark entry there differs (marks.Bit bit) is = (refl, refl)
      by_mark entry there differs (marks.Word at) is = by_word (is_word_at at entry.mark) refl
        where
          set_is : word 0 (drop at b) ≡ one.field.number
          set_is = eqb-true (word 0 (drop at b)) one.field.number (subst (λ m. MayBeSet (told_by one.field.number m b)) is told)

          by_word : (t : Bool) → is_word_at at entry.mark ≡ t → Becomes t entry b b
          by_word false word_else = (refl, refl)
          by_word true word_here =
              let single = single_word entry at (suits_of entry there) (word_there at entry.mark word_here) in
              let not_set : eqb (word 0 (drop at b)) entry.field.number ≡ false = ne_eqb (word 0 (drop at b)) entry.field.number (λ e. differs (sym e ∙ set_is)) in
              let told_no : told_in entry b ≡ Some false = ap (λ m. told_by entry.field.number m b) (word_there at entry.mark word_here) ∙ ap Some not_set in
              (single, subst MayBeUnset (sym told_no) refl, tidy entry there single told_no)

  pub set_marked : one.field.number < 2 ^ 32 → IsMarked layout one b (marked layout.entries one b)
  set_marked small = by_mark one.mark refl
    where
      by_mark : (mark : Mark) → one.mark ≡ mark → IsMarked layout one b (marked_by layout.entries one.field.number mark b)
      by_mark marks.Unmarked is = unmarked marks.Unmarked is refl
      by_mark (marks.Bit bit) is = bit_marked bit is
      by_mark (marks.Word at) is = word_marked at is small

-- TURNED

-- one field of a record is changed, and each other is cleared or stays
pub record Turned (layout : Layout) (one : Entry) (clear : Entry → Bool) (b b' : List ℕ) : Type 0 where
  pub size : length b' ≡ length b
  pub unknown : part layout.unknown array_slot b' ≡ part layout.unknown array_slot b
  pub else : (entry : Entry) → entry_among layout.entries entry.field.number ≡ Some entry → entry.field.number ≢ one.field.number → Becomes (clear entry) entry b b'

-- and the field has this slot
pub record IsPut (layout : Layout) (one : Entry) (slot b b' : List ℕ) : Type 0 where
  pub turned : Turned layout one (λ entry. shares one.mark entry.mark) b b'
  pub told : MayBeSet (told_in one b')
  pub slot_is : slot_in one b' ≡ slot

becomes_later : (clear : Bool) (entry : Entry) (b b1 b2 : List ℕ) → told_in entry b2 ≡ told_in entry b1 → slot_in entry b2 ≡ slot_in entry b1 → Becomes clear entry b b1 → Becomes clear entry b b2
becomes_later true entry b b1 b2 told slot h = (h.0, subst MayBeUnset (sym told) h.1, slot ∙ h.2)
becomes_later false entry b b1 b2 told slot h = (told ∙ h.0, slot ∙ h.1)

module _ (layout : Layout) (sound : IsSound layout) (one : Entry) (found : entry_among layout.entries one.field.number ≡ Some one) (suit : AllByRecursion Suits layout.entries) (b : List ℕ) (full : length b ≡ layout.size) (tidy : Tidy layout.entries b) where
  -- a slot is written where the field is marked
  pub slot_is_put : (b1 slot : List ℕ) → IsMarked layout one b b1 → length slot ≡ slot_bytes one.field → IsPut layout one slot b (splice one.slot slot b1)
  slot_is_put b1 slot m size =
      let fits = found_fits layout one.field.number one sound found in
      let full1 : length b1 ≡ layout.size = m.size ∙ full in
      record {
        turned = record {
          size = slot_length layout sound one fits slot b1 size full1 ∙ m.size;
          unknown = slot_unknown layout sound one fits slot b1 size full1 ∙ m.unknown;
          else = λ entry there differs. becomes_later (shares one.mark entry.mark) entry b b1 (splice one.slot slot b1)
              (slot_told layout sound one fits slot b1 size full1 entry (found_fits layout entry.field.number entry sound there))
              (slot_else layout sound one fits slot b1 size full1 entry ((among_all (ApartFrom one) layout.entries entry.field.number entry (apart_from layout.entries one sound.apart found) there).0.else differs))
              (m.else entry there differs);
        };
        told = subst MayBeSet (sym (slot_told layout sound one fits slot b1 size full1 one fits)) m.told;
        slot_is = slot_put layout sound one fits slot b1 size full1;
      }

  pub is_put : (slot : List ℕ) → length slot ≡ slot_bytes one.field → one.field.number < 2 ^ 32 → IsPut layout one slot b (put layout.entries one slot b)
  is_put slot size small = slot_is_put (marked layout.entries one b) slot (set_marked layout sound one found suit b full tidy small) size

  -- what is set already is put again
  pub put_again : MayBeSet (told_in one b) → IsPut layout one (slot_in one b) b b
  put_again told =
      let m = kept_marked layout sound one found suit b full tidy told in
      record { turned = record { size = refl; unknown = refl; else = m.else }; told = told; slot_is = refl }

abbrev place_of : Mark → ℕ
place_of (marks.Word at) = at
place_of _ = 0

-- what is cleared is what shares the word, where a value is set
pub shares_clears : {U : Type 0} (one other : Entry) (value : ValueWith U) → Suits one → Suits other → OneWord one.field.card other.field.card one.mark other.mark → clears one.field.card (One value) other.field.card ≡ shares one.mark other.mark
shares_clears one other value suits suits' word = by_cards one.field.card other.field.card one.mark other.mark (not (is_message (value_type_of one.field.kind))) (not (is_message (value_type_of other.field.kind))) suits.mark suits'.mark word
  where
    by_cards : (c d : Card) (m m' : Mark) (r r' : Bool) → m ≡ cond (is_explicit c && r) (marks.Bit suits.bits) (word_of suits.bytes c) → m' ≡ cond (is_explicit d && r') (marks.Bit suits'.bits) (word_of suits'.bytes d) → OneWord c d m m' → clears c (One value) d ≡ shares m m'
    by_cards cards.Implicit d m m' r r' is is' word = sym (ap (λ x. shares x m') is)
    by_cards cards.Explicit d m m' true r' is is' word = sym (ap (λ x. shares x m') is)
    by_cards cards.Explicit d m m' false r' is is' word = sym (ap (λ x. shares x m') is)
    by_cards (cards.Repeated packed) d m m' r r' is is' word = sym (ap (λ x. shares x m') is)
    by_cards (cards.Member oneof) (cards.Member oneof') m m' r r' is is' word = ⊎_elim
        (λ same. same ∙ sym (ap₂ shares is is' ∙ eq-eqb _ _ (sym (ap place_of (sym is ∙ (word.0 (eqb-true oneof oneof' same) ∙ is'))))))
        (λ apart. apart ∙ sym (ap₂ shares is is' ∙ ne_eqb _ _ (λ e. not_same oneof oneof' apart (word.1 (is ∙ (ap marks.Word (sym e) ∙ sym is'))))))
        (cases_Bool (eqb oneof oneof'))
    by_cards (cards.Member oneof) cards.Implicit m m' r r' is is' word = sym (ap₂ shares is is')
    by_cards (cards.Member oneof) cards.Explicit m m' r true is is' word = sym (ap₂ shares is is')
    by_cards (cards.Member oneof) cards.Explicit m m' r false is is' word = sym (ap₂ shares is is')
    by_cards (cards.Member oneof) (cards.Repeated packed) m m' r r' is is' word = sym (ap₂ shares is is')

-- a field without presence has no mark
implicit_mark : (one : Entry) → one.field.card ≡ cards.Implicit → Suits one → one.mark ≡ marks.Unmarked
implicit_mark one is suits = suits.mark ∙ ap (λ c. cond (is_explicit c && not (is_message (value_type_of one.field.kind))) (marks.Bit suits.bits) (word_of suits.bytes c)) is

pub implicit_shares : (one other : Entry) → one.field.card ≡ cards.Implicit → Suits one → shares one.mark other.mark ≡ false
implicit_shares one other is suits = ap (λ m. shares m other.mark) (implicit_mark one is suits)

pub implicit_untold : (one : Entry) (b : List ℕ) → Suits one → one.field.card ≡ cards.Implicit → told_in one b ≡ None
unfolding told_in
implicit_untold one b suits is = ap (λ m. told_by one.field.number m b) (implicit_mark one is suits)

-- TAKEN AWAY

abbrev is_bit : Mark → Bool
is_bit (marks.Bit bit) = true
is_bit _ = false

-- a write of a word changes no other mark
pub told_else : (at n : ℕ) (b : List ℕ) → at + 4 ≤ length b → (number : ℕ) (mark : Mark) → MarksApart (marks.Word at) mark → is_word_at at mark ≡ false → told_by number mark (with_word at n b) ≡ told_by number mark b
told_else at n b in_it number marks.Unmarked apart word_else = refl
told_else at n b in_it number (marks.Bit bit) apart word_else = told_by_same at (to_le_bytes w32 n) b in_it number (marks.Bit bit) (inl (omega (arith, apart)))
told_else at n b in_it number (marks.Word there) apart word_else = ⊎_elim
    (λ same. absurd (true≢false (sym (eq-eqb there at (sym same)) ∙ word_else)))
    (λ more. told_by_same at (to_le_bytes w32 n) b in_it number (marks.Word there) (⊎_elim (λ behind. inr behind) (λ before. inl before) more))
    apart

pub record IsTaken (layout : Layout) (one : Entry) (b b' : List ℕ) : Type 0 where
  pub turned : Turned layout one (λ entry. false) b b'
  pub told : MayBeUnset (told_in one b')
  pub slot_is : IsZero (slot_bytes one.field) (slot_in one b')

module _ (layout : Layout) (sound : IsSound layout) (one : Entry) (found : entry_among layout.entries one.field.number ≡ Some one) (b : List ℕ) (full : length b ≡ layout.size) (some : AllByRecursion (λ (entry : Entry). 1 ≤ entry.field.number) layout.entries) (set : MayBeSet (told_in one b)) where
  fits_in : (entry : Entry) → entry_among layout.entries entry.field.number ≡ Some entry → FitsIn layout entry
  fits_in entry there = found_fits layout entry.field.number entry sound there

  apart_in : (entry : Entry) → entry_among layout.entries entry.field.number ≡ Some entry → ApartFrom one entry
  apart_in entry there = (among_all (ApartFrom one) layout.entries entry.field.number entry (apart_from layout.entries one sound.apart found) there).0

  some_number : (entry : Entry) → entry_among layout.entries entry.field.number ≡ Some entry → 1 ≤ entry.field.number
  some_number entry there = (among_all (λ (entry : Entry). 1 ≤ entry.field.number) layout.entries entry.field.number entry some there).0

  zeros_size : length (replicate {A = ℕ} (slot_bytes one.field) 0) ≡ slot_bytes one.field
  zeros_size = length-replicate {A = ℕ} (slot_bytes one.field) 0

  full1 : length (with_zeros one b) ≡ layout.size
  full1 = slot_length layout sound one (fits_in one found) (replicate (slot_bytes one.field) 0) b zeros_size full ∙ full

  -- its slot tells it
  slot_taken : one.mark ≡ marks.Unmarked → IsTaken layout one b (with_zeros one b)
  unfolding told_in
  slot_taken is = record {
    turned = record {
      size = slot_length layout sound one (fits_in one found) (replicate (slot_bytes one.field) 0) b zeros_size full;
      unknown = slot_unknown layout sound one (fits_in one found) (replicate (slot_bytes one.field) 0) b zeros_size full;
      else = λ entry there differs. (
        slot_told layout sound one (fits_in one found) (replicate (slot_bytes one.field) 0) b zeros_size full entry (fits_in entry there),
        slot_else layout sound one (fits_in one found) (replicate (slot_bytes one.field) 0) b zeros_size full entry ((apart_in entry there).else differs),
      );
    };
    told = subst (λ m. MayBeUnset (told_by one.field.number m (with_zeros one b))) (sym is) tt;
    slot_is = slot_put layout sound one (fits_in one found) (replicate (slot_bytes one.field) 0) b zeros_size full;
  }

  -- the word of its oneof tells it
  word_taken : (at : ℕ) → one.mark ≡ marks.Word at → IsTaken layout one b (with_word at 0 (with_zeros one b))
  unfolding told_in
  word_taken at is =
      let within : at + 4 ≤ layout.unknown = subst (MarkWithin layout.unknown) is (fits_in one found).mark in
      let in_it : at + 4 ≤ length (with_zeros one b) = omega (arith, within, full1, sound.unknown) in
      let text = to_le_bytes w32 0 in
      let none_told : (number : ℕ) → 1 ≤ number → told_by number (marks.Word at) (with_word at 0 (with_zeros one b)) ≡ Some false = λ number some. ap Some (ap (λ n. eqb n number) (word_put at 0 (with_zeros one b) in_it (omega arith)) ∙ ne_eqb 0 number (λ e. omega (arith, some, e))) in
      let set_is : word 0 (drop at b) ≡ one.field.number = eqb-true (word 0 (drop at b)) one.field.number (subst (λ m. MayBeSet (told_by one.field.number m b)) is set) in
      record {
        turned = record {
          size = splice_length at text (with_zeros one b) in_it ∙ slot_length layout sound one (fits_in one found) (replicate (slot_bytes one.field) 0) b zeros_size full;
          unknown = front_unknown layout sound at text (with_zeros one b) within full1 ∙ slot_unknown layout sound one (fits_in one found) (replicate (slot_bytes one.field) 0) b zeros_size full;
          else = λ entry there differs. (
            ⊎_elim
                (λ word_here. let mark_is = word_there at entry.mark word_here in
                ap (λ m. told_by entry.field.number m (with_word at 0 (with_zeros one b))) mark_is ∙ none_told entry.field.number (some_number entry there)
                ∙ sym (ap (λ m. told_by entry.field.number m b) mark_is ∙ ap Some (ap (λ n. eqb n entry.field.number) set_is ∙ ne_eqb one.field.number entry.field.number (λ e. differs (sym e)))))
                (λ word_else. told_else at 0 (with_zeros one b) in_it entry.field.number entry.mark (subst (λ m. MarksApart m entry.mark) is ((apart_in entry there).else differs).marks) word_else
                ∙ slot_told layout sound one (fits_in one found) (replicate (slot_bytes one.field) 0) b zeros_size full entry (fits_in entry there))
                (cases_Bool (is_word_at at entry.mark)),
            front_slot layout sound at text (with_zeros one b) within full1 entry (fits_in entry there)
                ∙ slot_else layout sound one (fits_in one found) (replicate (slot_bytes one.field) 0) b zeros_size full entry ((apart_in entry there).else differs),
          );
        };
        told = subst (λ m. MayBeUnset (told_by one.field.number m (with_word at 0 (with_zeros one b)))) (sym is) (subst MayBeUnset (sym (none_told one.field.number (some_number one found))) refl);
        slot_is = front_slot layout sound at text (with_zeros one b) within full1 one (fits_in one found) ∙ slot_put layout sound one (fits_in one found) (replicate (slot_bytes one.field) 0) b zeros_size full;
      }

  -- a message has no bit
  pub is_taken : Suits one → is_message (value_type_of one.field.kind) ≡ true → IsTaken layout one b (taken one b)
  is_taken suits message = by_mark one.mark refl
    where
      no_bit : (card : Card) (bit : ℕ) → marks.Bit bit ≡ cond (is_explicit card && false) (marks.Bit suits.bits) (word_of suits.bytes card) → ⊥
      no_bit cards.Implicit bit e = true≢false (ap is_bit e)
      no_bit cards.Explicit bit e = true≢false (ap is_bit e)
      no_bit (cards.Member oneof) bit e = true≢false (ap is_bit e)
      no_bit (cards.Repeated packed) bit e = true≢false (ap is_bit e)

      by_mark : (mark : Mark) → one.mark ≡ mark → IsTaken layout one b (unmarked_by mark (with_zeros one b))
      by_mark marks.Unmarked is = slot_taken is
      by_mark (marks.Word at) is = word_taken at is
      by_mark (marks.Bit bit) is = absurd (no_bit one.field.card bit (sym is ∙ (suits.mark ∙ ap (λ t. cond (is_explicit one.field.card && not t) (marks.Bit suits.bits) (word_of suits.bytes one.field.card)) message)))
