-- Zero bytes are the empty message, and which member of a oneof is set.
use Rattle.std.proofs.Common.{◌≡◌, ◌^◌, ◌/◌, ◌%◌, ◌+◌, ◌-◌, ◌*◌, ◌≤◌, ◌<◌, ℕ, zero, suc, Bool, true, false, ◌&&◌, not, cond, eqb, length, replicate, take, drop, take_at, drop_at, drop-drop, append-nil, map, w32, List, [], ◌∷◌, ◌++◌, Option, None, Some, refl, sym, ap, ◌∙◌, subst, arith}
use Rattle.std.specs.Int.{from_le_bytes}
use Rattle.std.specs.Option.{option_map}
use Rattle.std.specs.List.{AllByRecursion}
use Rattle.std.proofs.lemmas.Bool.{ne_eqb}
use Rattle.std.proofs.lemmas.List.{drop_all, replicate-append-replicate, take-replicate, get_or-replicate, length-replicate}
use Rattle.std.proofs.lemmas.Nat.Bits.{bit_at-zero}
use Rattle.std.proofs.lemmas.Option.{same_Some}
use Rattle.std.specs.FinMap as fin
use Rattle.arena_mem.specs.Places.{Places, Buffers, splice}
use Rattle.dyn_message.specs.Writes.{zeros_to}
use Rattle.pb_schema.specs.declared.kind.Card.{Card}
use Rattle.pb_schema.specs.declared.kind.Card.TheVariants as cards
use Rattle.pb_schema.specs.declared.kind.FieldType.{FieldType}
use Rattle.pb_schema.specs.declared.schema.MessageType.{MessageType}
use Rattle.pb_schema.specs.declared.schema.Schema.{Schema}
use Rattle.pb_schema.specs.Kinds.{value_type_of, slot_of}
use Rattle.pb_schema.specs.Cards.{is_repeated, is_member}
use Rattle.pb_schema.specs.Lawful.{Lawful, NumbersAscend, TypesAllowed}
use Rattle.pb_schema.specs.Fits.{fields_among, fields_of}
use Rattle.pb_schema.specs.Empty.{unset, empty_with}
use Rattle.pb_schema.specs.Merge.{is_set}
use Rattle.pb_schema.specs.Tree.{HeldWith, Nothing, One, Many, HeldListWith, NoFields, FieldAnd, Shape, Message, held_list}
use Rattle.msg_layout.specs.declared.entry.Entry.{Entry}
use Rattle.msg_layout.specs.declared.entry.Mark.{Mark}
use Rattle.msg_layout.specs.declared.entry.Mark.TheVariants as marks
use Rattle.msg_layout.specs.Slots.{slot_bytes, array_slot, is_explicit, is_message}
use Rattle.msg_layout.specs.Layout.{Layout, layout_of, word_of}
use Rattle.msg_layout.specs.Sound.{FitsIn, MarkWithin}
use Rattle.dyn_message.specs.declared.msg_ref.MsgRef.{MsgRef}
use Rattle.dyn_message.specs.Feet.{Foot, InPlace, same_foot, times}
use Rattle.dyn_message.specs.Slots.{part, word, IsZero, slot_in, told_in, told_by, set_by, MayBeUnset}
use Rattle.dyn_message.specs.Arrays.{NoElements}
use Rattle.dyn_message.specs.Stands.{IsSingle, IsList, HeldStands, FieldsStand, Stands}
use Rattle.dyn_message.specs.Fields.{case_among, case_in, first_set}
use Rattle.dyn_message.proofs.Entries.{Suits, all_fit, all_suit, fields_laid}
use Rattle.dyn_message.proofs.Focus.{fields_in}
use Rattle.dyn_message.proofs.Messages.{sound_of}

-- ZEROS

drop_zeros : (at count : ℕ) → drop at (replicate {A = ℕ} count 0) ≡ replicate (count - at) 0
drop_zeros zero count = ap (λ n. replicate n 0) {x = count} {y = count - 0} (omega arith)
drop_zeros (suc at) zero = ap (λ n. replicate {A = ℕ} n 0) {x = 0} {y = 0 - suc at} (omega arith)
drop_zeros (suc at) (suc count) = drop_zeros at count ∙ ap (λ n. replicate n 0) {x = count - at} {y = suc count - suc at} (omega arith)

pub part_of_zeros : (at n count : ℕ) → at + n ≤ count → part at n (replicate count 0) ≡ replicate n 0
part_of_zeros at n count fits = ap (take n) (drop_zeros at count) ∙ take-replicate n (count - at) 0 (omega (arith, fits))

untold_zeros : (number : ℕ) (mark : Mark) (count : ℕ) → 1 ≤ number → MarkWithin count mark → MayBeUnset (told_by number mark (replicate count 0))
unfolding word
untold_zeros number marks.Unmarked count some within = tt
untold_zeros number (marks.Bit bit) count some within =
    ap (λ n. eqb (n / 2 ^ (bit % 8) % 2) 1) (get_or-replicate count (bit / 8) 0 0 within) ∙ ap (λ n. eqb n 1) (bit_at-zero (bit % 8))
untold_zeros number (marks.Word at) count some within =
    ap (λ s. eqb (from_le_bytes w32 s) number) (part_of_zeros at 4 count within) ∙ ne_eqb 0 number (λ e. omega (arith, some, e))

-- NUMBERS

some_from : (least : ℕ) (fields : List FieldType) → 1 ≤ least → NumbersAscend least fields → AllByRecursion (λ (field : FieldType). 1 ≤ field.number) fields
some_from least [] some ascend = tt
some_from least (field ∷ fields) some ascend = (omega (arith, some, ascend.0), some_from (field.number + 1) fields (omega arith) ascend.2)

some_among : (count : ℕ) (types : List MessageType) → TypesAllowed count types → (type_no : ℕ) → AllByRecursion (λ (field : FieldType). 1 ≤ field.number) (fields_among types type_no)
some_among count [] allowed type_no = tt
some_among count (type ∷ types) allowed zero = some_from 1 type.fields (omega arith) allowed.0.numbers
some_among count (type ∷ types) allowed (suc type_no) = some_among count types allowed.1 type_no

entries_some : (entries : List Entry) → AllByRecursion (λ (field : FieldType). 1 ≤ field.number) (fields_in entries) → AllByRecursion (λ (entry : Entry). 1 ≤ entry.field.number) entries
entries_some [] all = tt
entries_some (entry ∷ entries) all = (all.0, entries_some entries all.1)

pub some_numbers : (schema : Schema) → Lawful schema → (type_no : ℕ) → AllByRecursion (λ (entry : Entry). 1 ≤ entry.field.number) (layout_of schema type_no).entries
some_numbers schema lawful type_no = entries_some (layout_of schema type_no).entries
    (subst (AllByRecursion (λ (field : FieldType). 1 ≤ field.number)) (sym (fields_laid schema type_no)) (some_among (length schema.types) schema.types lawful.types type_no))

single_or_list : (card : Card) → IsSingle card → IsList card → ⊥
single_or_list cards.Implicit one many = many
single_or_list cards.Explicit one many = many
single_or_list (cards.Member oneof) one many = many
single_or_list (cards.Repeated packed) one many = one

-- EMPTY

within_record : (front size : ℕ) (mark : Mark) → front ≤ size → MarkWithin front mark → MarkWithin size mark
within_record front size marks.Unmarked le h = tt
within_record front size (marks.Bit bit) le h = omega (arith, le, h)
within_record front size (marks.Word at) le h = omega (arith, le, h)

module _ (schema : Schema) (places : Places) (buffers : Buffers) where
  held_empty : (field : FieldType) (told : Option Bool) (slot : List ℕ) → MayBeUnset told → IsZero (slot_bytes field) slot → HeldStands schema places buffers field told slot (unset field.card) []
  held_empty field told slot unset_told zeros = by_card field.card refl
    where
      by_card : (card : Card) → field.card ≡ card → HeldStands schema places buffers field told slot (unset card) []
      by_card cards.Implicit is = (subst IsSingle (sym is) tt, unset_told, zeros, refl)
      by_card cards.Explicit is = (subst IsSingle (sym is) tt, unset_told, zeros, refl)
      by_card (cards.Member oneof) is = (subst IsSingle (sym is) tt, unset_told, zeros, refl)
      by_card (cards.Repeated packed) is = (subst IsList (sym is) tt, NoElements refl (zeros ∙ ap (λ c. replicate (cond (is_repeated c) array_slot (slot_of (value_type_of field.kind))) 0) is) refl)

  fields_empty : (layout : Layout) → layout.unknown ≤ layout.size → (entries : List Entry) → AllByRecursion (FitsIn layout) entries → AllByRecursion (λ (entry : Entry). 1 ≤ entry.field.number) entries
      → FieldsStand schema places buffers (replicate layout.size 0) entries (held_list (map (λ field. unset field.card) (fields_in entries))) []
  unfolding slot_in told_in
  fields_empty layout le [] fits some = refl
  fields_empty layout le (entry ∷ entries) fits some = record {
    own = [];
    rest = [];
    are = refl;
    first = held_empty entry.field _ _
        (untold_zeros entry.field.number entry.mark layout.size some.0 (within_record layout.unknown layout.size entry.mark le fits.0.mark))
        (part_of_zeros entry.slot (slot_bytes entry.field) layout.size fits.0.within);
    second = fields_empty layout le entries fits.1 some.1;
  }

  pub empty_stands : Lawful schema → (msg : MsgRef) → msg.type_no < length schema.types → msg.place.len ≡ (layout_of schema msg.type_no).size → fin.get places msg.place ≡ Some (replicate (layout_of schema msg.type_no).size 0)
      → Stands schema places buffers msg (empty_with [] (fields_of schema msg.type_no)) (InPlace msg.place ∷ [])
  empty_stands lawful msg type len there =
      let layout = layout_of schema msg.type_no in
      let sound = sound_of schema lawful msg.type_no type in
      record {
        message = record {
          type = type;
          len = len;
          bytes = replicate layout.size 0;
          there = there;
          size = length-replicate layout.size 0;
          behind = [];
          feet_are = refl;
          holds = record {
            own = [];
            rest = [];
            are = refl;
            first = NoElements refl (part_of_zeros layout.unknown array_slot layout.size sound.unknown) refl;
            second = subst (λ fields. FieldsStand schema places buffers (replicate layout.size 0) layout.entries (held_list (map (λ field. unset field.card) fields)) []) (fields_laid schema msg.type_no)
                (fields_empty layout (omega (arith, sound.unknown)) layout.entries (all_fit layout sound) (some_numbers schema lawful msg.type_no));
          };
        };
        once = λ foot. one_foot foot (InPlace msg.place);
      }
    where
      one_foot : (foot other : Foot) → times foot (other ∷ []) ≤ 1
      one_foot foot other = by_same (same_foot foot other)
        where
          by_same : (t : Bool) → cond t (suc zero) zero + zero ≤ 1
          by_same true = omega arith
          by_same false = omega arith

  -- WHICH MEMBER IS SET

  member_set : (oneof : ℕ) (entry : Entry) (bytes : List ℕ) (held : HeldWith (List (List ℕ))) (own : List Foot) → Suits entry → HeldStands schema places buffers entry.field (told_in entry bytes) (slot_in entry bytes) held own
      → (is_member oneof entry.field.card && is_set held) ≡ (is_member oneof entry.field.card && set_by (told_in entry bytes) false)
  unfolding told_in
  member_set oneof entry bytes held own suits h = by_card entry.field.card refl
    where
      by_told : (told : Bool) (slot : List ℕ) (held : HeldWith (List (List ℕ))) → IsSingle entry.field.card → HeldStands schema places buffers entry.field (Some told) slot held own → is_set held ≡ told
      by_told told slot Nothing single h = sym h.1
      by_told told slot (One value) single h = sym h.1
      by_told told slot (Many elements) single h = absurd (single_or_list entry.field.card single h.0)

      by_card : (card : Card) → entry.field.card ≡ card → (is_member oneof card && is_set held) ≡ (is_member oneof card && set_by (told_in entry bytes) false)
      by_card cards.Implicit is = refl
      by_card cards.Explicit is = refl
      by_card (cards.Repeated packed) is = refl
      by_card (cards.Member own_oneof) is =
          let at = suits.bytes in
          let mark_is : entry.mark ≡ marks.Word (suits.bytes + 4 * own_oneof) = suits.mark ∙ ap (λ c. cond (is_explicit c && not (is_message (value_type_of entry.field.kind))) (marks.Bit suits.bits) (word_of suits.bytes c)) is in
          let told_is : told_in entry bytes ≡ told_by entry.field.number (marks.Word (suits.bytes + 4 * own_oneof)) bytes = ap (λ m. told_by entry.field.number m bytes) mark_is in
          ap (λ b. is_member oneof (cards.Member own_oneof) && b)
          (by_told _ (slot_in entry bytes) held (subst IsSingle (sym is) tt) (subst (λ t. HeldStands schema places buffers entry.field t (slot_in entry bytes) held own) told_is h) ∙ ap (λ t. set_by t false) (sym told_is))

  pub case_read : (oneof : ℕ) (bytes : List ℕ) (entries : List Entry) (held : HeldListWith (List (List ℕ))) (feet : List Foot) → AllByRecursion Suits entries → FieldsStand schema places buffers bytes entries held feet
      → first_set oneof bytes entries ≡ case_among oneof (fields_in entries) held
  case_read oneof bytes [] NoFields feet suits h = refl
  case_read oneof bytes [] (FieldAnd held others) feet suits h = absurd h
  case_read oneof bytes (entry ∷ entries) NoFields feet suits h = absurd h
  case_read oneof bytes (entry ∷ entries) (FieldAnd held others) feet suits h =
      ap (λ b. cond b entry.field.number (first_set oneof bytes entries)) (sym (member_set oneof entry bytes held h.own suits.0 h.first))
      ∙ ap (λ n. cond (is_member oneof entry.field.card && is_set held) entry.field.number n) (case_read oneof bytes entries others h.rest suits.1 h.second)

pub case_opened : (schema : Schema) (places : Places) (buffers : Buffers) (msg : MsgRef) (oneof : ℕ) (bytes : List ℕ) (t : Shape) (feet : List Foot) → Stands schema places buffers msg t feet → fin.get places msg.place ≡ Some bytes
    → first_set oneof bytes (layout_of schema msg.type_no).entries ≡ case_in schema msg.type_no oneof t
case_opened schema places buffers msg oneof bytes (Message held pieces) feet st there =
    let m = st.message in
    let same : bytes ≡ m.bytes = same_Some bytes m.bytes (sym there ∙ m.there) in
    ap (λ b. first_set oneof b (layout_of schema msg.type_no).entries) same
    ∙ case_read schema places buffers oneof m.bytes (layout_of schema msg.type_no).entries held m.holds.rest (all_suit schema msg.type_no) m.holds.second
    ∙ ap (λ fields. case_among oneof fields held) (fields_laid schema msg.type_no)

-- CLEARED

pub zeros_more : (at n : ℕ) (zeros b : List ℕ) → zeros ≡ replicate n 0 → at + n ≤ length b → splice at zeros (zeros_to at b) ≡ zeros_to (at + n) b
zeros_more at n zeros b is fits =
    let front : length (replicate {A = ℕ} at 0) ≡ at = length-replicate at 0 in
    let behind : at + length zeros ≡ at + n = ap (λ (s : List ℕ). at + length s) is ∙ ap (λ k. at + k) (length-replicate {A = ℕ} n 0) in
    ap (λ k. take at (zeros_to at b) ++ zeros ++ drop k (zeros_to at b)) behind
    ∙ ap (λ s. s ++ zeros ++ drop (at + n) (zeros_to at b)) (take_at (replicate at 0) (drop at b) at front)
    ∙ ap (λ s. replicate at 0 ++ zeros ++ s) (sym (drop-drop n at (zeros_to at b)) ∙ ap (drop n) (drop_at (replicate at 0) (drop at b) at front) ∙ drop-drop n at b)
    ∙ ap (λ s. replicate at 0 ++ s ++ drop (at + n) b) is
    ∙ ap (λ s. s ++ drop (at + n) b) (replicate-append-replicate at n 0)

pub zeros_all : (size : ℕ) (b : List ℕ) → length b ≡ size → zeros_to size b ≡ replicate size 0
zeros_all size b is = ap (λ s. replicate size 0 ++ s) (drop_all size b (omega (arith, is))) ∙ append-nil (replicate size 0)

pub zeros_none : (b : List ℕ) → b ≡ zeros_to 0 b
zeros_none b = refl

-- a write of zeros behind zeros
pub zeros_here : (old mid new : Option (List ℕ)) (at n len : ℕ) (zeros : List ℕ) → zeros ≡ replicate n 0 → at + n ≤ len → ((b : List ℕ) → old ≡ Some b → length b ≡ len)
    → mid ≡ option_map (zeros_to at) old → new ≡ option_map (splice at zeros) mid → new ≡ option_map (zeros_to (at + n)) old
zeros_here None mid new at n len zeros is fits size first second = second ∙ ap (option_map (splice at zeros)) first
zeros_here (Some b) mid new at n len zeros is fits size first second =
    second ∙ ap (option_map (splice at zeros)) first ∙ ap Some (zeros_more at n zeros b is (omega (arith, fits, size b refl)))
