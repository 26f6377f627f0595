-- A message that stands holds what the cards of its fields say: of the members of a oneof at most one is set, since its
-- word tells one number.
use Rattle.std.proofs.Common.{◌≡◌, ◌+◌, ◌*◌, ℕ, Bool, true, false, cond, ◌&&◌, ◌||◌, not, true≢false, ⊎_elim, List, [], ◌∷◌, refl, sym, ap, ap₂, ◌∙◌, subst, drop, arith}
use Rattle.std.specs.List.{AllByRecursion}
use Rattle.std.proofs.lemmas.Bool.{eqb-true, cases_Bool}
use Rattle.std.proofs.lemmas.List.Elements.{recursion_from_All}
use Rattle.arena_mem.specs.Places.{Places, Buffers}
use Rattle.pb_schema.specs.declared.kind.Card.{Card}
use Rattle.pb_schema.specs.declared.kind.Card.TheVariants as cards
use Rattle.pb_schema.specs.declared.schema.Schema.{Schema}
use Rattle.pb_schema.specs.Cards.{is_member}
use Rattle.pb_schema.specs.Kinds.{value_type_of}
use Rattle.pb_schema.specs.Lawful.{Lawful}
use Rattle.pb_schema.specs.Merge.{is_set, sets_member}
use Rattle.pb_schema.specs.Tree.{HeldWith, Nothing, One, Many, Shape, Message, HeldListWith, NoFields, FieldAnd}
use Rattle.msg_layout.specs.declared.entry.Entry.{Entry}
use Rattle.msg_layout.specs.declared.entry.Mark.TheVariants as marks
use Rattle.msg_layout.specs.Layout.{layout_of, word_of}
use Rattle.msg_layout.specs.Slots.{is_explicit, is_message}
use Rattle.msg_layout.specs.Sound.{Beside, EachTwo, OneWord}
use Rattle.dyn_message.specs.declared.msg_ref.MsgRef.{MsgRef}
use Rattle.dyn_message.specs.Feet.{Foot}
use Rattle.dyn_message.specs.Slots.{word, slot_in, told_by, told_in, MayBeSet}
use Rattle.dyn_message.specs.Stands.{IsSingle, IsList, MayHold, HeldStands, FieldsStand, Stands}
use Rattle.dyn_message.proofs.Entries.{Suits, all_suit, fields_laid}
use Rattle.dyn_message.proofs.Focus.{fields_in}
use Rattle.dyn_message.proofs.Messages.{sound_of}
use Rattle.msg_merge.specs.Merging.{IsHeldAs, IsSetAlone, AreHeldAs, HoldsByCards}

same_word : (a b : ℕ) → marks.Word a ≡ marks.Word b → a ≡ b
same_word a b e = cc

-- a member that is set has its number in its oneof's word
record IsTold (entry : Entry) (bytes : List ℕ) : Type 0 where
  pub at : ℕ
  pub mark : entry.mark ≡ marks.Word at
  pub number : word 0 (drop at bytes) ≡ entry.field.number

told_member : (entry : Entry) (bytes : List ℕ) (oneof : ℕ) → Suits entry → entry.field.card ≡ cards.Member oneof → MayBeSet (told_in entry bytes) → IsTold entry bytes
unfolding told_in
told_member entry bytes oneof suits card set =
    let at = suits.bytes + 4 * oneof in
    let mark : entry.mark ≡ marks.Word at = suits.mark ∙ ap (λ c. cond (is_explicit c && not (is_message (value_type_of entry.field.kind))) (marks.Bit suits.bits) (word_of suits.bytes c)) card in
    record {
      at = at;
      mark = mark;
      number = eqb-true (word 0 (drop at bytes)) entry.field.number (subst (λ m. MayBeSet (told_by entry.field.number m bytes)) mark set);
    }

module _ (bytes : List ℕ) (entry other : Entry) (oneof : ℕ) (card : entry.field.card ≡ cards.Member oneof) (card' : other.field.card ≡ cards.Member oneof) (beside : Beside entry other) where
  one_mark : entry.mark ≡ other.mark
  one_mark =
      let both = subst (λ c. OneWord c other.field.card entry.mark other.mark) card beside.oneofs in
      (subst (λ c. OneWord (cards.Member oneof) c entry.mark other.mark) card' both).0 refl

  not_both : IsTold entry bytes → IsTold other bytes → ⊥
  not_both a b =
      let at = same_word a.at b.at (sym a.mark ∙ (one_mark ∙ b.mark)) in
      let same : entry.field.number ≡ other.field.number = sym a.number ∙ (ap (λ n. word 0 (drop n bytes)) at ∙ b.number) in
      omega (arith, same, beside.numbers)

and_none : (b : Bool) → (b && false) ≡ false
and_none true = refl
and_none false = refl

or_none : (a b : Bool) → a ≡ false → b ≡ false → (a || b) ≡ false
or_none a b p q = ap₂ (λ (x y : Bool). x || y) p q

member_is : (oneof : ℕ) (card : Card) → is_member oneof card ≡ true → card ≡ cards.Member oneof
member_is oneof cards.Implicit e = absurd (true≢false (sym e))
member_is oneof cards.Explicit e = absurd (true≢false (sym e))
member_is oneof (cards.Repeated packed) e = absurd (true≢false (sym e))
member_is oneof (cards.Member other) e = ap cards.Member (sym (eqb-true oneof other e))

module _ (schema : Schema) (places : Places) (buffers : Buffers) (bytes : List ℕ) where
  unset_or_other : (entry other : Entry) (oneof : ℕ) (held : HeldWith (List (List ℕ))) (own : List Foot) → IsTold entry bytes → entry.field.card ≡ cards.Member oneof → Beside entry other → Suits other
      → HeldStands schema places buffers other.field (told_in other bytes) (slot_in other bytes) held own → (is_member oneof other.field.card && is_set held) ≡ false
  unset_or_other entry other oneof Nothing own told card beside suits h = and_none (is_member oneof other.field.card)
  unset_or_other entry other oneof (Many values) own told card beside suits h = and_none (is_member oneof other.field.card)
  unset_or_other entry other oneof (One value) own told card beside suits h = ⊎_elim
      (λ is. let card' = member_is oneof other.field.card is in absurd (not_both bytes entry other oneof card card' beside told (told_member other bytes oneof suits card' h.1)))
      (λ not. ap (λ (b : Bool). b && true) not)
      (cases_Bool (is_member oneof other.field.card))

  no_other : (entry : Entry) (oneof : ℕ) (entries : List Entry) (rest : HeldListWith (List (List ℕ))) (feet : List Foot) → IsTold entry bytes → entry.field.card ≡ cards.Member oneof → AllByRecursion (Beside entry) entries → AllByRecursion Suits entries
      → FieldsStand schema places buffers bytes entries rest feet → sets_member oneof (fields_in entries) rest ≡ false
  no_other entry oneof [] NoFields feet told card beside suits stand = refl
  no_other entry oneof [] (FieldAnd held rest) feet told card beside suits stand = absurd stand
  no_other entry oneof (other ∷ entries) NoFields feet told card beside suits stand = absurd stand
  no_other entry oneof (other ∷ entries) (FieldAnd held rest) feet told card beside suits stand =
      or_none (is_member oneof other.field.card && is_set held) (sets_member oneof (fields_in entries) rest)
      (unset_or_other entry other oneof held stand.own told card beside.0 suits.0 stand.first)
      (no_other entry oneof entries rest stand.rest told card beside.1 suits.1 stand.second)

  held_as : (entry : Entry) (held : HeldWith (List (List ℕ))) (own : List Foot) → HeldStands schema places buffers entry.field (told_in entry bytes) (slot_in entry bytes) held own → IsHeldAs entry.field.card held
  held_as entry Nothing own h = by_card entry.field.card h.0
    where
      by_card : (c : Card) → IsSingle c → IsHeldAs c Nothing
      by_card cards.Implicit single = tt
      by_card cards.Explicit single = tt
      by_card (cards.Member oneof) single = tt
      by_card (cards.Repeated packed) single = single
  held_as entry (One value) own h = by_card entry.field.card h.0
    where
      by_card : (c : Card) → MayHold {U = List (List ℕ)} c value → IsHeldAs c (One value)
      by_card cards.Implicit may = tt
      by_card cards.Explicit may = tt
      by_card (cards.Member oneof) may = tt
      by_card (cards.Repeated packed) may = may
  held_as entry (Many values) own h = by_card entry.field.card h.0
    where
      by_card : (c : Card) → IsList c → IsHeldAs c (Many values)
      by_card cards.Implicit list = list
      by_card cards.Explicit list = list
      by_card (cards.Member oneof) list = list
      by_card (cards.Repeated packed) list = tt

  set_alone : (entry : Entry) (held : HeldWith (List (List ℕ))) (own : List Foot) (entries : List Entry) (rest : HeldListWith (List (List ℕ))) (feet : List Foot) → Suits entry → AllByRecursion (Beside entry) entries → AllByRecursion Suits entries
      → HeldStands schema places buffers entry.field (told_in entry bytes) (slot_in entry bytes) held own → FieldsStand schema places buffers bytes entries rest feet → IsSetAlone entry.field.card held (fields_in entries) rest
  set_alone entry held own entries rest feet suits beside all h stand = by_card entry.field.card refl held h
    where
      by_card : (c : Card) → entry.field.card ≡ c → (x : HeldWith (List (List ℕ))) → HeldStands schema places buffers entry.field (told_in entry bytes) (slot_in entry bytes) x own → IsSetAlone c x (fields_in entries) rest
      by_card cards.Implicit is x h = tt
      by_card cards.Explicit is x h = tt
      by_card (cards.Repeated packed) is x h = tt
      by_card (cards.Member oneof) is Nothing h = tt
      by_card (cards.Member oneof) is (Many values) h = tt
      by_card (cards.Member oneof) is (One value) h = no_other entry oneof entries rest feet (told_member entry bytes oneof suits is h.1) is beside all stand

  all_held_as : (entries : List Entry) (held : HeldListWith (List (List ℕ))) (feet : List Foot) → EachTwo Beside entries → AllByRecursion Suits entries → FieldsStand schema places buffers bytes entries held feet → AreHeldAs (fields_in entries) held
  all_held_as [] NoFields feet apart suits stand = tt
  all_held_as [] (FieldAnd held rest) feet apart suits stand = absurd stand
  all_held_as (entry ∷ entries) NoFields feet apart suits stand = absurd stand
  all_held_as (entry ∷ entries) (FieldAnd held rest) feet apart suits stand = (
    held_as entry held stand.own stand.first,
    set_alone entry held stand.own entries rest stand.rest suits.0 (recursion_from_All (Beside entry) entries apart.0) suits.1 stand.first stand.second,
    all_held_as entries rest stand.rest apart.1 suits.1 stand.second,
  )

pub standing_by_cards : (schema : Schema) (places : Places) (buffers : Buffers) (msg : MsgRef) (t : Shape) (feet : List Foot) → Lawful schema → Stands schema places buffers msg t feet → HoldsByCards schema msg.type_no t
standing_by_cards schema places buffers msg (Message held pieces) feet lawful st =
    let m = st.message in
    let entries = (layout_of schema msg.type_no).entries in
    subst (λ fields. AreHeldAs fields held) (fields_laid schema msg.type_no)
    (all_held_as schema places buffers m.bytes entries held m.holds.rest (sound_of schema lawful msg.type_no m.type).apart (all_suit schema msg.type_no) m.holds.second)
