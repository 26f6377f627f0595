-- A list of a message gets one element more.
use Rattle.std.proofs.Common.{◌≡◌, ◌⊎◌, ◌+◌, ◌*◌, ◌≤◌, ◌<◌, ℕ, zero, suc, Bool, ◌&&◌, not, cond, length, replicate, take, List, [], ◌∷◌, ◌++◌, Option, None, Some, true≢false, refl, sym, ap, ◌∙◌, subst, inl, inr, ⊎_elim, arith}
use Rattle.std.specs.Prelude.{⊤, is_some, IsSome, unwrap_or}
use Rattle.std.specs.Option.{option_map}
use Rattle.std.proofs.lemmas.Bool.{cases_Bool}
use Rattle.std.proofs.lemmas.Option.{none-some}
use Rattle.std.specs.FinMap as map
use Rattle.arena_mem.specs.declared.place.Place.{Place}
use Rattle.arena_mem.specs.Places.{Places, Buffers, KeepsRest, splice}
use Rattle.pb_schema.specs.declared.kind.Card.{Card}
use Rattle.pb_schema.specs.declared.kind.Card.TheVariants as cards
use Rattle.pb_schema.specs.declared.kind.FieldType.{FieldType}
use Rattle.pb_schema.specs.declared.schema.Schema.{Schema}
use Rattle.pb_schema.specs.Lawful.{Lawful}
use Rattle.pb_schema.specs.Kinds.{ValueType, value_type_of, slot_of}
use Rattle.pb_schema.specs.Meter.{rooms}
use Rattle.pb_schema.specs.Merge.{joined}
use Rattle.pb_schema.specs.Put.{values_held}
use Rattle.pb_schema.specs.HeldAt.{clears, held_among, held_at, with_held}
use Rattle.pb_schema.specs.Tree.{ValueWith, ValueListWith, NoValues, ValueAnd, HeldWith, Nothing, One, Many, Shape, Message, HeldListWith, values_in_list}
use Rattle.pb_schema.specs.Cards.{is_repeated}
use Rattle.msg_layout.specs.declared.entry.Entry.{Entry}
use Rattle.msg_layout.specs.declared.entry.Mark.TheVariants as marks
use Rattle.msg_layout.specs.Slots.{slot_bytes, array_slot, is_message, is_explicit}
use Rattle.msg_layout.specs.Layout.{layout_of, entry_of, word_of}
use Rattle.dyn_message.specs.declared.msg_ref.MsgRef.{MsgRef}
use Rattle.dyn_message.specs.Feet.{Foot, InPlace, InBuffer, same_foot, times, IsAmong, AreThere, Once, SameAt, KeepsOthers, OldOrFresh, foot_bytes}
use Rattle.dyn_message.specs.Slots.{part, word, place_in, slot_in, told_in, told_by, MayBeSet}
use Rattle.dyn_message.specs.Arrays.{HoldsArray, NoElements, Elements, IsLeastRoom, most_elements}
use Rattle.dyn_message.specs.Stands.{IsSingle, IsList, MayHold, HeldStands, ValueStands, ValuesStand, MessageStands, Stands}
use Rattle.dyn_message.specs.Lists.{with_appended}
use Rattle.dyn_message.specs.Rooms.{IsRoom, MayGrow}
use Rattle.dyn_message.proofs.Counting.{times_join, times_first, foot_same}
use Rattle.dyn_message.proofs.Entries.{Suits, among_all, all_suit, fields_laid}
use Rattle.dyn_message.proofs.Focus.{fields_in}
use Rattle.dyn_message.proofs.SameBytes.{value_same, values_same}
use Rattle.dyn_message.proofs.There.{message_there}
use Rattle.dyn_message.proofs.Parts.{part_here, part_beside, splice_length}
use Rattle.dyn_message.proofs.Rewrites.{kept_marked, slot_is_put, shares}
use Rattle.dyn_message.proofs.Messages.{MessageFocus, sound, tidy, focus_message, once_after}
use Rattle.dyn_message.proofs.RoomLaws.{mul_le}
use Rattle.dyn_message.proofs.ElementLaws.{values_push, values_joined}

-- LISTS

not_both : (card : Card) → IsSingle card → IsList card → ⊥
not_both cards.Implicit one many = many
not_both cards.Explicit one many = many
not_both (cards.Member oneof) one many = many
not_both (cards.Repeated packed) one many = one

not_one : (card : Card) (value : ValueWith (List (List ℕ))) → MayHold card value → IsList card → ⊥
not_one cards.Implicit value may many = many
not_one cards.Explicit value may many = many
not_one (cards.Member oneof) value may many = many
not_one (cards.Repeated packed) value may many = may

pub list_card : (card : Card) → IsList card → (packed : Bool) × (card ≡ cards.Repeated packed)
list_card cards.Implicit many = absurd many
list_card cards.Explicit many = absurd many
list_card (cards.Member oneof) many = absurd many
list_card (cards.Repeated packed) many = (packed, refl)

-- what a list holds
pub record IsHeldList (schema : Schema) (places : Places) (buffers : Buffers) (field : FieldType) (slot : List ℕ) (held : HeldWith (List (List ℕ))) (own : List Foot) : Type 0 where
  pub values : ValueListWith (List (List ℕ))
  pub held_is : held ≡ Many values
  pub holds : HoldsArray (λ bytes behind. ValuesStand schema places buffers (value_type_of field.kind) bytes values behind) places (slot_of (value_type_of field.kind)) (length (values_in_list values)) slot own

pub held_list_is : (schema : Schema) (places : Places) (buffers : Buffers) (field : FieldType) (told : Option Bool) (slot : List ℕ) (held : HeldWith (List (List ℕ))) (own : List Foot) → IsList field.card → HeldStands schema places buffers field told slot held own → IsHeldList schema places buffers field slot held own
held_list_is schema places buffers field told slot Nothing own many h = absurd (not_both field.card h.0 many)
held_list_is schema places buffers field told slot (One value) own many h = absurd (not_one field.card value h.0 many)
held_list_is schema places buffers field told slot (Many values) own many h = record { values = values; held_is = refl; holds = h.1 }

-- no mark tells of a list
pub list_mark : (one : Entry) (packed : Bool) → one.field.card ≡ cards.Repeated packed → Suits one → one.mark ≡ marks.Unmarked
list_mark one packed is suits = suits.mark ∙ ap (λ c. cond (is_explicit c && not (is_message (value_type_of one.field.kind))) (marks.Bit suits.bits) (word_of suits.bytes c)) is

pub list_untold : (one : Entry) (b : List ℕ) → one.mark ≡ marks.Unmarked → told_in one b ≡ None
unfolding told_in
list_untold one b is = ap (λ m. told_by one.field.number m b) is

zero_word : word 4 (replicate 24 0) ≡ 0
unfolding word
zero_word = refl

-- as many as the slot says
pub count_is : {E : List ℕ → List Foot → Type 0} (places : Places) (size count : ℕ) (slot : List ℕ) (feet : List Foot) → HoldsArray E places size count slot feet → word 4 slot ≡ count
count_is places size count slot feet (NoElements none zeros are) = ap (word 4) zeros ∙ zero_word ∙ sym none
count_is places size count slot feet (Elements a) = a.counted

array_any : {E : List ℕ → List Foot → Type 0} (places : Places) (size count : ℕ) (slot : List ℕ) (feet : List Foot) → HoldsArray E places size count slot feet → HoldsArray (λ bytes behind. ⊤) places size count slot feet
array_any places size count slot feet (NoElements none zeros are) = NoElements none zeros are
array_any places size count slot feet (Elements a) = Elements (record { form = a.form; counted = a.counted; some = a.some; most = a.most; doublings = a.doublings; enough = a.enough; least = a.least; room = a.room; bytes = a.bytes; there = a.there; len = a.len; behind = a.behind; feet_are = a.feet_are; elements = tt })

pub may_grow : {E : List ℕ → List Foot → Type 0} (places : Places) (size count : ℕ) (slot : List ℕ) (feet : List Foot) → HoldsArray E places size count slot feet → count < most_elements → MayGrow places size slot
may_grow places size count slot feet holds few =
    let counted = count_is places size count slot feet holds in
    record { feet = feet; holds = subst (λ n. HoldsArray (λ bytes behind. ⊤) places size n slot feet) (sym counted) (array_any places size count slot feet holds); few = omega (arith, few, counted) }

-- FEET

pub among_one : (foot one : Foot) → IsAmong foot (one ∷ []) → foot ≡ one
among_one foot one among = ⊎_elim
    (λ same. foot_same foot one same)
    (λ differs. absurd (omega (arith, among, ap (λ (b : Bool). cond b (suc zero) zero) differs)))
    (cases_Bool (same_foot foot one))

pub fresh_apart : (places : Places) (buffers : Buffers) (feet : List Foot) (foot : Foot) → AreThere places buffers feet → foot_bytes places buffers foot ≡ None → times foot feet ≡ 0
fresh_apart places buffers feet foot there none = by_count (times foot feet) refl
  where
    by_count : (n : ℕ) → times foot feet ≡ n → times foot feet ≡ 0
    by_count zero is = is
    by_count (suc n) is = absurd (true≢false (sym (there foot (omega (arith, is))) ∙ ap (λ (o : Option (List ℕ)). is_some o) none))

-- where the elements of a list are to be, beside what the message and the new element stand on
pub record Placing (places : Places) (feet old behind own : List Foot) (array : Place) : Type 0 where
  pub within : (foot : Foot) → times foot behind ≤ times foot old
  pub apart : (foot : Foot) → IsAmong foot (InPlace array ∷ []) → times foot behind ≡ 0
  pub new_apart : (foot : Foot) → IsAmong foot (InPlace array ∷ []) → times foot own ≡ 0
  pub covered : (foot : Foot) → IsAmong foot (InPlace array ∷ []) → times foot feet ≤ times foot old
  pub from : IsAmong (InPlace array) feet ⊎ (map.get places array ≡ None)

module _ (places : Places) (buffers : Buffers) (feet old behind own : List Foot) (array : Place) (once : Once feet) (there : AreThere places buffers feet) (own_there : AreThere places buffers own)
    (old_within : (foot : Foot) → times foot old ≤ times foot feet) (own_apart : (foot : Foot) → IsAmong foot own → times foot feet ≡ 0) where
  none_of : (foot : Foot) → 1 ≤ times foot feet → times foot own ≡ 0
  none_of foot among = by_count (times foot own) refl
    where
      by_count : (n : ℕ) → times foot own ≡ n → times foot own ≡ 0
      by_count zero is = is
      by_count (suc n) is = absurd (omega (arith, among, own_apart foot (omega (arith, is))))

  pub old_place : old ≡ InPlace array ∷ behind → Placing places feet old behind own array
  old_place are =
      let counted : (foot : Foot) → times foot old ≡ times foot (InPlace array ∷ []) + times foot behind = λ foot. ap (times foot) are ∙ times_join foot (InPlace array ∷ []) behind in
      record {
        within = λ foot. omega (arith, counted foot);
        apart = λ foot among. omega (arith, counted foot, among, old_within foot, once foot);
        new_apart = λ foot among. none_of foot (omega (arith, counted foot, among, old_within foot));
        covered = λ foot among. omega (arith, counted foot, among, once foot);
        from = inl (omega (arith, counted (InPlace array), old_within (InPlace array), times_first (InPlace array) []));
      }

  pub fresh_place : ((foot : Foot) → times foot behind ≤ times foot old) → map.get places array ≡ None → Placing places feet old behind own array
  fresh_place within none =
      let not_in : (foot : Foot) → IsAmong foot (InPlace array ∷ []) → times foot feet ≡ 0 = λ foot among. fresh_apart places buffers feet foot there (subst (λ f. foot_bytes places buffers f ≡ None) (sym (among_one foot (InPlace array) among)) none) in
      record {
        within = within;
        apart = λ foot among. omega (arith, not_in foot among, old_within foot, within foot);
        new_apart = λ foot among. fresh_apart places buffers own foot own_there (subst (λ f. foot_bytes places buffers f ≡ None) (sym (among_one foot (InPlace array) among)) none);
        covered = λ foot among. omega (arith, not_in foot among);
        from = inr none;
      }

-- ONE ELEMENT MORE

-- a message stands with one element more in a list, whose elements lie at this place
pub record Appended (schema : Schema) (places : Places) (places' : Places) (buffers : Buffers) (msg : MsgRef) (t : Shape) (feet own : List Foot) (array : Place) : Type 0 where
  pub now : List Foot
  pub stands : Stands schema places' buffers msg t now
  pub few : (foot : Foot) → times foot now ≤ times foot feet + times foot (InPlace array ∷ []) + times foot own
  pub from : IsAmong (InPlace array) feet ⊎ (map.get places array ≡ None)
  pub keeps : KeepsOthers places buffers places' buffers feet
  pub apart : array ≡ msg.place → ⊥

module _ (schema : Schema) (lawful : Lawful schema) (places mid written places' : Places) (buffers : Buffers) (msg : MsgRef) (one : Entry) (found : entry_of schema msg.type_no one.field.number ≡ Some one) (list : IsList one.field.card)
    (value : ValueWith (List (List ℕ))) (element : List ℕ) (own : List Foot) (count : ℕ) (array : Place) (slot' : List ℕ) where
  abbrev type : ValueType
  type = value_type_of one.field.kind

  abbrev size : ℕ
  size = slot_of type

  -- the room, the element and the slot, each as it was made
  pub record Steps (slot : List ℕ) : Type 0 where
    pub room : IsRoom places mid size slot count array
    pub keeps : KeepsRest places mid
    pub long : length element ≡ size
    pub few : count < most_elements
    pub put : map.get written array ≡ option_map (splice (count * size) element) (map.get mid array)
    pub put_else : (q : Place) → (q ≡ array → ⊥) → map.get written q ≡ map.get mid q
    pub slot_long : length slot' ≡ array_slot
    pub slot_place : place_in slot' ≡ array
    pub slot_count : word 4 slot' ≡ count + 1
    pub slot_form : word 5 slot' ≡ 3
    pub told : map.get places' msg.place ≡ option_map (splice one.slot slot') (map.get written msg.place)
    pub told_else : (q : Place) → (q ≡ msg.place → ⊥) → map.get places' q ≡ map.get written q

  module _ (slot : List ℕ) (steps : Steps slot) where
    room : IsRoom places mid size slot count array
    room = steps.room

    element_fits : count * size + length element ≤ length room.bytes
    element_fits = omega (arith, steps.long, room.len, room.room, mul_le (count + 1) (rooms room.doublings) size room.enough)

    bytes' : List ℕ
    bytes' = splice (count * size) element room.bytes

    array_now : (array ≡ msg.place → ⊥) → map.get places' array ≡ Some bytes'
    unfolding bytes'
    array_now apart = steps.told_else array apart ∙ steps.put ∙ ap (option_map (splice (count * size) element)) room.there

    -- what was there, and is neither the place of the elements nor the record
    same_else : (foot : Foot) → IsSome (foot_bytes places buffers foot) → (foot ≡ InPlace array → ⊥) → (foot ≡ InPlace msg.place → ⊥) → foot_bytes places' buffers foot ≡ foot_bytes places buffers foot
    same_else (InBuffer b) there apart beside = refl
    same_else (InPlace q) there apart beside =
        let was = some_value (map.get places q) there in
        steps.told_else q (λ e. beside (ap InPlace e)) ∙ steps.put_else q (λ e. apart (ap InPlace e)) ∙ steps.keeps q was.0 was.1 ∙ sym was.1
      where
        some_value : (o : Option (List ℕ)) → IsSome o → (x : List ℕ) × (o ≡ Some x)
        some_value None h = absurd (true≢false (sym h))
        some_value (Some x) h = (x, refl)

    -- the elements, and one more
    elements_now : (values : ValueListWith (List (List ℕ))) (was : List ℕ) (behind : List Foot) → length (values_in_list values) ≡ count → (array ≡ msg.place → ⊥)
        → take (count * size) room.bytes ≡ take (count * size) was
        → ValuesStand schema places' buffers type was values behind → ValueStands schema places' buffers type element value own
        → HoldsArray (λ bytes behind. ValuesStand schema places' buffers type bytes (joined values (ValueAnd value NoValues)) behind) places' size (length (values_in_list (joined values (ValueAnd value NoValues)))) slot' (InPlace (place_in slot') ∷ (behind ++ own))
    unfolding bytes'
    elements_now values was behind as_many apart front stand new =
        let more = values_joined values value in
        Elements (record {
          form = steps.slot_form;
          counted = omega (arith, steps.slot_count, more, as_many);
          some = omega (arith, more);
          most = omega (arith, more, as_many, steps.few);
          doublings = room.doublings;
          enough = omega (arith, more, as_many, room.enough);
          least = subst (λ n. IsLeastRoom room.doublings n) {x = count + 1} {y = length (values_in_list (joined values (ValueAnd value NoValues)))} (omega (arith, more, as_many)) room.least;
          room = ap (λ (p : Place). p.len) steps.slot_place ∙ room.room;
          bytes = bytes';
          there = ap (map.get places') steps.slot_place ∙ array_now apart;
          len = splice_length (count * size) element room.bytes element_fits ∙ room.len ∙ ap (λ (p : Place). p.len) (sym steps.slot_place);
          behind = behind ++ own;
          feet_are = refl;
          elements = values_push schema places' buffers type was bytes' element values value behind own
              (ap (λ n. take (n * size) bytes') as_many ∙ part_beside (count * size) element room.bytes element_fits 0 (count * size) (inl (omega arith)) ∙ front ∙ ap (λ n. take (n * size) was) (sym as_many))
              (ap (λ n. part (n * size) size bytes') as_many ∙ part_here (count * size) element room.bytes element_fits size (sym steps.long))
              stand new;
        })

  module _ (fields : HeldListWith (List (List ℕ))) (pieces : List (List ℕ)) (feet : List Foot) (st : Stands schema places buffers msg (Message fields pieces) feet)
      (own_once : Once own) (own_there : AreThere places buffers own) (own_apart : (foot : Foot) → IsAmong foot own → times foot feet ≡ 0) where
    m : MessageStands schema places buffers msg.type_no msg.place (Message fields pieces) feet
    m = st.message

    f : MessageFocus schema lawful places buffers msg.type_no msg.place fields pieces feet st.message one
    f = focus_message schema lawful places buffers msg.type_no msg.place fields pieces feet st.message one found

    counted : (foot : Foot) → times foot feet ≡ times foot (InPlace msg.place ∷ []) + times foot st.message.behind
    counted foot = ap (times foot) st.message.feet_are ∙ times_join foot (InPlace msg.place ∷ []) st.message.behind

    there : AreThere places buffers feet
    there = message_there schema places buffers msg.type_no msg.place (Message fields pieces) feet st.message

    own_within : (foot : Foot) → times foot f.own ≤ times foot feet
    own_within foot = omega (arith, f.within foot, counted foot)

    -- what stands behind the record isn't the record
    no_record : (foot : Foot) → 1 ≤ times foot st.message.behind → foot ≡ InPlace msg.place → ⊥
    no_record foot among is = omega (arith, among, counted foot, st.once foot, ap (λ g. times g (InPlace msg.place ∷ [])) is, times_first (InPlace msg.place) [])

    module _ (behind : List Foot) (placing : Placing places feet f.own behind own array) (steps : Steps (slot_in one st.message.bytes)) where
      among_array : (foot : Foot) → foot ≡ InPlace array → IsAmong foot (InPlace array ∷ [])
      among_array foot is = omega (arith, ap (λ g. times g (InPlace array ∷ [])) is, times_first (InPlace array) [])

      array_apart : array ≡ msg.place → ⊥
      array_apart is = omega (
        arith,
        placing.covered (InPlace array) (among_array (InPlace array) refl),
        f.within (InPlace array),
        counted (InPlace array),
        ap (λ p. times (InPlace array) (InPlace p ∷ [])) (sym is),
        times_first (InPlace array) [],
      )

      behind_same : SameAt places buffers places' buffers behind
      behind_same foot among = same_else (slot_in one st.message.bytes) steps foot
          (there foot (omega (arith, among, placing.within foot, own_within foot)))
          (λ is. omega (arith, among, placing.apart foot (among_array foot is)))
          (no_record foot (omega (arith, among, placing.within foot, f.within foot)))

      new_same : SameAt places buffers places' buffers own
      new_same foot among = same_else (slot_in one st.message.bytes) steps foot
          (own_there foot among)
          (λ is. omega (arith, among, placing.new_apart foot (among_array foot is)))
          (λ is. omega (arith, own_apart foot among, counted foot, ap (λ g. times g (InPlace msg.place ∷ [])) is, times_first (InPlace msg.place) []))

      beyond_same : (foot : Foot) → times foot f.own < times foot st.message.behind → foot_bytes places' buffers foot ≡ foot_bytes places buffers foot
      beyond_same foot less = same_else (slot_in one st.message.bytes) steps foot
          (there foot (omega (arith, less, counted foot)))
          (λ is. omega (arith, less, counted foot, placing.covered foot (among_array foot is)))
          (no_record foot (omega (arith, less)))

      -- the feet of the list from now on
      abbrev list_feet : List Foot
      list_feet = InPlace (place_in slot') ∷ (behind ++ own)

      list_counted : (foot : Foot) → times foot list_feet ≡ times foot (InPlace array ∷ []) + times foot behind + times foot own
      list_counted foot = omega (
        arith,
        ap (λ p. times foot (InPlace p ∷ (behind ++ own))) steps.slot_place,
        times_join foot (InPlace array ∷ []) (behind ++ own),
        times_join foot behind own,
      )

      at_most_one : (foot : Foot) → times foot (InPlace array ∷ []) ≤ 1
      at_most_one foot = ⊎_elim
          (λ same. omega (arith, ap (λ (b : Bool). cond b (suc zero) zero) same))
          (λ differs. omega (arith, ap (λ (b : Bool). cond b (suc zero) zero) differs))
          (cases_Bool (same_foot foot (InPlace array)))

      list_once : Once list_feet
      list_once foot = by_array (times foot (InPlace array ∷ [])) refl
        where
          by_own : times foot (InPlace array ∷ []) ≡ 0 → (n : ℕ) → n ≡ times foot own → times foot list_feet ≤ 1
          by_own none zero is = omega (arith, none, is, list_counted foot, placing.within foot, own_within foot, st.once foot)
          by_own none (suc n) is = omega (arith, none, list_counted foot, placing.within foot, own_within foot, own_apart foot (omega (arith, is)), own_once foot)

          by_array : (n : ℕ) → n ≡ times foot (InPlace array ∷ []) → times foot list_feet ≤ 1
          by_array zero is = by_own (sym is) (times foot own) refl
          by_array (suc n) is = let among : IsAmong foot (InPlace array ∷ []) = omega (arith, is) in omega (arith, list_counted foot, placing.apart foot among, placing.new_apart foot among, at_most_one foot)

      list_covered : (foot : Foot) → IsAmong foot list_feet → times foot feet ≤ times foot f.own
      list_covered foot among = by_array (times foot (InPlace array ∷ [])) refl
        where
          by_own : times foot (InPlace array ∷ []) ≡ 0 → (n : ℕ) → n ≡ times foot own → times foot feet ≤ times foot f.own
          by_own none zero is = omega (arith, among, none, is, list_counted foot, placing.within foot, st.once foot)
          by_own none (suc n) is = omega (arith, own_apart foot (omega (arith, is)))

          by_array : (n : ℕ) → n ≡ times foot (InPlace array ∷ []) → times foot feet ≤ times foot f.own
          by_array zero is = by_own (sym is) (times foot own) refl
          by_array (suc n) is = placing.covered foot (omega (arith, is))

      -- closed with the list as it is now
      close_list : (values : ValueListWith (List (List ℕ))) → held_among (fields_in (layout_of schema msg.type_no).entries) one.field.number fields ≡ Many values
          → HoldsArray (λ bytes behind. ValuesStand schema places' buffers type bytes (joined values (ValueAnd value NoValues)) behind) places' size (length (values_in_list (joined values (ValueAnd value NoValues)))) slot' list_feet
          → Appended schema places places' buffers msg (with_appended schema msg.type_no one.field.number value (Message fields pieces)) feet own array
      close_list values held_is holds =
          let layout = layout_of schema msg.type_no in
          let is_sound = sound schema lawful places buffers msg.type_no msg.place fields pieces feet st.message in
          let was_tidy = tidy schema lawful places buffers msg.type_no msg.place fields pieces feet st.message in
          let suit = all_suit schema msg.type_no in
          let suits = (among_all Suits layout.entries one.field.number one suit found).0 in
          let card = list_card one.field.card list in
          let unmarked = list_mark one card.0 card.1 suits in
          let as_long : length slot' ≡ slot_bytes one.field = steps.slot_long ∙ sym (ap (λ c. cond (is_repeated c) array_slot (slot_of (value_type_of one.field.kind))) card.1) in
          let is = slot_is_put layout is_sound one found suit st.message.bytes st.message.size was_tidy st.message.bytes slot'
          (kept_marked layout is_sound one found suit st.message.bytes st.message.size was_tidy (subst MayBeSet (sym (list_untold one st.message.bytes unmarked)) tt)) as_long in
          let bytes'' = splice one.slot slot' st.message.bytes in
          let held' : HeldWith (List (List ℕ)) = Many (joined values (ValueAnd value NoValues)) in
          let closed = f.close places' buffers bytes'' (λ entry. shares one.mark entry.mark) held' list_feet
          (steps.told ∙ ap (option_map (splice one.slot slot')) (steps.put_else msg.place (λ e. array_apart (sym e)) ∙ steps.keeps msg.place st.message.bytes st.message.there))
          is.turned
          (λ entry entry_found differs. ap (λ c. clears c held' entry.field.card) card.1 ∙ sym (ap (λ k. shares k entry.mark) unmarked))
          (list, subst (λ s. HoldsArray (λ bytes behind. ValuesStand schema places' buffers type bytes (joined values (ValueAnd value NoValues)) behind) places' size (length (values_in_list (joined values (ValueAnd value NoValues)))) s list_feet) (sym is.slot_is) holds)
          beyond_same in
          let held_now : values_held (held_at schema msg.type_no one.field.number (Message fields pieces)) ≡ values = ap (λ fs. values_held (held_among fs one.field.number fields)) (sym (fields_laid schema msg.type_no)) ∙ ap values_held held_is in
          record {
            now = closed.now;
            stands = record {
              message = subst (λ vs. MessageStands schema places' buffers msg.type_no msg.place (with_held schema msg.type_no one.field.number (Many (joined vs (ValueAnd value NoValues))) (Message fields pieces)) closed.now) (sym held_now) closed.stands;
              once = once_after feet f.own list_feet closed.now st.once list_once own_within list_covered closed.count;
            };
            few = λ foot. omega (arith, closed.count foot, list_counted foot, placing.within foot);
            from = placing.from;
            apart = array_apart;
            keeps = λ foot was outside is. same_else (slot_in one st.message.bytes) steps foot (subst IsSome (sym is) refl)
                (λ e. ⊎_elim
                (λ among. omega (arith, outside, among, ap (λ g. times g feet) e))
                (λ none. none-some was (sym none ∙ ap (foot_bytes places buffers) (sym e) ∙ is))
                placing.from)
                (λ e. omega (arith, outside, ap (λ g. times g feet) e, counted (InPlace msg.place), times_first (InPlace msg.place) []))
                ∙ is;
          }

    -- by what the list was
    append_to : (values : ValueListWith (List (List ℕ))) → held_among (fields_in (layout_of schema msg.type_no).entries) one.field.number fields ≡ Many values
        → HoldsArray (λ bytes behind. ValuesStand schema places buffers type bytes values behind) places size (length (values_in_list values)) (slot_in one st.message.bytes) f.own
        → Steps (slot_in one st.message.bytes) → ValueStands schema places buffers type element value own
        → Appended schema places places' buffers msg (with_appended schema msg.type_no one.field.number value (Message fields pieces)) feet own array
    unfolding room
    append_to values held_is holds steps new =
        let as_many : length (values_in_list values) ≡ count = sym (count_is places size (length (values_in_list values)) (slot_in one st.message.bytes) f.own holds) ∙ sym steps.room.counted in
        by_array holds as_many
      where
        by_array : HoldsArray (λ bytes behind. ValuesStand schema places buffers type bytes values behind) places size (length (values_in_list values)) (slot_in one st.message.bytes) f.own → length (values_in_list values) ≡ count
            → Appended schema places places' buffers msg (with_appended schema msg.type_no one.field.number value (Message fields pieces)) feet own array
        by_array (NoElements none zeros are) as_many =
            let fresh : map.get places array ≡ None = ⊎_elim (λ (old : (array ≡ place_in (slot_in one st.message.bytes)) × (1 ≤ count)). absurd (omega (arith, old.1, as_many, none))) (λ fresh. fresh) steps.room.from in
            let placing = fresh_place places buffers feet f.own [] own array st.once there own_there own_within own_apart (λ foot. omega arith) fresh in
            close_list [] placing steps values held_is
            (elements_now (slot_in one st.message.bytes) steps values [] [] as_many (array_apart [] placing steps)
            (let empty : count * size ≡ 0 = ap (λ n. n * size) (sym as_many ∙ none) ∙ omega arith in ap (λ n. take n (room (slot_in one st.message.bytes) steps).bytes) empty ∙ sym (ap (λ n. take n []) empty))
            (no_values values none)
            (value_same schema places places' buffers buffers type element value own (new_same [] placing steps) new))
          where
            no_values : (values : ValueListWith (List (List ℕ))) → length (values_in_list values) ≡ 0 → ValuesStand schema places' buffers type [] values []
            no_values NoValues none = refl
            no_values (ValueAnd first values) none = absurd (omega (arith, none))
        by_array (Elements a) as_many =
            let placing : Placing places feet f.own a.behind own array = ⊎_elim
            (λ (old : (array ≡ place_in (slot_in one st.message.bytes)) × (1 ≤ count)). old_place places buffers feet f.own a.behind own array st.once there own_there own_within own_apart (a.feet_are ∙ ap (λ p. InPlace p ∷ a.behind) (sym old.0)))
            (λ fresh. fresh_place places buffers feet f.own a.behind own array st.once there own_there own_within own_apart (λ foot. omega (arith, ap (times foot) a.feet_are)) fresh)
            steps.room.from in
            close_list a.behind placing steps values held_is
            (elements_now (slot_in one st.message.bytes) steps values a.bytes a.behind as_many (array_apart a.behind placing steps)
            (steps.room.front ∙ ap (λ o. take (count * size) (unwrap_or o [])) a.there)
            (values_same schema places places' buffers buffers type a.bytes values a.behind (behind_same a.behind placing steps) a.elements)
            (value_same schema places places' buffers buffers type element value own (new_same a.behind placing steps) new))

  -- the message with the list of one element more
  pub append_stands : (t : Shape) (feet : List Foot) → Stands schema places buffers msg t feet
      → ((bytes : List ℕ) → map.get places msg.place ≡ Some bytes → Steps (slot_in one bytes))
      → ValueStands schema places buffers type element value own → Once own → AreThere places buffers own → ((foot : Foot) → IsAmong foot own → times foot feet ≡ 0)
      → Appended schema places places' buffers msg (with_appended schema msg.type_no one.field.number value t) feet own array
  append_stands (Message fields pieces) feet st steps_of new own_once own_there own_apart =
      let focused = f fields pieces feet st own_once own_there own_apart in
      let is_list = held_list_is schema places buffers one.field (told_in one st.message.bytes) (slot_in one st.message.bytes) _ focused.own list focused.stands in
      append_to fields pieces feet st own_once own_there own_apart is_list.values is_list.held_is is_list.holds (steps_of st.message.bytes st.message.there) new

-- what the message stands on now was there, or wasn't, by a memory from before
pub appended_from : (schema : Schema) (places0 places places' : Places) (buffers0 buffers : Buffers) (msg : MsgRef) (t : Shape) (feet own : List Foot) (array : Place) → (a : Appended schema places places' buffers msg t feet own array)
    → ((foot : Foot) → foot_bytes places buffers foot ≡ None → foot_bytes places0 buffers0 foot ≡ None)
    → ((foot : Foot) → IsAmong foot own → foot_bytes places0 buffers0 foot ≡ None) → OldOrFresh places0 buffers0 feet a.now
appended_from schema places0 places places' buffers0 buffers msg t feet own array a back own_fresh foot among = by_feet (times foot feet) refl
  where
    by_array : times foot feet ≡ 0 → (n : ℕ) → n ≡ times foot (InPlace array ∷ []) → IsAmong foot feet ⊎ (foot_bytes places0 buffers0 foot ≡ None)
    by_array none zero is = inr (own_fresh foot (omega (arith, among, a.few foot, none, is)))
    by_array none (suc n) is =
        let here = among_one foot (InPlace array) (omega (arith, is)) in
        ⊎_elim
        (λ old. absurd (omega (arith, none, old, ap (λ g. times g feet) here)))
        (λ fresh. inr (back foot (ap (foot_bytes places buffers) here ∙ fresh)))
        a.from

    by_feet : (n : ℕ) → n ≡ times foot feet → IsAmong foot feet ⊎ (foot_bytes places0 buffers0 foot ≡ None)
    by_feet zero is = by_array (sym is) (times foot (InPlace array ∷ [])) refl
    by_feet (suc n) is = inl (omega (arith, is))
