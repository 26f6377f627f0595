-- A message in a list, opened: what it stands on, and the list with that message changed.
use Rattle.std.proofs.Common.{◌≡◌, ◌⊎◌, ◌+◌, ◌*◌, ◌≤◌, ◌<◌, ℕ, zero, suc, cond, length, take, drop, List, [], ◌∷◌, ◌++◌, Some, refl, sym, ap, ◌∙◌, subst, inl, inr, ⊎_elim, drop-drop, arith}
use Rattle.std.specs.Prelude.{IsSome, slice_get}
use Rattle.std.specs.Option.{option_map}
use Rattle.std.proofs.lemmas.Option.{same_Some}
use Rattle.std.specs.FinMap as map
use Rattle.arena_mem.specs.declared.place.Place.{Place}
use Rattle.arena_mem.specs.Places.{Places, Buffers, splice}
use Rattle.pb_schema.specs.declared.schema.Schema.{Schema}
use Rattle.pb_schema.specs.Lawful.{Lawful}
use Rattle.pb_schema.specs.Kinds.{ValueType, Scalar, Characters, Octets, Nested, value_type_of, slot_of}
use Rattle.pb_schema.specs.Fitted.{IsStringOf}
use Rattle.pb_schema.specs.HeldAt.{clears, held_among, held_at, with_held}
use Rattle.pb_schema.specs.Put.{values_held}
use Rattle.pb_schema.specs.Tree.{ValueWith, Number, Bytes, Sub, ValueListWith, NoValues, ValueAnd, HeldWith, Many, Shape, Message, HeldListWith, values_in_list}
use Rattle.msg_layout.specs.declared.entry.Entry.{Entry}
use Rattle.msg_layout.specs.Slots.{slot_bytes, array_slot}
use Rattle.msg_layout.specs.Layout.{layout_of, entry_of}
use Rattle.dyn_message.specs.declared.msg_ref.MsgRef.{MsgRef}
use Rattle.dyn_message.specs.Feet.{Foot, InPlace, times, IsAmong, AreThere, Once, KeepsOthers, OldOrFresh, foot_bytes}
use Rattle.dyn_message.specs.Slots.{part, word, place_in, slot_in, told_in, MayBeSet}
use Rattle.dyn_message.specs.Arrays.{IsArray, HoldsArray, Elements, IsLeastRoom}
use Rattle.dyn_message.specs.Stands.{IsList, IsLink, HoldsNumber, ValueStands, ValuesStand, MessageStands, Stands}
use Rattle.dyn_message.specs.Fields.{IsMessageType}
use Rattle.dyn_message.specs.Lists.{elements_at, count_at, replaced_at, HasElement, ListsMessage}
use Rattle.dyn_message.proofs.Counting.{times_join, times_first, times_parts}
use Rattle.dyn_message.proofs.Entries.{Suits, among_all, all_suit, fields_laid}
use Rattle.dyn_message.proofs.Focus.{fields_in, SameBeyond}
use Rattle.dyn_message.proofs.SameBytes.{value_same, values_same}
use Rattle.dyn_message.proofs.There.{message_there}
use Rattle.dyn_message.proofs.Rewrites.{put_again, shares}
use Rattle.dyn_message.proofs.Messages.{MessageFocus, sound_of, sound, tidy, some_value, focus_message, once_after}
use Rattle.dyn_message.proofs.Growing.{elements_of, room_fits}
use Rattle.dyn_message.proofs.Opening.{RecordIs, record_is}
use Rattle.dyn_message.proofs.Parts.{part_here}
use Rattle.dyn_message.proofs.Entries.{found_fits}
use Rattle.dyn_message.specs.Rooms.{IsAppended, list_slot}
use Rattle.pb_schema.specs.Cards.{is_repeated}
use Rattle.dyn_message.proofs.Appending.{list_card, list_mark, list_untold, held_list_is, fresh_apart}
use Rattle.dyn_message.proofs.ListLaws.{list_slot_is, open_list}

-- ---- one of some values
pub replaced_length : {U : Type 0} (index : ℕ) (value : ValueWith U) (values : ValueListWith U) → length (values_in_list (replaced_at index value values)) ≡ length (values_in_list values)
replaced_length index value NoValues = refl
replaced_length zero value (ValueAnd first values) = refl
replaced_length (suc index) value (ValueAnd first values) = omega (arith, replaced_length index value values)

-- the values with one of them closed again
pub record ValuesClosed (schema : Schema) (places : Places) (buffers : Buffers) (type : ValueType) (bytes : List ℕ) (values : ValueListWith (List (List ℕ))) (feet own own' : List Foot) : Type 0 where
  pub now : List Foot
  pub stand : ValuesStand schema places buffers type bytes values now
  pub count : (foot : Foot) → times foot now + times foot own ≤ times foot feet + times foot own'

-- one value of those that stand, opened
pub record ValueFocus (schema : Schema) (places : Places) (buffers : Buffers) (type : ValueType) (bytes : List ℕ) (values : ValueListWith (List (List ℕ))) (feet : List Foot) (index : ℕ) : Type 0 where
  pub value : ValueWith (List (List ℕ))
  pub own : List Foot
  pub is : slice_get (values_in_list values) index ≡ Some value
  pub within : (foot : Foot) → times foot own ≤ times foot feet
  pub stands : ValueStands schema places buffers type (part (index * slot_of type) (slot_of type) bytes) value own
  pub close : (places' : Places) (buffers' : Buffers) (value' : ValueWith (List (List ℕ))) (own' : List Foot) → ValueStands schema places' buffers' type (part (index * slot_of type) (slot_of type) bytes) value' own'
      → SameBeyond places buffers places' buffers' own feet → ValuesClosed schema places' buffers' type bytes (replaced_at index value' values) feet own own'

pub value_focus : (schema : Schema) (places : Places) (buffers : Buffers) (type : ValueType) (bytes : List ℕ) (values : ValueListWith (List (List ℕ))) (feet : List Foot) (index : ℕ) → ValuesStand schema places buffers type bytes values feet → Once feet → index < length (values_in_list values) → ValueFocus schema places buffers type bytes values feet index
value_focus schema places buffers type bytes NoValues feet index stand once less = absurd (omega (arith, less))
value_focus schema places buffers type bytes (ValueAnd first values) feet zero stand once less =
    let none : 0 * slot_of type ≡ 0 = omega arith in
    let slot : part (0 * slot_of type) (slot_of type) bytes ≡ take (slot_of type) bytes = ap (λ n. take (slot_of type) (drop n bytes)) none in
    let parts : (foot : Foot) → times foot feet ≡ times foot stand.own + times foot stand.rest = λ foot. times_parts foot feet stand.own stand.rest stand.are in
    record {
      value = first;
      own = stand.own;
      is = refl;
      within = λ foot. omega (arith, parts foot);
      stands = subst (λ s. ValueStands schema places buffers type s first stand.own) (sym slot) stand.first;
      close = λ places' buffers' value' own' stands' same. record {
        now = own' ++ stand.rest;
        stand = record {
          own = own';
          rest = stand.rest;
          are = refl;
          first = subst (λ s. ValueStands schema places' buffers' type s value' own') slot stands';
          second = values_same schema places places' buffers buffers' type (drop (slot_of type) bytes) values stand.rest (λ foot among. same foot (omega (arith, among, parts foot, once foot))) stand.second;
        };
        count = λ foot. omega (arith, times_join foot own' stand.rest, parts foot);
      };
    }
value_focus schema places buffers type bytes (ValueAnd first values) feet (suc index) stand once less =
    let parts : (foot : Foot) → times foot feet ≡ times foot stand.own + times foot stand.rest = λ foot. times_parts foot feet stand.own stand.rest stand.are in
    let f = value_focus schema places buffers type (drop (slot_of type) bytes) values stand.rest index stand.second (λ foot. omega (arith, parts foot, once foot)) (omega (arith, less)) in
    let slot : part (index * slot_of type) (slot_of type) (drop (slot_of type) bytes) ≡ part (suc index * slot_of type) (slot_of type) bytes = ap (take (slot_of type)) (drop-drop (index * slot_of type) (slot_of type) bytes ∙ ap (λ n. drop n bytes) {x = slot_of type + index * slot_of type} {y = suc index * slot_of type} (omega arith)) in
    record {
      value = f.value;
      own = f.own;
      is = f.is;
      within = λ foot. omega (arith, f.within foot, parts foot);
      stands = subst (λ s. ValueStands schema places buffers type s f.value f.own) slot f.stands;
      close = λ places' buffers' value' own' stands' same.
          let closed = f.close places' buffers' value' own' (subst (λ s. ValueStands schema places' buffers' type s value' own') (sym slot) stands') (λ foot below. same foot (omega (arith, below, parts foot))) in
          record {
            now = stand.own ++ closed.now;
            stand = record {
              own = stand.own;
              rest = closed.now;
              are = refl;
              first = value_same schema places places' buffers buffers' type (take (slot_of type) bytes) first stand.own (λ foot among. same foot (omega (arith, among, parts foot, once foot, f.within foot))) stand.first;
              second = closed.stand;
            };
            count = λ foot. omega (arith, times_join foot stand.own closed.now, parts foot, closed.count foot);
          };
    }

-- ---- a value that is a message
no_number : (type : ValueType) (slot : List ℕ) (p : ℕ) → IsMessageType type → HoldsNumber type slot p → ⊥
no_number (Scalar coding) slot p message h = message
no_number Characters slot p message h = h
no_number Octets slot p message h = h
no_number (Nested type_no) slot p message h = h

no_string : (type : ValueType) (s : List ℕ) → IsMessageType type → IsStringOf type s → ⊥
no_string (Scalar coding) s message h = h
no_string Characters s message h = message
no_string Octets s message h = message
no_string (Nested type_no) s message h = h

pub record IsSubValue (schema : Schema) (places : Places) (buffers : Buffers) (n : ℕ) (slot : List ℕ) (value : ValueWith (List (List ℕ))) (own : List Foot) : Type 0 where
  pub tree : Shape
  pub is : value ≡ Sub tree
  pub stands : MessageStands schema places buffers n (place_in slot) tree own

pub sub_value : (schema : Schema) (places : Places) (buffers : Buffers) (type : ValueType) (n : ℕ) (slot : List ℕ) (value : ValueWith (List (List ℕ))) (own : List Foot) → type ≡ Nested n → ValueStands schema places buffers type slot value own → IsSubValue schema places buffers n slot value own
sub_value schema places buffers type n slot (Number p) own is h = absurd (no_number type slot p (subst IsMessageType (sym is) tt) h.0)
sub_value schema places buffers type n slot (Bytes s) own is h = absurd (no_string type s (subst IsMessageType (sym is) tt) h.kind)
sub_value schema places buffers type n slot (Sub t) own is h = record { tree = t; is = refl; stands = subst (IsLink (λ type_no. MessageStands schema places buffers type_no (place_in slot) t own)) is h }

pub sub_stands : (schema : Schema) (places : Places) (buffers : Buffers) (type : ValueType) (n : ℕ) (slot : List ℕ) (u : Shape) (own : List Foot) → type ≡ Nested n → MessageStands schema places buffers n (place_in slot) u own → ValueStands schema places buffers type slot (Sub u) own
sub_stands schema places buffers type n slot u own is h = subst (IsLink (λ type_no. MessageStands schema places buffers type_no (place_in slot) u own)) (sym is) h

-- ---- a message in a list of a message
module _ (schema : Schema) (lawful : Lawful schema) (places : Places) (buffers : Buffers) (msg : MsgRef) (number : ℕ) (one : Entry) (found : entry_of schema msg.type_no number ≡ Some one) (number_is : one.field.number ≡ number) (list : IsList one.field.card)
    (n : ℕ) (type_is : value_type_of one.field.kind ≡ Nested n) where
  found' : entry_of schema msg.type_no one.field.number ≡ Some one
  found' = ap (entry_of schema msg.type_no) number_is ∙ found

  abbrev type : ValueType
  type = value_type_of one.field.kind

  module _ (fields : HeldListWith (List (List ℕ))) (pieces : List (List ℕ)) (feet : List Foot) (st : Stands schema places buffers msg (Message fields pieces) feet)
      (f : MessageFocus schema lawful places buffers msg.type_no msg.place fields pieces feet st.message one) (values : ValueListWith (List (List ℕ))) (a : IsArray (λ bytes behind. ValuesStand schema places buffers type bytes values behind) places (slot_of type) (length (values_in_list values)) (slot_in one st.message.bytes) f.own) where
    old_within : (foot : Foot) → times foot f.own ≤ times foot st.message.behind
    old_within = f.within

    counted : (foot : Foot) → times foot feet ≡ times foot (InPlace msg.place ∷ []) + times foot st.message.behind
    counted foot = ap (times foot) st.message.feet_are ∙ times_join foot (InPlace msg.place ∷ []) st.message.behind

    there : AreThere places buffers feet
    there = message_there schema places buffers msg.type_no msg.place (Message fields pieces) feet st.message

    abbrev array : Foot
    array = InPlace (place_in (slot_in one st.message.bytes))

    old_counted : (foot : Foot) → times foot f.own ≡ times foot (array ∷ []) + times foot a.behind
    old_counted foot = ap (times foot) a.feet_are ∙ times_join foot (array ∷ []) a.behind

    array_once : times array (array ∷ []) ≡ 1
    array_once = times_first array []

    behind_once : Once a.behind
    behind_once foot = omega (arith, old_counted foot, old_within foot, counted foot, st.once foot)

    -- the array changed with what stands behind it
    module _ (own own' behind' : List Foot) (places' : Places) (buffers' : Buffers) (own_within : (foot : Foot) → times foot own ≤ times foot a.behind) (own_once : Once own')
        (keeps : KeepsOthers places buffers places' buffers' own) (from : OldOrFresh places buffers own own')
        (closed : (foot : Foot) → times foot behind' + times foot own ≤ times foot a.behind + times foot own') where
      same_where : (foot : Foot) → times foot own ≡ 0 → IsSome (foot_bytes places buffers foot) → foot_bytes places' buffers' foot ≡ foot_bytes places buffers foot
      same_where foot outside some = let was = some_value (foot_bytes places buffers foot) some in keeps foot was.0 outside was.1 ∙ sym was.1

      beyond_own : SameBeyond places buffers places' buffers' own a.behind
      beyond_own foot less = same_where foot (omega (arith, less, behind_once foot)) (there foot (omega (arith, less, old_counted foot, old_within foot, counted foot)))

      beyond_old : SameBeyond places buffers places' buffers' f.own st.message.behind
      beyond_old foot less = same_where foot (omega (arith, less, own_within foot, old_counted foot, counted foot, st.once foot)) (there foot (omega (arith, less, counted foot)))

      array_there : map.get places' (place_in (slot_in one st.message.bytes)) ≡ Some a.bytes
      array_there = same_where array (omega (arith, own_within array, old_counted array, array_once, old_within array, counted array, st.once array)) (subst IsSome (sym a.there) refl) ∙ a.there

      record_there : map.get places' msg.place ≡ Some st.message.bytes
      record_there = same_where (InPlace msg.place) (omega (arith, own_within (InPlace msg.place), old_counted (InPlace msg.place), old_within (InPlace msg.place), counted (InPlace msg.place), times_first (InPlace msg.place) [], st.once (InPlace msg.place))) (subst IsSome (sym st.message.there) refl) ∙ st.message.there

      -- a foot of what was changed is one of the child's, or stood nowhere in the message
      new_feet : (foot : Foot) → IsAmong foot own' → (1 ≤ times foot own) ⊎ (times foot feet ≡ 0)
      new_feet foot among = ⊎_elim (λ old_one. inl old_one) (λ none. inr (fresh_apart places buffers feet foot there none)) (from foot among)

      few_behind : (foot : Foot) → times foot (array ∷ []) + times foot behind' ≤ 1
      few_behind foot = by_new (times foot own') refl
        where
          by_new : (k : ℕ) → k ≡ times foot own' → times foot (array ∷ []) + times foot behind' ≤ 1
          by_new zero none = omega (arith, none, closed foot, old_counted foot, old_within foot, counted foot, st.once foot)
          by_new (suc k) is = ⊎_elim
              (λ in_own. omega (arith, in_own, own_within foot, closed foot, own_once foot, old_counted foot, old_within foot, counted foot, st.once foot))
              (λ nowhere. omega (arith, nowhere, closed foot, own_once foot, old_counted foot, old_within foot, counted foot))
              (new_feet foot (omega (arith, is)))

      covered : (foot : Foot) → IsAmong foot (array ∷ behind') → times foot feet ≤ times foot f.own
      covered foot among = by_new (times foot own') refl
        where
          by_new : (k : ℕ) → k ≡ times foot own' → times foot feet ≤ times foot f.own
          by_new zero none = omega (arith, none, among, times_join foot (array ∷ []) behind', closed foot, old_counted foot, st.once foot)
          by_new (suc k) is = ⊎_elim
              (λ in_own. omega (arith, in_own, own_within foot, old_counted foot, st.once foot))
              (λ nowhere. omega (arith, nowhere))
              (new_feet foot (omega (arith, is)))

      array_now : (index : ℕ) (u : Shape) → ValuesStand schema places' buffers' type a.bytes (replaced_at index (Sub u) values) behind'
          → HoldsArray (λ bytes behind. ValuesStand schema places' buffers' type bytes (replaced_at index (Sub u) values) behind) places' (slot_of type) (length (values_in_list (replaced_at index (Sub u) values))) (slot_in one st.message.bytes) (array ∷ behind')
      array_now index u stand =
          let same = replaced_length index (Sub u) values in
          Elements (record {
            form = a.form;
            counted = a.counted ∙ sym same;
            some = omega (arith, a.some, same);
            most = omega (arith, a.most, same);
            doublings = a.doublings;
            enough = omega (arith, a.enough, same);
            least = subst (λ k. IsLeastRoom a.doublings k) (sym same) a.least;
            room = a.room;
            bytes = a.bytes;
            there = array_there;
            len = a.len;
            behind = behind';
            feet_are = refl;
            elements = stand;
          })

    -- the child at an index, and the message with the child changed
    element_of : (index : ℕ) (child : MsgRef) → held_at schema msg.type_no number (Message fields pieces) ≡ Many values → index < length (values_in_list values)
        → child.type_no ≡ n → child.place ≡ place_in (part (index * slot_of type) (slot_of type) a.bytes)
        → ListsMessage schema msg.type_no number child.type_no
        → HasElement schema places buffers msg (Message fields pieces) feet number index child
    element_of index child held_is less child_type child_place has =
        let v = value_focus schema places buffers type a.bytes values a.behind index a.elements behind_once less in
        let s = sub_value schema places buffers type n (part (index * slot_of type) (slot_of type) a.bytes) v.value v.own type_is v.stands in
        let stands : MessageStands schema places buffers child.type_no child.place s.tree v.own = subst (λ p. MessageStands schema places buffers child.type_no p s.tree v.own) (sym child_place) (subst (λ k. MessageStands schema places buffers k (place_in (part (index * slot_of type) (slot_of type) a.bytes)) s.tree v.own) (sym child_type) s.stands) in
        let elements : elements_at schema msg.type_no number (Message fields pieces) ≡ values_in_list values = ap (λ h. values_in_list (values_held h)) held_is in
        let in_feet : (foot : Foot) → times foot v.own ≤ times foot feet = λ foot. omega (arith, v.within foot, old_counted foot, old_within foot, counted foot) in
        record {
          type = has;
          tree = s.tree;
          own = v.own;
          held = ap (λ vs. slice_get vs index) elements ∙ v.is ∙ ap Some s.is;
          stands = record { message = stands; once = λ foot. omega (arith, in_feet foot, st.once foot) };
          within = in_feet;
          apart = omega (arith, v.within (InPlace msg.place), old_counted (InPlace msg.place), old_within (InPlace msg.place), counted (InPlace msg.place), times_first (InPlace msg.place) [], st.once (InPlace msg.place));
          later = λ places' buffers' u own' child_now keeps from.
              let at_slot : MessageStands schema places' buffers' n (place_in (part (index * slot_of type) (slot_of type) a.bytes)) u own' = subst (λ p. MessageStands schema places' buffers' n p u own') child_place (subst (λ k. MessageStands schema places' buffers' k child.place u own') child_type child_now.message) in
              let inner = v.close places' buffers' (Sub u) own' (sub_stands schema places' buffers' type n (part (index * slot_of type) (slot_of type) a.bytes) u own' type_is at_slot)
              (λ foot below. same_below v.own places' buffers' v.within keeps foot below) in
              let layout = layout_of schema msg.type_no in
              let is_sound = sound schema lawful places buffers msg.type_no msg.place fields pieces feet st.message in
              let was_tidy = tidy schema lawful places buffers msg.type_no msg.place fields pieces feet st.message in
              let suit = all_suit schema msg.type_no in
              let card = list_card one.field.card list in
              let unmarked = list_mark one card.0 card.1 (among_all Suits layout.entries one.field.number one suit found').0 in
              let is = put_again layout is_sound one found' suit st.message.bytes st.message.size was_tidy (subst MayBeSet (sym (list_untold one st.message.bytes unmarked)) tt) in
              let held' : HeldWith (List (List ℕ)) = Many (replaced_at index (Sub u) values) in
              let holds = array_now v.own own' inner.now places' buffers' v.within child_now.once keeps from inner.count index u inner.stand in
              let closed = f.close places' buffers' st.message.bytes (λ entry. shares one.mark entry.mark) held' (array ∷ inner.now)
              (record_there v.own own' inner.now places' buffers' v.within child_now.once keeps from inner.count)
              is.turned
              (λ entry entry_found differs. ap (λ c. clears c held' entry.field.card) card.1 ∙ sym (ap (λ k. shares k entry.mark) unmarked))
              (list, holds)
              (beyond_old v.own own' inner.now places' buffers' v.within child_now.once keeps from inner.count) in
              let values_are : values_held (held_at schema msg.type_no number (Message fields pieces)) ≡ values = ap values_held held_is in
              record {
                now = closed.now;
                stands = record {
                  message = subst (λ k. MessageStands schema places' buffers' msg.type_no msg.place (with_held schema msg.type_no k (Many (replaced_at index (Sub u) (values_held (held_at schema msg.type_no number (Message fields pieces))))) (Message fields pieces)) closed.now) number_is
                      (subst (λ vs. MessageStands schema places' buffers' msg.type_no msg.place (with_held schema msg.type_no one.field.number (Many (replaced_at index (Sub u) vs)) (Message fields pieces)) closed.now) (sym values_are) closed.stands);
                  once = once_after feet f.own (array ∷ inner.now) closed.now st.once
                      (λ foot. omega (arith, times_join foot (array ∷ []) inner.now, few_behind v.own own' inner.now places' buffers' v.within child_now.once keeps from inner.count foot))
                      (λ foot. omega (arith, f.within foot, counted foot))
                      (covered v.own own' inner.now places' buffers' v.within child_now.once keeps from inner.count)
                      closed.count;
                };
                count = λ foot. omega (arith, closed.count foot, times_join foot (array ∷ []) inner.now, inner.count foot, old_counted foot);
              };
        }
      where
        same_below : (own : List Foot) (places' : Places) (buffers' : Buffers) → ((foot : Foot) → times foot own ≤ times foot a.behind) → KeepsOthers places buffers places' buffers' own → SameBeyond places buffers places' buffers' own a.behind
        same_below own places' buffers' own_in keeps foot below =
            let was = some_value (foot_bytes places buffers foot) (there foot (omega (arith, below, old_counted foot, old_within foot, counted foot))) in
            keeps foot was.0 (omega (arith, below, behind_once foot)) was.1 ∙ sym was.1

-- by the bytes that were read
pub element_found : (schema : Schema) → Lawful schema → (places : Places) (buffers : Buffers) (msg : MsgRef) (number : ℕ) (one : Entry) → entry_of schema msg.type_no number ≡ Some one → one.field.number ≡ number → IsList one.field.card → (n : ℕ) → value_type_of one.field.kind ≡ Nested n
    → (bytes elements : List ℕ) (array : Place) → map.get places msg.place ≡ Some bytes → array ≡ place_in (part one.slot array_slot bytes) → map.get places array ≡ Some elements
    → (index : ℕ) (child : MsgRef) → child.type_no ≡ n → child.place ≡ place_in (part (index * slot_of (value_type_of one.field.kind)) (slot_of (value_type_of one.field.kind)) elements) → ListsMessage schema msg.type_no number child.type_no
    → (t : Shape) (feet : List Foot) → Stands schema places buffers msg t feet → index < count_at schema msg.type_no number t → HasElement schema places buffers msg t feet number index child
element_found schema lawful places buffers msg number one found number_is list n type_is bytes elements array there array_is elements_there index child child_type child_place has (Message fields pieces) feet st less =
    let f = focus_message schema lawful places buffers msg.type_no msg.place fields pieces feet st.message one (ap (entry_of schema msg.type_no) number_is ∙ found) in
    let held : held_among (fields_in (layout_of schema msg.type_no).entries) one.field.number fields ≡ held_at schema msg.type_no number (Message fields pieces) =
    ap (λ fs. held_among fs one.field.number fields) (fields_laid schema msg.type_no) ∙ ap (λ k. held_at schema msg.type_no k (Message fields pieces)) number_is in
    let is = held_list_is schema places buffers one.field (told_in one st.message.bytes) (slot_in one st.message.bytes) _ f.own list f.stands in
    let held_is : held_at schema msg.type_no number (Message fields pieces) ≡ Many is.values = sym held ∙ is.held_is in
    let count : count_at schema msg.type_no number (Message fields pieces) ≡ length (values_in_list is.values) = ap (λ h. length (values_in_list (values_held h))) held_is in
    let a = elements_of places (slot_of (value_type_of one.field.kind)) (length (values_in_list is.values)) (slot_in one st.message.bytes) f.own is.holds (λ none. omega (arith, less, count, none)) in
    let same : st.message.bytes ≡ bytes = same_Some st.message.bytes bytes (sym st.message.there ∙ there) in
    let slot_same : slot_in one st.message.bytes ≡ part one.slot array_slot bytes = list_slot_is one st.message.bytes list ∙ ap (part one.slot array_slot) same in
    let elements_same : elements ≡ a.bytes = same_Some elements a.bytes (sym elements_there ∙ ap (map.get places) (array_is ∙ ap place_in (sym slot_same)) ∙ a.there) in
    element_of schema lawful places buffers msg number one found number_is list n type_is fields pieces feet st f is.values a index child held_is (omega (arith, less, count)) child_type
    (child_place ∙ ap (λ b. place_in (part (index * slot_of (value_type_of one.field.kind)) (slot_of (value_type_of one.field.kind)) b)) elements_same) has

pub message_bytes : (type : ValueType) → IsMessageType type → slot_of type ≡ 16
message_bytes (Scalar coding) h = absurd h
message_bytes Characters h = absurd h
message_bytes Octets h = absurd h
message_bytes (Nested type_no) h = refl

-- an element that was put behind the others is the last one now
pub appended_found : (schema : Schema) → Lawful schema → (places places' : Places) (buffers : Buffers) (msg : MsgRef) (number : ℕ) (one : Entry) → entry_of schema msg.type_no number ≡ Some one → one.field.number ≡ number → IsList one.field.card → (n : ℕ) → value_type_of one.field.kind ≡ Nested n
    → (element : List ℕ) → length element ≡ slot_of (value_type_of one.field.kind) → (a : IsAppended places places' msg.place one.slot element) → (a.array ≡ msg.place → ⊥) → (child : MsgRef) → child.type_no ≡ n → child.place ≡ place_in element → ListsMessage schema msg.type_no number child.type_no
    → RecordIs schema places msg → (t : Shape) (feet : List Foot) → Stands schema places' buffers msg t feet → HasElement schema places' buffers msg t feet number a.count child
appended_found schema lawful places places' buffers msg number one found number_is list n type_is element long a apart child child_type child_place has was t feet st =
    let r = record_is schema places' buffers msg t feet st in
    let fits = (found_fits (layout_of schema msg.type_no) number one (sound_of schema lawful msg.type_no r.type) found).within in
    let slot_size : slot_bytes one.field ≡ array_slot = list_bytes one list in
    let now_is : map.get places' msg.place ≡ Some (splice one.slot a.slot was.bytes) = a.told ∙ ap (option_map (splice one.slot a.slot)) (a.put_else msg.place (λ e. apart (sym e)) ∙ a.keeps msg.place was.bytes was.there) in
    let in_it : one.slot + length a.slot ≤ length was.bytes = omega (arith, was.size, fits, slot_size, a.slot_long) in
    let slot_is : part one.slot array_slot (splice one.slot a.slot was.bytes) ≡ a.slot = part_here one.slot a.slot was.bytes in_it array_slot (sym a.slot_long) in
    let element_fits : a.count * length element + length element ≤ length a.room.bytes = omega (arith, a.room.len, room_fits places a.mid (length element) (list_slot places msg.place one.slot) a.count a.array a.room) in
    let elements = splice (a.count * length element) element a.room.bytes in
    let elements_there : map.get places' a.array ≡ Some elements = a.told_else a.array apart ∙ a.put ∙ ap (option_map (splice (a.count * length element) element)) a.room.there in
    let o = open_list schema lawful places' buffers msg number one (splice one.slot a.slot was.bytes) found number_is list now_is t feet st in
    let count_now : count_at schema msg.type_no number t ≡ a.count + 1 = sym o.counted ∙ ap (word 4) slot_is ∙ a.slot_count in
    element_found schema lawful places' buffers msg number one found number_is list n type_is (splice one.slot a.slot was.bytes) elements a.array now_is (sym a.slot_place ∙ ap place_in (sym slot_is)) elements_there a.count child child_type
    (child_place ∙ ap place_in (sym (part_here (a.count * length element) element a.room.bytes element_fits (length element) refl)) ∙ ap (λ k. place_in (part (a.count * k) k elements)) long) has t feet st (omega (arith, count_now))
  where
    list_bytes : (one : Entry) → IsList one.field.card → slot_bytes one.field ≡ array_slot
    list_bytes one list = ap (λ c. cond (is_repeated c) array_slot (slot_of (value_type_of one.field.kind))) (list_card one.field.card list).1
