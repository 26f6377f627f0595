-- A list of a message, opened: its elements, where they lie, and what appending one makes of the message.
use Rattle.std.proofs.Common.{◌≡◌, ◌^◌, ◌+◌, ◌*◌, ◌≤◌, ◌<◌, ℕ, zero, suc, true≢false, cond, length, take, drop, List, [], Option, None, Some, refl, sym, ap, ◌∙◌, subst, arith, drop-drop}
use Rattle.std.specs.Prelude.{IsSome, slice_get}
use Rattle.std.specs.Option.{option_map}
use Rattle.std.specs.FinMap as map
use Rattle.arena_mem.specs.declared.place.Place.{Place}
use Rattle.arena_mem.specs.Places.{Places, Buffers, IsLive, KeepsRest, KeepsBuffers, splice}
use Rattle.pb_schema.specs.declared.schema.Schema.{Schema}
use Rattle.pb_schema.specs.Lawful.{Lawful}
use Rattle.pb_schema.specs.Cards.{is_repeated}
use Rattle.pb_schema.specs.Kinds.{ValueType, Scalar, Characters, Octets, Nested, value_type_of, slot_of}
use Rattle.pb_schema.specs.Meter.{rooms}
use Rattle.pb_schema.specs.Put.{values_held}
use Rattle.pb_schema.specs.HeldAt.{held_at}
use Rattle.pb_schema.specs.Tree.{ValueWith, Number, Bytes, Sub, ValueListWith, NoValues, ValueAnd, Many, Shape, values_in_list}
use Rattle.pb_schema.specs.Fitted.{IsPatternOf, IsStringOf}
use Rattle.dyn_message.specs.Writes.{number_bytes}
use Rattle.std.proofs.lemmas.Option.{same_Some}
use Rattle.msg_layout.specs.declared.entry.Entry.{Entry}
use Rattle.msg_layout.specs.Slots.{array_slot}
use Rattle.msg_layout.specs.Layout.{entry_of}
use Rattle.dyn_message.specs.declared.msg_ref.MsgRef.{MsgRef}
use Rattle.arena_mem.specs.Grows.{Grows}
use Rattle.pb_schema.specs.declared.kind.Kind.{Kind}
use Rattle.pb_schema.specs.declared.kind.Kind.TheVariants as kinds
use Rattle.dyn_message.specs.Changes.{Changes}
use Rattle.dyn_message.specs.Feet.{Foot, InPlace, InBuffer, times, IsAmong, AreThere, Once, SameAt, KeepsOthers, foot_bytes}
use Rattle.dyn_message.specs.Slots.{part, word, number_in, place_in, slot_in, told_in}
use Rattle.dyn_message.specs.Arrays.{HoldsArray, most_elements}
use Rattle.dyn_message.specs.Stands.{IsList, HoldsNumber, IsLink, ValueStands, ValuesStand, Stands}
use Rattle.dyn_message.specs.Fields.{IsNumberType, IsBytesType}
use Rattle.dyn_message.specs.Strings.{HoldsBytes}
use Rattle.dyn_message.specs.Lists.{count_at, elements_at, with_appended}
use Rattle.dyn_message.specs.Rooms.{IsRoom, IsAppended, GrowsBy, MayGrow, list_slot}
use Rattle.dyn_message.proofs.SameBytes.{message_same}
use Rattle.dyn_message.proofs.There.{message_there}
use Rattle.dyn_message.proofs.Messages.{some_value}
use Rattle.std.proofs.lemmas.Option.{none-some}
use Rattle.dyn_message.proofs.Opening.{open_field, record_is, number_read}
use Rattle.dyn_message.proofs.Growing.{slot_read, elements_of}
use Rattle.dyn_message.proofs.RoomLaws.{mul_le}
use Rattle.dyn_message.proofs.Appending.{Appended, Steps, append_stands, list_card, held_list_is, count_is, may_grow}

-- the slot of a list is an array's
pub list_slot_is : (one : Entry) (bytes : List ℕ) → IsList one.field.card → slot_in one bytes ≡ part one.slot array_slot bytes
unfolding slot_in
list_slot_is one bytes list = ap (λ n. part one.slot n bytes) (ap (λ c. cond (is_repeated c) array_slot (slot_of (value_type_of one.field.kind))) (list_card one.field.card list).1)

-- a list, opened
pub record IsOpen (schema : Schema) (places : Places) (buffers : Buffers) (msg : MsgRef) (number : ℕ) (one : Entry) (bytes : List ℕ) (t : Shape) : Type 0 where
  pub values : ValueListWith (List (List ℕ))
  pub own : List Foot
  pub held : held_at schema msg.type_no number t ≡ Many values
  pub holds : HoldsArray (λ elements behind. ValuesStand schema places buffers (value_type_of one.field.kind) elements values behind) places (slot_of (value_type_of one.field.kind)) (length (values_in_list values)) (part one.slot array_slot bytes) own
  pub elements : elements_at schema msg.type_no number t ≡ values_in_list values
  pub count : count_at schema msg.type_no number t ≡ length (values_in_list values)
  pub counted : word 4 (part one.slot array_slot bytes) ≡ count_at schema msg.type_no number t

module _ (schema : Schema) (lawful : Lawful schema) (places : Places) (buffers : Buffers) (msg : MsgRef) (number : ℕ) (one : Entry) (bytes : List ℕ) (found : entry_of schema msg.type_no number ≡ Some one) (number_is : one.field.number ≡ number)
    (list : IsList one.field.card) (there : map.get places msg.place ≡ Some bytes) where
  pub open_list : (t : Shape) (feet : List Foot) → Stands schema places buffers msg t feet → IsOpen schema places buffers msg number one bytes t
  open_list t feet st =
      let f = open_field schema lawful places buffers msg number one bytes t feet st found number_is there in
      let is = held_list_is schema places buffers one.field (told_in one bytes) (slot_in one bytes) (held_at schema msg.type_no number t) f.own list f.stands in
      let holds = subst (λ s. HoldsArray (λ elements behind. ValuesStand schema places buffers (value_type_of one.field.kind) elements is.values behind) places (slot_of (value_type_of one.field.kind)) (length (values_in_list is.values)) s f.own) (list_slot_is one bytes list) is.holds in
      let elements : elements_at schema msg.type_no number t ≡ values_in_list is.values = ap (λ h. values_in_list (values_held h)) is.held_is in
      let count : count_at schema msg.type_no number t ≡ length (values_in_list is.values) = ap (λ (vs : List (ValueWith (List (List ℕ)))). length vs) elements in
      record {
        values = is.values;
        own = f.own;
        held = is.held_is;
        holds = holds;
        elements = elements;
        count = count;
        counted = count_is places (slot_of (value_type_of one.field.kind)) (length (values_in_list is.values)) (part one.slot array_slot bytes) f.own holds ∙ sym count;
      }

  pub list_may_grow : (size : ℕ) → size ≡ slot_of (value_type_of one.field.kind) → (t : Shape) (feet : List Foot) → Stands schema places buffers msg t feet → count_at schema msg.type_no number t < most_elements → MayGrow places size (list_slot places msg.place one.slot)
  list_may_grow size size_is t feet st few =
      let o = open_list t feet st in
      subst (λ n. MayGrow places n (list_slot places msg.place one.slot)) (sym size_is)
      (subst (MayGrow places (slot_of (value_type_of one.field.kind))) (sym (slot_read places msg.place one.slot bytes there))
      (may_grow places (slot_of (value_type_of one.field.kind)) (length (values_in_list o.values)) (part one.slot array_slot bytes) o.own o.holds (omega (arith, few, o.count))))

  -- ---- an element
  -- the place of the elements, where there are some
  pub record IsAt (t : Shape) (index : ℕ) (array : Place) : Type 0 where
    pub live : IsLive places array
    pub small : index < 2 ^ 26
    pub within : index * slot_of (value_type_of one.field.kind) + slot_of (value_type_of one.field.kind) ≤ array.len

  pub element_at : (t : Shape) (feet : List Foot) (index : ℕ) (array : Place) → Stands schema places buffers msg t feet → index < count_at schema msg.type_no number t → array ≡ place_in (part one.slot array_slot bytes) → IsAt t index array
  element_at t feet index array st less array_is =
      let o = open_list t feet st in
      let size = slot_of (value_type_of one.field.kind) in
      let a = elements_of places size (length (values_in_list o.values)) (part one.slot array_slot bytes) o.own o.holds (λ none. omega (arith, less, o.count, none)) in
      record {
        live = subst (IsLive places) (sym array_is) (subst IsSome (sym a.there) refl);
        small = omega (arith, less, o.count, a.most);
        within = omega (arith, ap (λ (p : Place). p.len) array_is, a.room, mul_le (index + 1) (rooms a.doublings) size (omega (arith, less, o.count, a.enough)));
      }

-- an element of those that stand
pub values_at : (schema : Schema) (places : Places) (buffers : Buffers) (type : ValueType) (bytes : List ℕ) (values : ValueListWith (List (List ℕ))) (feet : List Foot) (index : ℕ) → ValuesStand schema places buffers type bytes values feet → index < length (values_in_list values)
    → (value : ValueWith (List (List ℕ))) × (own : List Foot) × (slice_get (values_in_list values) index ≡ Some value) × ValueStands schema places buffers type (part (index * slot_of type) (slot_of type) bytes) value own
values_at schema places buffers type bytes NoValues feet index stand less = absurd (omega (arith, less))
values_at schema places buffers type bytes (ValueAnd first values) feet zero stand less =
    let none : 0 * slot_of type ≡ 0 = omega arith in
    (first, stand.own, refl, subst (λ n. ValueStands schema places buffers type (take (slot_of type) (drop n bytes)) first stand.own) (sym none) stand.first)
values_at schema places buffers type bytes (ValueAnd first values) feet (suc index) stand less =
    let more = values_at schema places buffers type (drop (slot_of type) bytes) values stand.rest index stand.second (omega (arith, less)) in
    let at : part (index * slot_of type) (slot_of type) (drop (slot_of type) bytes) ≡ part (suc index * slot_of type) (slot_of type) bytes = ap (take (slot_of type)) (drop-drop (index * slot_of type) (slot_of type) bytes ∙ ap (λ n. drop n bytes) {x = slot_of type + index * slot_of type} {y = suc index * slot_of type} (omega arith)) in
    (more.0, more.1, more.2, subst (λ s. ValueStands schema places buffers type s more.0 more.1) at more.3)

-- NUMBERS

no_string : (type : ValueType) (s : List ℕ) → IsNumberType type → IsStringOf type s → ⊥
no_string (Scalar coding) s number h = h
no_string Characters s number h = number
no_string Octets s number h = number
no_string (Nested type_no) s number h = number

no_link : (P : ℕ → Type 0) (type : ValueType) → IsNumberType type → IsLink P type → ⊥
no_link P (Scalar coding) number h = h
no_link P Characters number h = h
no_link P Octets number h = h
no_link P (Nested type_no) number h = number

-- a value of a number's type is the number in its slot
pub number_value : (schema : Schema) (places : Places) (buffers : Buffers) (type : ValueType) (slot : List ℕ) (value : ValueWith (List (List ℕ))) (own : List Foot) → IsNumberType type → ValueStands schema places buffers type slot value own → value ≡ Number (number_in slot)
number_value schema places buffers type slot (Number p) own number h = ap Number (by_type type h.0)
  where
    by_type : (type : ValueType) → HoldsNumber type slot p → p ≡ number_in slot
    by_type (Scalar coding) holds = sym holds.1
    by_type Characters holds = absurd holds
    by_type Octets holds = absurd holds
    by_type (Nested type_no) holds = absurd holds
number_value schema places buffers type slot (Bytes s) own number h = absurd (no_string type s number h.kind)
number_value schema places buffers type slot (Sub t) own number h = absurd (no_link _ type number h)

module _ (schema : Schema) (lawful : Lawful schema) (places : Places) (buffers : Buffers) (msg : MsgRef) (number : ℕ) (one : Entry) (bytes : List ℕ) (found : entry_of schema msg.type_no number ≡ Some one) (number_is : one.field.number ≡ number)
    (list : IsList one.field.card) (there : map.get places msg.place ≡ Some bytes) (is_number : IsNumberType (value_type_of one.field.kind)) where
  pub number_at_is : (t : Shape) (feet : List Foot) (index n : ℕ) (array : Place) (elements : List ℕ) → Stands schema places buffers msg t feet → index < count_at schema msg.type_no number t → array ≡ place_in (part one.slot array_slot bytes)
      → map.get places array ≡ Some elements → n ≡ number_in (part (index * slot_of (value_type_of one.field.kind)) (slot_of (value_type_of one.field.kind)) elements) → slice_get (elements_at schema msg.type_no number t) index ≡ Some (Number n)
  number_at_is t feet index n array elements st less array_is found_there is =
      let o = open_list schema lawful places buffers msg number one bytes found number_is list there t feet st in
      let size = slot_of (value_type_of one.field.kind) in
      let a = elements_of places size (length (values_in_list o.values)) (part one.slot array_slot bytes) o.own o.holds (λ none. omega (arith, less, o.count, none)) in
      let same : a.bytes ≡ elements = same_Some a.bytes elements (sym a.there ∙ ap (map.get places) (sym array_is) ∙ found_there) in
      let v = values_at schema places buffers (value_type_of one.field.kind) a.bytes o.values a.behind index a.elements (omega (arith, less, o.count)) in
      ap (λ vs. slice_get vs index) o.elements ∙ v.2
      ∙ ap Some (number_value schema places buffers (value_type_of one.field.kind) (part (index * size) size a.bytes) v.0 v.1 is_number v.3
      ∙ ap Number (ap (λ b. number_in (part (index * size) size b)) same ∙ sym is))

-- SIZES

pub slot_small : (kind : Kind) → slot_of (value_type_of kind) ≤ 24
slot_small kinds.Double = omega arith
slot_small kinds.Float = omega arith
slot_small kinds.Int64 = omega arith
slot_small kinds.UInt64 = omega arith
slot_small kinds.Int32 = omega arith
slot_small kinds.Fixed64 = omega arith
slot_small kinds.Fixed32 = omega arith
slot_small kinds.Bool = omega arith
slot_small kinds.Text = omega arith
slot_small (kinds.Message type_no) = omega arith
slot_small kinds.Bytes = omega arith
slot_small kinds.UInt32 = omega arith
slot_small kinds.Enumeration = omega arith
slot_small kinds.SFixed32 = omega arith
slot_small kinds.SFixed64 = omega arith
slot_small kinds.SInt32 = omega arith
slot_small kinds.SInt64 = omega arith

pub index_fits : (index size : ℕ) (kind : Kind) → index < 2 ^ 26 → size ≡ slot_of (value_type_of kind) → index * size < 2 ^ 32
index_fits index size kind small is =
    let most = mul_le size 24 index (omega (arith, slot_small kind, is)) in
    omega (arith, small, most)

-- CHANGES

-- a memory that grew, and whose bytes were then changed
pub changes_after : {S K : Type 0} (key : S → K) (places : S → Places) (buffers : S → Buffers) (blocks : S → ℕ → ℕ) (p b : ℕ) (feet : List Foot) (old mid new : S) → Grows key places buffers blocks p b old mid
    → key new ≡ key mid → map.len (places new) ≡ map.len (places mid) → ((q : Place) → IsLive (places mid) q → IsLive (places new) q) → buffers new ≡ buffers mid → ((region : ℕ) → blocks new region ≡ blocks mid region)
    → KeepsOthers (places old) (buffers old) (places new) (buffers new) feet → Changes key places buffers blocks p b feet old new
changes_after key places buffers blocks p b feet old mid new g same_key count lives same_buffers same_blocks keeps = record {
  key = same_key ∙ g.key;
  others = keeps;
  still_there = still;
  no_fewer_places = omega (arith, g.no_fewer_places, count);
  few_places = omega (arith, g.few_places, count);
  no_fewer_buffers = omega (arith, g.no_fewer_buffers, ap map.len same_buffers);
  few_buffers = omega (arith, g.few_buffers, ap map.len same_buffers);
  no_fewer_blocks = λ region. omega (arith, g.no_fewer_blocks region, same_blocks region);
  few_blocks = λ region. omega (arith, g.few_blocks region, same_blocks region);
}
  where
    some_of : (o : Option (List ℕ)) → IsSome o → (x : List ℕ) × (o ≡ Some x)
    some_of None h = absurd (true≢false (sym h))
    some_of (Some x) h = (x, refl)

    still : (foot : Foot) → IsSome (foot_bytes (places old) (buffers old) foot) → IsSome (foot_bytes (places new) (buffers new) foot)
    still (InPlace q) there = let was = some_of (map.get (places old) q) there in lives q (subst IsSome (sym (g.rest q was.0 was.1)) refl)
    still (InBuffer a) there = let was = some_of (map.get (buffers old) a) there in subst IsSome (sym (ap (λ m. map.get m a) same_buffers ∙ g.buffers a was.0 was.1)) refl

pub place_lives : (places places' : Places) → KeepsRest places places' → (q : Place) → IsLive places q → IsLive places' q
place_lives places places' rest q live = let was = some_value (map.get places q) live in subst IsSome (sym (rest q was.0 was.1)) refl

-- a memory that grew, and in which an element was put: nothing but these feet changed
pub changes_then : {S K : Type 0} (key : S → K) (places : S → Places) (buffers : S → Buffers) (blocks : S → ℕ → ℕ) (p b most : ℕ) (feet : List Foot) (old mid new : S) → Grows key places buffers blocks p b old mid → GrowsBy key places buffers blocks most mid new
    → KeepsOthers (places old) (buffers old) (places new) (buffers new) feet → Changes key places buffers blocks (p + most) b feet old new
changes_then key places buffers blocks p b most feet old mid new g h keeps = record {
  key = h.key ∙ g.key;
  others = keeps;
  still_there = still;
  no_fewer_places = omega (arith, g.no_fewer_places, h.no_fewer);
  few_places = omega (arith, g.few_places, h.few);
  no_fewer_buffers = omega (arith, g.no_fewer_buffers, ap map.len h.buffers);
  few_buffers = omega (arith, g.few_buffers, ap map.len h.buffers);
  no_fewer_blocks = λ region. omega (arith, g.no_fewer_blocks region, h.no_fewer_blocks region);
  few_blocks = λ region. omega (arith, g.few_blocks region, h.few_blocks region);
}
  where
    still : (foot : Foot) → IsSome (foot_bytes (places old) (buffers old) foot) → IsSome (foot_bytes (places new) (buffers new) foot)
    still (InPlace q) there = h.still_live q (place_lives (places old) (places mid) g.rest q there)
    still (InBuffer a) there = let was = some_value (map.get (buffers old) a) there in subst IsSome (sym (ap (λ m. map.get m a) h.buffers ∙ g.buffers a was.0 was.1)) refl

-- a message stands where a memory grew
pub stands_grown : (schema : Schema) (places places' : Places) (buffers buffers' : Buffers) (msg : MsgRef) (t : Shape) (feet : List Foot) → Stands schema places buffers msg t feet → KeepsRest places places' → KeepsBuffers buffers buffers' → Stands schema places' buffers' msg t feet
stands_grown schema places places' buffers buffers' msg t feet st rest kept = record {
  message = message_same schema places places' buffers buffers' msg.type_no msg.place t feet same st.message;
  once = st.once;
}
  where
    there : (foot : Foot) → IsSome (foot_bytes places buffers foot) → foot_bytes places' buffers' foot ≡ foot_bytes places buffers foot
    there (InPlace q) some = let was = some_value (map.get places q) some in rest q was.0 was.1 ∙ sym was.1
    there (InBuffer a) some = let was = some_value (map.get buffers a) some in kept a was.0 was.1 ∙ sym was.1

    same : SameAt places buffers places' buffers' feet
    same foot among = there foot (message_there schema places buffers msg.type_no msg.place t feet st.message foot among)

-- what isn't there after a growth wasn't there before
pub none_before : (places places' : Places) (buffers buffers' : Buffers) → KeepsRest places places' → KeepsBuffers buffers buffers' → (foot : Foot) → foot_bytes places' buffers' foot ≡ None → foot_bytes places buffers foot ≡ None
none_before places places' buffers buffers' rest kept foot none = by_value (foot_bytes places buffers foot) refl
  where
    now : (foot : Foot) (was : List ℕ) → foot_bytes places buffers foot ≡ Some was → foot_bytes places' buffers' foot ≡ Some was
    now (InPlace q) was is = rest q was is
    now (InBuffer a) was is = kept a was is

    by_value : (o : Option (List ℕ)) → foot_bytes places buffers foot ≡ o → foot_bytes places buffers foot ≡ None
    by_value None is = is
    by_value (Some was) is = absurd (none-some was (sym none ∙ now foot was is))

-- AN APPEND

module _ (schema : Schema) (lawful : Lawful schema) (places mid written places' : Places) (buffers : Buffers) (msg : MsgRef) (number : ℕ) (one : Entry) (found : entry_of schema msg.type_no number ≡ Some one) (number_is : one.field.number ≡ number)
    (list : IsList one.field.card) (value : ValueWith (List (List ℕ))) (element : List ℕ) (own : List Foot) (count size : ℕ) (size_is : size ≡ slot_of (value_type_of one.field.kind)) (array : Place) (slot' : List ℕ) where
  found' : entry_of schema msg.type_no one.field.number ≡ Some one
  found' = ap (entry_of schema msg.type_no) number_is ∙ found

  -- what a call did, step by step
  pub record Calls : Type 0 where
    pub room : IsRoom places mid size (list_slot places msg.place one.slot) count array
    pub keeps : KeepsRest places mid
    pub long : length element ≡ size
    pub put : map.get written array ≡ option_map (splice (count * size) element) (map.get mid array)
    pub put_else : (q : Place) → (q ≡ array → ⊥) → map.get written q ≡ map.get mid q
    pub slot_long : length slot' ≡ 24
    pub slot_place : place_in slot' ≡ array
    pub slot_count : word 4 slot' ≡ count + 1
    pub slot_form : word 5 slot' ≡ 3
    pub told : map.get places' msg.place ≡ option_map (splice one.slot slot') (map.get written msg.place)
    pub told_else : (q : Place) → (q ≡ msg.place → ⊥) → map.get places' q ≡ map.get written q

  module _ (calls : Calls) (t : Shape) (feet : List Foot) (st : Stands schema places buffers msg t feet) (few : count_at schema msg.type_no number t < most_elements) where
    -- as many as the list has
    pub as_many : count ≡ count_at schema msg.type_no number t
    as_many =
        let r = record_is schema places buffers msg t feet st in
        calls.room.counted ∙ ap (word 4) (slot_read places msg.place one.slot r.bytes r.there)
        ∙ (open_list schema lawful places buffers msg number one r.bytes found number_is list r.there t feet st).counted

    steps : (bytes : List ℕ) → map.get places msg.place ≡ Some bytes → Steps schema lawful places mid written places' buffers msg one found' list value element own count array slot' (slot_in one bytes)
    steps bytes there = record {
      room = subst (λ n. IsRoom places mid n (slot_in one bytes) count array) size_is
          (subst (λ s. IsRoom places mid size s count array) (slot_read places msg.place one.slot bytes there ∙ sym (list_slot_is one bytes list)) calls.room);
      keeps = calls.keeps;
      long = calls.long ∙ size_is;
      few = omega (arith, few, as_many);
      put = calls.put ∙ ap (λ n. option_map (splice (count * n) element) (map.get mid array)) size_is;
      put_else = calls.put_else;
      slot_long = calls.slot_long;
      slot_place = calls.slot_place;
      slot_count = calls.slot_count;
      slot_form = calls.slot_form;
      told = calls.told;
      told_else = calls.told_else;
    }

    pub appended : ValueStands schema places buffers (value_type_of one.field.kind) element value own → Once own → AreThere places buffers own → ((foot : Foot) → IsAmong foot own → times foot feet ≡ 0)
        → Appended schema places places' buffers msg (with_appended schema msg.type_no number value t) feet own array
    appended new once own_there apart =
        subst (λ n. Appended schema places places' buffers msg (with_appended schema msg.type_no n value t) feet own array) number_is
        (append_stands schema lawful places mid written places' buffers msg one found' list value element own count array slot' t feet st steps new once own_there apart)

-- the same of a call that tells it
pub calls_of : (schema : Schema) (lawful : Lawful schema) (places places' : Places) (buffers : Buffers) (msg : MsgRef) (number : ℕ) (one : Entry) (found : entry_of schema msg.type_no number ≡ Some one) (number_is : one.field.number ≡ number)
    (list : IsList one.field.card) (value : ValueWith (List (List ℕ))) (element : List ℕ) (own : List Foot) (size_is : length element ≡ slot_of (value_type_of one.field.kind)) (a : IsAppended places places' msg.place one.slot element)
    → Calls schema lawful places a.mid a.written places' buffers msg number one found number_is list value element own a.count (length element) size_is a.array a.slot
calls_of schema lawful places places' buffers msg number one found number_is list value element own size_is a = record {
  room = a.room;
  keeps = a.keeps;
  long = refl;
  put = a.put;
  put_else = a.put_else;
  slot_long = a.slot_long;
  slot_place = a.slot_place;
  slot_count = a.slot_count;
  slot_form = a.slot_form;
  told = a.told;
  told_else = a.told_else;
}

-- of a number
pub number_stands_alone : (schema : Schema) (places : Places) (buffers : Buffers) (kind : Kind) (p : ℕ) → IsPatternOf (value_type_of kind) p → ValueStands schema places buffers (value_type_of kind) (number_bytes (slot_of (value_type_of kind)) p) (Number p) []
number_stands_alone schema places buffers kind p pattern = (number_read kind p pattern, refl)

-- STRINGS

pub string_slot : (type : ValueType) (s : List ℕ) → IsStringOf type s → slot_of type ≡ 24
string_slot (Scalar coding) s h = absurd h
string_slot Characters s h = refl
string_slot Octets s h = refl
string_slot (Nested type_no) s h = absurd h

pub bytes_slot : (type : ValueType) → IsBytesType type → slot_of type ≡ 24
bytes_slot (Scalar coding) h = absurd h
bytes_slot Characters h = refl
bytes_slot Octets h = refl
bytes_slot (Nested type_no) h = absurd h

-- a value of a string's type is bytes, and its slot holds them
pub bytes_value : (schema : Schema) (places : Places) (buffers : Buffers) (type : ValueType) (slot : List ℕ) (value : ValueWith (List (List ℕ))) (own : List Foot) → IsBytesType type → ValueStands schema places buffers type slot value own
    → (s : List ℕ) × (value ≡ Bytes s) × HoldsBytes places buffers slot s own
bytes_value schema places buffers type slot (Number p) own is h = absurd (by_type type is h.0)
  where
    by_type : (type : ValueType) → IsBytesType type → HoldsNumber type slot p → ⊥
    by_type (Scalar coding) is holds = is
    by_type Characters is holds = holds
    by_type Octets is holds = holds
    by_type (Nested type_no) is holds = is
bytes_value schema places buffers type slot (Bytes s) own is h = (s, refl, h.holds)
bytes_value schema places buffers type slot (Sub t) own is h = absurd (by_type _ type is h)
  where
    by_type : (P : ℕ → Type 0) (type : ValueType) → IsBytesType type → IsLink P type → ⊥
    by_type P (Scalar coding) is h = is
    by_type P Characters is h = h
    by_type P Octets is h = h
    by_type P (Nested type_no) is h = is

-- the slot of an element of a list
module _ (schema : Schema) (lawful : Lawful schema) (places : Places) (buffers : Buffers) (msg : MsgRef) (number : ℕ) (one : Entry) (bytes : List ℕ) (found : entry_of schema msg.type_no number ≡ Some one) (number_is : one.field.number ≡ number)
    (list : IsList one.field.card) (there : map.get places msg.place ≡ Some bytes) where
  pub record ElementIs (t : Shape) (index : ℕ) (elements : List ℕ) : Type 0 where
    pub value : ValueWith (List (List ℕ))
    pub own : List Foot
    pub is : slice_get (elements_at schema msg.type_no number t) index ≡ Some value
    pub stands : ValueStands schema places buffers (value_type_of one.field.kind) (part (index * slot_of (value_type_of one.field.kind)) (slot_of (value_type_of one.field.kind)) elements) value own

  pub element_is : (t : Shape) (feet : List Foot) (index : ℕ) (array : Place) (elements : List ℕ) → Stands schema places buffers msg t feet → index < count_at schema msg.type_no number t → array ≡ place_in (part one.slot array_slot bytes)
      → map.get places array ≡ Some elements → ElementIs t index elements
  element_is t feet index array elements st less array_is found_there =
      let o = open_list schema lawful places buffers msg number one bytes found number_is list there t feet st in
      let size = slot_of (value_type_of one.field.kind) in
      let a = elements_of places size (length (values_in_list o.values)) (part one.slot array_slot bytes) o.own o.holds (λ none. omega (arith, less, o.count, none)) in
      let same : a.bytes ≡ elements = same_Some a.bytes elements (sym a.there ∙ ap (map.get places) (sym array_is) ∙ found_there) in
      let v = values_at schema places buffers (value_type_of one.field.kind) a.bytes o.values a.behind index a.elements (omega (arith, less, o.count)) in
      record {
        value = v.0;
        own = v.1;
        is = ap (λ vs. slice_get vs index) o.elements ∙ v.2;
        stands = subst (λ b. ValueStands schema places buffers (value_type_of one.field.kind) (part (index * size) size b) v.0 v.1) same v.3;
      }
