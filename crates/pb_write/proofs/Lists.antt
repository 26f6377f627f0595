-- The elements of a list, where its slot is read: where they lie, and that all of them do.
use Rattle.std.proofs.Common.{◌≡◌, ◌+◌, ◌*◌, ◌^◌, ◌-◌, ◌≤◌, ◌<◌, ℕ, Bool, true, false, List, [], length, drop, Some, refl, sym, ap, ◌∙◌, subst, arith}
use Rattle.std.proofs.Common.{length-take, length-drop}
use Rattle.std.specs.Prelude.{IsSome, slice_get}
use Rattle.std.specs.FinMap as map
use Rattle.std.proofs.lemmas.Option.{same_Some}
use Rattle.arena_mem.specs.Places.{Places, IsLive}
use Rattle.arena_mem.specs.declared.place.Place.{Place}
use Rattle.pb_schema.specs.Meter.{rooms}
use Rattle.dyn_message.specs.Arrays.{HoldsArray}
use Rattle.dyn_message.specs.Feet.{Foot}
use Rattle.dyn_message.specs.Slots.{part, word, place_in}
use Rattle.dyn_message.proofs.Appending.{count_is}
use Rattle.dyn_message.proofs.Growing.{elements_of}
use Rattle.dyn_message.proofs.ListLaws.{list_slot_is, values_at, slot_small}
use Rattle.dyn_message.proofs.RoomLaws.{mul_le}
use Rattle.std.specs.List.{concat}
use Rattle.arena_mem.specs.Places.{Buffers}
use Rattle.pb_schema.specs.declared.kind.Card.TheVariants as cards
use Rattle.pb_schema.specs.declared.kind.FieldType.{FieldType}
use Rattle.pb_schema.specs.declared.kind.Kind.{Kind}
use Rattle.pb_schema.specs.declared.schema.Schema.{Schema}
use Rattle.pb_schema.specs.Cards.{is_packed}
use Rattle.pb_schema.specs.Kinds.{ValueType, value_type_of, slot_of}
use Rattle.pb_schema.specs.Text.{packed_text, field_tag, held_text, values_text}
use Rattle.pb_schema.specs.Tree.{ValueWith, HeldWith, Nothing, One, Many, ValueList, ValueListWith, NoValues, ValueAnd, values_in_list, values_map}
use Rattle.msg_layout.specs.declared.entry.Entry.{Entry}
use Rattle.msg_layout.specs.Slots.{array_slot}
use Rattle.dyn_message.specs.Slots.{slot_in, told_in}
use Rattle.dyn_message.specs.Stands.{IsSingle, MayHold, ValueStands, ValuesStand, HeldStands}

module _ {E : List ℕ → List Foot → Type 0} (places : Places) (size n : ℕ) (slot : List ℕ) (feet : List Foot) (holds : HoldsArray E places size n slot feet) (array : Place) (count : ℕ) (array_is : array ≡ place_in slot) (counted : count ≡ word 4 slot) (some : count ≡ 0 → ⊥) where
  pub count_same : count ≡ n
  count_same = counted ∙ count_is places size n slot feet holds

  pub array_live : IsLive places array
  array_live =
      let a = elements_of places size n slot feet holds (λ none. some (count_same ∙ none)) in
      subst (IsLive places) (sym array_is) (subst IsSome (sym a.there) refl)

  -- what lies there
  pub record AreThere (elements : List ℕ) : Type 0 where
    pub behind : List Foot
    pub stand : E elements behind
    pub fit : count * size ≤ length elements
    pub most : count ≤ 2 ^ 26

  pub elements_there : (elements : List ℕ) → map.get places array ≡ Some elements → AreThere elements
  elements_there elements there =
      let a = elements_of places size n slot feet holds (λ none. some (count_same ∙ none)) in
      let same : a.bytes ≡ elements = same_Some a.bytes elements (sym a.there ∙ ap (map.get places) (sym array_is) ∙ there) in
      let enough = a.enough in let most = a.most in let len = a.len in let room = a.room in
      record {
        behind = a.behind;
        stand = subst (λ b. E b a.behind) same a.elements;
        fit = omega (arith, mul_le count (rooms a.doublings) size (omega (arith, count_same, enough)), len, room, ap (λ (b : List ℕ). length b) same);
        most = omega (arith, count_same, most);
      }

-- the index of an element, and a slot of its size there
pub element_fits : (i count size total : ℕ) → i < count → count * size ≤ total → i * size + size ≤ total
element_fits i count size total less fit = omega (arith, fit, mul_le (i + 1) count size (omega (arith, less)))

-- a part that lies within some bytes has its length
pub part_long : (at n : ℕ) (bytes : List ℕ) → at + n ≤ length bytes → length (part at n bytes) ≡ n
part_long at n bytes fits = omega (arith, length-take n (drop at bytes), length-drop at bytes)

-- A FIELD THAT IS A LIST

-- what it holds, by its slot
pub record ListIs (schema : Schema) (places : Places) (buffers : Buffers) (entry : Entry) (bytes : List ℕ) (held : HeldWith (List (List ℕ))) (own : List Foot) : Type 0 where
  pub values : ValueListWith (List (List ℕ))
  pub is : held ≡ Many values
  pub holds : HoldsArray (λ elements behind. ValuesStand schema places buffers (value_type_of entry.field.kind) elements values behind) places (slot_of (value_type_of entry.field.kind)) (length (values_in_list values)) (part entry.slot array_slot bytes) own

pub list_is : (schema : Schema) (places : Places) (buffers : Buffers) (entry : Entry) (bytes : List ℕ) (packed : Bool) → entry.field.card ≡ cards.Repeated packed → (held : HeldWith (List (List ℕ))) (own : List Foot) → HeldStands schema places buffers entry.field (told_in entry bytes) (slot_in entry bytes) held own → ListIs schema places buffers entry bytes held own
list_is schema places buffers entry bytes packed card Nothing own h = absurd (subst IsSingle card h.0)
list_is schema places buffers entry bytes packed card (One value) own h = absurd (subst (λ c. MayHold {U = List (List ℕ)} c value) card h.0)
list_is schema places buffers entry bytes packed card (Many values) own h = record {
  values = values;
  is = refl;
  holds = subst (λ s. HoldsArray (λ elements behind. ValuesStand schema places buffers (value_type_of entry.field.kind) elements values behind) places (slot_of (value_type_of entry.field.kind)) (length (values_in_list values)) s own) (list_slot_is entry bytes h.0) h.1;
}

-- the text of a list
abbrev pub many_text : Schema → FieldType → ValueList → Bool → List ℕ
many_text schema field values packed =
    elim packed [
      | true ↦ packed_text field.number (values_text schema field [] values)
      | false ↦ values_text schema field (field_tag field) values
    ]

pub many_is : (schema : Schema) (field : FieldType) (values : ValueList) (packed : Bool) → field.card ≡ cards.Repeated packed → held_text schema field (Many values) ≡ many_text schema field values packed
many_is schema field values packed card = ap (λ c. many_text schema field values (is_packed c)) card

pub no_values_text : (schema : Schema) (field : FieldType) (packed : Bool) (values : ValueListWith (List (List ℕ))) → length (values_in_list values) ≡ 0 → [] ≡ many_text schema field (values_map concat values) packed
no_values_text schema field true NoValues none = refl
no_values_text schema field false NoValues none = refl
no_values_text schema field packed (ValueAnd value values) none = absurd (omega (arith, none))

-- the value before an index, by its slot
pub value_of : (schema : Schema) (places : Places) (buffers : Buffers) (type : ValueType) (elements : List ℕ) (values : ValueListWith (List (List ℕ))) (feet : List Foot) (i count size : ℕ) → ValuesStand schema places buffers type elements values feet → length (values_in_list values) ≡ count → 0 < i → i ≤ count → size ≡ slot_of type
    → (value : ValueWith (List (List ℕ))) × (own : List Foot) × (slice_get (values_in_list values) (i - 1) ≡ Some value) × ValueStands schema places buffers type (part ((i - 1) * size) (slot_of type) elements) value own
value_of schema places buffers type elements values feet i count size stand counted some within is =
    let at = values_at schema places buffers type elements values feet (i - 1) stand (omega (arith, counted, some, within)) in
    (at.0, at.1, at.2, subst (λ n. ValueStands schema places buffers type (part ((i - 1) * n) (slot_of type) elements) at.0 at.1) (sym is) at.3)

-- the place of an element among so many
pub index_small : (i count size : ℕ) (kind : Kind) → i < count → count ≤ 2 ^ 26 → size ≡ slot_of (value_type_of kind) → i * size < 2 ^ 31
index_small i count size kind less most is = omega (arith, mul_le i (2 ^ 26) size (omega (arith, less, most)), is, slot_small kind)

-- the value at an index, by its slot
pub value_here : (schema : Schema) (places : Places) (buffers : Buffers) (type : ValueType) (elements : List ℕ) (values : ValueListWith (List (List ℕ))) (feet : List Foot) → ValuesStand schema places buffers type elements values feet → (i count size : ℕ) → length (values_in_list values) ≡ count → i < count → size ≡ slot_of type
    → (value : ValueWith (List (List ℕ))) × (own : List Foot) × (slice_get (values_in_list values) i ≡ Some value) × ValueStands schema places buffers type (part (i * size) (slot_of type) elements) value own
value_here schema places buffers type elements values feet stand i count size counted less is =
    let at = values_at schema places buffers type elements values feet i stand (omega (arith, counted, less)) in
    (at.0, at.1, at.2, subst (λ n. ValueStands schema places buffers type (part (i * n) (slot_of type) elements) at.0 at.1) (sym is) at.3)
