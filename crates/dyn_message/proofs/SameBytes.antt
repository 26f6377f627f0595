-- Standing depends on the bytes at the feet alone.
use Rattle.std.proofs.Common.{◌≡◌, ◌≤◌, ℕ, Bool, List, [], ◌∷◌, Option, length, take, drop, ap, ◌∙◌, arith}
use Rattle.std.specs.FinMap as map
use Rattle.arena_mem.specs.declared.place.Place.{Place}
use Rattle.arena_mem.specs.declared.place.Buffer.{Buffer}
use Rattle.arena_mem.specs.Places.{Places, Buffers}
use Rattle.pb_schema.specs.declared.kind.FieldType.{FieldType}
use Rattle.pb_schema.specs.declared.schema.Schema.{Schema}
use Rattle.pb_schema.specs.Kinds.{ValueType, Scalar, Characters, Octets, Nested, value_type_of, slot_of}
use Rattle.pb_schema.specs.Tree.{ValueWith, Number, Bytes, Sub, HeldWith, Nothing, One, Many, Shape, Message, ValueListWith, NoValues, ValueAnd, HeldListWith, NoFields, FieldAnd, values_in_list}
use Rattle.msg_layout.specs.declared.entry.Entry.{Entry}
use Rattle.msg_layout.specs.Slots.{array_slot}
use Rattle.msg_layout.specs.Layout.{layout_of}
use Rattle.dyn_message.specs.Feet.{Foot, InPlace, InBuffer, times, SameAt, Split}
use Rattle.dyn_message.specs.Slots.{place_in, buffer_in, slot_in, told_in, part}
use Rattle.dyn_message.specs.Strings.{HoldsBytes, NoBytes, ShortBytes, LongBytes}
use Rattle.dyn_message.specs.Arrays.{HoldsArray, NoElements, Elements}
use Rattle.dyn_message.specs.Stands.{IsLink, PiecesStand, IsMessage, ValueStands, HeldStands, ValuesStand, FieldsStand, MessageStands}
use Rattle.dyn_message.proofs.Counting.{times_parts, times_first}

-- each part of a split by itself
pub split_each : {First Second First' Second' : List Foot → Type 0} (feet : List Foot) → Split First Second feet
    → ((own : List Foot) → ((foot : Foot) → times foot own ≤ times foot feet) → First own → First' own)
    → ((rest : List Foot) → ((foot : Foot) → times foot rest ≤ times foot feet) → Second rest → Second' rest)
    → Split First' Second' feet
split_each feet s one two = record {
  own = s.own;
  rest = s.rest;
  are = s.are;
  first = one s.own (λ foot. omega (arith, times_parts foot feet s.own s.rest s.are)) s.first;
  second = two s.rest (λ foot. omega (arith, times_parts foot feet s.own s.rest s.are)) s.second;
}

module _ (schema : Schema) (places places' : Places) (buffers buffers' : Buffers) where
  abbrev Same : List Foot → Type 0
  Same feet = SameAt places buffers places' buffers' feet

  same_part : (feet part : List Foot) → Same feet → ((foot : Foot) → times foot part ≤ times foot feet) → Same part
  same_part feet part same few = λ foot among. same foot (omega (arith, among, few foot))

  -- a list that begins with the place
  same_first : (p : Place) (feet behind : List Foot) → feet ≡ InPlace p ∷ behind → Same feet → map.get places' p ≡ map.get places p
  same_first p feet behind are same =
      same (InPlace p) (omega (arith, ap (times (InPlace p)) are, times_first (InPlace p) behind))

  same_buffer_first : (b : Buffer) (feet behind : List Foot) → feet ≡ InBuffer b ∷ behind → Same feet → map.get buffers' b ≡ map.get buffers b
  same_buffer_first b feet behind are same =
      same (InBuffer b) (omega (arith, ap (times (InBuffer b)) are, times_first (InBuffer b) behind))

  same_behind : (foot : Foot) (feet behind : List Foot) → feet ≡ foot ∷ behind → Same feet → Same behind
  same_behind first feet behind are same = λ foot among. same foot (omega (arith, among, ap (times foot) are))

  pub bytes_same : (slot bytes : List ℕ) (feet : List Foot) → Same feet → HoldsBytes places buffers slot bytes feet → HoldsBytes places' buffers' slot bytes feet
  bytes_same slot bytes feet same (NoBytes none zeros are) = NoBytes none zeros are
  bytes_same slot bytes feet same (ShortBytes short are) =
      ShortBytes (record { form = short.form; count = short.count; some = short.some; few = short.few; room = short.room; was = short.was; there = same_first (place_in slot) feet [] are same ∙ short.there; front = short.front }) are
  bytes_same slot bytes feet same (LongBytes long are) = LongBytes (record { form = long.form; zero = long.zero; count = long.count; many = long.many; there = same_buffer_first (buffer_in slot) feet [] are same ∙ long.there }) are

  pub array_same : {E E' : List ℕ → List Foot → Type 0} (size count : ℕ) (slot : List ℕ) (feet : List Foot) → Same feet
      → ((bytes : List ℕ) (behind : List Foot) → Same behind → E bytes behind → E' bytes behind)
      → HoldsArray E places size count slot feet → HoldsArray E' places' size count slot feet
  array_same size count slot feet same each (NoElements none zeros are) = NoElements none zeros are
  array_same size count slot feet same each (Elements a) = Elements (record {
    form = a.form;
    counted = a.counted;
    some = a.some;
    most = a.most;
    doublings = a.doublings;
    enough = a.enough;
    least = a.least;
    room = a.room;
    bytes = a.bytes;
    there = same_first (place_in slot) feet a.behind a.feet_are same ∙ a.there;
    len = a.len;
    behind = a.behind;
    feet_are = a.feet_are;
    elements = each a.bytes a.behind (same_behind (InPlace (place_in slot)) feet a.behind a.feet_are same) a.elements;
  })

  pub pieces_same : (bytes : List ℕ) (pieces : List (List ℕ)) (feet : List Foot) → Same feet → PiecesStand places buffers bytes pieces feet → PiecesStand places' buffers' bytes pieces feet
  pieces_same bytes [] feet same h = h
  pieces_same bytes (piece ∷ pieces) feet same h = split_each feet h
      (λ own few piece_in. record { some = piece_in.some; short = piece_in.short; whole = piece_in.whole; holds = bytes_same (take array_slot bytes) piece own (same_part feet own same few) piece_in.holds })
      (λ rest few more. pieces_same (drop array_slot bytes) pieces rest (same_part feet rest same few) more)

  link_same : (P Q : ℕ → Type 0) (type : ValueType) → ((type_no : ℕ) → P type_no → Q type_no) → IsLink P type → IsLink Q type
  link_same P Q (Nested type_no) each h = each type_no h
  link_same P Q (Scalar coding) each h = h
  link_same P Q Characters each h = h
  link_same P Q Octets each h = h

  message_same_with : {F F' : List ℕ → List Foot → Type 0} (type_no : ℕ) (p : Place) (pieces : List (List ℕ)) (feet : List Foot) → Same feet
      → ((bytes : List ℕ) (rest : List Foot) → Same rest → F bytes rest → F' bytes rest)
      → IsMessage F schema places buffers type_no p pieces feet → IsMessage F' schema places' buffers' type_no p pieces feet
  message_same_with type_no p pieces feet same each m = record {
    type = m.type;
    len = m.len;
    bytes = m.bytes;
    there = same_first p feet m.behind m.feet_are same ∙ m.there;
    size = m.size;
    behind = m.behind;
    feet_are = m.feet_are;
    holds =
        let same_rest = same_behind (InPlace p) feet m.behind m.feet_are same in
        split_each m.behind m.holds
        (λ own few unknown. array_same array_slot (length pieces) (part (layout_of schema type_no).unknown array_slot m.bytes) own (same_part m.behind own same_rest few)
        (λ bytes behind same_own stand. pieces_same bytes pieces behind same_own stand) unknown)
        (λ rest few fields. each m.bytes rest (same_part m.behind rest same_rest few) fields);
  }

  mutual
    pub value_same : (type : ValueType) (slot : List ℕ) (value : ValueWith (List (List ℕ))) (feet : List Foot) → Same feet → ValueStands schema places buffers type slot value feet → ValueStands schema places' buffers' type slot value feet
    value_same type slot (Number p) feet same h = h
    value_same type slot (Bytes s) feet same h = record { kind = h.kind; short = h.short; holds = bytes_same slot s feet same h.holds }
    value_same type slot (Sub t) feet same h = link_same _ _ type (λ type_no m. message_same type_no (place_in slot) t feet same m) h

    pub held_same : (field : FieldType) (told : Option Bool) (slot : List ℕ) (held : HeldWith (List (List ℕ))) (feet : List Foot) → Same feet → HeldStands schema places buffers field told slot held feet → HeldStands schema places' buffers' field told slot held feet
    held_same field told slot Nothing feet same h = h
    held_same field told slot (One value) feet same h = (h.0, h.1, value_same (value_type_of field.kind) slot value feet same h.2)
    held_same field told slot (Many values) feet same h =
        (h.0, array_same (slot_of (value_type_of field.kind)) (length (values_in_list values)) slot feet same (λ bytes behind same_behind stand. values_same (value_type_of field.kind) bytes values behind same_behind stand) h.1)

    pub values_same : (type : ValueType) (bytes : List ℕ) (values : ValueListWith (List (List ℕ))) (feet : List Foot) → Same feet → ValuesStand schema places buffers type bytes values feet → ValuesStand schema places' buffers' type bytes values feet
    values_same type bytes NoValues feet same h = h
    values_same type bytes (ValueAnd value values) feet same h = split_each feet h
        (λ own few first. value_same type (take (slot_of type) bytes) value own (same_part feet own same few) first)
        (λ rest few more. values_same type (drop (slot_of type) bytes) values rest (same_part feet rest same few) more)

    pub fields_same : (bytes : List ℕ) (entries : List Entry) (held : HeldListWith (List (List ℕ))) (feet : List Foot) → Same feet → FieldsStand schema places buffers bytes entries held feet → FieldsStand schema places' buffers' bytes entries held feet
    fields_same bytes [] NoFields feet same h = h
    fields_same bytes [] (FieldAnd held others) feet same h = h
    fields_same bytes (entry ∷ entries) NoFields feet same h = h
    fields_same bytes (entry ∷ entries) (FieldAnd held others) feet same h = split_each feet h
        (λ own few first. held_same entry.field (told_in entry bytes) (slot_in entry bytes) held own (same_part feet own same few) first)
        (λ rest few more. fields_same bytes entries others rest (same_part feet rest same few) more)

    pub message_same : (type_no : ℕ) (p : Place) (t : Shape) (feet : List Foot) → Same feet → MessageStands schema places buffers type_no p t feet → MessageStands schema places' buffers' type_no p t feet
    message_same type_no p (Message fields pieces) feet same m = message_same_with type_no p pieces feet same
        (λ bytes rest same_rest stand. fields_same bytes (layout_of schema type_no).entries fields rest same_rest stand) m
