-- The bytes of a message give one shape, on one list of feet.
use Rattle.std.proofs.Common.{◌≡◌, ◌≤◌, ◌<◌, ℕ, zero, suc, Bool, List, [], ◌∷◌, ◌++◌, Option, None, Some, length, take, drop, replicate, true≢false, refl, sym, ap, ap₂, ◌∙◌, subst, arith}
use Rattle.std.specs.List.{AllByRecursion}
use Rattle.std.proofs.lemmas.Option.{same_Some}
use Rattle.arena_mem.specs.declared.place.Place.{Place}
use Rattle.arena_mem.specs.Places.{Places, Buffers}
use Rattle.pb_schema.specs.declared.kind.Card.{Card}
use Rattle.pb_schema.specs.declared.kind.Card.TheVariants as cards
use Rattle.pb_schema.specs.declared.schema.MessageType.{MessageType}
use Rattle.pb_schema.specs.declared.schema.Schema.{Schema}
use Rattle.pb_schema.specs.Kinds.{ValueType, Scalar, Characters, Octets, Nested, value_type_of, slot_of}
use Rattle.pb_schema.specs.Tree.{ValueWith, Number, Bytes, Sub, HeldWith, Nothing, One, Many, Shape, Message, ValueListWith, NoValues, ValueAnd, HeldListWith, NoFields, FieldAnd, values_in_list}
use Rattle.msg_layout.specs.declared.entry.Entry.{Entry}
use Rattle.msg_layout.specs.Slots.{array_slot, slot_bytes}
use Rattle.msg_layout.specs.Layout.{layout_of, layout_among}
use Rattle.dyn_message.specs.Feet.{Foot, InPlace}
use Rattle.dyn_message.specs.Slots.{word, place_in, number_in, slot_in, told_in, part, IsZero, MayBeSet, MayBeUnset}
use Rattle.dyn_message.specs.Strings.{IsShort, HoldsBytes, NoBytes, ShortBytes, LongBytes}
use Rattle.dyn_message.specs.Arrays.{HoldsArray, NoElements, Elements}
use Rattle.dyn_message.specs.Fields.{IsNumberType, IsBytesType, IsMessageType}
use Rattle.dyn_message.specs.Stands.{IsSingle, IsList, IsLink, HoldsNumber, MayHold, PiecesStand, IsMessage, ValueStands, HeldStands, ValuesStand, FieldsStand, MessageStands}
use Rattle.dyn_message.proofs.Entries.{Suits, all_suit}
use Rattle.dyn_message.proofs.Opening.{both, number_plain, untold_implicit, holds_number, zeros_in}
use Rattle.dyn_message.proofs.HeldBytes.{bytes_plain, bytes_slot, form_of_zeros, string_bytes_type}
use Rattle.dyn_message.proofs.Linking.{message_slot}
use Rattle.dyn_message.proofs.Words.{zero_link}

-- a value and its feet are another's
abbrev Same : {X : Type 0} → X → X → List Foot → List Foot → Type 0
Same x y feet others = (x ≡ y) × (feet ≡ others)

-- KINDS OF VALUES

number_type : (type : ValueType) (slot : List ℕ) (p : ℕ) → HoldsNumber type slot p → IsNumberType type
number_type (Scalar coding) slot p h = tt
number_type Characters slot p h = h
number_type Octets slot p h = h
number_type (Nested type_no) slot p h = h

link_type : (P : ℕ → Type 0) (type : ValueType) → IsLink P type → IsMessageType type
link_type P (Scalar coding) h = h
link_type P Characters h = h
link_type P Octets h = h
link_type P (Nested type_no) h = tt

number_or_bytes : (type : ValueType) → IsNumberType type → IsBytesType type → ⊥
number_or_bytes (Scalar coding) number bytes = bytes
number_or_bytes Characters number bytes = number
number_or_bytes Octets number bytes = number
number_or_bytes (Nested type_no) number bytes = number

number_or_message : (type : ValueType) → IsNumberType type → IsMessageType type → ⊥
number_or_message (Scalar coding) number message = message
number_or_message Characters number message = number
number_or_message Octets number message = number
number_or_message (Nested type_no) number message = number

bytes_or_message : (type : ValueType) → IsBytesType type → IsMessageType type → ⊥
bytes_or_message (Scalar coding) bytes message = bytes
bytes_or_message Characters bytes message = message
bytes_or_message Octets bytes message = message
bytes_or_message (Nested type_no) bytes message = bytes

may_single : (card : Card) (value : ValueWith (List (List ℕ))) → MayHold card value → IsList card → ⊥
may_single cards.Implicit value may list = list
may_single cards.Explicit value may list = list
may_single (cards.Member oneof) value may list = list
may_single (cards.Repeated packed) value may list = may

-- BYTES AND LISTS

-- no elements are a slot of zeros
array_form : (slot : List ℕ) → IsZero 24 slot → word 5 slot ≡ 3 → ⊥
array_form slot zeros form = omega (arith, form, form_of_zeros slot zeros)

module _ (places : Places) (buffers : Buffers) where
  short_one : (slot s u : List ℕ) → IsShort places slot s → IsShort places slot u → s ≡ u
  short_one slot s u one other =
      sym one.front ∙ ap₂ take (sym one.count ∙ other.count) (same_Some one.was other.was (sym one.there ∙ other.there)) ∙ other.front

  pub bytes_one : (slot s u : List ℕ) (feet others : List Foot) → HoldsBytes places buffers slot s feet → HoldsBytes places buffers slot u others → Same s u feet others
  bytes_one slot s u feet others (NoBytes none zeros are) (NoBytes none' zeros' are') = (none ∙ sym none', are ∙ sym are')
  bytes_one slot s u feet others (NoBytes none zeros are) (ShortBytes short are') = absurd (omega (arith, short.form, form_of_zeros slot zeros))
  bytes_one slot s u feet others (NoBytes none zeros are) (LongBytes long are') = absurd (omega (arith, long.form, form_of_zeros slot zeros))
  bytes_one slot s u feet others (ShortBytes short are) (NoBytes none' zeros' are') = absurd (omega (arith, short.form, form_of_zeros slot zeros'))
  bytes_one slot s u feet others (ShortBytes short are) (ShortBytes short' are') = (short_one slot s u short short', are ∙ sym are')
  bytes_one slot s u feet others (ShortBytes short are) (LongBytes long' are') = absurd (omega (arith, short.form, long'.form))
  bytes_one slot s u feet others (LongBytes long are) (NoBytes none' zeros' are') = absurd (omega (arith, long.form, form_of_zeros slot zeros'))
  bytes_one slot s u feet others (LongBytes long are) (ShortBytes short' are') = absurd (omega (arith, long.form, short'.form))
  bytes_one slot s u feet others (LongBytes long are) (LongBytes long' are') = (same_Some s u (sym long.there ∙ long'.there), are ∙ sym are')

  -- what its elements are is all that a list is
  array_one : {E E' : List ℕ → List Foot → Type 0} {X : Type 0} (x y : X) (size count other : ℕ) (slot : List ℕ) (feet others : List Foot)
      → (count ≡ 0 → other ≡ 0 → x ≡ y)
      → ((bytes : List ℕ) (behind behind' : List Foot) → count ≡ other → E bytes behind → E' bytes behind' → Same x y behind behind')
      → HoldsArray E places size count slot feet → HoldsArray E' places size other slot others → Same x y feet others
  array_one x y size count other slot feet others none each (NoElements empty zeros are) (NoElements empty' zeros' are') = (none empty empty', are ∙ sym are')
  array_one x y size count other slot feet others none each (NoElements empty zeros are) (Elements b) = absurd (array_form slot zeros b.form)
  array_one x y size count other slot feet others none each (Elements a) (NoElements empty' zeros' are') = absurd (array_form slot zeros' a.form)
  array_one {E' = E'} x y size count other slot feet others none each (Elements a) (Elements b) =
      let bytes_are : b.bytes ≡ a.bytes = same_Some b.bytes a.bytes (sym b.there ∙ a.there) in
      let same : Same x y a.behind b.behind = each a.bytes a.behind b.behind (sym a.counted ∙ b.counted) a.elements (subst (λ bytes. E' bytes b.behind) bytes_are b.elements) in
      (same.0, a.feet_are ∙ ap (λ behind. InPlace (place_in slot) ∷ behind) same.1 ∙ sym b.feet_are)

  -- two parts, each of which is another's
  split_one : {X Y Z : Type 0} (join : X → Y → Z) (x x' : X) (y y' : Y) (feet feet' own own' rest rest' : List Foot) → feet ≡ own ++ rest → feet' ≡ own' ++ rest'
      → Same x x' own own' → Same y y' rest rest' → Same (join x y) (join x' y') feet feet'
  split_one join x x' y y' feet feet' own own' rest rest' are are' one more =
      (ap₂ join one.0 more.0, are ∙ ap₂ (λ (a b : List Foot). a ++ b) one.1 more.1 ∙ sym are')

  pieces_one : (bytes : List ℕ) (pieces others : List (List ℕ)) (feet feet' : List Foot) → length pieces ≡ length others
      → PiecesStand places buffers bytes pieces feet → PiecesStand places buffers bytes others feet' → Same pieces others feet feet'
  pieces_one bytes [] [] feet feet' count h h' = (refl, h ∙ sym h')
  pieces_one bytes [] (y ∷ ys) feet feet' count h h' = absurd (omega (arith, count))
  pieces_one bytes (x ∷ xs) [] feet feet' count h h' = absurd (omega (arith, count))
  pieces_one bytes (x ∷ xs) (y ∷ ys) feet feet' count h h' =
      split_one (λ (a : List ℕ) (b : List (List ℕ)). a ∷ b) x y xs ys feet feet' h.own h'.own h.rest h'.rest h.are h'.are
      (bytes_one (take array_slot bytes) x y h.own h'.own h.first.holds h'.first.holds)
      (pieces_one (drop array_slot bytes) xs ys h.rest h'.rest (omega (arith, count)) h.second h'.second)

no_pieces : (pieces others : List (List ℕ)) → length pieces ≡ 0 → length others ≡ 0 → pieces ≡ others
no_pieces [] [] none none' = refl
no_pieces [] (y ∷ ys) none none' = absurd (omega (arith, none'))
no_pieces (x ∷ xs) others none none' = absurd (omega (arith, none))

no_values : (values others : ValueListWith (List (List ℕ))) → length (values_in_list values) ≡ 0 → length (values_in_list others) ≡ 0 → values ≡ others
no_values NoValues NoValues none none' = refl
no_values NoValues (ValueAnd value more) none none' = absurd (omega (arith, none'))
no_values (ValueAnd value more) others none none' = absurd (omega (arith, none))

-- NOTHING, OR A VALUE

-- a record is longer than nothing
some_size : (types : List MessageType) (type_no : ℕ) → type_no < length types → 1 ≤ (layout_among types type_no).size
some_size [] type_no known = absurd (omega (arith, known))
some_size (type ∷ types) zero known = omega arith
some_size (type ∷ types) (suc type_no) known = some_size types type_no (omega (arith, known))

module _ (schema : Schema) (places : Places) (buffers : Buffers) where
  no_message : (type_no : ℕ) (p : Place) (t : Shape) (feet : List Foot) → MessageStands schema places buffers type_no p t feet → p.len ≡ 0 → ⊥
  no_message type_no p (Message held pieces) feet m none = omega (arith, none, m.len, some_size schema.types type_no m.type)

  zero_link_or_message : (type : ValueType) (slot : List ℕ) (t : Shape) (feet : List Foot) → IsZero 16 slot → IsLink (λ type_no. MessageStands schema places buffers type_no (place_in slot) t feet) type → ⊥
  zero_link_or_message (Nested type_no) slot t feet zeros m = no_message type_no (place_in slot) t feet m (ap (λ s. (place_in s).len) zeros ∙ zero_link)
  zero_link_or_message (Scalar coding) slot t feet zeros m = m
  zero_link_or_message Characters slot t feet zeros m = m
  zero_link_or_message Octets slot t feet zeros m = m

  zeros_or_bytes : (slot s : List ℕ) (feet : List Foot) → IsZero 24 slot → 1 ≤ length s → HoldsBytes places buffers slot s feet → ⊥
  zeros_or_bytes slot s feet zeros some (NoBytes none zeros' are) = omega (arith, some, ap length none)
  zeros_or_bytes slot s feet zeros some (ShortBytes short are) = omega (arith, short.form, form_of_zeros slot zeros)
  zeros_or_bytes slot s feet zeros some (LongBytes long are) = omega (arith, long.form, form_of_zeros slot zeros)

  -- where no mark tells that a field is set, zeros hold no value that it may have
  zeros_or_value : (entry : Entry) (bytes slot : List ℕ) (value : ValueWith (List (List ℕ))) (own : List Foot) → Suits entry → IsSingle entry.field.card → told_in entry bytes ≡ None → IsZero (slot_bytes entry.field) slot
      → MayHold entry.field.card value → ValueStands schema places buffers (value_type_of entry.field.kind) slot value own → ⊥
  zeros_or_value entry bytes slot (Number p) own suits single untold zeros may h =
      let type = number_type (value_type_of entry.field.kind) slot p h.0 in
      let implicit = untold_implicit entry bytes suits single (number_plain (value_type_of entry.field.kind) type) untold in
      let some : 1 ≤ p = subst (λ c. MayHold {U = List (List ℕ)} c (Number p)) implicit may in
      let none : number_in slot ≡ 0 = ap number_in zeros ∙ zeros_in (slot_bytes entry.field) in
      omega (arith, some, none, holds_number (value_type_of entry.field.kind) slot p h.0)
  zeros_or_value entry bytes slot (Bytes s) own suits single untold zeros may h =
      let type = string_bytes_type (value_type_of entry.field.kind) s h.kind in
      let implicit = untold_implicit entry bytes suits single (bytes_plain (value_type_of entry.field.kind) type) untold in
      let some : 1 ≤ length s = subst (λ c. MayHold {U = List (List ℕ)} c (Bytes s)) implicit may in
      zeros_or_bytes slot s own (zeros ∙ ap (λ k. replicate k 0) (bytes_slot entry.field single type)) some h.holds
  zeros_or_value entry bytes slot (Sub t) own suits single untold zeros may h =
      let type = link_type _ (value_type_of entry.field.kind) h in
      zero_link_or_message (value_type_of entry.field.kind) slot t own (zeros ∙ ap (λ k. replicate k 0) (message_slot entry.field single type)) h

  -- a field holds nothing or a value, and not both
  nothing_or_value : (entry : Entry) (bytes : List ℕ) (value : ValueWith (List (List ℕ))) (feet own : List Foot) → Suits entry
      → HeldStands schema places buffers entry.field (told_in entry bytes) (slot_in entry bytes) Nothing feet
      → HeldStands schema places buffers entry.field (told_in entry bytes) (slot_in entry bytes) (One value) own → ⊥
  nothing_or_value entry bytes value feet own suits none one = by_told (told_in entry bytes) refl none.1 one.1
    where
      by_told : (told : Option Bool) → told_in entry bytes ≡ told → MayBeUnset told → MayBeSet told → ⊥
      by_told None untold unset set = zeros_or_value entry bytes (slot_in entry bytes) value own suits none.0 untold none.2 one.0 one.2
      by_told (Some told) is unset set = true≢false (sym set ∙ unset)

  -- MESSAGES

  link_one : (P Q : ℕ → Type 0) (R : Type 0) (type : ValueType) → ((type_no : ℕ) → P type_no → Q type_no → R) → IsLink P type → IsLink Q type → R
  link_one P Q R (Nested type_no) each h h' = each type_no h h'
  link_one P Q R (Scalar coding) each h h' = absurd h
  link_one P Q R Characters each h h' = absurd h
  link_one P Q R Octets each h h' = absurd h

  message_one_with : {F F' : List ℕ → List Foot → Type 0} (type_no : ℕ) (p : Place) (fields fields' : HeldListWith (List (List ℕ))) (pieces pieces' : List (List ℕ)) (feet feet' : List Foot)
      → ((bytes : List ℕ) (rest rest' : List Foot) → F bytes rest → F' bytes rest' → Same fields fields' rest rest')
      → IsMessage F schema places buffers type_no p pieces feet → IsMessage F' schema places buffers type_no p pieces' feet'
      → Same (Message fields pieces) (Message fields' pieces') feet feet'
  message_one_with {F' = F'} type_no p fields fields' pieces pieces' feet feet' each m n =
      let bytes_are : n.bytes ≡ m.bytes = same_Some n.bytes m.bytes (sym n.there ∙ m.there) in
      let unknown : Same pieces pieces' m.holds.own n.holds.own =
      array_one places buffers pieces pieces' array_slot (length pieces) (length pieces') (part (layout_of schema type_no).unknown array_slot m.bytes) m.holds.own n.holds.own
      (no_pieces pieces pieces')
      (λ bytes behind behind' count h h'. pieces_one places buffers bytes pieces pieces' behind behind' count h h')
      m.holds.first
      (subst (λ bytes. HoldsArray (λ elements more. PiecesStand places buffers elements pieces' more) places array_slot (length pieces') (part (layout_of schema type_no).unknown array_slot bytes) n.holds.own) bytes_are n.holds.first) in
      let known : Same fields fields' m.holds.rest n.holds.rest = each m.bytes m.holds.rest n.holds.rest m.holds.second (subst (λ bytes. F' bytes n.holds.rest) bytes_are n.holds.second) in
      let whole = split_one places buffers (λ (a : List (List ℕ)) (b : HeldListWith (List (List ℕ))). Message b a) pieces pieces' fields fields' m.behind n.behind m.holds.own n.holds.own m.holds.rest n.holds.rest m.holds.are n.holds.are unknown known in
      (whole.0, m.feet_are ∙ ap (λ behind. InPlace p ∷ behind) whole.1 ∙ sym n.feet_are)

  mutual
    value_one : (type : ValueType) (slot : List ℕ) (value other : ValueWith (List (List ℕ))) (feet others : List Foot) → ValueStands schema places buffers type slot value feet → ValueStands schema places buffers type slot other others → Same value other feet others
    value_one type slot (Number p) (Number q) feet others h h' = (ap Number (sym (holds_number type slot p h.0) ∙ holds_number type slot q h'.0), h.1 ∙ sym h'.1)
    value_one type slot (Number p) (Bytes u) feet others h h' = absurd (number_or_bytes type (number_type type slot p h.0) (string_bytes_type type u h'.kind))
    value_one type slot (Number p) (Sub u) feet others h h' = absurd (number_or_message type (number_type type slot p h.0) (link_type _ type h'))
    value_one type slot (Bytes s) (Number q) feet others h h' = absurd (number_or_bytes type (number_type type slot q h'.0) (string_bytes_type type s h.kind))
    value_one type slot (Bytes s) (Bytes u) feet others h h' = let same = bytes_one places buffers slot s u feet others h.holds h'.holds in (ap Bytes same.0, same.1)
    value_one type slot (Bytes s) (Sub u) feet others h h' = absurd (bytes_or_message type (string_bytes_type type s h.kind) (link_type _ type h'))
    value_one type slot (Sub t) (Number q) feet others h h' = absurd (number_or_message type (number_type type slot q h'.0) (link_type _ type h))
    value_one type slot (Sub t) (Bytes u) feet others h h' = absurd (bytes_or_message type (string_bytes_type type u h'.kind) (link_type _ type h))
    value_one type slot (Sub t) (Sub u) feet others h h' =
        let same = link_one _ _ (Same t u feet others) type (λ type_no m n. message_one type_no (place_in slot) t u feet others m n) h h' in
        (ap Sub same.0, same.1)

    held_one : (entry : Entry) (bytes : List ℕ) (held other : HeldWith (List (List ℕ))) (feet others : List Foot) → Suits entry
        → HeldStands schema places buffers entry.field (told_in entry bytes) (slot_in entry bytes) held feet
        → HeldStands schema places buffers entry.field (told_in entry bytes) (slot_in entry bytes) other others → Same held other feet others
    held_one entry bytes Nothing Nothing feet others suits h h' = (refl, h.3 ∙ sym h'.3)
    held_one entry bytes Nothing (One other) feet others suits h h' = absurd (nothing_or_value entry bytes other feet others suits h h')
    held_one entry bytes Nothing (Many more) feet others suits h h' = absurd (both entry.field.card h.0 h'.0)
    held_one entry bytes (One value) Nothing feet others suits h h' = absurd (nothing_or_value entry bytes value others feet suits h' h)
    held_one entry bytes (One value) (One other) feet others suits h h' =
        let same = value_one (value_type_of entry.field.kind) (slot_in entry bytes) value other feet others h.2 h'.2 in
        (ap One same.0, same.1)
    held_one entry bytes (One value) (Many more) feet others suits h h' = absurd (may_single entry.field.card value h.0 h'.0)
    held_one entry bytes (Many values) Nothing feet others suits h h' = absurd (both entry.field.card h'.0 h.0)
    held_one entry bytes (Many values) (One other) feet others suits h h' = absurd (may_single entry.field.card other h'.0 h.0)
    held_one entry bytes (Many values) (Many more) feet others suits h h' =
        let same = array_one places buffers values more (slot_of (value_type_of entry.field.kind)) (length (values_in_list values)) (length (values_in_list more)) (slot_in entry bytes) feet others
        (no_values values more)
        (λ elements behind behind' count g g'. values_one (value_type_of entry.field.kind) elements values more behind behind' count g g')
        h.1
        h'.1 in
        (ap Many same.0, same.1)

    values_one : (type : ValueType) (bytes : List ℕ) (values more : ValueListWith (List (List ℕ))) (feet others : List Foot) → length (values_in_list values) ≡ length (values_in_list more)
        → ValuesStand schema places buffers type bytes values feet → ValuesStand schema places buffers type bytes more others → Same values more feet others
    values_one type bytes NoValues NoValues feet others count h h' = (refl, h ∙ sym h')
    values_one type bytes NoValues (ValueAnd other more) feet others count h h' = absurd (omega (arith, count))
    values_one type bytes (ValueAnd value values) NoValues feet others count h h' = absurd (omega (arith, count))
    values_one type bytes (ValueAnd value values) (ValueAnd other more) feet others count h h' =
        split_one places buffers ValueAnd value other values more feet others h.own h'.own h.rest h'.rest h.are h'.are
        (value_one type (take (slot_of type) bytes) value other h.own h'.own h.first h'.first)
        (values_one type (drop (slot_of type) bytes) values more h.rest h'.rest (omega (arith, count)) h.second h'.second)

    fields_one : (bytes : List ℕ) (entries : List Entry) (held other : HeldListWith (List (List ℕ))) (feet others : List Foot) → AllByRecursion Suits entries
        → FieldsStand schema places buffers bytes entries held feet → FieldsStand schema places buffers bytes entries other others → Same held other feet others
    fields_one bytes [] NoFields NoFields feet others suits h h' = (refl, h ∙ sym h')
    fields_one bytes [] NoFields (FieldAnd first' more') feet others suits h h' = absurd h'
    fields_one bytes [] (FieldAnd first more) other feet others suits h h' = absurd h
    fields_one bytes (entry ∷ entries) NoFields other feet others suits h h' = absurd h
    fields_one bytes (entry ∷ entries) (FieldAnd first more) NoFields feet others suits h h' = absurd h'
    fields_one bytes (entry ∷ entries) (FieldAnd first more) (FieldAnd first' more') feet others suits h h' =
        split_one places buffers FieldAnd first first' more more' feet others h.own h'.own h.rest h'.rest h.are h'.are
        (held_one entry bytes first first' h.own h'.own suits.0 h.first h'.first)
        (fields_one bytes entries more more' h.rest h'.rest suits.1 h.second h'.second)

    pub message_one : (type_no : ℕ) (p : Place) (t u : Shape) (feet others : List Foot) → MessageStands schema places buffers type_no p t feet → MessageStands schema places buffers type_no p u others → Same t u feet others
    message_one type_no p (Message fields pieces) (Message fields' pieces') feet others m n =
        message_one_with type_no p fields fields' pieces pieces' feet others
        (λ bytes rest rest' h h'. fields_one bytes (layout_of schema type_no).entries fields fields' rest rest' (all_suit schema type_no) h h')
        m n
