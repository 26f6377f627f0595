-- What a message stands on is live or kept, and is no more than its units say.
use Rattle.std.proofs.Common.{◌≡◌, ◌+◌, ◌≤◌, ℕ, zero, suc, Bool, cond, List, [], ◌∷◌, Option, Some, length, take, drop, refl, sym, ap, subst, ⊎_elim, arith}
use Rattle.std.specs.Prelude.{IsSome}
use Rattle.std.proofs.lemmas.Bool.{cases_Bool}
use Rattle.arena_mem.specs.declared.place.Place.{Place}
use Rattle.arena_mem.specs.Places.{Places, Buffers}
use Rattle.pb_schema.specs.declared.kind.FieldType.{FieldType}
use Rattle.pb_schema.specs.declared.schema.Schema.{Schema}
use Rattle.pb_schema.specs.Kinds.{ValueType, Scalar, Characters, Octets, Nested, value_type_of, slot_of}
use Rattle.pb_schema.specs.Tree.{ValueWith, Number, Bytes, Sub, HeldWith, Nothing, One, Many, Shape, Message, ValueListWith, NoValues, ValueAnd, HeldListWith, NoFields, FieldAnd, values_in_list}
use Rattle.msg_layout.specs.declared.entry.Entry.{Entry}
use Rattle.msg_layout.specs.Slots.{array_slot}
use Rattle.msg_layout.specs.Layout.{layout_of}
use Rattle.dyn_message.specs.Feet.{Foot, InPlace, same_foot, times, AreThere, Split, foot_bytes}
use Rattle.dyn_message.specs.Slots.{place_in, slot_in, told_in, part}
use Rattle.dyn_message.specs.Strings.{HoldsBytes, NoBytes, ShortBytes, LongBytes}
use Rattle.dyn_message.specs.Arrays.{HoldsArray, NoElements, Elements}
use Rattle.dyn_message.specs.Stands.{IsLink, PiecesStand, IsMessage, ValueStands, HeldStands, ValuesStand, FieldsStand, MessageStands}
use Rattle.dyn_message.proofs.Counting.{times_parts, foot_same}

module _ (schema : Schema) (places : Places) (buffers : Buffers) where
  abbrev There : List Foot → Type 0
  There feet = AreThere places buffers feet

  none_there : (feet : List Foot) → feet ≡ [] → There feet
  none_there feet are = λ foot among. absurd (omega (arith, among, ap (times foot) are))

  first_there : (first : Foot) (feet behind : List Foot) → feet ≡ first ∷ behind → IsSome (foot_bytes places buffers first) → There behind → There feet
  first_there first feet behind are some there = λ foot among. ⊎_elim
      (λ same. subst (λ f. IsSome (foot_bytes places buffers f)) (sym (foot_same foot first same)) some)
      (λ differs. there foot (omega (arith, among, ap (times foot) are, ap (λ (b : Bool). cond b (suc zero) zero) differs)))
      (cases_Bool (same_foot foot first))

  parts_there : {First Second : List Foot → Type 0} (feet : List Foot) (s : Split First Second feet) → There s.own → There s.rest → There feet
  parts_there feet s own rest = λ foot among. by_part foot among (times_parts foot feet s.own s.rest s.are) (times foot s.own) refl
    where
      by_part : (foot : Foot) → 1 ≤ times foot feet → times foot feet ≡ times foot s.own + times foot s.rest → (n : ℕ) → n ≡ times foot s.own → IsSome (foot_bytes places buffers foot)
      by_part foot among sum zero is = rest foot (omega (arith, among, sum, is))
      by_part foot among sum (suc n) is = own foot (omega (arith, is))

  some_found : {A : Type 0} (o : Option A) (x : A) → o ≡ Some x → IsSome o
  some_found o x is = subst IsSome (sym is) refl

  pub bytes_there : (slot bytes : List ℕ) (feet : List Foot) → HoldsBytes places buffers slot bytes feet → There feet
  bytes_there slot bytes feet (NoBytes none zeros are) = none_there feet are
  bytes_there slot bytes feet (ShortBytes short are) = first_there _ feet [] are (some_found _ _ short.there) (none_there [] refl)
  bytes_there slot bytes feet (LongBytes long are) = first_there _ feet [] are (some_found _ _ long.there) (none_there [] refl)

  array_there : {E : List ℕ → List Foot → Type 0} (size count : ℕ) (slot : List ℕ) (feet : List Foot)
      → ((bytes : List ℕ) (behind : List Foot) → E bytes behind → There behind)
      → HoldsArray E places size count slot feet → There feet
  array_there size count slot feet each (NoElements none zeros are) = none_there feet are
  array_there size count slot feet each (Elements a) = first_there _ feet a.behind a.feet_are (some_found _ _ a.there) (each a.bytes a.behind a.elements)

  pieces_there : (bytes : List ℕ) (pieces : List (List ℕ)) (feet : List Foot) → PiecesStand places buffers bytes pieces feet → There feet
  pieces_there bytes [] feet h = none_there feet h
  pieces_there bytes (piece ∷ pieces) feet h = parts_there feet h
      (bytes_there (take array_slot bytes) piece h.own h.first.holds)
      (pieces_there (drop array_slot bytes) pieces h.rest h.second)

  link_there : (P : ℕ → Type 0) (Q : Type 0) (type : ValueType) → ((type_no : ℕ) → P type_no → Q) → IsLink P type → Q
  link_there P Q (Nested type_no) each h = each type_no h
  link_there P Q (Scalar coding) each h = absurd h
  link_there P Q Characters each h = absurd h
  link_there P Q Octets each h = absurd h

  message_there_with : {F : List ℕ → List Foot → Type 0} (type_no : ℕ) (p : Place) (pieces : List (List ℕ)) (feet : List Foot)
      → ((bytes : List ℕ) (rest : List Foot) → F bytes rest → There rest)
      → IsMessage F schema places buffers type_no p pieces feet → There feet
  message_there_with type_no p pieces feet each m =
      let holds = m.holds in
      first_there (InPlace p) feet m.behind m.feet_are (some_found _ _ m.there)
      (parts_there m.behind holds
      (array_there array_slot (length pieces) (part (layout_of schema type_no).unknown array_slot m.bytes) holds.own (λ bytes behind stand. pieces_there bytes pieces behind stand) holds.first)
      (each m.bytes holds.rest holds.second))

  mutual
    pub value_there : (type : ValueType) (slot : List ℕ) (value : ValueWith (List (List ℕ))) (feet : List Foot) → ValueStands schema places buffers type slot value feet → There feet
    value_there type slot (Number p) feet h = none_there feet h.1
    value_there type slot (Bytes s) feet h = bytes_there slot s feet h.holds
    value_there type slot (Sub t) feet h = link_there _ (There feet) type (λ type_no m. message_there type_no (place_in slot) t feet m) h

    pub held_there : (field : FieldType) (told : Option Bool) (slot : List ℕ) (held : HeldWith (List (List ℕ))) (feet : List Foot) → HeldStands schema places buffers field told slot held feet → There feet
    held_there field told slot Nothing feet h = none_there feet h.3
    held_there field told slot (One value) feet h = value_there (value_type_of field.kind) slot value feet h.2
    held_there field told slot (Many values) feet h = array_there (slot_of (value_type_of field.kind)) (length (values_in_list values)) slot feet (λ bytes behind stand. values_there (value_type_of field.kind) bytes values behind stand) h.1

    pub values_there : (type : ValueType) (bytes : List ℕ) (values : ValueListWith (List (List ℕ))) (feet : List Foot) → ValuesStand schema places buffers type bytes values feet → There feet
    values_there type bytes NoValues feet h = none_there feet h
    values_there type bytes (ValueAnd value values) feet h = parts_there feet h
        (value_there type (take (slot_of type) bytes) value h.own h.first)
        (values_there type (drop (slot_of type) bytes) values h.rest h.second)

    pub fields_there : (bytes : List ℕ) (entries : List Entry) (held : HeldListWith (List (List ℕ))) (feet : List Foot) → FieldsStand schema places buffers bytes entries held feet → There feet
    fields_there bytes [] NoFields feet h = none_there feet h
    fields_there bytes [] (FieldAnd held others) feet h = absurd h
    fields_there bytes (entry ∷ entries) NoFields feet h = absurd h
    fields_there bytes (entry ∷ entries) (FieldAnd held others) feet h = parts_there feet h
        (held_there entry.field (told_in entry bytes) (slot_in entry bytes) held h.own h.first)
        (fields_there bytes entries others h.rest h.second)

    pub message_there : (type_no : ℕ) (p : Place) (t : Shape) (feet : List Foot) → MessageStands schema places buffers type_no p t feet → There feet
    message_there type_no p (Message fields pieces) feet m = message_there_with type_no p pieces feet
        (λ bytes rest stand. fields_there bytes (layout_of schema type_no).entries fields rest stand) m
