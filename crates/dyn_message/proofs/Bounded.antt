-- A message stands on no more than twice its units.
use Rattle.std.proofs.Common.{◌≡◌, ◌+◌, ◌*◌, ◌≤◌, ℕ, Bool, List, [], ◌∷◌, Option, length, take, drop, ap, ◌∙◌, length-append, arith}
use Rattle.std.specs.List.{concat}
use Rattle.arena_mem.specs.declared.place.Place.{Place}
use Rattle.arena_mem.specs.Places.{Places, Buffers}
use Rattle.pb_schema.specs.declared.kind.FieldType.{FieldType}
use Rattle.pb_schema.specs.declared.schema.Schema.{Schema}
use Rattle.pb_schema.specs.Kinds.{ValueType, Scalar, Characters, Octets, Nested, value_type_of, slot_of}
use Rattle.pb_schema.specs.Units.{value_units, held_units, values_units, fields_units, tree_units}
use Rattle.pb_schema.specs.Tree.{ValueWith, Number, Bytes, Sub, HeldWith, Nothing, One, Many, Shape, Message, ValueListWith, NoValues, ValueAnd, HeldListWith, NoFields, FieldAnd, values_in_list}
use Rattle.msg_layout.specs.declared.entry.Entry.{Entry}
use Rattle.msg_layout.specs.Slots.{array_slot}
use Rattle.msg_layout.specs.Layout.{layout_of}
use Rattle.dyn_message.specs.Feet.{Foot, InPlace, Split}
use Rattle.dyn_message.specs.Slots.{place_in, slot_in, told_in, part}
use Rattle.dyn_message.specs.Strings.{HoldsBytes, NoBytes, ShortBytes, LongBytes}
use Rattle.dyn_message.specs.Arrays.{HoldsArray, NoElements, Elements}
use Rattle.dyn_message.specs.Stands.{IsLink, PiecesStand, IsMessage, ValueStands, HeldStands, ValuesStand, FieldsStand, MessageStands}

-- the size of what is unknown
abbrev pub bytes_of : List (List ℕ) → ℕ
bytes_of pieces = length (concat pieces)

bytes_more : (piece : List ℕ) (pieces : List (List ℕ)) → bytes_of (piece ∷ pieces) ≡ length piece + bytes_of pieces
bytes_more piece pieces = length-append piece (concat pieces)

module _ (schema : Schema) (places : Places) (buffers : Buffers) where
  no_feet : (feet : List Foot) → feet ≡ [] → length feet ≡ 0
  no_feet feet are = ap (λ (fs : List Foot). length fs) are

  one_first : (first : Foot) (feet behind : List Foot) → feet ≡ first ∷ behind → length feet ≡ 1 + length behind
  one_first first feet behind are = ap (λ (fs : List Foot). length fs) are ∙ omega arith

  parts_length : {First Second : List Foot → Type 0} (feet : List Foot) (s : Split First Second feet) → length feet ≡ length s.own + length s.rest
  parts_length feet s = ap (λ (fs : List Foot). length fs) s.are ∙ length-append s.own s.rest

  few_bytes : (slot bytes : List ℕ) (feet : List Foot) → HoldsBytes places buffers slot bytes feet → length feet ≤ 1
  few_bytes slot bytes feet (NoBytes none zeros are) = omega (arith, no_feet feet are)
  few_bytes slot bytes feet (ShortBytes short are) = omega (arith, one_first _ feet [] are)
  few_bytes slot bytes feet (LongBytes long are) = omega (arith, one_first _ feet [] are)

  -- a list with some elements has one place more than they
  few_array : {E : List ℕ → List Foot → Type 0} (size count most : ℕ) (slot : List ℕ) (feet : List Foot) → ((bytes : List ℕ) (behind : List Foot) → E bytes behind → length behind + count ≤ most)
      → HoldsArray E places size count slot feet → length feet ≤ most
  few_array size count most slot feet each (NoElements none zeros are) = omega (arith, no_feet feet are)
  few_array size count most slot feet each (Elements a) = omega (arith, one_first _ feet a.behind a.feet_are, each a.bytes a.behind a.elements, a.some)

  few_pieces : (bytes : List ℕ) (pieces : List (List ℕ)) (feet : List Foot) → PiecesStand places buffers bytes pieces feet → length feet + length pieces ≤ 2 * bytes_of pieces
  few_pieces bytes [] feet h = omega (arith, no_feet feet h)
  few_pieces bytes (piece ∷ pieces) feet h =
      omega (arith, parts_length feet h, few_bytes (take array_slot bytes) piece h.own h.first.holds, h.first.some, few_pieces (drop array_slot bytes) pieces h.rest h.second, bytes_more piece pieces)

  link_few : (P : ℕ → Type 0) (Q : Type 0) (type : ValueType) → ((type_no : ℕ) → P type_no → Q) → IsLink P type → Q
  link_few P Q (Nested type_no) each h = each type_no h
  link_few P Q (Scalar coding) each h = absurd h
  link_few P Q Characters each h = absurd h
  link_few P Q Octets each h = absurd h

  few_message_with : {F : List ℕ → List Foot → Type 0} (type_no : ℕ) (p : Place) (pieces : List (List ℕ)) (feet : List Foot) (most : ℕ)
      → ((bytes : List ℕ) (rest : List Foot) → F bytes rest → length rest ≤ most)
      → IsMessage F schema places buffers type_no p pieces feet → length feet + 1 ≤ 2 * (1 + bytes_of pieces) + most
  few_message_with type_no p pieces feet most each m =
      let holds = m.holds in
      let unknown = few_array array_slot (length pieces) (2 * bytes_of pieces) (part (layout_of schema type_no).unknown array_slot m.bytes) holds.own (λ bytes behind stand. few_pieces bytes pieces behind stand) holds.first in
      omega (arith, one_first (InPlace p) feet m.behind m.feet_are, parts_length m.behind holds, unknown, each m.bytes holds.rest holds.second)

  mutual
    few_value : (type : ValueType) (slot : List ℕ) (value : ValueWith (List (List ℕ))) (feet : List Foot) → ValueStands schema places buffers type slot value feet → length feet + 1 ≤ 2 * value_units bytes_of value
    few_value type slot (Number p) feet h = omega (arith, no_feet feet h.1)
    few_value type slot (Bytes s) feet h = omega (arith, few_bytes slot s feet h.holds)
    few_value type slot (Sub t) feet h = link_few _ (length feet + 1 ≤ 2 * tree_units bytes_of t) type (λ type_no m. few_message type_no (place_in slot) t feet m) h

    few_held : (field : FieldType) (told : Option Bool) (slot : List ℕ) (held : HeldWith (List (List ℕ))) (feet : List Foot) → HeldStands schema places buffers field told slot held feet → length feet ≤ 2 * held_units bytes_of held
    few_held field told slot Nothing feet h = omega (arith, no_feet feet h.3)
    few_held field told slot (One value) feet h = omega (arith, few_value (value_type_of field.kind) slot value feet h.2)
    few_held field told slot (Many values) feet h = few_array (slot_of (value_type_of field.kind)) (length (values_in_list values)) (2 * values_units bytes_of values) slot feet (λ bytes behind stand. few_values (value_type_of field.kind) bytes values behind stand) h.1

    few_values : (type : ValueType) (bytes : List ℕ) (values : ValueListWith (List (List ℕ))) (feet : List Foot) → ValuesStand schema places buffers type bytes values feet → length feet + length (values_in_list values) ≤ 2 * values_units bytes_of values
    few_values type bytes NoValues feet h = omega (arith, no_feet feet h)
    few_values type bytes (ValueAnd value values) feet h =
        omega (arith, parts_length feet h, few_value type (take (slot_of type) bytes) value h.own h.first, few_values type (drop (slot_of type) bytes) values h.rest h.second)

    few_fields : (bytes : List ℕ) (entries : List Entry) (held : HeldListWith (List (List ℕ))) (feet : List Foot) → FieldsStand schema places buffers bytes entries held feet → length feet ≤ 2 * fields_units bytes_of held
    few_fields bytes [] NoFields feet h = omega (arith, no_feet feet h)
    few_fields bytes [] (FieldAnd held others) feet h = absurd h
    few_fields bytes (entry ∷ entries) NoFields feet h = absurd h
    few_fields bytes (entry ∷ entries) (FieldAnd held others) feet h =
        omega (arith, parts_length feet h, few_held entry.field (told_in entry bytes) (slot_in entry bytes) held h.own h.first, few_fields bytes entries others h.rest h.second)

    pub few_message : (type_no : ℕ) (p : Place) (t : Shape) (feet : List Foot) → MessageStands schema places buffers type_no p t feet → length feet + 1 ≤ 2 * tree_units bytes_of t
    few_message type_no p (Message fields pieces) feet m =
        omega (arith, few_message_with type_no p pieces feet (2 * fields_units bytes_of fields) (λ bytes rest stand. few_fields bytes (layout_of schema type_no).entries fields rest stand) m)
