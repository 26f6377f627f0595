-- A message's text has at least as many bytes as messages nest in it, since each costs a byte.
use Rattle.std.proofs.Common.{◌≡◌, ◌+◌, ◌≤◌, ℕ, suc, ◌/◌, ◌%◌, cond, ltb, Bool, true, false, List, [], ◌∷◌, ◌++◌, length, drop, take, ap, length-append, arith}
use Rattle.std.specs.List.{concat}
use Rattle.arena_mem.specs.Places.{Places, Buffers}
use Rattle.arena_mem.specs.declared.place.Place.{Place}
use Rattle.pb_schema.specs.declared.kind.FieldType.{FieldType}
use Rattle.pb_schema.specs.declared.schema.Schema.{Schema}
use Rattle.pb_schema.specs.Cards.{is_packed}
use Rattle.pb_schema.specs.Depth.{value_levels, held_levels, values_levels, fields_levels, depth_of}
use Rattle.pb_schema.specs.Fits.{fields_of, fields_of_value}
use Rattle.pb_schema.specs.Kinds.{ValueType, Scalar, Characters, Octets, Nested, value_type_of, slot_of}
use Rattle.pb_schema.specs.Tag.{tag_of}
use Rattle.pb_schema.specs.Text.{framed, packed_text, field_tag, value_text, held_text, values_text, fields_text, message_text}
use Rattle.pb_schema.specs.Varint.{groups, varint_of}
use Rattle.pb_schema.specs.Tree.{ValueWith, Number, Bytes, Sub, HeldWith, Nothing, One, Many, Shape, Message, ValueListWith, NoValues, ValueAnd, HeldListWith, NoFields, FieldAnd, values_in_list, value_map, held_map, values_map, fields_map, tree_map}
use Rattle.msg_layout.specs.declared.entry.Entry.{Entry}
use Rattle.msg_layout.specs.Layout.{layout_of}
use Rattle.dyn_message.specs.Arrays.{HoldsArray, NoElements, Elements}
use Rattle.dyn_message.specs.Feet.{Foot}
use Rattle.dyn_message.specs.Slots.{place_in, slot_in, told_in}
use Rattle.dyn_message.specs.Stands.{IsLink, ValueStands, ValuesStand, HeldStands, FieldsStand, MessageStands}
use Rattle.pb_write.proofs.Lists.{many_text}
use Rattle.pb_write.proofs.Records.{fields_are}
use Rattle.pb_write.specs.Puts.{fields_in}

some_bytes : (v : ℕ) → 1 ≤ length (varint_of v)
some_bytes v = pick (ltb v 128)
  where
    pick : (t : Bool) → 1 ≤ length (cond t (v ∷ []) ((v % 128 + 128) ∷ groups 8 (v / 128)))
    pick true = omega arith
    pick false = omega arith

framed_deep : (s : List ℕ) (levels : ℕ) → levels ≤ length s → suc levels ≤ length (framed s)
framed_deep s levels deep = omega (arith, deep, length-append (varint_of (length s)) s, some_bytes (length s))

link_deep : (schema : Schema) (P : ℕ → Type 0) (type : ValueType) (t : Shape) → ((n : ℕ) → P n → depth_of t ≤ length (message_text schema (fields_of schema n) (tree_map concat t))) → IsLink P type
    → suc (depth_of t) ≤ length (framed (message_text schema (fields_of_value schema type) (tree_map concat t)))
link_deep schema P (Scalar coding) t deep is = absurd is
link_deep schema P Characters t deep is = absurd is
link_deep schema P Octets t deep is = absurd is
link_deep schema P (Nested n) t deep is = framed_deep (message_text schema (fields_of schema n) (tree_map concat t)) (depth_of t) (deep n is)

packed_deep : (number levels : ℕ) (s : List ℕ) → levels ≤ length s → levels ≤ length (packed_text number s)
packed_deep number levels [] deep = deep
packed_deep number levels (b ∷ s) deep =
    omega (arith, deep, length-append (varint_of (tag_of number 2)) (framed (b ∷ s)), length-append (varint_of (length (b ∷ s))) (b ∷ s))

many_deep : (schema : Schema) (field : FieldType) (packed : Bool) (values : ValueListWith (List (List ℕ))) → ((front : List ℕ) → values_levels values ≤ length (values_text schema field front (values_map concat values)))
    → values_levels values ≤ length (many_text schema field (values_map concat values) packed)
many_deep schema field true values deep = packed_deep field.number (values_levels values) (values_text schema field [] (values_map concat values)) (deep [])
many_deep schema field false values deep = deep (field_tag field)

no_values_deep : {U : Type 0} (values : ValueListWith U) (n : ℕ) → length (values_in_list values) ≡ 0 → values_levels values ≤ n
no_values_deep NoValues n none = omega arith
no_values_deep (ValueAnd value values) n none = absurd (omega (arith, none))

array_deep : {E : List ℕ → List Foot → Type 0} {U : Type 0} (places : Places) (size : ℕ) (values : ValueListWith U) (slot : List ℕ) (feet : List Foot) (n : ℕ) → HoldsArray E places size (length (values_in_list values)) slot feet → ((bytes : List ℕ) (behind : List Foot) → E bytes behind → values_levels values ≤ n) → values_levels values ≤ n
array_deep places size values slot feet n (NoElements none zeros are) deep = no_values_deep values n none
array_deep places size values slot feet n (Elements a) deep = deep a.bytes a.behind a.elements

module _ (schema : Schema) (places : Places) (buffers : Buffers) where
  mutual
    value_deep : (field : FieldType) (slot : List ℕ) (value : ValueWith (List (List ℕ))) (own : List Foot) → ValueStands schema places buffers (value_type_of field.kind) slot value own → value_levels value ≤ length (value_text schema field (value_map concat value))
    value_deep field slot (Number p) own h = omega arith
    value_deep field slot (Bytes s) own h = omega arith
    value_deep field slot (Sub t) own h = link_deep schema (λ n. MessageStands schema places buffers n (place_in slot) t own) (value_type_of field.kind) t (λ n m. message_deep n (place_in slot) t own m) h

    held_deep : (entry : Entry) (bytes : List ℕ) (held : HeldWith (List (List ℕ))) (own : List Foot) → HeldStands schema places buffers entry.field (told_in entry bytes) (slot_in entry bytes) held own → held_levels held ≤ length (held_text schema entry.field (held_map concat held))
    held_deep entry bytes Nothing own h = omega arith
    held_deep entry bytes (One value) own h =
        let deep = value_deep entry.field (slot_in entry bytes) value own h.2 in
        omega (arith, deep, length-append (field_tag entry.field) (value_text schema entry.field (value_map concat value)))
    held_deep entry bytes (Many values) own h =
        many_deep schema entry.field (is_packed entry.field.card) values
        (λ front. array_deep places (slot_of (value_type_of entry.field.kind)) values (slot_in entry bytes) own (length (values_text schema entry.field front (values_map concat values))) h.1
        (λ elements behind stand. values_deep entry.field front elements values behind stand))

    values_deep : (field : FieldType) (front bytes : List ℕ) (values : ValueListWith (List (List ℕ))) (feet : List Foot) → ValuesStand schema places buffers (value_type_of field.kind) bytes values feet → values_levels values ≤ length (values_text schema field front (values_map concat values))
    values_deep field front bytes NoValues feet stand = omega arith
    values_deep field front bytes (ValueAnd value values) feet stand =
        let first = value_deep field (take (slot_of (value_type_of field.kind)) bytes) value stand.own stand.first in
        let later = values_deep field front (drop (slot_of (value_type_of field.kind)) bytes) values stand.rest stand.second in
        omega (arith, first, later, length-append (front ++ value_text schema field (value_map concat value)) (values_text schema field front (values_map concat values)), length-append front (value_text schema field (value_map concat value)))

    fields_deep : (bytes : List ℕ) (entries : List Entry) (held : HeldListWith (List (List ℕ))) (feet : List Foot) → FieldsStand schema places buffers bytes entries held feet → fields_levels held ≤ length (fields_text schema (fields_in entries) (fields_map concat held))
    fields_deep bytes [] NoFields feet stand = omega arith
    fields_deep bytes [] (FieldAnd held others) feet stand = absurd stand
    fields_deep bytes (entry ∷ entries) NoFields feet stand = absurd stand
    fields_deep bytes (entry ∷ entries) (FieldAnd held others) feet stand =
        let first = held_deep entry bytes held stand.own stand.first in
        let later = fields_deep bytes entries others stand.rest stand.second in
        omega (arith, first, later, length-append (held_text schema entry.field (held_map concat held)) (fields_text schema (fields_in entries) (fields_map concat others)))

    pub message_deep : (type_no : ℕ) (p : Place) (t : Shape) (feet : List Foot) → MessageStands schema places buffers type_no p t feet → depth_of t ≤ length (message_text schema (fields_of schema type_no) (tree_map concat t))
    message_deep type_no p (Message held pieces) feet m =
        let deep = fields_deep m.bytes (layout_of schema type_no).entries held m.holds.rest m.holds.second in
        let same = ap (λ fs. length (fields_text schema fs (fields_map concat held))) (fields_are schema type_no) in
        omega (arith, deep, same, length-append (fields_text schema (fields_of schema type_no) (fields_map concat held)) (concat pieces))
