-- What a part of a message counts for the whole: its units, and how deep it is.
use Rattle.std.proofs.Common.{◌≡◌, ◌+◌, ◌-◌, ◌^◌, ◌≤◌, ◌<◌, ℕ, zero, suc, List, [], ◌∷◌, length, take, drop, replicate, Some, refl, sym, ap, ◌∙◌, subst, length-append, arith}
use Rattle.std.specs.Prelude.{slice_get, min}
use Rattle.std.specs.List.{concat}
use Rattle.std.proofs.lemmas.Option.{same_Some}
use Rattle.arena_mem.specs.Places.{Places, Buffers}
use Rattle.pb_schema.specs.declared.schema.Schema.{Schema}
use Rattle.pb_schema.specs.Depth.{value_levels, held_levels, values_levels, fields_levels, depth_of}
use Rattle.pb_schema.specs.Fitted.{IsStringOf}
use Rattle.pb_schema.specs.Kinds.{ValueType, Scalar, Characters, Octets, Nested, slot_of}
use Rattle.pb_schema.specs.Tree.{ValueWith, Number, Bytes, Sub, HeldWith, Nothing, One, Many, Shape, Message, ValueListWith, NoValues, ValueAnd, HeldListWith, NoFields, FieldAnd, values_in_list}
use Rattle.pb_schema.specs.Units.{value_units, held_units, values_units, fields_units, tree_units}
use Rattle.pb_schema.proofs.MapLaws.{map_units}
use Rattle.msg_layout.specs.declared.entry.Entry.{Entry}
use Rattle.dyn_message.specs.Arrays.{HoldsArray, NoElements, Elements}
use Rattle.dyn_message.specs.Feet.{Foot}
use Rattle.dyn_message.specs.Fields.{IsNumberType}
use Rattle.dyn_message.specs.Slots.{word, slot_in, told_in}
use Rattle.dyn_message.specs.Stands.{IsLink, ValueStands, ValuesStand, HeldStands, FieldsStand}
use Rattle.dyn_message.specs.Strings.{HoldsBytes, NoBytes, ShortBytes, LongBytes}
use Rattle.pb_write.proofs.Parts.{fields_drop, values_drop, piece_text_at}
use Rattle.msg_merge.specs.Extents.{IsExtent, pieces_bytes, shape_units}
use Rattle.msg_merge.specs.declared.extent.Extent.{Extent}

pub extent_is : (u v l m : ℕ) (e : Extent) → u ≡ v → l ≡ m → IsExtent u l e → IsExtent v m e
extent_is u v l m e units levels is = record { units = is.units ∙ ap (λ n. min n (2 ^ 64 - 1)) units; levels = is.levels ∙ ap (λ n. min n (2 ^ 32 - 1)) levels }

-- FIELDS

-- the field at an index: what it holds stands, is no deeper than all, and comes before what the later ones hold
pub record FieldAt (schema : Schema) (places : Places) (buffers : Buffers) (bytes : List ℕ) (held : HeldListWith (List (List ℕ))) (i : ℕ) (entry : Entry) : Type 0 where
  pub one : HeldWith (List (List ℕ))
  pub own : List Foot
  pub stands : HeldStands schema places buffers entry.field (told_in entry bytes) (slot_in entry bytes) one own
  pub levels : held_levels one ≤ fields_levels held
  pub is : fields_drop i held ≡ FieldAnd one (fields_drop (suc i) held)

module _ (schema : Schema) (places : Places) (buffers : Buffers) (bytes : List ℕ) where
  pub field_at_index : (entries : List Entry) (held : HeldListWith (List (List ℕ))) (feet : List Foot) (i : ℕ) (entry : Entry) → FieldsStand schema places buffers bytes entries held feet → slice_get entries i ≡ Some entry → FieldAt schema places buffers bytes held i entry
  field_at_index [] NoFields feet i entry stand found = absurd (none i found)
    where
      none : (k : ℕ) → slice_get {X = Entry} [] k ≡ Some entry → ⊥
      none zero is = cc
      none (suc k) is = cc
  field_at_index [] (FieldAnd held others) feet i entry stand found = absurd stand
  field_at_index (first ∷ entries) NoFields feet i entry stand found = absurd stand
  field_at_index (first ∷ entries) (FieldAnd held others) feet zero entry stand found =
      subst (FieldAt schema places buffers bytes (FieldAnd held others) zero) (same_Some first entry found)
      (record { one = held; own = stand.own; stands = stand.first; levels = omega arith; is = refl })
  field_at_index (first ∷ entries) (FieldAnd held others) feet (suc i) entry stand found =
      let more = field_at_index entries others stand.rest i entry stand.second found in
      let deeper = more.levels in
      record { one = more.one; own = more.own; stands = more.stands; levels = omega (arith, deeper); is = more.is }

  -- there is none behind the last
  pub fields_end : (entries : List Entry) (held : HeldListWith (List (List ℕ))) (feet : List Foot) → FieldsStand schema places buffers bytes entries held feet → fields_drop (length entries) held ≡ NoFields
  fields_end [] NoFields feet stand = refl
  fields_end [] (FieldAnd held others) feet stand = absurd stand
  fields_end (first ∷ entries) NoFields feet stand = absurd stand
  fields_end (first ∷ entries) (FieldAnd held others) feet stand = fields_end entries others stand.rest stand.second

-- VALUES

pub value_at_index : {U : Type 0} (values : ValueListWith U) (i : ℕ) (value : ValueWith U) → slice_get (values_in_list values) i ≡ Some value → values_drop i values ≡ ValueAnd value (values_drop (suc i) values)
value_at_index NoValues zero value found = absurd cc
value_at_index NoValues (suc i) value found = absurd cc
value_at_index (ValueAnd first rest) zero value found = ap (λ v. ValueAnd v rest) (same_Some first value found)
value_at_index (ValueAnd first rest) (suc i) value found = value_at_index rest i value found

pub no_values_extent : (values : ValueListWith (List (List ℕ))) → length (values_in_list values) ≡ 0 → (0 ≡ values_units pieces_bytes values) × (0 ≡ values_levels values)
no_values_extent NoValues none = (refl, refl)
no_values_extent (ValueAnd value others) none = absurd (omega (arith, none))

-- NUMBERS

string_no : (type : ValueType) (s : List ℕ) → IsNumberType type → IsStringOf type s → ⊥
string_no (Scalar coding) s number h = h
string_no Characters s number h = number
string_no Octets s number h = number
string_no (Nested type_no) s number h = number

link_no : (P : ℕ → Type 0) (type : ValueType) → IsNumberType type → IsLink P type → ⊥
link_no P (Scalar coding) number h = h
link_no P Characters number h = h
link_no P Octets number h = h
link_no P (Nested type_no) number h = number

module _ (schema : Schema) (places : Places) (buffers : Buffers) (type : ValueType) (number : IsNumberType type) where
  pub number_units : (slot : List ℕ) (value : ValueWith (List (List ℕ))) (feet : List Foot) → ValueStands schema places buffers type slot value feet → (1 ≡ value_units pieces_bytes value) × (0 ≡ value_levels value)
  number_units slot (Number p) feet h = (refl, refl)
  number_units slot (Bytes s) feet h = absurd (string_no type s number h.kind)
  number_units slot (Sub t) feet h = absurd (link_no _ type number h)

  pub numbers_units : (bytes : List ℕ) (values : ValueListWith (List (List ℕ))) (feet : List Foot) → ValuesStand schema places buffers type bytes values feet → (length (values_in_list values) ≡ values_units pieces_bytes values) × (0 ≡ values_levels values)
  numbers_units bytes NoValues feet stand = (refl, refl)
  numbers_units bytes (ValueAnd value values) feet stand =
      let first = number_units (take (slot_of type) bytes) value stand.own stand.first in
      let later = numbers_units (drop (slot_of type) bytes) values stand.rest stand.second in
      (omega (arith, first.0, later.0), omega (arith, first.1, later.1))

  -- the same of the elements of an array
  pub array_numbers : {size : ℕ} (values : ValueListWith (List (List ℕ))) (slot : List ℕ) (feet : List Foot) → HoldsArray (λ bytes behind. ValuesStand schema places buffers type bytes values behind) places size (length (values_in_list values)) slot feet → (length (values_in_list values) ≡ values_units pieces_bytes values) × (0 ≡ values_levels values)
  array_numbers values slot feet (NoElements none zeros are) = let empty = no_values_extent values none in (none ∙ empty.0, empty.1)
  array_numbers values slot feet (Elements a) = numbers_units a.bytes values a.behind a.elements

-- TEXTS AND BYTES

zero_count : word 4 (replicate 24 0) ≡ 0
unfolding word
zero_count = refl

-- a slot tells how many bytes it has
pub bytes_counted : (places : Places) (buffers : Buffers) (slot s : List ℕ) (own : List Foot) → HoldsBytes places buffers slot s own → word 4 slot ≡ length s
bytes_counted places buffers slot s own (NoBytes none zeros are) = ap (word 4) zeros ∙ zero_count ∙ sym (ap (λ (l : List ℕ). length l) none)
bytes_counted places buffers slot s own (ShortBytes short are) = short.count
bytes_counted places buffers slot s own (LongBytes long are) = long.count

-- PIECES

pub piece_counts : (pieces : List (List ℕ)) (i : ℕ) (piece : List ℕ) → slice_get pieces i ≡ Some piece → pieces_bytes (drop i pieces) ≡ length piece + pieces_bytes (drop (suc i) pieces)
piece_counts pieces i piece found = ap (λ (l : List ℕ). length l) (piece_text_at pieces i piece found) ∙ length-append piece (concat (drop (suc i) pieces))

pub no_pieces : (pieces : List (List ℕ)) → length pieces ≡ 0 → pieces_bytes pieces ≡ 0
no_pieces [] none = refl
no_pieces (piece ∷ pieces) none = absurd (omega (arith, none))

-- a count that stands still at its end, with so much more
pub bytes_more : (total before len after next : ℕ) → total ≡ min before (2 ^ 64 - 1) → after ≡ len + before → next ≡ min (total + len) (2 ^ 64 - 1) → next ≡ min after (2 ^ 64 - 1)
bytes_more total before len after next was is more = omega (arith, was, is, more)

-- THE WHOLE

pub message_sizes : (t : Shape) (held : HeldListWith (List (List ℕ))) (pieces : List (List ℕ)) (e : Extent) → t ≡ Message held pieces → IsExtent (1 + pieces_bytes pieces + fields_units pieces_bytes held) (fields_levels held) e → IsExtent (tree_units pieces_bytes t) (depth_of t) e
message_sizes t held pieces e is extent = extent_is _ _ _ _ e (sym (ap (tree_units pieces_bytes) is)) (sym (ap depth_of is)) extent

-- a message has a unit for each level
mutual
  value_deep : (value : ValueWith (List (List ℕ))) → value_levels value ≤ value_units pieces_bytes value
  value_deep (Number p) = omega arith
  value_deep (Bytes s) = omega arith
  value_deep (Sub t) = depth_less t

  held_deep : (held : HeldWith (List (List ℕ))) → held_levels held ≤ held_units pieces_bytes held
  held_deep Nothing = omega arith
  held_deep (One value) = value_deep value
  held_deep (Many values) = values_deep values

  values_deep : (values : ValueListWith (List (List ℕ))) → values_levels values ≤ values_units pieces_bytes values
  values_deep NoValues = omega arith
  values_deep (ValueAnd value values) = omega (arith, value_deep value, values_deep values)

  fields_deep : (held : HeldListWith (List (List ℕ))) → fields_levels held ≤ fields_units pieces_bytes held
  fields_deep NoFields = omega arith
  fields_deep (FieldAnd held rest) = omega (arith, held_deep held, fields_deep rest)

  pub depth_less : (t : Shape) → suc (depth_of t) ≤ tree_units pieces_bytes t
  depth_less (Message held pieces) = omega (arith, fields_deep held)

pub units_joined : (t : Shape) → shape_units t ≡ tree_units pieces_bytes t
units_joined t = map_units concat (λ (l : List ℕ). length l) t

pub below_end : (t : Shape) (e : Extent) → IsExtent (tree_units pieces_bytes t) (depth_of t) e → shape_units t < 2 ^ 63 → e.units ≡ shape_units t
below_end t e is few = let joined = units_joined t in omega (arith, is.units, few, joined)
