-- A list whose elements come behind those of another message, and what they count.
use Rattle.std.proofs.Common.{◌≡◌, ◌+◌, ◌-◌, ◌≤◌, ◌<◌, ◌^◌, ℕ, suc, List, [], ◌∷◌, length, drop, Some, length-append, refl, sym, ap, ◌∙◌, subst, arith}
use Rattle.std.specs.Prelude.{slice_get, sum_by, min}
use Rattle.std.specs.List.{concat}
use Rattle.std.proofs.lemmas.List.Sums.{sum_by-cons}
use Rattle.arena_mem.specs.declared.place.Place.{Place}
use Rattle.arena_mem.specs.Places.{Places, Buffers}
use Rattle.pb_schema.specs.declared.kind.FieldType.{FieldType}
use Rattle.pb_schema.specs.declared.schema.Schema.{Schema}
use Rattle.pb_schema.specs.Fitted.{IsStringOf}
use Rattle.pb_schema.specs.HeldAt.{field_at, held_at}
use Rattle.pb_schema.specs.Kinds.{ValueType, Scalar, Characters, Octets, Nested, value_type_of, slot_of}
use Rattle.pb_schema.specs.Lawful.{Lawful}
use Rattle.pb_schema.specs.MergeCost.{held_merge_cost, value_merge_cost, values_fresh_cost}
use Rattle.pb_schema.specs.Meter.{Meter, array_bytes}
use Rattle.pb_schema.specs.ParseCost.{pieces_cost, string_cost}
use Rattle.pb_schema.specs.Put.{values_held}
use Rattle.pb_schema.specs.Tree.{ValueWith, Number, Bytes, Sub, HeldWith, Nothing, Many, Shape, Message, ValueListWith, NoValues, ValueAnd, values_in_list}
use Rattle.pb_schema.specs.Units.{value_units, held_units, values_units, tree_units}
use Rattle.pb_schema.proofs.MeterLaws.{placed_in_parts}
use Rattle.msg_layout.specs.Layout.{layout_of}
use Rattle.msg_layout.specs.Slots.{array_slot}
use Rattle.dyn_message.specs.declared.msg_ref.MsgRef.{MsgRef}
use Rattle.dyn_message.specs.Arrays.{HoldsArray, NoElements, Elements}
use Rattle.dyn_message.specs.Feet.{Foot}
use Rattle.dyn_message.specs.Fields.{IsBytesType, IsNumberType}
use Rattle.dyn_message.specs.Lists.{bytes_by, count_at, element_bytes}
use Rattle.dyn_message.specs.Stands.{HoldsNumber, IsLink, IsList, PiecesStand, Stands, ValuesStand}
use Rattle.dyn_message.specs.Unknown.{pieces_of}
use Rattle.dyn_message.proofs.Entries.{found_number}
use Rattle.dyn_message.proofs.ListLaws.{open_list}
use Rattle.dyn_message.proofs.Opening.{record_is}
use Rattle.pb_parse.proofs.Memories.{entry_found, list_there}
use Rattle.pb_write.proofs.Parts.{values_drop, values_end}
use Rattle.msg_merge.specs.Across.{field_into, field_cost, field_units, inner_units}
use Rattle.msg_merge.specs.Extents.{pieces_bytes}
use Rattle.msg_merge.specs.Merging.{held_into, pieces_count, strings_cost, values_into}
use Rattle.msg_merge.proofs.Counts.{value_at_index}

-- HOW MANY

pub few_together : (a b s most : ℕ) → s ≡ min (a + b) (2 ^ 32 - 1) → s ≤ most → most < 2 ^ 32 - 1 → a + b ≤ most
few_together a b s most is few small = omega (arith, is, few, small)

-- a value has a unit at least
pub element_unit : (value : ValueWith (List (List ℕ))) → 1 ≤ value_units pieces_bytes value
element_unit (Number p) = omega arith
element_unit (Bytes s) = omega arith
element_unit (Sub (Message held pieces)) = omega arith

pub count_units : (values : ValueListWith (List (List ℕ))) → length (values_in_list values) ≤ values_units pieces_bytes values
count_units NoValues = omega arith
count_units (ValueAnd value values) = omega (arith, element_unit value, count_units values)

pub inner_of : (u : Shape) → tree_units pieces_bytes u ≡ 1 + inner_units u
inner_of (Message held pieces) = omega arith

-- THE VALUES OF A LIST

many_into : (schema : Schema) (type_no : ℕ) (field : FieldType) (held : HeldWith (List (List ℕ))) (values : ValueListWith (List (List ℕ))) (t : Shape) → held ≡ Many values → values_into schema type_no field.number (values_held held) t ≡ held_into schema type_no field held t
many_into schema type_no field held values t is = ap (λ h. values_into schema type_no field.number (values_held h) t) is ∙ sym (ap (λ h. held_into schema type_no field h t) is)

many_cost : (meter : Meter) (schema : Schema) (field : FieldType) (ours theirs : HeldWith (List (List ℕ))) (old values : ValueListWith (List (List ℕ))) → ours ≡ Many old → theirs ≡ Many values
    → held_merge_cost meter schema field ours theirs
    ≡ meter.growth (slot_of (value_type_of field.kind)) (length (values_in_list (values_held ours))) (length (values_in_list (values_held ours)) + length (values_in_list (values_held theirs))) + values_fresh_cost meter schema field (values_held theirs)
many_cost meter schema field ours theirs old values is are =
    ap (λ h. held_merge_cost meter schema field h theirs) is ∙ (ap (held_merge_cost meter schema field (Many old)) are
    ∙ (sym (ap (λ h. meter.growth (slot_of (value_type_of field.kind)) (length (values_in_list (values_held h))) (length (values_in_list (values_held h)) + length (values_in_list values)) + values_fresh_cost meter schema field values) is)
    ∙ sym (ap (λ h. meter.growth (slot_of (value_type_of field.kind)) (length (values_in_list (values_held ours))) (length (values_in_list (values_held ours)) + length (values_in_list (values_held h))) + values_fresh_cost meter schema field (values_held h)) are)))

many_units : (held : HeldWith (List (List ℕ))) (values : ValueListWith (List (List ℕ))) → held ≡ Many values → held_units pieces_bytes held ≡ values_units pieces_bytes (values_held held)
many_units held values is = ap (held_units pieces_bytes) is ∙ sym (ap (λ h. values_units pieces_bytes (values_held h)) is)

array_values : {size : ℕ} (schema : Schema) (places : Places) (buffers : Buffers) (type : ValueType) (values : ValueListWith (List (List ℕ))) (slot : List ℕ) (feet : List Foot) → HoldsArray (λ elements behind. ValuesStand schema places buffers type elements values behind) places size (length (values_in_list values)) slot feet
    → (bytes : List ℕ) × (behind : List Foot) × ValuesStand schema places buffers type bytes values behind
array_values schema places buffers type NoValues slot feet (NoElements none zeros are) = ([], [], refl)
array_values schema places buffers type (ValueAnd value values) slot feet (NoElements none zeros are) = absurd (omega (arith, none))
array_values schema places buffers type values slot feet (Elements a) = (a.bytes, a.behind, a.elements)

-- WHAT THEY COUNT

number_no_bytes : (type : ValueType) (s : List ℕ) → IsNumberType type → IsStringOf type s → ⊥
number_no_bytes (Scalar coding) s number h = h
number_no_bytes Characters s number h = number
number_no_bytes Octets s number h = number
number_no_bytes (Nested inner) s number h = number

number_no_sub : (P : ℕ → Type 0) (type : ValueType) → IsNumberType type → IsLink P type → ⊥
number_no_sub P (Scalar coding) number h = h
number_no_sub P Characters number h = h
number_no_sub P Octets number h = h
number_no_sub P (Nested inner) number h = number

bytes_no_sub : (P : ℕ → Type 0) (type : ValueType) → IsBytesType type → IsLink P type → ⊥
bytes_no_sub P (Scalar coding) bytes h = h
bytes_no_sub P Characters bytes h = h
bytes_no_sub P Octets bytes h = h
bytes_no_sub P (Nested inner) bytes h = bytes

bytes_no_number : (type : ValueType) (slot : List ℕ) (p : ℕ) → IsBytesType type → HoldsNumber type slot p → ⊥
bytes_no_number (Scalar coding) slot p bytes h = bytes
bytes_no_number Characters slot p bytes h = h
bytes_no_number Octets slot p bytes h = h
bytes_no_number (Nested inner) slot p bytes h = h

module _ (meter : Meter) (schema : Schema) (field : FieldType) (places : Places) (buffers : Buffers) where
  pub numbers_count : IsNumberType (value_type_of field.kind) → (bytes : List ℕ) (values : ValueListWith (List (List ℕ))) (feet : List Foot) → ValuesStand schema places buffers (value_type_of field.kind) bytes values feet → values_fresh_cost meter schema field values ≡ 0
  numbers_count number bytes NoValues feet stand = refl
  numbers_count number bytes (ValueAnd (Number p) values) feet stand = omega (arith, numbers_count number (drop (slot_of (value_type_of field.kind)) bytes) values stand.rest stand.second)
  numbers_count number bytes (ValueAnd (Bytes s) values) feet stand = absurd (number_no_bytes (value_type_of field.kind) s number stand.first.kind)
  numbers_count number bytes (ValueAnd (Sub t) values) feet stand = absurd (number_no_sub _ (value_type_of field.kind) number stand.first)

  pub strings_count : IsBytesType (value_type_of field.kind) → (bytes : List ℕ) (values : ValueListWith (List (List ℕ))) (feet : List Foot) → ValuesStand schema places buffers (value_type_of field.kind) bytes values feet → values_fresh_cost meter schema field values ≡ strings_cost meter.bytes values
  strings_count type bytes NoValues feet stand = refl
  strings_count type bytes (ValueAnd (Number p) values) feet stand = absurd (bytes_no_number (value_type_of field.kind) _ p type stand.first.0)
  strings_count type bytes (ValueAnd (Bytes s) values) feet stand = ap (λ n. meter.bytes (length s) + n) (strings_count type (drop (slot_of (value_type_of field.kind)) bytes) values stand.rest stand.second)
  strings_count type bytes (ValueAnd (Sub t) values) feet stand = absurd (bytes_no_sub _ (value_type_of field.kind) type stand.first)

pub bytes_slot : (type : ValueType) → IsBytesType type → slot_of type ≡ 24
bytes_slot (Scalar coding) h = absurd h
bytes_slot Characters h = refl
bytes_slot Octets h = refl
bytes_slot (Nested inner) h = absurd h

-- A WHOLE LIST

sum_none : (all grown fresh now : ℕ) → all ≡ grown + fresh → fresh ≡ 0 → grown ≡ now → all ≡ now
sum_none all grown fresh now is none same = omega (arith, is, none, same)

sum_some : (all grown fresh now some : ℕ) → all ≡ grown + fresh → fresh ≡ some → grown ≡ now → all ≡ now + some
sum_some all grown fresh now some is one same = omega (arith, is, one, same)

module _ (schema : Schema) (lawful : Lawful schema) (to : MsgRef) (field : FieldType) (known : field_at schema to.type_no field.number ≡ Some field) (list : IsList field.card) where
  -- the values that a field of another message holds
  abbrev pub theirs : Shape → ValueListWith (List (List ℕ))
  theirs u = values_held (held_at schema to.type_no field.number u)

  abbrev pub count : Shape → ℕ
  count t = count_at schema to.type_no field.number t

  module _ (places : Places) (buffers : Buffers) (at : Place) (u : Shape) (own : List Foot) (su : Stands schema places buffers (record { place = at; type_no = to.type_no }) u own) where
    abbrev source : MsgRef
    source = record { place = at; type_no = to.type_no }

    pub list_into : (t : Shape) → values_into schema to.type_no field.number (theirs u) t ≡ field_into schema to.type_no field t u
    list_into t = let l = list_there schema lawful places buffers source field.number field known list u own su in many_into schema to.type_no field (held_at schema to.type_no field.number u) l.0 t l.1

    pub list_units : field_units schema to.type_no field u ≡ values_units pieces_bytes (theirs u)
    list_units = let l = list_there schema lawful places buffers source field.number field known list u own su in many_units (held_at schema to.type_no field.number u) l.0 l.1

    -- each of them has a unit
    pub list_few : count u ≤ field_units schema to.type_no field u
    list_few = omega (arith, list_units, count_units (theirs u))

    pub list_cost : (meter : Meter) (places' : Places) (buffers' : Buffers) (t : Shape) (feet : List Foot) → Stands schema places' buffers' to t feet
        → field_cost meter schema to.type_no field t u ≡ meter.growth (slot_of (value_type_of field.kind)) (count t) (count t + count u) + values_fresh_cost meter schema field (theirs u)
    list_cost meter places' buffers' t feet st =
        let ours = list_there schema lawful places' buffers' to field.number field known list t feet st in
        let l = list_there schema lawful places buffers source field.number field known list u own su in
        many_cost meter schema field (held_at schema to.type_no field.number t) (held_at schema to.type_no field.number u) ours.0 l.0 ours.1 l.1

    -- how they stand
    pub values_stand : (bytes : List ℕ) × (behind : List Foot) × ValuesStand schema places buffers (value_type_of field.kind) bytes (theirs u) behind
    values_stand =
        let e = entry_found schema to.type_no field.number field known in
        let r = record_is schema places buffers source u own su in
        let o = open_list schema lawful places buffers source field.number e.0 r.bytes e.1 (found_number (layout_of schema to.type_no).entries field.number e.0 e.1) (subst (λ (f : FieldType). IsList f.card) (sym e.2) list) r.there u own su in
        subst (λ vs. (bytes : List ℕ) × (behind : List Foot) × ValuesStand schema places buffers (value_type_of field.kind) bytes vs behind) (sym (ap values_held o.held))
        (subst (λ (f : FieldType). (bytes : List ℕ) × (behind : List Foot) × ValuesStand schema places buffers (value_type_of f.kind) bytes o.values behind) e.2
        (array_values schema places buffers (value_type_of e.0.field.kind) o.values _ o.own o.holds))

    module _ (meter : Meter) (places' : Places) (buffers' : Buffers) (t : Shape) (feet : List Foot) (st : Stands schema places' buffers' to t feet) where
      pub numbers_cost : IsNumberType (value_type_of field.kind) → field_cost meter schema to.type_no field t u ≡ meter.growth (element_bytes schema to.type_no field.number) (count t) (count t + count u)
      numbers_cost number =
          let v = values_stand in
          sum_none _ _ (values_fresh_cost meter schema field (theirs u)) _ (list_cost meter places' buffers' t feet st) (numbers_count meter schema field places buffers number v.0 (theirs u) v.1 v.2)
          (ap (λ n. meter.growth n (count t) (count t + count u)) (sym (ap bytes_by known)))

      pub strings_costs : IsBytesType (value_type_of field.kind) → field_cost meter schema to.type_no field t u ≡ meter.growth 24 (count t) (count t + count u) + strings_cost meter.bytes (theirs u)
      strings_costs type =
          let v = values_stand in
          sum_some _ _ (values_fresh_cost meter schema field (theirs u)) _ _ (list_cost meter places' buffers' t feet st) (strings_count meter schema field places buffers type v.0 (theirs u) v.1 v.2)
          (ap (λ n. meter.growth n (count t) (count t + count u)) (bytes_slot (value_type_of field.kind) type))

      pub subs_cost : (inner : ℕ) → value_type_of field.kind ≡ Nested inner → field_cost meter schema to.type_no field t u ≡ meter.growth 16 (count t) (count t + count u) + values_fresh_cost meter schema field (theirs u)
      subs_cost inner type = list_cost meter places' buffers' t feet st ∙ ap (λ (v : ValueType). meter.growth (slot_of v) (count t) (count t + count u) + values_fresh_cost meter schema field (theirs u)) type

-- UNKNOWN BYTES

pub pieces_counted : (meter : Meter) (before : ℕ) (pieces : List (List ℕ)) → pieces_cost meter before pieces ≡ meter.growth 24 before (before + length pieces) + pieces_count meter.bytes pieces
pieces_counted meter before pieces = ap (λ n. meter.growth 24 before (before + length pieces) + n) (summed pieces)
  where
    summed : (ps : List (List ℕ)) → sum_by (string_cost meter) ps ≡ pieces_count meter.bytes ps
    summed [] = refl
    summed (p ∷ ps) = sum_by-cons (string_cost meter) p ps ∙ ap (λ n. meter.bytes (length p) + n) (summed ps)

-- each piece has a byte at least
pieces_some : (places : Places) (buffers : Buffers) (bytes : List ℕ) (pieces : List (List ℕ)) (feet : List Foot) → PiecesStand places buffers bytes pieces feet → length pieces ≤ pieces_bytes pieces
pieces_some places buffers bytes [] feet stand = omega arith
pieces_some places buffers bytes (piece ∷ pieces) feet stand =
    omega (arith, stand.first.some, pieces_some places buffers (drop array_slot bytes) pieces stand.rest stand.second, length-append piece (concat pieces))

array_some : {size : ℕ} (places : Places) (buffers : Buffers) (pieces : List (List ℕ)) (slot : List ℕ) (feet : List Foot) → HoldsArray (λ elements more. PiecesStand places buffers elements pieces more) places size (length pieces) slot feet → length pieces ≤ pieces_bytes pieces
array_some places buffers pieces slot feet (NoElements none zeros are) = omega (arith, none)
array_some places buffers pieces slot feet (Elements a) = pieces_some places buffers a.bytes pieces a.behind a.elements

pub pieces_few : (schema : Schema) (places : Places) (buffers : Buffers) (msg : MsgRef) (u : Shape) (own : List Foot) → Stands schema places buffers msg u own → length (pieces_of u) ≤ pieces_bytes (pieces_of u)
pieces_few schema places buffers msg (Message held pieces) own su = let m = su.message in array_some places buffers pieces _ m.holds.own m.holds.first

-- MESSAGES, ONE AFTER ANOTHER

-- what is left counts one less
pub fresh_left : (meter : Meter) (schema : Schema) (field : FieldType) (values : ValueListWith (List (List ℕ))) (i next : ℕ) → next ≡ suc i → (value : ValueWith (List (List ℕ))) → slice_get (values_in_list values) i ≡ Some value
    → values_fresh_cost meter schema field (values_drop i values) ≡ value_merge_cost meter schema field Nothing value + values_fresh_cost meter schema field (values_drop next values)
fresh_left meter schema field values i next after value found =
    ap (values_fresh_cost meter schema field) (value_at_index values i value found) ∙ ap (λ n. value_merge_cost meter schema field Nothing value + values_fresh_cost meter schema field (values_drop n values)) (sym after)

pub units_left : (values : ValueListWith (List (List ℕ))) (i next : ℕ) → next ≡ suc i → (value : ValueWith (List (List ℕ))) → slice_get (values_in_list values) i ≡ Some value
    → values_units pieces_bytes (values_drop i values) ≡ value_units pieces_bytes value + values_units pieces_bytes (values_drop next values)
units_left values i next after value found =
    ap (values_units pieces_bytes) (value_at_index values i value found) ∙ ap (λ n. value_units pieces_bytes value + values_units pieces_bytes (values_drop n values)) (sym after)

pub element_grown : (c i shape one left later all was mid new : ℕ) → shape ≡ c + i → left ≡ one + later → mid + left ≡ was + array_bytes 16 c (c + i) + all → new ≡ mid + one + array_bytes 16 shape (shape + 1) → new + later ≡ was + array_bytes 16 c (c + (i + 1)) + all
element_grown c i shape one left later all was mid new count less before after =
    let parts = (placed_in_parts (λ type_no. 0)).parts 16 c (c + i) (c + (i + 1)) (omega arith) (omega arith) in
    let same : array_bytes 16 shape (shape + 1) ≡ array_bytes 16 (c + i) (c + (i + 1)) = ap (λ n. array_bytes 16 n (n + 1)) count ∙ ap (array_bytes 16 (c + i)) {x = c + i + 1} {y = c + (i + 1)} (omega arith) in
    omega (arith, less, before, after, parts, same)

pub no_more_cost : (meter : Meter) (schema : Schema) (field : FieldType) (values : ValueListWith (List (List ℕ))) (i : ℕ) → i ≡ length (values_in_list values) → values_fresh_cost meter schema field (values_drop i values) ≡ 0
no_more_cost meter schema field values i all = ap (values_fresh_cost meter schema field) (ap (λ n. values_drop n values) all ∙ values_end values)
