-- A list that grows by the elements of another one, one by one.
use Rattle.std.proofs.Common.{◌≡◌, ◌+◌, ◌^◌, ◌<◌, ℕ, zero, suc, List, length, take, drop, Some, refl, sym, ap, ◌∙◌, subst, arith}
use Rattle.std.specs.Prelude.{slice_get, IsSome}
use Rattle.std.proofs.lemmas.Option.{same_Some}
use Rattle.arena_mem.specs.Places.{Places, Buffers}
use Rattle.pb_schema.specs.declared.kind.FieldType.{FieldType}
use Rattle.pb_schema.specs.declared.schema.Schema.{Schema}
use Rattle.pb_schema.specs.Fitted.{IsPatternOf, IsStringOf}
use Rattle.pb_schema.specs.HeldAt.{field_at, held_at}
use Rattle.pb_schema.specs.Kinds.{ValueType, Scalar, Characters, Octets, Nested, value_type_of, slot_of}
use Rattle.pb_schema.specs.Lawful.{Lawful}
use Rattle.pb_schema.specs.Merge.{joined}
use Rattle.pb_schema.specs.Meter.{array_bytes}
use Rattle.pb_schema.specs.Put.{values_held}
use Rattle.pb_schema.specs.Tree.{ValueWith, Number, Bytes, Many, Shape, ValueListWith, NoValues, ValueAnd, values_in_list}
use Rattle.pb_schema.proofs.HeldLaws.{get_after_set}
use Rattle.pb_schema.proofs.MeterLaws.{placed_in_parts}
use Rattle.dyn_message.specs.declared.msg_ref.MsgRef.{MsgRef}
use Rattle.dyn_message.specs.Arrays.{HoldsArray, NoElements, Elements}
use Rattle.dyn_message.specs.Changes.{NowStands}
use Rattle.dyn_message.specs.Feet.{Foot, foot_bytes}
use Rattle.dyn_message.specs.Lists.{count_at, elements_at, with_appended}
use Rattle.dyn_message.specs.Stands.{HoldsNumber, IsList, MessageStands, Stands, ValueStands, ValuesStand}
use Rattle.dyn_message.proofs.Entries.{found_number}
use Rattle.dyn_message.proofs.ListLaws.{open_list}
use Rattle.dyn_message.proofs.OneShape.{message_one}
use Rattle.dyn_message.proofs.Opening.{record_is}
use Rattle.msg_layout.specs.Layout.{layout_of}
use Rattle.pb_parse.proofs.Memories.{all_entries, entry_found, stays, then_stands}
use Rattle.pb_write.proofs.Parts.{values_drop}
use Rattle.msg_merge.specs.Merging.{strings_cost, values_into}
use Rattle.msg_merge.proofs.Counts.{value_at_index}

-- COUNTING

count_joined : (old : ValueListWith (List (List ℕ))) (value : ValueWith (List (List ℕ))) → length (values_in_list (joined old (ValueAnd value NoValues))) ≡ length (values_in_list old) + 1
count_joined NoValues value = refl
count_joined (ValueAnd first old) value = omega (arith, count_joined old value)

pub one_more : (schema : Schema) (places : Places) (buffers : Buffers) (msg : MsgRef) (number : ℕ) (field : FieldType) → field_at schema msg.type_no number ≡ Some field → (value : ValueWith (List (List ℕ))) (t : Shape) (feet : List Foot) → Stands schema places buffers msg t feet
    → count_at schema msg.type_no number (with_appended schema msg.type_no number value t) ≡ count_at schema msg.type_no number t + 1
one_more schema places buffers msg number field found value t feet st =
    ap (λ h. length (values_in_list (values_held h))) (get_after_set schema msg.type_no number field (Many (joined (values_held (held_at schema msg.type_no number t)) (ValueAnd value NoValues))) t found (all_entries schema places buffers msg t feet st))
    ∙ count_joined (values_held (held_at schema msg.type_no number t)) value

-- NUMBERS

pub pattern_is : (type : ValueType) (slot : List ℕ) (p : ℕ) → HoldsNumber type slot p → IsPatternOf type p
pattern_is (Scalar coding) slot p h = h.0
pattern_is Characters slot p h = h
pattern_is Octets slot p h = h
pattern_is (Nested type_no) slot p h = h

first_pattern : (schema : Schema) (places : Places) (buffers : Buffers) (type : ValueType) (slot : List ℕ) (value : ValueWith (List (List ℕ))) (own : List Foot) (p : ℕ) → value ≡ Number p → ValueStands schema places buffers type slot value own → IsPatternOf type p
first_pattern schema places buffers type slot value own p is h = pattern_is type slot p (subst (λ v. ValueStands schema places buffers type slot v own) is h).0

patterns : (schema : Schema) (places : Places) (buffers : Buffers) (type : ValueType) (bytes : List ℕ) (values : ValueListWith (List (List ℕ))) (feet : List Foot) (i p : ℕ) → ValuesStand schema places buffers type bytes values feet → slice_get (values_in_list values) i ≡ Some (Number p) → IsPatternOf type p
patterns schema places buffers type bytes NoValues feet zero p stand found = absurd cc
patterns schema places buffers type bytes NoValues feet (suc i) p stand found = absurd cc
patterns schema places buffers type bytes (ValueAnd value values) feet zero p stand found = first_pattern schema places buffers type (take (slot_of type) bytes) value stand.own p (same_Some value (Number p) found) stand.first
patterns schema places buffers type bytes (ValueAnd value values) feet (suc i) p stand found = patterns schema places buffers type (drop (slot_of type) bytes) values stand.rest i p stand.second found

array_patterns : {size : ℕ} (schema : Schema) (places : Places) (buffers : Buffers) (type : ValueType) (values : ValueListWith (List (List ℕ))) (slot : List ℕ) (feet : List Foot) (i p : ℕ) → HoldsArray (λ elements behind. ValuesStand schema places buffers type elements values behind) places size (length (values_in_list values)) slot feet
    → slice_get (values_in_list values) i ≡ Some (Number p) → IsPatternOf type p
array_patterns schema places buffers type NoValues slot feet zero p (NoElements none zeros are) found = absurd cc
array_patterns schema places buffers type NoValues slot feet (suc i) p (NoElements none zeros are) found = absurd cc
array_patterns schema places buffers type (ValueAnd value values) slot feet i p (NoElements none zeros are) found = absurd (omega (arith, none))
array_patterns schema places buffers type values slot feet i p (Elements a) found = patterns schema places buffers type a.bytes values a.behind i p a.elements found

pub element_pattern : (schema : Schema) → Lawful schema → (places : Places) (buffers : Buffers) (msg : MsgRef) (number : ℕ) (field : FieldType) → field_at schema msg.type_no number ≡ Some field → IsList field.card
    → (t : Shape) (feet : List Foot) → Stands schema places buffers msg t feet → (i p : ℕ) → slice_get (elements_at schema msg.type_no number t) i ≡ Some (Number p) → IsPatternOf (value_type_of field.kind) p
element_pattern schema lawful places buffers msg number field found list t feet st i p is =
    let e = entry_found schema msg.type_no number field found in
    let r = record_is schema places buffers msg t feet st in
    let o = open_list schema lawful places buffers msg number e.0 r.bytes e.1 (found_number (layout_of schema msg.type_no).entries number e.0 e.1) (subst (λ (f : FieldType). IsList f.card) (sym e.2) list) r.there t feet st in
    subst (λ (f : FieldType). IsPatternOf (value_type_of f.kind) p) e.2
    (array_patterns schema places buffers (value_type_of e.0.field.kind) o.values _ o.own i p o.holds (ap (λ vs. slice_get vs i) (sym o.elements) ∙ is))

-- ONE ELEMENT AFTER ANOTHER

-- the message stands with so many values of the list more, and what is left of them gives what all did at the start
pub record ListedTo (schema : Schema) (places : Places) (buffers : Buffers) (places' : Places) (buffers' : Buffers) (msg : MsgRef) (number : ℕ) (values : ValueListWith (List (List ℕ))) (i : ℕ) (t : Shape) (feet : List Foot) : Type 0 where
  pub shape : Shape
  pub stands : NowStands schema places buffers places' buffers' msg shape feet
  pub goes : values_into schema msg.type_no number (values_drop i values) shape ≡ values_into schema msg.type_no number values t
  pub count : count_at schema msg.type_no number shape ≡ count_at schema msg.type_no number t + i

module _ (schema : Schema) (msg : MsgRef) (number : ℕ) (field : FieldType) (found : field_at schema msg.type_no number ≡ Some field) where
  pub listed_none : (places : Places) (buffers : Buffers) (values : ValueListWith (List (List ℕ))) (t : Shape) (feet : List Foot) → Stands schema places buffers msg t feet → ListedTo schema places buffers places buffers msg number values 0 t feet
  listed_none places buffers values t feet st = record { shape = t; stands = stays schema places buffers msg t feet st; goes = refl; count = omega arith }

  pub listed_more : (p0 p1 p2 : Places) (b0 b1 b2 : Buffers) (values : ValueListWith (List (List ℕ))) (i next : ℕ) → next ≡ suc i → (value : ValueWith (List (List ℕ))) (t : Shape) (feet : List Foot) → ((foot : Foot) → IsSome (foot_bytes p0 b0 foot) → IsSome (foot_bytes p1 b1 foot))
      → (l : ListedTo schema p0 b0 p1 b1 msg number values i t feet) → slice_get (values_in_list values) i ≡ Some value → NowStands schema p1 b1 p2 b2 msg (with_appended schema msg.type_no number value l.shape) l.stands.now
      → ListedTo schema p0 b0 p2 b2 msg number values next t feet
  listed_more p0 p1 p2 b0 b1 b2 values i next after value t feet still l is put = subst (λ n. ListedTo schema p0 b0 p2 b2 msg number values n t feet) (sym after) (record {
    shape = with_appended schema msg.type_no number value l.shape;
    stands = then_stands schema p0 p1 p2 b0 b1 b2 msg l.shape _ feet still l.stands put;
    goes = sym (ap (λ vs. values_into schema msg.type_no number vs l.shape) (value_at_index values i value is)) ∙ l.goes;
    count = omega (arith, one_more schema p1 b1 msg number field found value l.shape l.stands.now l.stands.stands, l.count);
  })

  pub listed_all : (p0 p1 : Places) (b0 b1 : Buffers) (values : ValueListWith (List (List ℕ))) (i : ℕ) (t : Shape) (feet : List Foot) → values_drop i values ≡ NoValues → ListedTo schema p0 b0 p1 b1 msg number values i t feet → NowStands schema p0 b0 p1 b1 msg (values_into schema msg.type_no number values t) feet
  listed_all p0 p1 b0 b1 values i t feet none l =
      subst (λ u. NowStands schema p0 b0 p1 b1 msg u feet) (sym (ap (λ vs. values_into schema msg.type_no number vs l.shape) none) ∙ l.goes) l.stands

-- a message as one of a type that is its own
pub stands_as : (schema : Schema) (places : Places) (buffers : Buffers) (msg : MsgRef) (type_no : ℕ) (t : Shape) (feet : List Foot) → msg.type_no ≡ type_no → Stands schema places buffers msg t feet → Stands schema places buffers (record { place = msg.place; type_no = type_no }) t feet
stands_as schema places buffers msg type_no t feet same st = record {
  message = subst (λ n. MessageStands schema places buffers n msg.place t feet) same st.message;
  once = st.once;
}

pub same_count : (schema : Schema) (places : Places) (buffers : Buffers) (msg : MsgRef) (number : ℕ) (t u : Shape) (feet own : List Foot) → Stands schema places buffers msg t feet → Stands schema places buffers msg u own → count_at schema msg.type_no number t ≡ count_at schema msg.type_no number u
same_count schema places buffers msg number t u feet own st su = ap (count_at schema msg.type_no number) (sym (message_one schema places buffers msg.type_no msg.place u t own feet su.message st.message).0)

-- what the list's array grew by so far, and for one element more
pub grown_once : (size c i shape was mid new : ℕ) → shape ≡ c + i → mid ≡ was + array_bytes size c (c + i) → new ≡ mid + array_bytes size shape (shape + 1) → new ≡ was + array_bytes size c (c + (i + 1))
grown_once size c i shape was mid new count before after =
    let parts = (placed_in_parts (λ type_no. 0)).parts size c (c + i) (c + (i + 1)) (omega arith) (omega arith) in
    let one : array_bytes size shape (shape + 1) ≡ array_bytes size (c + i) (c + (i + 1)) = ap (λ n. array_bytes size n (n + 1)) count ∙ ap (array_bytes size (c + i)) {x = c + i + 1} {y = c + (i + 1)} (omega arith) in
    omega (arith, before, after, parts, one)

-- TEXTS AND BYTES

first_string : (schema : Schema) (places : Places) (buffers : Buffers) (type : ValueType) (slot : List ℕ) (value : ValueWith (List (List ℕ))) (own : List Foot) (s : List ℕ) → value ≡ Bytes s → ValueStands schema places buffers type slot value own → IsStringOf type s × (length s < 2 ^ 31)
first_string schema places buffers type slot value own s is h = let v = subst (λ v. ValueStands schema places buffers type slot v own) is h in (v.kind, v.short)

strings : (schema : Schema) (places : Places) (buffers : Buffers) (type : ValueType) (bytes : List ℕ) (values : ValueListWith (List (List ℕ))) (feet : List Foot) (i : ℕ) (s : List ℕ) → ValuesStand schema places buffers type bytes values feet → slice_get (values_in_list values) i ≡ Some (Bytes s) → IsStringOf type s × (length s < 2 ^ 31)
strings schema places buffers type bytes NoValues feet zero s stand found = absurd cc
strings schema places buffers type bytes NoValues feet (suc i) s stand found = absurd cc
strings schema places buffers type bytes (ValueAnd value values) feet zero s stand found = first_string schema places buffers type (take (slot_of type) bytes) value stand.own s (same_Some value (Bytes s) found) stand.first
strings schema places buffers type bytes (ValueAnd value values) feet (suc i) s stand found = strings schema places buffers type (drop (slot_of type) bytes) values stand.rest i s stand.second found

array_strings : {size : ℕ} (schema : Schema) (places : Places) (buffers : Buffers) (type : ValueType) (values : ValueListWith (List (List ℕ))) (slot : List ℕ) (feet : List Foot) (i : ℕ) (s : List ℕ) → HoldsArray (λ elements behind. ValuesStand schema places buffers type elements values behind) places size (length (values_in_list values)) slot feet
    → slice_get (values_in_list values) i ≡ Some (Bytes s) → IsStringOf type s × (length s < 2 ^ 31)
array_strings schema places buffers type NoValues slot feet zero s (NoElements none zeros are) found = absurd cc
array_strings schema places buffers type NoValues slot feet (suc i) s (NoElements none zeros are) found = absurd cc
array_strings schema places buffers type (ValueAnd value values) slot feet i s (NoElements none zeros are) found = absurd (omega (arith, none))
array_strings schema places buffers type values slot feet i s (Elements a) found = strings schema places buffers type a.bytes values a.behind i s a.elements found

pub element_string : (schema : Schema) → Lawful schema → (places : Places) (buffers : Buffers) (msg : MsgRef) (number : ℕ) (field : FieldType) → field_at schema msg.type_no number ≡ Some field → IsList field.card
    → (t : Shape) (feet : List Foot) → Stands schema places buffers msg t feet → (i : ℕ) (s : List ℕ) → slice_get (elements_at schema msg.type_no number t) i ≡ Some (Bytes s) → IsStringOf (value_type_of field.kind) s × (length s < 2 ^ 31)
element_string schema lawful places buffers msg number field found list t feet st i s is =
    let e = entry_found schema msg.type_no number field found in
    let r = record_is schema places buffers msg t feet st in
    let o = open_list schema lawful places buffers msg number e.0 r.bytes e.1 (found_number (layout_of schema msg.type_no).entries number e.0 e.1) (subst (λ (f : FieldType). IsList f.card) (sym e.2) list) r.there t feet st in
    subst (λ (f : FieldType). IsStringOf (value_type_of f.kind) s × (length s < 2 ^ 31)) e.2
    (array_strings schema places buffers (value_type_of e.0.field.kind) o.values _ o.own i s o.holds (ap (λ vs. slice_get vs i) (sym o.elements) ∙ is))

-- what is left counts one less
pub string_left : (bytes : ℕ → ℕ) (values : ValueListWith (List (List ℕ))) (i next : ℕ) → next ≡ suc i → (s : List ℕ) → slice_get (values_in_list values) i ≡ Some (Bytes s) → strings_cost bytes (values_drop i values) ≡ bytes (length s) + strings_cost bytes (values_drop next values)
string_left bytes values i next after s found = ap (strings_cost bytes) (value_at_index values i (Bytes s) found) ∙ ap (λ n. bytes (length s) + strings_cost bytes (values_drop n values)) (sym after)

pub string_grown : (c i shape one left later all was mid new : ℕ) → shape ≡ c + i → left ≡ one + later → mid + left ≡ was + array_bytes 24 c (c + i) + all → new ≡ mid + one + array_bytes 24 shape (shape + 1) → new + later ≡ was + array_bytes 24 c (c + (i + 1)) + all
string_grown c i shape one left later all was mid new count less before after =
    let parts = (placed_in_parts (λ type_no. 0)).parts 24 c (c + i) (c + (i + 1)) (omega arith) (omega arith) in
    let same : array_bytes 24 shape (shape + 1) ≡ array_bytes 24 (c + i) (c + (i + 1)) = ap (λ n. array_bytes 24 n (n + 1)) count ∙ ap (array_bytes 24 (c + i)) {x = c + i + 1} {y = c + (i + 1)} (omega arith) in
    omega (arith, less, before, after, parts, same)

pub kept_more : (one left later all mid new was : ℕ) → left ≡ one + later → mid + left ≡ was + all → new ≡ mid + one → new + later ≡ was + all
kept_more one left later all mid new was less before after = omega (arith, less, before, after)
