-- A field of one value: whether it is set, by its mark or its slot, and what it holds then.
use Rattle.std.proofs.Common.{◌≡◌, ◌≤◌, ℕ, zero, suc, Bool, true, false, not, eqb, true≢false, List, length, replicate, Option, None, Some, refl, sym, ap, ◌∙◌, subst, arith}
use Rattle.std.proofs.lemmas.Bool.{ne_eqb}
use Rattle.arena_mem.specs.Places.{Places, Buffers}
use Rattle.pb_schema.specs.declared.kind.Card.{Card}
use Rattle.pb_schema.specs.declared.kind.Card.TheVariants as cards
use Rattle.pb_schema.specs.declared.kind.FieldType.{FieldType}
use Rattle.pb_schema.specs.declared.schema.Schema.{Schema}
use Rattle.pb_schema.specs.Fitted.{IsStringOf}
use Rattle.pb_schema.specs.Kinds.{ValueType, Scalar, Characters, Octets, Nested, value_type_of, slot_of}
use Rattle.pb_schema.specs.Lawful.{Lawful}
use Rattle.pb_schema.specs.Tree.{ValueWith, Number, Bytes, Sub, HeldWith, Nothing, One, Many, Shape}
use Rattle.msg_layout.specs.declared.entry.Mark.{Mark}
use Rattle.msg_layout.specs.declared.entry.Mark.TheVariants as marks
use Rattle.msg_layout.specs.Slots.{is_message}
use Rattle.dyn_message.specs.Feet.{Foot}
use Rattle.dyn_message.specs.Slots.{number_in, place_in, word, set_by, told_by, MayBeUnset}
use Rattle.dyn_message.specs.Stands.{IsSingle, HoldsNumber, IsLink, MayHold, ValueStands, HeldStands, MessageStands}
use Rattle.dyn_message.specs.Strings.{HoldsBytes, NoBytes, ShortBytes, LongBytes}
use Rattle.dyn_message.proofs.Linking.{message_long}
use Rattle.dyn_message.proofs.Opening.{both, set_by_mark, single_slot}
use Rattle.dyn_message.proofs.Words.{zero_form, zero_link}
use Rattle.pb_write.specs.Puts.{slot_tells}

-- ZEROS

zeros_in : (count : ℕ) → number_in (replicate count 0) ≡ 0
zeros_in zero = refl
zeros_in (suc count) = omega (arith, zeros_in count)

-- a slot of zeros tells of nothing
zeros_tell : (type : ValueType) → slot_tells type (replicate (slot_of type) 0) ≡ false
zeros_tell (Scalar coding) = ap (λ n. not (eqb n 0)) (zeros_in coding.slot)
zeros_tell Characters = ap (λ n. not (eqb n 0)) zero_form
zeros_tell Octets = ap (λ n. not (eqb n 0)) zero_form
zeros_tell (Nested type_no) = ap (λ n. not (eqb n 0)) zero_link

-- VALUES

some_tells : (n : ℕ) → (n ≡ 0 → ⊥) → not (eqb n 0) ≡ true
some_tells n some = ap not (ne_eqb n 0 some)

number_tells : (type : ValueType) (slot : List ℕ) (p : ℕ) → HoldsNumber type slot p → 1 ≤ p → slot_tells type slot ≡ true
number_tells (Scalar coding) slot p h some = some_tells (number_in slot) (λ e. omega (arith, some, h.1, e))
number_tells Characters slot p h some = absurd h
number_tells Octets slot p h some = absurd h
number_tells (Nested type_no) slot p h some = absurd h

number_plain : (type : ValueType) (slot : List ℕ) (p : ℕ) → HoldsNumber type slot p → is_message type ≡ false
number_plain (Scalar coding) slot p h = refl
number_plain Characters slot p h = refl
number_plain Octets slot p h = refl
number_plain (Nested type_no) slot p h = absurd h

form_tells : (places : Places) (buffers : Buffers) (slot s : List ℕ) (own : List Foot) → HoldsBytes places buffers slot s own → 1 ≤ length s → word 5 slot ≡ 0 → ⊥
form_tells places buffers slot s own (NoBytes none zeros are) some form = omega (arith, some, ap (λ (l : List ℕ). length l) none)
form_tells places buffers slot s own (ShortBytes short are) some form = omega (arith, form, short.form)
form_tells places buffers slot s own (LongBytes long are) some form = omega (arith, form, long.form)

bytes_tell : (places : Places) (buffers : Buffers) (type : ValueType) (slot s : List ℕ) (own : List Foot) → IsStringOf type s → HoldsBytes places buffers slot s own → 1 ≤ length s → slot_tells type slot ≡ true
bytes_tell places buffers (Scalar coding) slot s own kind h some = absurd kind
bytes_tell places buffers Characters slot s own kind h some = some_tells (word 5 slot) (form_tells places buffers slot s own h some)
bytes_tell places buffers Octets slot s own kind h some = some_tells (word 5 slot) (form_tells places buffers slot s own h some)
bytes_tell places buffers (Nested type_no) slot s own kind h some = absurd kind

string_plain : (type : ValueType) (s : List ℕ) → IsStringOf type s → is_message type ≡ false
string_plain (Scalar coding) s kind = refl
string_plain Characters s kind = refl
string_plain Octets s kind = refl
string_plain (Nested type_no) s kind = absurd kind

link_tells : (schema : Schema) → Lawful schema → (places : Places) (buffers : Buffers) (type : ValueType) (slot : List ℕ) (t : Shape) (own : List Foot) → IsLink (λ type_no. MessageStands schema places buffers type_no (place_in slot) t own) type → slot_tells type slot ≡ true
link_tells schema lawful places buffers (Scalar coding) slot t own h = absurd h
link_tells schema lawful places buffers Characters slot t own h = absurd h
link_tells schema lawful places buffers Octets slot t own h = absurd h
link_tells schema lawful places buffers (Nested type_no) slot t own h =
    some_tells (place_in slot).len (λ e. let long = message_long schema lawful places buffers type_no (place_in slot) t own h in omega (arith, e, long))

-- FIELDS

-- the value of a field that is set
pub record Set (schema : Schema) (places : Places) (buffers : Buffers) (field : FieldType) (slot : List ℕ) (held : HeldWith (List (List ℕ))) : Type 0 where
  pub value : ValueWith (List (List ℕ))
  pub own : List Foot
  pub is : held ≡ One value
  pub stands : ValueStands schema places buffers (value_type_of field.kind) slot value own

module _ (schema : Schema) (lawful : Lawful schema) (places : Places) (buffers : Buffers) (field : FieldType) (told : Option Bool) (slot : List ℕ) (own : List Foot) (single : IsSingle field.card) where
  pub set_value : (held : HeldWith (List (List ℕ))) → HeldStands schema places buffers field told slot held own → set_by told (slot_tells (value_type_of field.kind) slot) ≡ true → Set schema places buffers field slot held
  set_value Nothing h set = absurd (true≢false (sym set ∙ by_told told h.1))
    where
      by_told : (t : Option Bool) → MayBeUnset t → set_by t (slot_tells (value_type_of field.kind) slot) ≡ false
      by_told None unset = ap (slot_tells (value_type_of field.kind)) (h.2 ∙ ap (λ k. replicate k 0) (single_slot field single)) ∙ zeros_tell (value_type_of field.kind)
      by_told (Some t) unset = unset
  set_value (One value) h set = record { value = value; own = own; is = refl; stands = h.2 }
  set_value (Many many) h set = absurd (both field.card single h.0)

  pub unset_nothing : (untold : told ≡ None → IsSingle field.card → is_message (value_type_of field.kind) ≡ false → field.card ≡ cards.Implicit) → (held : HeldWith (List (List ℕ))) → HeldStands schema places buffers field told slot held own
      → set_by told (slot_tells (value_type_of field.kind) slot) ≡ false → held ≡ Nothing
  unset_nothing untold Nothing h unset = refl
  unset_nothing untold (One (Number p)) h unset = absurd (true≢false (sym (set_by_mark told (slot_tells (value_type_of field.kind) slot) h.1
      (λ none. number_tells (value_type_of field.kind) slot p h.2.0 (subst (λ c. MayHold {U = List (List ℕ)} c (Number p)) (untold none single (number_plain (value_type_of field.kind) slot p h.2.0)) h.0))) ∙ unset))
  unset_nothing untold (One (Bytes s)) h unset = absurd (true≢false (sym (set_by_mark told (slot_tells (value_type_of field.kind) slot) h.1
      (λ none. bytes_tell places buffers (value_type_of field.kind) slot s own h.2.kind h.2.holds (subst (λ c. MayHold {U = List (List ℕ)} c (Bytes s)) (untold none single (string_plain (value_type_of field.kind) s h.2.kind)) h.0))) ∙ unset))
  unset_nothing untold (One (Sub t)) h unset = absurd (true≢false (sym (set_by_mark told (slot_tells (value_type_of field.kind) slot) h.1
      (λ none. link_tells schema lawful places buffers (value_type_of field.kind) slot t own h.2)) ∙ unset))
  unset_nothing untold (Many many) h unset = absurd (both field.card single h.0)

-- a field that isn't a list has one value at most
pub single_of : (card : Card) → ((packed : Bool) → card ≡ cards.Repeated packed → ⊥) → IsSingle card
single_of cards.Implicit other = tt
single_of cards.Explicit other = tt
single_of (cards.Member oneof) other = tt
single_of (cards.Repeated packed) other = absurd (other packed refl)

-- a mark tells whether the field is set, whatever the slot tells
pub marks_tell : (number : ℕ) (mark : Mark) (bytes : List ℕ) → (mark ≡ marks.Unmarked → ⊥) → (a b : Bool) → set_by (told_by number mark bytes) a ≡ set_by (told_by number mark bytes) b
marks_tell number marks.Unmarked bytes marked a b = absurd (marked refl)
marks_tell number (marks.Bit bit) bytes marked a b = refl
marks_tell number (marks.Word at) bytes marked a b = refl
