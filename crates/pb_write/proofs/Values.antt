-- A value by its slot: a message, a text or bytes, or a number, as its kind says.
use Rattle.std.proofs.Common.{◌≡◌, ◌⊎◌, ⊎_elim, ◌<◌, ℕ, List, refl, sym, ap, subst}
use Rattle.std.specs.List.{concat}
use Rattle.arena_mem.specs.Places.{Places, Buffers}
use Rattle.pb_schema.specs.declared.kind.FieldType.{FieldType}
use Rattle.pb_schema.specs.declared.kind.Kind.{Kind}
use Rattle.pb_schema.specs.declared.kind.Kind.TheVariants as kinds
use Rattle.pb_schema.specs.declared.schema.Schema.{Schema}
use Rattle.pb_schema.specs.Fits.{fields_of, fields_of_value}
use Rattle.pb_schema.specs.Fitted.{IsPatternOf, IsStringOf}
use Rattle.pb_schema.specs.Kinds.{ValueType, Scalar, Characters, Octets, Nested, value_type_of, slot_of}
use Rattle.pb_schema.specs.Text.{framed, spelled_text, value_text, message_text}
use Rattle.pb_schema.specs.Tree.{ValueWith, Number, Bytes, Sub, Shape, value_map, tree_map}
use Rattle.dyn_message.specs.Feet.{Foot}
use Rattle.dyn_message.specs.Fields.{IsNumberType, IsBytesType}
use Rattle.dyn_message.specs.Slots.{part, place_in, number_in}
use Rattle.dyn_message.specs.Stands.{HoldsNumber, IsLink, ValueStands, MessageStands}
use Rattle.dyn_message.specs.Strings.{HoldsBytes}
use Rattle.dyn_message.proofs.ListLaws as list_laws

nested_of : (field : FieldType) (n : ℕ) → field.kind ≡ kinds.Message n → value_type_of field.kind ≡ Nested n
nested_of field n is = ap value_type_of is

-- MESSAGES

pub record IsMessageValue (schema : Schema) (places : Places) (buffers : Buffers) (field : FieldType) (slot : List ℕ) (value : ValueWith (List (List ℕ))) (own : List Foot) (n : ℕ) : Type 0 where
  pub tree : Shape
  pub is : value ≡ Sub tree
  pub stands : MessageStands schema places buffers n (place_in slot) tree own
  pub text : value_text schema field (value_map concat value) ≡ framed (message_text schema (fields_of schema n) (tree_map concat tree))

no_number : (n : ℕ) (slot : List ℕ) (p : ℕ) (type : ValueType) → type ≡ Nested n → HoldsNumber type slot p → ⊥
no_number n slot p type is h = subst (λ t. HoldsNumber t slot p) is h

no_string : (n : ℕ) (s : List ℕ) (type : ValueType) → type ≡ Nested n → IsStringOf type s → ⊥
no_string n s type is h = subst (λ t. IsStringOf t s) is h

pub message_value : (schema : Schema) (places : Places) (buffers : Buffers) (field : FieldType) (slot : List ℕ) (value : ValueWith (List (List ℕ))) (own : List Foot) (n : ℕ) → field.kind ≡ kinds.Message n → ValueStands schema places buffers (value_type_of field.kind) slot value own → IsMessageValue schema places buffers field slot value own n
message_value schema places buffers field slot (Number p) own n kind h = absurd (no_number n slot p (value_type_of field.kind) (nested_of field n kind) h.0)
message_value schema places buffers field slot (Bytes s) own n kind h = absurd (no_string n s (value_type_of field.kind) (nested_of field n kind) h.kind)
message_value schema places buffers field slot (Sub t) own n kind h = record {
  tree = t;
  is = refl;
  stands = subst (IsLink (λ type_no. MessageStands schema places buffers type_no (place_in slot) t own)) (nested_of field n kind) h;
  text = ap (λ type. framed (message_text schema (fields_of_value schema type) (tree_map concat t))) (nested_of field n kind);
}

-- the place that a slot of a message names
pub message_place : (field : FieldType) (n : ℕ) → field.kind ≡ kinds.Message n → (at : ℕ) (bytes : List ℕ) → place_in (part at (slot_of (value_type_of field.kind)) bytes) ≡ place_in (part at 16 bytes)
message_place field n kind at bytes = ap (λ k. place_in (part at (slot_of (value_type_of k)) bytes)) kind

-- TEXTS AND BYTES

pub record IsStringValue (schema : Schema) (places : Places) (buffers : Buffers) (field : FieldType) (slot : List ℕ) (value : ValueWith (List (List ℕ))) (own : List Foot) : Type 0 where
  pub bytes : List ℕ
  pub holds : HoldsBytes places buffers slot bytes own
  pub text : value_text schema field (value_map concat value) ≡ framed bytes

pub string_value : (schema : Schema) (places : Places) (buffers : Buffers) (field : FieldType) (slot : List ℕ) (value : ValueWith (List (List ℕ))) (own : List Foot) → IsBytesType (value_type_of field.kind) → ValueStands schema places buffers (value_type_of field.kind) slot value own → IsStringValue schema places buffers field slot value own
string_value schema places buffers field slot value own type h =
    let v = list_laws.bytes_value schema places buffers (value_type_of field.kind) slot value own type h in
    record { bytes = v.0; holds = v.2; text = ap (λ w. value_text schema field (value_map concat w)) v.1 }

-- NUMBERS

pub record IsNumberValue (schema : Schema) (places : Places) (buffers : Buffers) (field : FieldType) (slot : List ℕ) (value : ValueWith (List (List ℕ))) : Type 0 where
  pub pattern : IsPatternOf (value_type_of field.kind) (number_in slot)
  pub text : value_text schema field (value_map concat value) ≡ spelled_text (value_type_of field.kind) (number_in slot)

pattern_of : (type : ValueType) (slot : List ℕ) (p : ℕ) → HoldsNumber type slot p → IsPatternOf type (number_in slot)
pattern_of (Scalar coding) slot p h = subst (λ n. n < coding.patterns) (sym h.1) h.0
pattern_of Characters slot p h = h
pattern_of Octets slot p h = h
pattern_of (Nested type_no) slot p h = h

string_no : (type : ValueType) (s : List ℕ) → IsNumberType type → IsStringOf type s → ⊥
string_no (Scalar coding) s number h = h
string_no Characters s number h = number
string_no Octets s number h = number
string_no (Nested type_no) s number h = number

link_no : (P : ℕ → Type 0) (type : ValueType) → IsNumberType type → IsLink P type → ⊥
link_no P (Scalar coding) number h = h
link_no P Characters number h = h
link_no P Octets number h = h
link_no P (Nested type_no) number h = number

same_number : (type : ValueType) (slot : List ℕ) (p : ℕ) → HoldsNumber type slot p → p ≡ number_in slot
same_number (Scalar coding) slot p h = sym h.1
same_number Characters slot p h = absurd h
same_number Octets slot p h = absurd h
same_number (Nested type_no) slot p h = absurd h

pub number_value : (schema : Schema) (places : Places) (buffers : Buffers) (field : FieldType) (slot : List ℕ) (value : ValueWith (List (List ℕ))) (own : List Foot) → IsNumberType (value_type_of field.kind) → ValueStands schema places buffers (value_type_of field.kind) slot value own → IsNumberValue schema places buffers field slot value
number_value schema places buffers field slot (Number p) own number h =
    record { pattern = pattern_of (value_type_of field.kind) slot p h.0; text = ap (spelled_text (value_type_of field.kind)) (same_number (value_type_of field.kind) slot p h.0) }
number_value schema places buffers field slot (Bytes s) own number h = absurd (string_no (value_type_of field.kind) s number h.kind)
number_value schema places buffers field slot (Sub t) own number h = absurd (link_no _ (value_type_of field.kind) number h)

-- KINDS

pub bytes_type : (kind : Kind) → (kind ≡ kinds.Text) ⊎ (kind ≡ kinds.Bytes) → IsBytesType (value_type_of kind)
bytes_type kind is = ⊎_elim (λ e. subst (λ k. IsBytesType (value_type_of k)) (sym e) tt) (λ e. subst (λ k. IsBytesType (value_type_of k)) (sym e) tt) is

pub number_type : (kind : Kind) → (kind ≡ kinds.Text → ⊥) → ((n : ℕ) → kind ≡ kinds.Message n → ⊥) → (kind ≡ kinds.Bytes → ⊥) → IsNumberType (value_type_of kind)
number_type kinds.Double text message bytes = tt
number_type kinds.Float text message bytes = tt
number_type kinds.Int64 text message bytes = tt
number_type kinds.UInt64 text message bytes = tt
number_type kinds.Int32 text message bytes = tt
number_type kinds.Fixed64 text message bytes = tt
number_type kinds.Fixed32 text message bytes = tt
number_type kinds.Bool text message bytes = tt
number_type kinds.Text text message bytes = absurd (text refl)
number_type (kinds.Message n) text message bytes = absurd (message n refl)
number_type kinds.Bytes text message bytes = absurd (bytes refl)
number_type kinds.UInt32 text message bytes = tt
number_type kinds.Enumeration text message bytes = tt
number_type kinds.SFixed32 text message bytes = tt
number_type kinds.SFixed64 text message bytes = tt
number_type kinds.SInt32 text message bytes = tt
number_type kinds.SInt64 text message bytes = tt

-- the bytes that a slot of 24 bytes tells of
pub string_slot : (places : Places) (buffers : Buffers) (type : ValueType) (at : ℕ) (bytes slot s : List ℕ) (own : List Foot) → IsBytesType type → slot ≡ part at 24 bytes → HoldsBytes places buffers (part at (slot_of type) bytes) s own → HoldsBytes places buffers slot s own
string_slot places buffers type at bytes slot s own kind is holds =
    subst (λ x. HoldsBytes places buffers x s own) (sym is) (subst (λ n. HoldsBytes places buffers (part at n bytes) s own) (list_laws.bytes_slot type kind) holds)
