-- What is read of a message.
use Rattle.std.proofs.Common.{◌≡◌, ◌^◌, ◌+◌, ◌≤◌, ◌<◌, ℕ, zero, suc, Bool, true, false, ◌&&◌, not, cond, eqb, length, replicate, drop, length-take, length-drop, w32, w64, List, [], ◌∷◌, Option, None, Some, true≢false, refl, sym, ap, ◌∙◌, subst, arith}
use Rattle.std.proofs.lemmas.Bool.{ne_eqb}
use Rattle.std.proofs.lemmas.Nat.{from_le_bytes-to_le_bytes_4, from_le_bytes-to_le_bytes_8}
use Rattle.std.proofs.lemmas.Option.{none-some, same_Some}
use Rattle.std.specs.Int.{from_le_bytes}
use Rattle.std.specs.FinMap as map
use Rattle.arena_mem.specs.Places.{Places, Buffers}
use Rattle.pb_schema.specs.declared.kind.Card.{Card}
use Rattle.pb_schema.specs.declared.kind.Card.TheVariants as cards
use Rattle.pb_schema.specs.declared.kind.Kind.{Kind}
use Rattle.pb_schema.specs.declared.kind.Kind.TheVariants as kinds
use Rattle.pb_schema.specs.declared.kind.FieldType.{FieldType}
use Rattle.pb_schema.specs.declared.schema.Schema.{Schema}
use Rattle.pb_schema.specs.Lawful.{Lawful}
use Rattle.pb_schema.specs.Kinds.{ValueType, Scalar, Characters, Octets, Nested, value_type_of, slot_of}
use Rattle.pb_schema.specs.HeldAt.{field_at, held_among, held_at}
use Rattle.pb_schema.specs.Tree.{Number, Bytes, Sub, HeldWith, Nothing, One, Many, Shape, Message}
use Rattle.pb_schema.specs.Cards.{is_repeated}
use Rattle.pb_schema.specs.Fitted.{IsPatternOf, IsStringOf}
use Rattle.msg_layout.specs.declared.entry.Entry.{Entry}
use Rattle.msg_layout.specs.declared.entry.Mark.TheVariants as marks
use Rattle.msg_layout.specs.Slots.{slot_bytes, array_slot, is_message, is_explicit}
use Rattle.msg_layout.specs.Layout.{layout_of, entry_of, word_of}
use Rattle.dyn_message.specs.declared.msg_ref.MsgRef.{MsgRef}
use Rattle.dyn_message.specs.Feet.{Foot, InPlace, times, IsAmong}
use Rattle.dyn_message.proofs.Counting.{times_first}
use Rattle.dyn_message.specs.Slots.{part, word, number_in, slot_in, told_in, told_by, set_by, MayBeSet, MayBeUnset}
use Rattle.dyn_message.specs.Stands.{IsSingle, IsList, HoldsNumber, IsLink, MayHold, HeldStands, Stands}
use Rattle.dyn_message.specs.Fields.{HasField, IsMessageIn, IsNumberType, number_held}
use Rattle.pb_schema.specs.Fits.{fields_of}
use Rattle.dyn_message.proofs.Focus.{fields_in}
use Rattle.dyn_message.proofs.Entries.{Suits, fields_laid}
use Rattle.dyn_message.specs.Writes.{number_bytes}
use Rattle.dyn_message.proofs.Messages.{SetsAll, focus_message}

-- the record of a message, by its parts
pub record Opened (schema : Schema) (places : Places) (buffers : Buffers) (msg : MsgRef) (one : Entry) (bytes : List ℕ) (held : HeldWith (List (List ℕ))) (feet : List Foot) : Type 0 where
  pub own : List Foot
  pub within : (foot : Foot) → times foot own ≤ times foot feet
  pub stands : HeldStands schema places buffers one.field (told_in one bytes) (slot_in one bytes) held own

pub open_field : (schema : Schema) → Lawful schema → (places : Places) (buffers : Buffers) (msg : MsgRef) (number : ℕ) (one : Entry) (bytes : List ℕ) (t : Shape) (feet : List Foot) → Stands schema places buffers msg t feet
    → entry_of schema msg.type_no number ≡ Some one → one.field.number ≡ number → map.get places msg.place ≡ Some bytes → Opened schema places buffers msg one bytes (held_at schema msg.type_no number t) feet
open_field schema lawful places buffers msg number one bytes (Message fields pieces) feet st found number_is there =
    let m = st.message in
    let f = focus_message schema lawful places buffers msg.type_no msg.place fields pieces feet m one (ap (entry_of schema msg.type_no) number_is ∙ found) in
    let same : m.bytes ≡ bytes = same_Some m.bytes bytes (sym m.there ∙ there) in
    let held : held_among (fields_in (layout_of schema msg.type_no).entries) one.field.number fields ≡ held_at schema msg.type_no number (Message fields pieces) =
    ap (λ fs. held_among fs one.field.number fields) (fields_laid schema msg.type_no) ∙ ap (λ n. held_among (fields_of schema msg.type_no) n fields) number_is in
    record {
      own = f.own;
      within = λ foot. omega (arith, f.within foot, ap (times foot) m.feet_are);
      stands = subst (λ b. HeldStands schema places buffers one.field (told_in one b) (slot_in one b) (held_at schema msg.type_no number (Message fields pieces)) f.own) same
          (subst (λ h. HeldStands schema places buffers one.field (told_in one m.bytes) (slot_in one m.bytes) h f.own) held f.stands);
    }

-- what a message's record is
pub record RecordIs (schema : Schema) (places : Places) (msg : MsgRef) : Type 0 where
  pub type : msg.type_no < length schema.types
  pub len : msg.place.len ≡ (layout_of schema msg.type_no).size
  pub bytes : List ℕ
  pub there : map.get places msg.place ≡ Some bytes
  pub size : length bytes ≡ (layout_of schema msg.type_no).size

pub record_is : (schema : Schema) (places : Places) (buffers : Buffers) (msg : MsgRef) (t : Shape) (feet : List Foot) → Stands schema places buffers msg t feet → RecordIs schema places msg
record_is schema places buffers msg (Message fields pieces) feet st =
    let m = st.message in
    record { type = m.type; len = m.len; bytes = m.bytes; there = m.there; size = m.size }

pub some_record : (schema : Schema) (places : Places) (buffers : Buffers) (msg : MsgRef) → IsMessageIn schema places buffers msg → RecordIs schema places msg
some_record schema places buffers msg is = record_is schema places buffers msg is.0 is.1 is.2

-- the field that a condition names is the entry's
pub has_field : {Cards : Card → Type 0} {Types : ValueType → Type 0} (schema : Schema) (type_no number : ℕ) (field : FieldType) → HasField Cards Types schema type_no number → field_at schema type_no number ≡ Some field → Cards field.card × Types (value_type_of field.kind)
has_field {Cards} {Types} schema type_no number field has found =
    let same = same_Some has.field field (sym has.found ∙ found) in
    (subst (λ (f : FieldType). Cards f.card) same has.card, subst (λ (f : FieldType). Types (value_type_of f.kind)) same has.type)

-- NUMBERS

pub zeros_in : (count : ℕ) → number_in (replicate count 0) ≡ 0
zeros_in zero = refl
zeros_in (suc count) = omega (arith, zeros_in count)

pub holds_number : (type : ValueType) (slot : List ℕ) (p : ℕ) → HoldsNumber type slot p → number_in slot ≡ p
holds_number (Scalar coding) slot p h = h.1
holds_number Characters slot p h = absurd h
holds_number Octets slot p h = absurd h
holds_number (Nested type_no) slot p h = absurd h

pub both : (card : Card) → IsSingle card → IsList card → ⊥
both cards.Implicit one many = many
both cards.Explicit one many = many
both (cards.Member oneof) one many = many
both (cards.Repeated packed) one many = one

-- a field that is unset, by its mark or by a slot of zeros
unset_by : (told : Option Bool) → MayBeUnset told → set_by told false ≡ false
unset_by None h = refl
unset_by (Some told) h = h

pub set_by_mark : (told : Option Bool) (slot_tells : Bool) → MayBeSet told → (told ≡ None → slot_tells ≡ true) → set_by told slot_tells ≡ true
set_by_mark None slot_tells h by_slot = by_slot refl
set_by_mark (Some told) slot_tells h by_slot = h

no_string : (type : ValueType) (s : List ℕ) → IsNumberType type → IsStringOf type s → ⊥
no_string (Scalar coding) s number h = h
no_string Characters s number h = number
no_string Octets s number h = number
no_string (Nested type_no) s number h = number

no_link : (P : ℕ → Type 0) (type : ValueType) → IsNumberType type → IsLink P type → ⊥
no_link P (Scalar coding) number h = h
no_link P Characters number h = h
no_link P Octets number h = h
no_link P (Nested type_no) number h = number

not_zero : (n : ℕ) → n ≡ 0 → not (eqb n 0) ≡ false
not_zero n is = ap (λ k. not (eqb k 0)) is

-- what is set is the number in the slot
pub number_there : (schema : Schema) (places : Places) (buffers : Buffers) (field : FieldType) (told : Option Bool) (slot : List ℕ) (held : HeldWith (List (List ℕ))) (own : List Foot) (n : ℕ) → IsSingle field.card → IsNumberType (value_type_of field.kind)
    → n ≡ number_in slot → HeldStands schema places buffers field told slot held own → set_by told (not (eqb n 0)) ≡ true → held ≡ One (Number n)
number_there schema places buffers field told slot Nothing own n single number is h set = absurd (true≢false (sym set ∙ by_told told h.1))
  where
    by_told : (t : Option Bool) → MayBeUnset t → set_by t (not (eqb n 0)) ≡ false
    by_told None unset = not_zero n (is ∙ ap number_in h.2 ∙ zeros_in (slot_bytes field))
    by_told (Some t) unset = unset
number_there schema places buffers field told slot (One (Number p)) own n single number is h set = ap (λ k. One (Number k)) (sym (is ∙ holds_number (value_type_of field.kind) slot p h.2.0))
number_there schema places buffers field told slot (One (Bytes s)) own n single number is h set = absurd (no_string (value_type_of field.kind) s number h.2.kind)
number_there schema places buffers field told slot (One (Sub t)) own n single number is h set = absurd (no_link _ (value_type_of field.kind) number h.2)
number_there schema places buffers field told slot (Many elements) own n single number is h set = absurd (both field.card single h.0)

-- and else nothing is
pub number_none : (schema : Schema) (places : Places) (buffers : Buffers) (field : FieldType) (told : Option Bool) (slot : List ℕ) (held : HeldWith (List (List ℕ))) (own : List Foot) (n : ℕ) → IsSingle field.card → IsNumberType (value_type_of field.kind)
    → n ≡ number_in slot → HeldStands schema places buffers field told slot held own → (told ≡ None → field.card ≡ cards.Implicit) → set_by told (not (eqb n 0)) ≡ false → held ≡ Nothing
number_none schema places buffers field told slot Nothing own n single number is h implicit unset = refl
number_none schema places buffers field told slot (One (Number p)) own n single number is h implicit unset =
    absurd (true≢false (sym (set_by_mark told (not (eqb n 0)) h.1 (λ untold. some n (omega (arith, is, holds_number (value_type_of field.kind) slot p h.2.0, subst (λ c. MayHold {U = List (List ℕ)} c (Number p)) (implicit untold) h.0)))) ∙ unset))
  where
    some : (k : ℕ) → 1 ≤ k → not (eqb k 0) ≡ true
    some k le = ap not (ne_eqb k 0 (λ e. omega (arith, le, e)))
number_none schema places buffers field told slot (One (Bytes s)) own n single number is h implicit unset = absurd (no_string (value_type_of field.kind) s number h.2.kind)
number_none schema places buffers field told slot (One (Sub t)) own n single number is h implicit unset = absurd (no_link _ (value_type_of field.kind) number h.2)
number_none schema places buffers field told slot (Many elements) own n single number is h implicit unset = absurd (both field.card single h.0)

-- the slot of a single value has its size
pub single_slot : (field : FieldType) → IsSingle field.card → slot_bytes field ≡ slot_of (value_type_of field.kind)
single_slot field single = by_card field.card single
  where
    by_card : (card : Card) → IsSingle card → cond (is_repeated card) array_slot (slot_of (value_type_of field.kind)) ≡ slot_of (value_type_of field.kind)
    by_card cards.Implicit h = refl
    by_card cards.Explicit h = refl
    by_card (cards.Member oneof) h = refl
    by_card (cards.Repeated packed) h = absurd h

-- a field that is no message and that no mark tells has no presence
pub untold_implicit : (one : Entry) (b : List ℕ) → Suits one → IsSingle one.field.card → is_message (value_type_of one.field.kind) ≡ false → told_in one b ≡ None → one.field.card ≡ cards.Implicit
unfolding told_in
untold_implicit one b suits single plain untold = by_card one.field.card single (sym untold ∙ ap (λ m. told_by one.field.number m b) (suits.mark ∙ ap (λ t. cond (is_explicit one.field.card && not t) (marks.Bit suits.bits) (word_of suits.bytes one.field.card)) plain))
  where
    by_card : (card : Card) → IsSingle card → None ≡ told_by one.field.number (cond (is_explicit card && true) (marks.Bit suits.bits) (word_of suits.bytes card)) b → card ≡ cards.Implicit
    by_card cards.Implicit h e = refl
    by_card cards.Explicit h e = absurd (none-some _ e)
    by_card (cards.Member oneof) h e = absurd (none-some _ e)
    by_card (cards.Repeated packed) h e = absurd h

pub number_plain : (type : ValueType) → IsNumberType type → is_message type ≡ false
number_plain (Scalar coding) h = refl
number_plain Characters h = refl
number_plain Octets h = refl
number_plain (Nested type_no) h = absurd h

-- PUT

pub pattern_number : (type : ValueType) (p : ℕ) → IsPatternOf type p → IsNumberType type
pattern_number (Scalar coding) p h = tt
pattern_number Characters p h = h
pattern_number Octets p h = h
pattern_number (Nested type_no) p h = h

four_bytes : (s : List ℕ) → length s ≡ 4 → from_le_bytes w32 s ≡ number_in s
four_bytes [] size = absurd (omega (arith, size))
four_bytes (a ∷ []) size = absurd (omega (arith, size))
four_bytes (a ∷ b ∷ []) size = absurd (omega (arith, size))
four_bytes (a ∷ b ∷ c ∷ []) size = absurd (omega (arith, size))
four_bytes (a ∷ b ∷ c ∷ d ∷ []) size = omega arith
four_bytes (a ∷ b ∷ c ∷ d ∷ e ∷ s) size = absurd (omega (arith, size))

pub word_number : (at : ℕ) (b : List ℕ) → at + 4 ≤ length b → word 0 (drop at b) ≡ number_in (part at 4 b)
unfolding word
word_number at b fits = four_bytes (part at 4 b) (omega (arith, length-take 4 (drop at b), length-drop at b))

-- a number that is written is read again
eight_bytes : (a b c d e f g h : ℕ) → number_in (a ∷ b ∷ c ∷ d ∷ e ∷ f ∷ g ∷ h ∷ []) ≡ from_le_bytes w64 (a ∷ b ∷ c ∷ d ∷ e ∷ f ∷ g ∷ h ∷ [])
eight_bytes a b c d e f g h = omega arith

read_8 : (p : ℕ) → p < 2 ^ 64 → number_in (number_bytes 8 p) ≡ p
read_8 p fits = eight_bytes _ _ _ _ _ _ _ _ ∙ from_le_bytes-to_le_bytes_8 p fits

read_4 : (p : ℕ) → p < 2 ^ 32 → number_in (number_bytes 4 p) ≡ p
read_4 p fits = sym (four_bytes (number_bytes 4 p) refl) ∙ from_le_bytes-to_le_bytes_4 p fits

read_1 : (p : ℕ) → p < 2 → number_in (number_bytes 1 p) ≡ p
read_1 p fits = omega (arith, fits)

pub number_read : (kind : Kind) (p : ℕ) → IsPatternOf (value_type_of kind) p → HoldsNumber (value_type_of kind) (number_bytes (slot_of (value_type_of kind)) p) p
number_read kinds.Double p h = (h, read_8 p h)
number_read kinds.Int64 p h = (h, read_8 p h)
number_read kinds.UInt64 p h = (h, read_8 p h)
number_read kinds.Fixed64 p h = (h, read_8 p h)
number_read kinds.SFixed64 p h = (h, read_8 p h)
number_read kinds.SInt64 p h = (h, read_8 p h)
number_read kinds.Float p h = (h, read_4 p h)
number_read kinds.Int32 p h = (h, read_4 p h)
number_read kinds.Fixed32 p h = (h, read_4 p h)
number_read kinds.UInt32 p h = (h, read_4 p h)
number_read kinds.Enumeration p h = (h, read_4 p h)
number_read kinds.SFixed32 p h = (h, read_4 p h)
number_read kinds.SInt32 p h = (h, read_4 p h)
number_read kinds.Bool p h = (h, read_1 p h)
number_read kinds.Text p h = absurd h
number_read kinds.Bytes p h = absurd h
number_read (kinds.Message type_no) p h = absurd h

number_zero : (kind : Kind) → IsPatternOf (value_type_of kind) 0 → number_bytes (slot_of (value_type_of kind)) 0 ≡ replicate (slot_of (value_type_of kind)) 0
number_zero kinds.Double h = refl
number_zero kinds.Int64 h = refl
number_zero kinds.UInt64 h = refl
number_zero kinds.Fixed64 h = refl
number_zero kinds.SFixed64 h = refl
number_zero kinds.SInt64 h = refl
number_zero kinds.Float h = refl
number_zero kinds.Int32 h = refl
number_zero kinds.Fixed32 h = refl
number_zero kinds.UInt32 h = refl
number_zero kinds.Enumeration h = refl
number_zero kinds.SFixed32 h = refl
number_zero kinds.SInt32 h = refl
number_zero kinds.Bool h = refl
number_zero kinds.Text h = absurd h
number_zero kinds.Bytes h = absurd h
number_zero (kinds.Message type_no) h = absurd h

pub number_size : (kind : Kind) (p : ℕ) → IsPatternOf (value_type_of kind) p → length (number_bytes (slot_of (value_type_of kind)) p) ≡ slot_of (value_type_of kind)
number_size kinds.Double p h = refl
number_size kinds.Int64 p h = refl
number_size kinds.UInt64 p h = refl
number_size kinds.Fixed64 p h = refl
number_size kinds.SFixed64 p h = refl
number_size kinds.SInt64 p h = refl
number_size kinds.Float p h = refl
number_size kinds.Int32 p h = refl
number_size kinds.Fixed32 p h = refl
number_size kinds.UInt32 p h = refl
number_size kinds.Enumeration p h = refl
number_size kinds.SFixed32 p h = refl
number_size kinds.SInt32 p h = refl
number_size kinds.Bool p h = refl
number_size kinds.Text p h = absurd h
number_size kinds.Bytes p h = absurd h
number_size (kinds.Message type_no) p h = absurd h

may_be_unset : (told : Option Bool) → told ≡ None → MayBeUnset told
may_be_unset told none = subst MayBeUnset (sym none) tt

-- what is put in the slot of a number
pub number_stands : (schema : Schema) (places : Places) (buffers : Buffers) (field : FieldType) (p : ℕ) (told : Option Bool) → IsSingle field.card → IsPatternOf (value_type_of field.kind) p → MayBeSet told → (field.card ≡ cards.Implicit → told ≡ None)
    → HeldStands schema places buffers field told (number_bytes (slot_of (value_type_of field.kind)) p) (number_held field.card p) []
number_stands schema places buffers field p told single pattern set implicit = by_card field.card refl p pattern
  where
    one : (card : Card) (q : ℕ) → field.card ≡ card → IsPatternOf (value_type_of field.kind) q → MayHold {U = List (List ℕ)} card (Number q)
        → HeldStands schema places buffers field told (number_bytes (slot_of (value_type_of field.kind)) q) (One (Number q)) []
    one card q is pattern may = (subst (λ c. MayHold {U = List (List ℕ)} c (Number q)) (sym is) may, set, (number_read field.kind q pattern, refl))

    by_card : (card : Card) → field.card ≡ card → (q : ℕ) → IsPatternOf (value_type_of field.kind) q → HeldStands schema places buffers field told (number_bytes (slot_of (value_type_of field.kind)) q) (number_held card q) []
    by_card cards.Implicit is zero pattern = (single, may_be_unset told (implicit is), number_zero field.kind pattern ∙ ap (λ n. replicate n 0) (sym (single_slot field single)), refl)
    by_card cards.Implicit is (suc q) pattern = one cards.Implicit (suc q) is pattern (omega arith)
    by_card cards.Explicit is q pattern = one cards.Explicit q is pattern tt
    by_card (cards.Member oneof) is q pattern = one (cards.Member oneof) q is pattern tt
    by_card (cards.Repeated packed) is q pattern = absurd (subst IsSingle is single)

pub number_sets : (card : Card) (p : ℕ) → IsSingle card → SetsAll {U = List (List ℕ)} card (number_held card p)
number_sets cards.Implicit zero single = refl
number_sets cards.Implicit (suc p) single = tt
number_sets cards.Explicit p single = tt
number_sets (cards.Member oneof) p single = tt
number_sets (cards.Repeated packed) p single = absurd single

-- the record is one of the feet
pub record_among : (schema : Schema) (places : Places) (buffers : Buffers) (msg : MsgRef) (t : Shape) (feet : List Foot) → Stands schema places buffers msg t feet → IsAmong (InPlace msg.place) feet
record_among schema places buffers msg (Message fields pieces) feet st =
    let m = st.message in
    omega (arith, ap (times (InPlace msg.place)) m.feet_are, times_first (InPlace msg.place) m.behind)
