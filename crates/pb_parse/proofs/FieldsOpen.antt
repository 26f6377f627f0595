-- What a field of a message that stands holds, where it is a message's.
use Rattle.std.proofs.Common.{◌≡◌, ◌⊎◌, inl, inr, ℕ, Bool, List, Option, Some, refl, subst}
use Rattle.arena_mem.specs.Places.{Places, Buffers}
use Rattle.pb_schema.specs.declared.kind.FieldType.{FieldType}
use Rattle.pb_schema.specs.declared.schema.Schema.{Schema}
use Rattle.pb_schema.specs.Fitted.{IsStringOf}
use Rattle.pb_schema.specs.HeldAt.{field_at, held_at}
use Rattle.pb_schema.specs.Kinds.{ValueType, Nested, value_type_of}
use Rattle.pb_schema.specs.Lawful.{Lawful}
use Rattle.pb_schema.specs.Tree.{HeldWith, Number, Bytes, Sub, Nothing, One, Many, Shape}
use Rattle.msg_layout.specs.Layout.{layout_of}
use Rattle.dyn_message.specs.declared.msg_ref.MsgRef.{MsgRef}
use Rattle.dyn_message.specs.Feet.{Foot}
use Rattle.dyn_message.specs.Slots.{slot_in, told_in}
use Rattle.dyn_message.specs.Stands.{HoldsNumber, IsSingle, HeldStands, Stands}
use Rattle.dyn_message.proofs.Entries.{found_number}
use Rattle.dyn_message.proofs.Opening.{both, open_field, record_is}
use Rattle.pb_parse.proofs.Memories.{entry_found}

abbrev Holding : Type 0
Holding = HeldWith (List (List ℕ))

pub record FieldOpen (schema : Schema) (places : Places) (buffers : Buffers) (field : FieldType) (held : Holding) : Type 0 where
  pub told : Option Bool
  pub slot : List ℕ
  pub own : List Foot
  pub stands : HeldStands schema places buffers field told slot held own

pub field_open : (schema : Schema) → Lawful schema → (places : Places) (buffers : Buffers) (msg : MsgRef) (field : FieldType) → field_at schema msg.type_no field.number ≡ Some field → (t : Shape) (feet : List Foot) → Stands schema places buffers msg t feet
    → FieldOpen schema places buffers field (held_at schema msg.type_no field.number t)
field_open schema lawful places buffers msg field known t feet st =
    let e = entry_found schema msg.type_no field.number field known in
    let r = record_is schema places buffers msg t feet st in
    let o = open_field schema lawful places buffers msg field.number e.0 r.bytes t feet st e.1 (found_number (layout_of schema msg.type_no).entries field.number e.0 e.1) r.there in
    subst (λ (f : FieldType). FieldOpen schema places buffers f (held_at schema msg.type_no field.number t)) e.2
    (record { told = told_in e.0 r.bytes; slot = slot_in e.0 r.bytes; own = o.own; stands = o.stands })

module _ (schema : Schema) (places : Places) (buffers : Buffers) (field : FieldType) where
  no_number : (type : ValueType) (inner p : ℕ) (slot : List ℕ) → type ≡ Nested inner → HoldsNumber type slot p → ⊥
  no_number type inner p slot is h = subst (λ k. HoldsNumber k slot p) is h

  no_string : (type : ValueType) (inner : ℕ) (s : List ℕ) → type ≡ Nested inner → IsStringOf type s → ⊥
  no_string type inner s is h = subst (λ k. IsStringOf k s) is h

  pub nothing_or_sub : (inner : ℕ) → value_type_of field.kind ≡ Nested inner → IsSingle field.card → (held : Holding) → FieldOpen schema places buffers field held → (held ≡ Nothing) ⊎ ((t : Shape) × (held ≡ One (Sub t)))
  nothing_or_sub inner type single Nothing o = inl refl
  nothing_or_sub inner type single (One (Number p)) o = absurd (no_number (value_type_of field.kind) inner p o.slot type o.stands.2.0)
  nothing_or_sub inner type single (One (Bytes s)) o = absurd (no_string (value_type_of field.kind) inner s type o.stands.2.kind)
  nothing_or_sub inner type single (One (Sub t)) o = inr (t, refl)
  nothing_or_sub inner type single (Many elements) o = absurd (both field.card single o.stands.0)

-- a field of one message holds nothing or that
pub sub_set : (schema : Schema) → Lawful schema → (places : Places) (buffers : Buffers) (msg : MsgRef) (field : FieldType) → field_at schema msg.type_no field.number ≡ Some field → (t : Shape) (feet : List Foot) → Stands schema places buffers msg t feet
    → (inner : ℕ) → value_type_of field.kind ≡ Nested inner → IsSingle field.card → (held_at schema msg.type_no field.number t ≡ Nothing) ⊎ ((u : Shape) × (held_at schema msg.type_no field.number t ≡ One (Sub u)))
sub_set schema lawful places buffers msg field known t feet st inner type single =
    nothing_or_sub schema places buffers field inner type single (held_at schema msg.type_no field.number t) (field_open schema lawful places buffers msg field known t feet st)
