-- What a message stands on while it is read into: one change after another, and a change of a message inside.
use Rattle.std.proofs.Common.{◌≡◌, ◌+◌, ◌≤◌, ℕ, suc, List, [], ◌∷◌, length, Some, refl, sym, ap, ◌∙◌, subst, ⊎_elim, inl, inr, arith}
use Rattle.std.specs.Prelude.{IsSome}
use Rattle.std.proofs.lemmas.Option.{none-some}
use Rattle.arena_mem.specs.Places.{Places, Buffers}
use Rattle.pb_schema.specs.declared.kind.FieldType.{FieldType}
use Rattle.pb_schema.specs.declared.schema.Schema.{Schema}
use Rattle.pb_schema.specs.Fits.{fields_of}
use Rattle.pb_schema.specs.HeldAt.{field_at, field_among, held_at, with_held}
use Rattle.pb_schema.specs.Lawful.{Lawful}
use Rattle.pb_schema.specs.Tree.{One, Many, Sub, Shape, Message, ValueListWith, HeldListWith, NoFields, FieldAnd, fields_held, fields_in_list}
use Rattle.pb_schema.proofs.Steps.{option_map_some}
use Rattle.msg_layout.specs.declared.entry.Entry.{Entry}
use Rattle.msg_layout.specs.Layout.{layout_of, entry_of}
use Rattle.dyn_message.specs.declared.msg_ref.MsgRef.{MsgRef}
use Rattle.dyn_message.specs.Feet.{Foot, InPlace, times, IsAmong, KeepsOthers, OldOrFresh, foot_bytes}
use Rattle.dyn_message.specs.Stands.{Stands, FieldsStand, IsList}
use Rattle.dyn_message.specs.Changes.{Changes, NowStands}
use Rattle.dyn_message.specs.Links.{HasSub, StandsWith}
use Rattle.dyn_message.specs.Lists.{HasElement, with_element}
use Rattle.dyn_message.proofs.Counting.{among_or, none_of, one_is}
use Rattle.dyn_message.proofs.Changing.{changes_widen, fresh_before}
use Rattle.dyn_message.proofs.Entries.{same_found, fields_laid, found_number}
use Rattle.dyn_message.proofs.Focus.{fields_in}
use Rattle.dyn_message.proofs.ListLaws.{open_list}
use Rattle.dyn_message.proofs.Opening.{record_among, record_is}

-- FIELDS

fields_counted : (schema : Schema) (places : Places) (buffers : Buffers) (bytes : List ℕ) (entries : List Entry) (held : HeldListWith (List (List ℕ))) (feet : List Foot) → FieldsStand schema places buffers bytes entries held feet
    → length (fields_in_list held) ≡ length (fields_in entries)
fields_counted schema places buffers bytes [] NoFields feet h = refl
fields_counted schema places buffers bytes [] (FieldAnd held others) feet h = absurd h
fields_counted schema places buffers bytes (entry ∷ entries) NoFields feet h = absurd h
fields_counted schema places buffers bytes (entry ∷ entries) (FieldAnd held others) feet h = ap suc (fields_counted schema places buffers bytes entries others h.rest h.second)

-- a message that stands has an entry for each field of its type
pub all_entries : (schema : Schema) (places : Places) (buffers : Buffers) (msg : MsgRef) (t : Shape) (feet : List Foot) → Stands schema places buffers msg t feet → length (fields_in_list (fields_held t)) ≡ length (fields_of schema msg.type_no)
all_entries schema places buffers msg (Message held pieces) feet st =
    let m = st.message in
    let holds = m.holds in
    fields_counted schema places buffers m.bytes (layout_of schema msg.type_no).entries held holds.rest holds.second
    ∙ ap length (fields_laid schema msg.type_no)

-- a field's entry in the layout
pub entry_found : (schema : Schema) (type_no number : ℕ) (field : FieldType) → field_at schema type_no number ≡ Some field → (one : Entry) × (entry_of schema type_no number ≡ Some one) × (one.field ≡ field)
entry_found schema type_no number field found =
    let mapped = sym (same_found (layout_of schema type_no).entries number) ∙ (ap (λ fields. field_among fields number) (fields_laid schema type_no) ∙ found) in
    option_map_some (λ (e : Entry). e.field) (entry_of schema type_no number) field mapped (λ one is same. (one, is, same))

-- a list field of a message that stands holds many values
pub list_there : (schema : Schema) → Lawful schema → (places : Places) (buffers : Buffers) (msg : MsgRef) (number : ℕ) (field : FieldType) → field_at schema msg.type_no number ≡ Some field → IsList field.card
    → (t : Shape) (feet : List Foot) → Stands schema places buffers msg t feet → (values : ValueListWith (List (List ℕ))) × (held_at schema msg.type_no number t ≡ Many values)
list_there schema lawful places buffers msg number field found list t feet st =
    let e = entry_found schema msg.type_no number field found in
    let r = record_is schema places buffers msg t feet st in
    let o = open_list schema lawful places buffers msg number e.0 r.bytes e.1 (found_number (layout_of schema msg.type_no).entries number e.0 e.1) (subst (λ (f : FieldType). IsList f.card) (sym e.2) list) r.there t feet st in
    (o.values, o.held)

-- CHANGES

module _ {S K : Type 0} (key : S → K) (places : S → Places) (buffers : S → Buffers) (blocks : S → ℕ → ℕ) where
  pub nothing_changes : (feet : List Foot) (m : S) → Changes key places buffers blocks 0 0 feet m m
  nothing_changes feet m = record {
    key = refl;
    others = λ foot was outside is. is;
    still_there = λ foot some. some;
    no_fewer_places = omega arith;
    few_places = omega arith;
    no_fewer_buffers = omega arith;
    few_buffers = omega arith;
    no_fewer_blocks = λ region. omega arith;
    few_blocks = λ region. omega arith;
  }

  -- a change of what a message stood on, and then one of what it stands on since
  pub then_changes : (p q a b : ℕ) (feet now : List Foot) (old mid new : S) → Changes key places buffers blocks p a feet old mid → OldOrFresh (places old) (buffers old) feet now → Changes key places buffers blocks q b now mid new
      → Changes key places buffers blocks (p + q) (a + b) feet old new
  then_changes p q a b feet now old mid new c from d = record {
    key = d.key ∙ c.key;
    others = λ foot was outside is. d.others foot was
        (none_of foot now (λ among. ⊎_elim (λ before. absurd (omega (arith, before, outside))) (λ fresh. none-some was (sym fresh ∙ is)) (from foot among)))
        (c.others foot was outside is);
    still_there = λ foot some. d.still_there foot (c.still_there foot some);
    no_fewer_places = omega (arith, c.no_fewer_places, d.no_fewer_places);
    few_places = omega (arith, c.few_places, d.few_places);
    no_fewer_buffers = omega (arith, c.no_fewer_buffers, d.no_fewer_buffers);
    few_buffers = omega (arith, c.few_buffers, d.few_buffers);
    no_fewer_blocks = λ region. omega (arith, c.no_fewer_blocks region, d.no_fewer_blocks region);
    few_blocks = λ region. omega (arith, c.few_blocks region, d.few_blocks region);
  }

  -- the same within a bound
  pub then_within : (p q a b r d : ℕ) (feet now : List Foot) (old mid new : S) → Changes key places buffers blocks p a feet old mid → OldOrFresh (places old) (buffers old) feet now → Changes key places buffers blocks q b now mid new
      → p + q ≤ r → a + b ≤ d → Changes key places buffers blocks r d feet old new
  then_within p q a b r d feet now old mid new c from e few_p few_a =
      changes_widen key places buffers blocks (p + q) r (a + b) d feet feet old new (then_changes p q a b feet now old mid new c from e) few_p few_a (λ foot among. among)

  pub within_more : (p q a b : ℕ) (feet : List Foot) (old new : S) → Changes key places buffers blocks p a feet old new → p ≤ q → a ≤ b → Changes key places buffers blocks q b feet old new
  within_more p q a b feet old new c few_p few_a = changes_widen key places buffers blocks p q a b feet feet old new c few_p few_a (λ foot among. among)

  -- a change of a message's record is one of what it stands on
  pub record_changes : (p q a b : ℕ) (schema : Schema) (msg : MsgRef) (t : Shape) (feet : List Foot) (old new : S) → Stands schema (places old) (buffers old) msg t feet → Changes key places buffers blocks p a (InPlace msg.place ∷ []) old new → p ≤ q → a ≤ b
      → Changes key places buffers blocks q b feet old new
  record_changes p q a b schema msg t feet old new st c few_p few_a =
      changes_widen key places buffers blocks p q a b (InPlace msg.place ∷ []) feet old new c few_p few_a
      (λ foot among. subst (λ f. IsAmong f feet) (sym (one_is (InPlace msg.place) foot among)) (record_among schema (places old) (buffers old) msg t feet st))

-- MESSAGES

pub stays : (schema : Schema) (places : Places) (buffers : Buffers) (msg : MsgRef) (t : Shape) (feet : List Foot) → Stands schema places buffers msg t feet → NowStands schema places buffers places buffers msg t feet
stays schema places buffers msg t feet st = record { now = feet; stands = st; from = λ foot among. inl among }

pub then_stands : (schema : Schema) (p0 p1 p2 : Places) (b0 b1 b2 : Buffers) (msg : MsgRef) (u v : Shape) (feet : List Foot)
    → ((foot : Foot) → IsSome (foot_bytes p0 b0 foot) → IsSome (foot_bytes p1 b1 foot))
    → (n : NowStands schema p0 b0 p1 b1 msg u feet) → NowStands schema p1 b1 p2 b2 msg v n.now → NowStands schema p0 b0 p2 b2 msg v feet
then_stands schema p0 p1 p2 b0 b1 b2 msg u v feet still n m = record {
  now = m.now;
  stands = m.stands;
  from = λ foot among. ⊎_elim (λ old. n.from foot old) (λ fresh. inr (fresh_before p0 p1 b0 b1 foot (still foot) fresh)) (m.from foot among);
}

with_from : (schema : Schema) (p1 p2 : Places) (b1 b2 : Buffers) (msg child : MsgRef) (u w : Shape) (feet own : List Foot)
    → ((foot : Foot) → times foot own ≤ times foot feet) → (n : NowStands schema p1 b1 p2 b2 child u own) → StandsWith schema p2 b2 msg w feet own n.now → NowStands schema p1 b1 p2 b2 msg w feet
with_from schema p1 p2 b1 b2 msg child u w feet own within n s = record {
  now = s.now;
  stands = s.stands;
  from = λ foot among. ⊎_elim
      (λ new. ⊎_elim (λ old. inl (omega (arith, within foot, old))) (λ fresh. inr fresh) (n.from foot new))
      (λ none. inl (omega (arith, s.count foot, among, none)))
      (among_or foot n.now);
}

-- a message inside was read into, and stands for something else now
pub sub_read : (schema : Schema) (p1 p2 : Places) (b1 b2 : Buffers) (msg : MsgRef) (t : Shape) (feet : List Foot) (number : ℕ) (child : MsgRef) (u : Shape) (h : HasSub schema p1 b1 msg t feet number child)
    → NowStands schema p1 b1 p2 b2 child u h.own → KeepsOthers p1 b1 p2 b2 h.own → NowStands schema p1 b1 p2 b2 msg (with_held schema msg.type_no number (One (Sub u)) t) feet
sub_read schema p1 p2 b1 b2 msg t feet number child u h n keeps = with_from schema p1 p2 b1 b2 msg child u _ feet h.own h.within n (h.later p2 b2 u n.now n.stands keeps n.from)

pub element_read : (schema : Schema) (p1 p2 : Places) (b1 b2 : Buffers) (msg : MsgRef) (t : Shape) (feet : List Foot) (number index : ℕ) (child : MsgRef) (u : Shape) (h : HasElement schema p1 b1 msg t feet number index child)
    → NowStands schema p1 b1 p2 b2 child u h.own → KeepsOthers p1 b1 p2 b2 h.own → NowStands schema p1 b1 p2 b2 msg (with_element schema msg.type_no number index (Sub u) t) feet
element_read schema p1 p2 b1 b2 msg t feet number index child u h n keeps = with_from schema p1 p2 b1 b2 msg child u _ feet h.own h.within n (h.later p2 b2 u n.now n.stands keeps n.from)

-- feet of what lies inside are feet of the whole
pub among_more : (own feet : List Foot) → ((foot : Foot) → times foot own ≤ times foot feet) → (foot : Foot) → IsAmong foot own → IsAmong foot feet
among_more own feet within foot among = omega (arith, within foot, among)
