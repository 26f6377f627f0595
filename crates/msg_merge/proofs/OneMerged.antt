-- A field of one value that is merged into the same field of another message.
use Rattle.std.proofs.Common.{◌≡◌, ◌+◌, ◌<◌, ◌^◌, ◌⊎◌, inl, inr, ⊎_elim, ℕ, zero, suc, Bool, false, List, [], ◌∷◌, ◌++◌, length, Option, Some, Result, Ok, Err, refl, sym, ap, ◌∙◌, subst, arith}
use Rattle.std.specs.Prelude.{map, slice_get, IfOk}
use Rattle.arena_mem.specs.Places.{Places, Buffers}
use Rattle.pb_schema.specs.declared.kind.Card.{Card}
use Rattle.pb_schema.specs.declared.kind.Card.TheVariants as cards
use Rattle.pb_schema.specs.declared.kind.FieldType.{FieldType}
use Rattle.pb_schema.specs.declared.schema.Schema.{Schema}
use Rattle.pb_schema.specs.Empty.{empty_with, unset}
use Rattle.pb_schema.specs.Fits.{fields_of, nested_fields, fields_of_value}
use Rattle.pb_schema.specs.Fitted.{IsPatternOf, IsStringOf}
use Rattle.pb_schema.specs.HeldAt.{field_at, held_at, with_held}
use Rattle.pb_schema.specs.Kinds.{ValueType, Nested, value_type_of}
use Rattle.pb_schema.specs.Lawful.{Lawful}
use Rattle.pb_schema.specs.Merge.{held_merged, fields_merged, is_replaced, message_merged, shape_merge}
use Rattle.pb_schema.specs.MergeCost.{held_merge_cost, merge_cost, value_merge_cost, message_merge_cost, nested_size}
use Rattle.pb_schema.specs.Meter.{Meter}
use Rattle.pb_schema.specs.Tree.{ValueWith, Number, Bytes, Sub, Nothing, One, Many, Shape, Message, ValueListWith, NoValues, ValueAnd, NoFields, FieldAnd, held_list, values_in_list}
use Rattle.msg_layout.specs.Layout.{layout_of}
use Rattle.dyn_message.specs.declared.msg_ref.MsgRef.{MsgRef}
use Rattle.dyn_message.specs.Feet.{Foot}
use Rattle.dyn_message.specs.Fields.{number_held, bytes_held, number_put, bytes_put, held_by}
use Rattle.dyn_message.specs.Links.{made_bytes, sub_or}
use Rattle.dyn_message.specs.Slots.{slot_in, told_in}
use Rattle.dyn_message.specs.Stands.{HoldsNumber, IsSingle, MayHold, HeldStands, Stands}
use Rattle.dyn_message.proofs.Entries.{found_number}
use Rattle.dyn_message.proofs.Opening.{both, open_field, record_is}
use Rattle.pb_parse.proofs.Memories.{entry_found}
use Rattle.msg_merge.specs.Across.{field_into}
use Rattle.msg_merge.specs.Merging.{held_into, IsHeldAs, AreHeldAs, HoldsByCards}
use Rattle.msg_merge.proofs.Listed.{pattern_is}
use Rattle.msg_merge.proofs.Steps.{Holding, Holdings}

-- WHAT IS TOLD

pub if_ok : {T E : Type 0} (P Q : T → Type 0) (r : Result T E) → ((x : T) → P x → Q x) → IfOk r P → IfOk r Q
if_ok P Q (Ok x) f h = f x h
if_ok P Q (Err e) f h = tt

pub all_ok : {T E : Type 0} (P : T → Type 0) (r : Result T E) → ((x : T) → P x) → IfOk r P
all_ok P (Ok x) f = f x
all_ok P (Err e) f = tt

-- WHAT A FIELD HOLDS

pub record FieldOpen (schema : Schema) (places : Places) (buffers : Buffers) (field : FieldType) (held : Holding) : Type 0 where
  pub told : Option Bool
  pub slot : List ℕ
  pub own : List Foot
  pub stands : HeldStands schema places buffers field told slot held own

pub field_open : (schema : Schema) → Lawful schema → (places : Places) (buffers : Buffers) (msg : MsgRef) (field : FieldType) → field_at schema msg.type_no field.number ≡ Some field → (t : Shape) (feet : List Foot) → Stands schema places buffers msg t feet
    → FieldOpen schema places buffers field (held_at schema msg.type_no field.number t)
field_open schema lawful places buffers msg field known t feet st =
    let e = entry_found schema msg.type_no field.number field known in
    let r = record_is schema places buffers msg t feet st in
    let o = open_field schema lawful places buffers msg field.number e.0 r.bytes t feet st e.1 (found_number (layout_of schema msg.type_no).entries field.number e.0 e.1) r.there in
    subst (λ (f : FieldType). FieldOpen schema places buffers f (held_at schema msg.type_no field.number t)) e.2
    (record { told = told_in e.0 r.bytes; slot = slot_in e.0 r.bytes; own = o.own; stands = o.stands })

module _ (schema : Schema) (places : Places) (buffers : Buffers) (field : FieldType) where
  pub number_facts : (p : ℕ) → FieldOpen schema places buffers field (One (Number p)) → IsPatternOf (value_type_of field.kind) p × MayHold {U = List (List ℕ)} field.card (Number p)
  number_facts p o = (pattern_is (value_type_of field.kind) o.slot p o.stands.2.0, o.stands.0)

  pub bytes_facts : (s : List ℕ) → FieldOpen schema places buffers field (One (Bytes s)) → IsStringOf (value_type_of field.kind) s × (length s < 2 ^ 31) × MayHold {U = List (List ℕ)} field.card (Bytes s)
  bytes_facts s o = (o.stands.2.kind, o.stands.2.short, o.stands.0)

  no_number : (type : ValueType) (inner p : ℕ) (slot : List ℕ) → type ≡ Nested inner → HoldsNumber type slot p → ⊥
  no_number type inner p slot is h = subst (λ k. HoldsNumber k slot p) is h

  no_string : (type : ValueType) (inner : ℕ) (s : List ℕ) → type ≡ Nested inner → IsStringOf type s → ⊥
  no_string type inner s is h = subst (λ k. IsStringOf k s) is h

  pub nothing_or_sub : (inner : ℕ) → value_type_of field.kind ≡ Nested inner → IsSingle field.card → (held : Holding) → FieldOpen schema places buffers field held → (held ≡ Nothing) ⊎ ((t : Shape) × (held ≡ One (Sub t)))
  nothing_or_sub inner type single Nothing o = inl refl
  nothing_or_sub inner type single (One (Number p)) o = absurd (no_number (value_type_of field.kind) inner p o.slot type o.stands.2.0)
  nothing_or_sub inner type single (One (Bytes s)) o = absurd (no_string (value_type_of field.kind) inner s type o.stands.2.kind)
  nothing_or_sub inner type single (One (Sub t)) o = inr (t, refl)
  nothing_or_sub inner type single (Many values) o = absurd (both field.card single o.stands.0)

-- what the other message sets
module _ (schema : Schema) (lawful : Lawful schema) (places : Places) (buffers : Buffers) (msg : MsgRef) (field : FieldType) (known : field_at schema msg.type_no field.number ≡ Some field) (u : Shape) (own : List Foot) (su : Stands schema places buffers msg u own) where
  pub number_set : (p : ℕ) → held_at schema msg.type_no field.number u ≡ One (Number p) → IsPatternOf (value_type_of field.kind) p × MayHold {U = List (List ℕ)} field.card (Number p)
  number_set p is = number_facts schema places buffers field p (subst (FieldOpen schema places buffers field) is (field_open schema lawful places buffers msg field known u own su))

  pub bytes_set : (s : List ℕ) → held_at schema msg.type_no field.number u ≡ One (Bytes s) → IsStringOf (value_type_of field.kind) s × (length s < 2 ^ 31) × MayHold {U = List (List ℕ)} field.card (Bytes s)
  bytes_set s is = bytes_facts schema places buffers field s (subst (FieldOpen schema places buffers field) is (field_open schema lawful places buffers msg field known u own su))

  pub sub_set : (inner : ℕ) → value_type_of field.kind ≡ Nested inner → IsSingle field.card → (held_at schema msg.type_no field.number u ≡ Nothing) ⊎ ((t : Shape) × (held_at schema msg.type_no field.number u ≡ One (Sub t)))
  sub_set inner type single = nothing_or_sub schema places buffers field inner type single (held_at schema msg.type_no field.number u) (field_open schema lawful places buffers msg field known u own su)

-- NUMBERS, TEXTS AND BYTES

number_stays : (card : Card) (p : ℕ) → MayHold {U = List (List ℕ)} card (Number p) → number_held {U = List (List ℕ)} card p ≡ One (Number p)
number_stays cards.Implicit zero may = absurd (omega (arith, may))
number_stays cards.Implicit (suc p) may = refl
number_stays cards.Explicit p may = refl
number_stays (cards.Member oneof) p may = refl
number_stays (cards.Repeated packed) p may = absurd may

bytes_stay : (card : Card) (s : List ℕ) → MayHold {U = List (List ℕ)} card (Bytes s) → bytes_held {U = List (List ℕ)} card s ≡ One (Bytes s)
bytes_stay cards.Implicit [] may = absurd (omega (arith, may))
bytes_stay cards.Implicit (b ∷ s) may = refl
bytes_stay cards.Explicit s may = refl
bytes_stay (cards.Member oneof) s may = refl
bytes_stay (cards.Repeated packed) s may = absurd may

module _ (schema : Schema) (field : FieldType) where
  number_wins : (ours : Holding) (p : ℕ) → held_merged (λ x y. x ++ y) schema field false ours (One (Number p)) ≡ One (Number p)
  number_wins Nothing p = refl
  number_wins (One (Number q)) p = refl
  number_wins (One (Bytes s)) p = refl
  number_wins (One (Sub t)) p = refl
  number_wins (Many values) p = refl

  bytes_win : (ours : Holding) (s : List ℕ) → held_merged (λ x y. x ++ y) schema field false ours (One (Bytes s)) ≡ One (Bytes s)
  bytes_win Nothing s = refl
  bytes_win (One (Number q)) s = refl
  bytes_win (One (Bytes r)) s = refl
  bytes_win (One (Sub t)) s = refl
  bytes_win (Many values) s = refl

  number_costs : (meter : Meter) (ours : Holding) (p : ℕ) → held_merge_cost meter schema field ours (One (Number p)) ≡ 0
  number_costs meter Nothing p = refl
  number_costs meter (One (Number q)) p = refl
  number_costs meter (One (Bytes r)) p = refl
  number_costs meter (One (Sub t)) p = refl
  number_costs meter (Many values) p = refl

  bytes_cost : (meter : Meter) (ours : Holding) (s : List ℕ) → held_merge_cost meter schema field ours (One (Bytes s)) ≡ meter.bytes (length s)
  bytes_cost meter Nothing s = refl
  bytes_cost meter (One (Number q)) s = refl
  bytes_cost meter (One (Bytes r)) s = refl
  bytes_cost meter (One (Sub t)) s = refl
  bytes_cost meter (Many values) s = refl

module _ (schema : Schema) (type_no : ℕ) (field : FieldType) (known : field_at schema type_no field.number ≡ Some field) (t : Shape) where
  -- what is set is what the field holds
  pub number_into : (u : Shape) (p : ℕ) → held_at schema type_no field.number u ≡ One (Number p) → MayHold {U = List (List ℕ)} field.card (Number p) → with_held schema type_no field.number (number_put schema type_no field.number p) t ≡ field_into schema type_no field t u
  number_into u p is may =
      ap (λ h. with_held schema type_no field.number h t)
      (ap (held_by (λ (card : Card). number_held {U = List (List ℕ)} card p)) known ∙ (number_stays field.card p may ∙ sym (number_wins schema field (held_at schema type_no field.number t) p)))
      ∙ sym (ap (λ h. held_into schema type_no field h t) is)

  pub bytes_into : (u : Shape) (s : List ℕ) → held_at schema type_no field.number u ≡ One (Bytes s) → MayHold {U = List (List ℕ)} field.card (Bytes s) → with_held schema type_no field.number (bytes_put schema type_no field.number s) t ≡ field_into schema type_no field t u
  bytes_into u s is may =
      ap (λ h. with_held schema type_no field.number h t)
      (ap (held_by (λ (card : Card). bytes_held {U = List (List ℕ)} card s)) known ∙ (bytes_stay field.card s may ∙ sym (bytes_win schema field (held_at schema type_no field.number t) s)))
      ∙ sym (ap (λ h. held_into schema type_no field h t) is)

-- MESSAGES

held_unset : (schema : Schema) (field : FieldType) (replaced : Bool) (card : Card) (held : Holding) → IsHeldAs card held → held_merged (λ x y. x ++ y) schema field replaced (unset card) held ≡ held
held_unset schema field replaced cards.Implicit held is = refl
held_unset schema field replaced cards.Explicit held is = refl
held_unset schema field replaced (cards.Member oneof) held is = refl
held_unset schema field replaced (cards.Repeated packed) Nothing is = absurd is
held_unset schema field replaced (cards.Repeated packed) (One value) is = absurd is
held_unset schema field replaced (cards.Repeated packed) (Many values) is = refl

fields_unset : (schema : Schema) (all : List FieldType) (whole : Holdings) (fields : List FieldType) (theirs : Holdings) → AreHeldAs fields theirs
    → fields_merged (λ x y. x ++ y) schema all whole fields (held_list (map (λ field. unset field.card) fields)) theirs ≡ theirs
fields_unset schema all whole [] NoFields fit = refl
fields_unset schema all whole [] (FieldAnd held rest) fit = absurd fit
fields_unset schema all whole (field ∷ fields) NoFields fit = absurd fit
fields_unset schema all whole (field ∷ fields) (FieldAnd held rest) fit =
    ap (λ h. FieldAnd h (fields_merged (λ x y. x ++ y) schema all whole fields (held_list (map (λ field. unset field.card) fields)) rest)) (held_unset schema field (is_replaced field.card all whole) field.card held fit.0)
    ∙ ap (FieldAnd held) (fields_unset schema all whole fields rest fit.2)

pub into_empty : (schema : Schema) (type_no : ℕ) (u : Shape) → HoldsByCards schema type_no u → shape_merge schema type_no (empty_with [] (fields_of schema type_no)) u ≡ u
into_empty schema type_no (Message theirs pieces) fit = ap (λ h. Message h pieces) (fields_unset schema (fields_of schema type_no) theirs (fields_of schema type_no) theirs fit)

module _ (schema : Schema) (field : FieldType) (inner : ℕ) (type : value_type_of field.kind ≡ Nested inner) (u : Shape) (fit : HoldsByCards schema inner u) where
  abbrev none : Shape
  none = empty_with [] (fields_of schema inner)

  nested : nested_fields schema field ≡ fields_of schema inner
  nested = ap (fields_of_value schema) type

  -- the message that comes to be there
  sub_wins : (ours : Holding) → (ours ≡ Nothing) ⊎ ((t : Shape) × (ours ≡ One (Sub t))) → held_merged (λ x y. x ++ y) schema field false ours (One (Sub u)) ≡ One (Sub (shape_merge schema inner (sub_or none ours) u))
  sub_wins Nothing is = ap (λ v. One (Sub v)) (sym (into_empty schema inner u fit))
  sub_wins (One (Sub t)) is = ap (λ fields. One (Sub (message_merged (λ x y. x ++ y) schema fields t u))) nested
  sub_wins (One (Number p)) is = absurd (⊎_elim (λ e. cc) (λ e. let same = e.1 in cc) is)
  sub_wins (One (Bytes s)) is = absurd (⊎_elim (λ e. cc) (λ e. let same = e.1 in cc) is)
  sub_wins (Many values) is = absurd (⊎_elim (λ e. cc) (λ e. let same = e.1 in cc) is)

  pub sub_into : (type_no : ℕ) (t w : Shape) → held_at schema type_no field.number w ≡ One (Sub u) → (held_at schema type_no field.number t ≡ Nothing) ⊎ ((s : Shape) × (held_at schema type_no field.number t ≡ One (Sub s)))
      → with_held schema type_no field.number (One (Sub (shape_merge schema inner (sub_or none (held_at schema type_no field.number t)) u))) t ≡ field_into schema type_no field t w
  sub_into type_no t w is ours =
      ap (λ h. with_held schema type_no field.number h t) (sym (sub_wins (held_at schema type_no field.number t) ours))
      ∙ sym (ap (λ h. held_into schema type_no field h t) is)

  pub fresh_sub : (meter : Meter) → value_merge_cost meter schema field Nothing (Sub u) ≡ meter.size inner + merge_cost meter schema inner none u
  fresh_sub meter = ap (λ (v : ValueType). nested_size meter v + message_merge_cost meter schema (fields_of_value schema v) (empty_with [] (fields_of_value schema v)) u) type

  -- what it counts
  pub sub_costs : (meter : Meter) (ours : Holding) → (ours ≡ Nothing) ⊎ ((t : Shape) × (ours ≡ One (Sub t)))
      → held_merge_cost meter schema field ours (One (Sub u)) ≡ made_bytes (meter.size inner) ours + merge_cost meter schema inner (sub_or none ours) u
  sub_costs meter Nothing is = fresh_sub meter
  sub_costs meter (One (Sub t)) is = omega (arith, ap (λ fields. message_merge_cost meter schema fields t u) nested)
  sub_costs meter (One (Number p)) is = absurd (⊎_elim (λ e. cc) (λ e. let same = e.1 in cc) is)
  sub_costs meter (One (Bytes s)) is = absurd (⊎_elim (λ e. cc) (λ e. let same = e.1 in cc) is)
  sub_costs meter (Many values) is = absurd (⊎_elim (λ e. cc) (λ e. let same = e.1 in cc) is)

pub made_none : (ours : Holding) → made_bytes 0 ours ≡ 0
made_none Nothing = refl
made_none (One value) = refl
made_none (Many values) = refl

-- an element that there is
pub some_element : (values : ValueListWith (List (List ℕ))) (i : ℕ) → i < length (values_in_list values) → (value : ValueWith (List (List ℕ))) × (slice_get (values_in_list values) i ≡ Some value)
some_element NoValues i less = absurd (omega (arith, less))
some_element (ValueAnd value values) zero less = (value, refl)
some_element (ValueAnd value values) (suc i) less = some_element values i (omega (arith, less))
