-- A walk over the fields of another message, one after the other.
use Rattle.std.proofs.Common.{◌≡◌, ◌+◌, ◌≤◌, ℕ, zero, suc, List, [], ◌∷◌, length, drop, Some, refl, sym, ap, ap₂, ◌∙◌, subst, arith}
use Rattle.std.specs.Prelude.{slice_get, IsSome}
use Rattle.std.specs.List.{AllByRecursion}
use Rattle.std.specs.FinMap as fin
use Rattle.std.proofs.lemmas.Option.{same_Some}
use Rattle.arena_mem.specs.declared.place.Place.{Place}
use Rattle.arena_mem.specs.Places.{Places, Buffers, used}
use Rattle.pb_schema.specs.declared.kind.FieldType.{FieldType}
use Rattle.pb_schema.specs.declared.schema.Schema.{Schema}
use Rattle.pb_schema.specs.Fits.{fields_of}
use Rattle.pb_schema.specs.HeldAt.{field_among, field_at, held_among, held_at}
use Rattle.pb_schema.specs.Lawful.{Lawful}
use Rattle.pb_schema.specs.Merge.{shape_merge}
use Rattle.pb_schema.specs.MergeCost.{merge_cost}
use Rattle.pb_schema.specs.Meter.{Meter, cleanups}
use Rattle.pb_schema.specs.ParseCost.{pieces_cost}
use Rattle.pb_schema.specs.Tree.{HeldWith, Nothing, One, Many, Shape, Message, ValueListWith, NoValues, ValueAnd, NoFields, FieldAnd, fields_held, unknown_held}
use Rattle.pb_schema.specs.Units.{fields_units}
use Rattle.msg_layout.specs.declared.entry.Entry.{Entry}
use Rattle.msg_layout.specs.Layout.{layout_of}
use Rattle.dyn_message.specs.declared.msg_ref.MsgRef.{MsgRef}
use Rattle.dyn_message.specs.Changes.{NowStands}
use Rattle.dyn_message.specs.Feet.{Foot, foot_bytes}
use Rattle.dyn_message.specs.Lists.{with_appended}
use Rattle.dyn_message.specs.Stands.{Stands}
use Rattle.dyn_message.specs.Unknown.{pieces_of}
use Rattle.dyn_message.proofs.Entries.{fields_laid}
use Rattle.dyn_message.proofs.Focus.{fields_in}
use Rattle.pb_parse.proofs.Memories.{all_entries, stays, then_stands}
use Rattle.pb_write.proofs.Parts.{fields_drop}
use Rattle.msg_merge.specs.Across.{field_cost, field_into, field_units, record_meter}
use Rattle.msg_merge.specs.Extents.{pieces_bytes}
use Rattle.msg_merge.specs.Merging.{HoldsByCards, fields_into, fields_walk_cost, held_into, message_into, pieces_into, values_into, walk_cost}
use Rattle.msg_merge.proofs.Costs.{walk_costs}
use Rattle.msg_merge.proofs.Standing.{standing_by_cards}
use Rattle.msg_merge.proofs.Steps.{Aligned, Holdings, aligned, fields_differ, found, walk_merges}

-- AN INDEX

drop_at : (fields : List FieldType) (i : ℕ) (field : FieldType) → slice_get fields i ≡ Some field → drop i fields ≡ field ∷ drop (suc i) fields
drop_at [] zero field is = absurd cc
drop_at [] (suc i) field is = absurd cc
drop_at (first ∷ fields) zero field is = ap (λ f. f ∷ fields) (same_Some first field is)
drop_at (first ∷ fields) (suc i) field is = drop_at fields i field is

drop_end : (fields : List FieldType) → drop (length fields) fields ≡ []
drop_end [] = refl
drop_end (field ∷ fields) = drop_end fields

in_fields : (entries : List Entry) (i : ℕ) (entry : Entry) → slice_get entries i ≡ Some entry → slice_get (fields_in entries) i ≡ Some entry.field
in_fields [] zero entry is = absurd cc
in_fields [] (suc i) entry is = absurd cc
in_fields (first ∷ entries) zero entry is = ap (λ (e : Entry). Some e.field) (same_Some first entry is)
in_fields (first ∷ entries) (suc i) entry is = in_fields entries i entry is

counted : (entries : List Entry) → length (fields_in entries) ≡ length entries
counted [] = refl
counted (entry ∷ entries) = ap suc (counted entries)

aligned_at : (all : List FieldType) (whole : Holdings) (fields : List FieldType) (rest : Holdings) (i : ℕ) (field : FieldType) → Aligned all whole fields rest → slice_get fields i ≡ Some field
    → fields_drop i rest ≡ FieldAnd (held_among all field.number whole) (fields_drop (suc i) rest)
aligned_at all whole [] rest zero field line is = absurd cc
aligned_at all whole [] rest (suc i) field line is = absurd cc
aligned_at all whole (first ∷ fields) NoFields i field line is = absurd line
aligned_at all whole (first ∷ fields) (FieldAnd held rest) zero field line is = ap (λ h. FieldAnd h rest) (sym line.0 ∙ ap (λ (f : FieldType). held_among all f.number whole) (same_Some first field is))
aligned_at all whole (first ∷ fields) (FieldAnd held rest) (suc i) field line is = aligned_at all whole fields rest i field line.1 is

known_at : (all fields : List FieldType) (i : ℕ) (field : FieldType) → AllByRecursion (λ (f : FieldType). field_among all f.number ≡ Some f) fields → slice_get fields i ≡ Some field → field_among all field.number ≡ Some field
known_at all [] zero field known is = absurd cc
known_at all [] (suc i) field known is = absurd cc
known_at all (first ∷ fields) zero field known is = subst (λ (f : FieldType). field_among all f.number ≡ Some f) (same_Some first field is) known.0
known_at all (first ∷ fields) (suc i) field known is = known_at all fields i field known.1 is

module _ (schema : Schema) (lawful : Lawful schema) (type_no : ℕ) where
  abbrev fields : List FieldType
  fields = fields_of schema type_no

  pub at_index : (i : ℕ) (entry : Entry) → slice_get (layout_of schema type_no).entries i ≡ Some entry → slice_get fields i ≡ Some entry.field
  at_index i entry is = sym (ap (λ fs. slice_get fs i) (fields_laid schema type_no)) ∙ in_fields (layout_of schema type_no).entries i entry is

  pub known_field : (i : ℕ) (entry : Entry) → slice_get (layout_of schema type_no).entries i ≡ Some entry → field_at schema type_no entry.field.number ≡ Some entry.field
  known_field i entry is = known_at fields fields i entry.field (found fields (fields_differ schema lawful type_no)) (at_index i entry is)

  pub end_index : length (layout_of schema type_no).entries ≡ length fields
  end_index = sym (counted (layout_of schema type_no).entries) ∙ ap (λ (fs : List FieldType). length fs) (fields_laid schema type_no)

  -- what is held from this field on
  pub held_from : (places : Places) (buffers : Buffers) (at : Place) (u : Shape) (own : List Foot) → Stands schema places buffers (record { place = at; type_no = type_no }) u own → (i : ℕ) (field : FieldType) → slice_get fields i ≡ Some field
      → fields_drop i (fields_held u) ≡ FieldAnd (held_at schema type_no field.number u) (fields_drop (suc i) (fields_held u))
  held_from places buffers at u own su i field is =
      aligned_at fields (fields_held u) fields (fields_held u) i field
      (aligned fields (fields_held u) (fields_differ schema lawful type_no) (all_entries schema places buffers (record { place = at; type_no = type_no }) u own su)) is

-- UNKNOWN BYTES STAY

values_stay : (schema : Schema) (type_no number : ℕ) (values : ValueListWith (List (List ℕ))) (t : Shape) → unknown_held (values_into schema type_no number values t) ≡ unknown_held t
values_stay schema type_no number NoValues t = refl
values_stay schema type_no number (ValueAnd value values) t = values_stay schema type_no number values (with_appended schema type_no number value t)

held_stays : (schema : Schema) (type_no : ℕ) (field : FieldType) (held : HeldWith (List (List ℕ))) (t : Shape) → unknown_held (held_into schema type_no field held t) ≡ unknown_held t
held_stays schema type_no field Nothing t = refl
held_stays schema type_no field (One value) t = refl
held_stays schema type_no field (Many values) t = values_stay schema type_no field.number values t

fields_stay : (schema : Schema) (type_no : ℕ) (fields : List FieldType) (theirs : Holdings) (t : Shape) → unknown_held (fields_into schema type_no fields theirs t) ≡ unknown_held t
fields_stay schema type_no [] theirs t = refl
fields_stay schema type_no (field ∷ fields) NoFields t = refl
fields_stay schema type_no (field ∷ fields) (FieldAnd held rest) t = fields_stay schema type_no fields rest (held_into schema type_no field held t) ∙ held_stays schema type_no field held t

-- THE WALK

-- the fields before this one are merged, and what is left of them makes of the message what all did at the start
pub record WalkedTo (schema : Schema) (places : Places) (buffers : Buffers) (places' : Places) (buffers' : Buffers) (msg : MsgRef) (u : Shape) (i : ℕ) (t : Shape) (feet : List Foot) : Type 0 where
  pub shape : Shape
  pub stands : NowStands schema places buffers places' buffers' msg shape feet
  pub goes : fields_into schema msg.type_no (drop i (fields_of schema msg.type_no)) (fields_drop i (fields_held u)) shape ≡ fields_into schema msg.type_no (fields_of schema msg.type_no) (fields_held u) t
  pub space : used places' + fields_walk_cost (record_meter schema) schema msg.type_no (drop i (fields_of schema msg.type_no)) (fields_drop i (fields_held u)) shape
      ≡ used places + fields_walk_cost (record_meter schema) schema msg.type_no (fields_of schema msg.type_no) (fields_held u) t
  pub kept : fin.len buffers' + fields_walk_cost cleanups schema msg.type_no (drop i (fields_of schema msg.type_no)) (fields_drop i (fields_held u)) shape
      ≡ fin.len buffers + fields_walk_cost cleanups schema msg.type_no (fields_of schema msg.type_no) (fields_held u) t
  pub few : fields_units pieces_bytes (fields_drop i (fields_held u)) ≤ fields_units pieces_bytes (fields_held u)

module _ (schema : Schema) (msg : MsgRef) (u : Shape) where
  abbrev all : List FieldType
  all = fields_of schema msg.type_no

  pub walked_none : (places : Places) (buffers : Buffers) (t : Shape) (feet : List Foot) → Stands schema places buffers msg t feet → WalkedTo schema places buffers places buffers msg u 0 t feet
  walked_none places buffers t feet st = record { shape = t; stands = stays schema places buffers msg t feet st; goes = refl; space = refl; kept = refl; few = omega arith }

  module _ (i next : ℕ) (after : next ≡ suc i) (field : FieldType) (is : slice_get all i ≡ Some field) (line : fields_drop i (fields_held u) ≡ FieldAnd (held_at schema msg.type_no field.number u) (fields_drop (suc i) (fields_held u))) where
    step_into : (s : Shape) → fields_into schema msg.type_no (drop i all) (fields_drop i (fields_held u)) s ≡ fields_into schema msg.type_no (drop next all) (fields_drop next (fields_held u)) (field_into schema msg.type_no field s u)
    step_into s =
        ap₂ (λ fs hs. fields_into schema msg.type_no fs hs s) (drop_at all i field is) line
        ∙ ap (λ n. fields_into schema msg.type_no (drop n all) (fields_drop n (fields_held u)) (field_into schema msg.type_no field s u)) (sym after)

    step_cost : (meter : Meter) (s : Shape) → fields_walk_cost meter schema msg.type_no (drop i all) (fields_drop i (fields_held u)) s
        ≡ field_cost meter schema msg.type_no field s u + fields_walk_cost meter schema msg.type_no (drop next all) (fields_drop next (fields_held u)) (field_into schema msg.type_no field s u)
    step_cost meter s =
        ap₂ (λ fs hs. fields_walk_cost meter schema msg.type_no fs hs s) (drop_at all i field is) line
        ∙ ap (λ n. field_cost meter schema msg.type_no field s u + fields_walk_cost meter schema msg.type_no (drop n all) (fields_drop n (fields_held u)) (field_into schema msg.type_no field s u)) (sym after)

    pub step_units : fields_units pieces_bytes (fields_drop i (fields_held u)) ≡ field_units schema msg.type_no field u + fields_units pieces_bytes (fields_drop next (fields_held u))
    step_units = ap (fields_units pieces_bytes) line ∙ ap (λ n. field_units schema msg.type_no field u + fields_units pieces_bytes (fields_drop n (fields_held u))) (sym after)

    pub walked_more : (p0 p1 p2 : Places) (b0 b1 b2 : Buffers) (t : Shape) (feet : List Foot) → ((foot : Foot) → IsSome (foot_bytes p0 b0 foot) → IsSome (foot_bytes p1 b1 foot)) → (w : WalkedTo schema p0 b0 p1 b1 msg u i t feet)
        → NowStands schema p1 b1 p2 b2 msg (field_into schema msg.type_no field w.shape u) w.stands.now
        → used p2 ≡ used p1 + field_cost (record_meter schema) schema msg.type_no field w.shape u → fin.len b2 ≡ fin.len b1 + field_cost cleanups schema msg.type_no field w.shape u
        → WalkedTo schema p0 b0 p2 b2 msg u next t feet
    walked_more p0 p1 p2 b0 b1 b2 t feet still w now space kept = record {
      shape = field_into schema msg.type_no field w.shape u;
      stands = then_stands schema p0 p1 p2 b0 b1 b2 msg w.shape _ feet still w.stands now;
      goes = sym (step_into w.shape) ∙ w.goes;
      space = omega (arith, space, w.space, step_cost (record_meter schema) w.shape);
      kept = omega (arith, kept, w.kept, step_cost cleanups w.shape);
      few = omega (arith, w.few, step_units);
    }

  -- all fields are
  module _ (i : ℕ) (done : i ≡ length all) where
    pub no_more : drop i all ≡ []
    no_more = ap (λ n. drop n all) done ∙ drop_end all

    pub walked_into : (p0 p1 : Places) (b0 b1 : Buffers) (t : Shape) (feet : List Foot) → (w : WalkedTo schema p0 b0 p1 b1 msg u i t feet) → w.shape ≡ fields_into schema msg.type_no all (fields_held u) t
    walked_into p0 p1 b0 b1 t feet w = sym (ap (λ fs. fields_into schema msg.type_no fs (fields_drop i (fields_held u)) w.shape) no_more) ∙ w.goes

    pub walked_cost : (meter : Meter) (s : Shape) → fields_walk_cost meter schema msg.type_no (drop i all) (fields_drop i (fields_held u)) s ≡ 0
    walked_cost meter s = ap (λ fs. fields_walk_cost meter schema msg.type_no fs (fields_drop i (fields_held u)) s) no_more

into_parts : (schema : Schema) (type_no : ℕ) (t u : Shape) → pieces_into (pieces_of u) (fields_into schema type_no (fields_of schema type_no) (fields_held u) t) ≡ message_into schema type_no t u
into_parts schema type_no t (Message held pieces) = refl

cost_parts : (meter : Meter) (schema : Schema) (type_no : ℕ) (t u : Shape) → fields_walk_cost meter schema type_no (fields_of schema type_no) (fields_held u) t + pieces_cost meter (length (pieces_of t)) (pieces_of u) ≡ walk_cost meter schema type_no t u
cost_parts meter schema type_no t (Message held pieces) = refl

module _ (schema : Schema) (lawful : Lawful schema) (msg from : MsgRef) (same : from.type_no ≡ msg.type_no) (p0 p1 q : Places) (b0 b1 d : Buffers) (t u : Shape) (feet own : List Foot) (st : Stands schema p0 b0 msg t feet) (su : Stands schema q d from u own) (i : ℕ) (done : i ≡ length (fields_of schema msg.type_no)) (w : WalkedTo schema p0 b0 p1 b1 msg u i t feet) where
  abbrev whole : Shape
  whole = fields_into schema msg.type_no (fields_of schema msg.type_no) (fields_held u) t

  pub all_merged : message_into schema msg.type_no t u ≡ shape_merge schema msg.type_no t u
  all_merged = walk_merges schema msg.type_no t u lawful (standing_by_cards schema p0 b0 msg t feet lawful st) (subst (λ n. HoldsByCards schema n u) same (standing_by_cards schema q d from u own lawful su))

  all_costs : (meter : Meter) → walk_cost meter schema msg.type_no t u ≡ merge_cost meter schema msg.type_no t u
  all_costs meter = walk_costs meter schema msg.type_no t u lawful (standing_by_cards schema p0 b0 msg t feet lawful st) (subst (λ n. HoldsByCards schema n u) same (standing_by_cards schema q d from u own lawful su))

  pub walked_whole : (p2 : Places) (b2 : Buffers) → ((foot : Foot) → IsSome (foot_bytes p0 b0 foot) → IsSome (foot_bytes p1 b1 foot)) → NowStands schema p1 b1 p2 b2 msg (pieces_into (pieces_of u) w.shape) w.stands.now
      → NowStands schema p0 b0 p2 b2 msg (shape_merge schema msg.type_no t u) feet
  walked_whole p2 b2 still now =
      subst (λ s. NowStands schema p0 b0 p2 b2 msg s feet)
      (ap (pieces_into (pieces_of u)) (walked_into schema msg u i done p0 p1 b0 b1 t feet w) ∙ (into_parts schema msg.type_no t u ∙ all_merged))
      (then_stands schema p0 p1 p2 b0 b1 b2 msg w.shape _ feet still w.stands now)

  pub pieces_stay : pieces_of w.shape ≡ pieces_of t
  pieces_stay = ap unknown_held (walked_into schema msg u i done p0 p1 b0 b1 t feet w) ∙ fields_stay schema msg.type_no (fields_of schema msg.type_no) (fields_held u) t

  cost_whole : (meter : Meter) (mid new was : ℕ) → mid + fields_walk_cost meter schema msg.type_no (drop i (fields_of schema msg.type_no)) (fields_drop i (fields_held u)) w.shape ≡ was + fields_walk_cost meter schema msg.type_no (fields_of schema msg.type_no) (fields_held u) t
      → new ≡ mid + pieces_cost meter (length (pieces_of w.shape)) (pieces_of u) → new ≡ was + merge_cost meter schema msg.type_no t u
  cost_whole meter mid new was before after =
      omega (arith, before, after, walked_cost schema msg u i done meter w.shape, ap (λ ps. pieces_cost meter (length ps) (pieces_of u)) pieces_stay, cost_parts meter schema msg.type_no t u, all_costs meter)

  pub space_whole : (p2 : Places) → used p2 ≡ used p1 + pieces_cost (record_meter schema) (length (pieces_of w.shape)) (pieces_of u) → used p2 ≡ used p0 + merge_cost (record_meter schema) schema msg.type_no t u
  space_whole p2 after = cost_whole (record_meter schema) (used p1) (used p2) (used p0) w.space after

  pub kept_whole : (b2 : Buffers) → fin.len b2 ≡ fin.len b1 + pieces_cost cleanups (length (pieces_of w.shape)) (pieces_of u) → fin.len b2 ≡ fin.len b0 + merge_cost cleanups schema msg.type_no t u
  kept_whole b2 after = cost_whole cleanups (fin.len b1) (fin.len b2) (fin.len b0) w.kept after
