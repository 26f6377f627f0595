-- A message in a field or a list of another, into which a message of the other side was merged.
use Rattle.std.proofs.Common.{◌≡◌, ◌+◌, ◌≤◌, ◌⊎◌, ℕ, List, [], Some, sym, ap, ◌∙◌, subst, arith}
use Rattle.std.specs.Prelude.{slice_get, IsSome}
use Rattle.std.proofs.lemmas.Option.{same_Some}
use Rattle.arena_mem.specs.Places.{Places, Buffers}
use Rattle.pb_schema.specs.declared.kind.FieldType.{FieldType}
use Rattle.pb_schema.specs.declared.schema.Schema.{Schema}
use Rattle.pb_schema.specs.Empty.{empty_with}
use Rattle.pb_schema.specs.Fits.{fields_of}
use Rattle.pb_schema.specs.HeldAt.{field_at, held_at, with_held}
use Rattle.pb_schema.specs.Kinds.{Nested, value_type_of}
use Rattle.pb_schema.specs.Lawful.{Lawful}
use Rattle.pb_schema.specs.Merge.{shape_merge}
use Rattle.pb_schema.specs.MergeCost.{held_merge_cost, merge_cost, value_merge_cost}
use Rattle.pb_schema.specs.Meter.{Meter}
use Rattle.pb_schema.specs.Tree.{ValueWith, Nothing, One, Sub, Shape}
use Rattle.pb_schema.specs.Units.{held_units, value_units}
use Rattle.pb_schema.proofs.HeldLaws.{get_after_set}
use Rattle.dyn_message.specs.declared.msg_ref.MsgRef.{MsgRef}
use Rattle.dyn_message.specs.Feet.{Foot, times, KeepsOthers, OldOrFresh, foot_bytes}
use Rattle.dyn_message.specs.Stands.{Stands, IsSingle}
use Rattle.dyn_message.specs.Changes.{Changes, NowStands}
use Rattle.dyn_message.specs.Links.{HasMadeSub, HasSub, made_bytes, sub_or}
use Rattle.dyn_message.specs.Lists.{HasAppended, HasElement, count_at, elements_at, with_appended}
use Rattle.dyn_message.proofs.Changing.{changes_widen}
use Rattle.dyn_message.proofs.Opening.{has_field}
use Rattle.pb_parse.proofs.HeldSteps.{with_held_ones, element_put, element_found}
use Rattle.pb_parse.proofs.Memories.{all_entries, among_more, element_read, sub_read, then_stands, then_within}
use Rattle.msg_merge.specs.Across.{field_cost, field_into, field_units, inner_units}
use Rattle.msg_merge.specs.Extents.{pieces_bytes}
use Rattle.msg_merge.specs.Merging.{HoldsByCards}
use Rattle.msg_merge.proofs.ListMerged.{inner_of}
use Rattle.msg_merge.proofs.OneMerged.{fresh_sub, into_empty, sub_costs, sub_into, sub_set}
use Rattle.msg_merge.proofs.Standing.{standing_by_cards}

same_nested : (a b : ℕ) → Nested a ≡ Nested b → a ≡ b
same_nested a b e = cc

-- what the calls that make a message and merge into it did to the memory
module _ {S K : Type 0} (key : S → K) (places : S → Places) (buffers : S → Buffers) (blocks : S → ℕ → ℕ) where
  pub inside_changes : (p q a b r d : ℕ) (feet now own : List Foot) (old mid new : S) → Changes key places buffers blocks p a feet old mid → OldOrFresh (places old) (buffers old) feet now
      → ((foot : Foot) → times foot own ≤ times foot now) → Changes key places buffers blocks q b own mid new → p + q ≤ r → a + b ≤ d
      → Changes key places buffers blocks r d feet old new
  inside_changes p q a b r d feet now own old mid new c from within e few_p few_a =
      then_within key places buffers blocks p q a b r d feet now old mid new c from
      (changes_widen key places buffers blocks q q b b own now mid new e (omega arith) (omega arith) (among_more own now within)) few_p few_a

-- IN A FIELD

module _ (schema : Schema) (lawful : Lawful schema) (to : MsgRef) (field : FieldType) (known : field_at schema to.type_no field.number ≡ Some field) (single : IsSingle field.card)
    (p0 p1 q : Places) (b0 b1 d : Buffers) (t u : Shape) (feet own : List Foot) (st : Stands schema p0 b0 to t feet) (theirs source child : MsgRef) (theirs_type : theirs.type_no ≡ to.type_no)
    (has : HasSub schema q d theirs u own field.number source) (made : HasMadeSub schema p0 b0 p1 b1 to t feet field.number child) where
  made_type : value_type_of field.kind ≡ Nested child.type_no
  made_type = (has_field schema to.type_no field.number field made.has.type known).1

  pub source_type : source.type_no ≡ child.type_no
  source_type = same_nested source.type_no child.type_no (sym (has_field schema theirs.type_no field.number field has.type (ap (λ n. field_at schema n field.number) theirs_type ∙ known)).1 ∙ made_type)

  fit : HoldsByCards schema child.type_no has.tree
  fit = subst (λ n. HoldsByCards schema n has.tree) source_type (standing_by_cards schema q d source has.tree has.own lawful has.stands)

  held : held_at schema to.type_no field.number u ≡ One (Sub has.tree)
  held = ap (λ n. held_at schema n field.number u) (sym theirs_type) ∙ has.held

  ours : (held_at schema to.type_no field.number t ≡ Nothing) ⊎ ((s : Shape) × (held_at schema to.type_no field.number t ≡ One (Sub s)))
  ours = sub_set schema lawful p0 b0 to field known t feet st child.type_no made_type single

  abbrev before : Shape
  before = sub_or (empty_with [] (fields_of schema child.type_no)) (held_at schema to.type_no field.number t)

  made_tree : made.has.tree ≡ before
  made_tree =
      ap (sub_or (empty_with [] (fields_of schema child.type_no)))
      (sym made.has.held ∙ get_after_set schema to.type_no field.number field (One (Sub before)) t known (all_entries schema p0 b0 to t feet st))

  pub sub_merged : (p2 : Places) (b2 : Buffers) → ((foot : Foot) → IsSome (foot_bytes p0 b0 foot) → IsSome (foot_bytes p1 b1 foot))
      → NowStands schema p1 b1 p2 b2 child (shape_merge schema child.type_no made.has.tree has.tree) made.has.own → KeepsOthers p1 b1 p2 b2 made.has.own
      → NowStands schema p0 b0 p2 b2 to (field_into schema to.type_no field t u) feet
  sub_merged p2 b2 still now keeps =
      let v = shape_merge schema child.type_no made.has.tree has.tree in
      let mid = with_held schema to.type_no field.number (One (Sub before)) t in
      subst (λ s. NowStands schema p0 b0 p2 b2 to s feet)
      (with_held_ones schema to.type_no field.number (Sub before) (Sub v) t
      ∙ (ap (λ w. with_held schema to.type_no field.number (One (Sub (shape_merge schema child.type_no w has.tree))) t) made_tree
      ∙ sub_into schema field child.type_no made_type has.tree fit to.type_no t u held ours))
      (then_stands schema p0 p1 p2 b0 b1 b2 to mid _ feet still made.parent (sub_read schema p1 p2 b1 b2 to mid made.parent.now field.number child v made.has now keeps))

  pub sub_counts : (meter : Meter) (was mid new : ℕ) → mid ≡ was + made_bytes (meter.size child.type_no) (held_at schema to.type_no field.number t) → new ≡ mid + merge_cost meter schema child.type_no made.has.tree has.tree
      → new ≡ was + field_cost meter schema to.type_no field t u
  sub_counts meter was mid new first later =
      let all = ap (held_merge_cost meter schema field (held_at schema to.type_no field.number t)) held ∙ sub_costs schema field child.type_no made_type has.tree fit meter (held_at schema to.type_no field.number t) ours in
      let same = ap (λ w. merge_cost meter schema child.type_no w has.tree) made_tree in
      omega (arith, first, later, all, same)

  pub sub_units : field_units schema to.type_no field u ≡ 1 + inner_units has.tree
  sub_units = ap (held_units pieces_bytes) held ∙ inner_of has.tree

-- a message has a unit at least
pub sub_field_units : (schema : Schema) (theirs : MsgRef) (field : FieldType) (q : Places) (d : Buffers) (u : Shape) (own : List Foot) (source : MsgRef) → (has : HasSub schema q d theirs u own field.number source) → field_units schema theirs.type_no field u ≡ 1 + inner_units has.tree
sub_field_units schema theirs field q d u own source has = ap (held_units pieces_bytes) has.held ∙ inner_of has.tree

-- IN A LIST

module _ (schema : Schema) (lawful : Lawful schema) (to : MsgRef) (field : FieldType) (known : field_at schema to.type_no field.number ≡ Some field)
    (p0 p1 q : Places) (b0 b1 d : Buffers) (t u : Shape) (feet own : List Foot) (st : Stands schema p0 b0 to t feet) (theirs source child : MsgRef) (theirs_type : theirs.type_no ≡ to.type_no) (index : ℕ)
    (has : HasElement schema q d theirs u own field.number index source) (made : HasAppended schema p0 b0 p1 b1 to t feet field.number child) where
  element_type : value_type_of field.kind ≡ Nested child.type_no
  element_type = (has_field schema to.type_no field.number field made.has.type known).1

  pub element_source : source.type_no ≡ child.type_no
  element_source = same_nested source.type_no child.type_no (sym (has_field schema theirs.type_no field.number field has.type (ap (λ n. field_at schema n field.number) theirs_type ∙ known)).1 ∙ element_type)

  element_fit : HoldsByCards schema child.type_no has.tree
  element_fit = subst (λ n. HoldsByCards schema n has.tree) element_source (standing_by_cards schema q d source has.tree has.own lawful has.stands)

  abbrev none : Shape
  none = empty_with [] (fields_of schema child.type_no)

  appended_tree : made.has.tree ≡ none
  appended_tree =
      ap (λ v. sub_or none (One v))
      (same_Some (Sub made.has.tree) (Sub none)
      (sym made.has.held ∙ element_found schema to.type_no field.number field (Sub none) t known (all_entries schema p0 b0 to t feet st)))

  module _ (value : ValueWith (List (List ℕ))) (is : slice_get (elements_at schema to.type_no field.number u) index ≡ Some value) where
    value_is : Sub has.tree ≡ value
    value_is = same_Some (Sub has.tree) value (sym (ap (λ n. slice_get (elements_at schema n field.number u) index) (sym theirs_type) ∙ has.held) ∙ is)

    pub element_merged : (p2 : Places) (b2 : Buffers) → ((foot : Foot) → IsSome (foot_bytes p0 b0 foot) → IsSome (foot_bytes p1 b1 foot))
        → NowStands schema p1 b1 p2 b2 child (shape_merge schema child.type_no made.has.tree has.tree) made.has.own → KeepsOthers p1 b1 p2 b2 made.has.own
        → NowStands schema p0 b0 p2 b2 to (with_appended schema to.type_no field.number value t) feet
    element_merged p2 b2 still now keeps =
        let v = shape_merge schema child.type_no made.has.tree has.tree in
        let mid = with_appended schema to.type_no field.number (Sub none) t in
        let v_is : v ≡ has.tree = ap (λ w. shape_merge schema child.type_no w has.tree) appended_tree ∙ into_empty schema child.type_no has.tree element_fit in
        subst (λ s. NowStands schema p0 b0 p2 b2 to s feet)
        (element_put schema to.type_no field.number field (Sub none) (Sub v) t known (all_entries schema p0 b0 to t feet st)
        ∙ (ap (λ w. with_appended schema to.type_no field.number (Sub w) t) v_is
        ∙ ap (λ w. with_appended schema to.type_no field.number w t) value_is))
        (then_stands schema p0 p1 p2 b0 b1 b2 to mid _ feet still made.parent (element_read schema p1 p2 b1 b2 to mid made.parent.now field.number (count_at schema to.type_no field.number t) child v made.has now keeps))

    pub element_counts : (meter : Meter) (was mid new more : ℕ) → mid ≡ was + meter.size child.type_no + more → new ≡ mid + merge_cost meter schema child.type_no made.has.tree has.tree
        → new ≡ was + value_merge_cost meter schema field Nothing value + more
    element_counts meter was mid new more first later =
        let all = ap (value_merge_cost meter schema field Nothing) (sym value_is) ∙ fresh_sub schema field child.type_no element_type has.tree element_fit meter in
        let same = ap (λ w. merge_cost meter schema child.type_no w has.tree) appended_tree in
        omega (arith, first, later, all, same)

    pub element_units : value_units pieces_bytes value ≡ 1 + inner_units has.tree
    element_units = ap (value_units pieces_bytes) (sym value_is) ∙ inner_of has.tree
