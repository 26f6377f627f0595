-- A message in a field or a list of another, into which a record's payload was read.
use Rattle.std.proofs.Common.{◌≡◌, ◌≢◌, ◌+◌, ◌-◌, ◌*◌, ◌≤◌, ℕ, zero, suc, List, [], Result, Ok, Err, Some, refl, sym, ap, ◌∙◌, subst, arith}
use Rattle.std.specs.Prelude.{IsSome, IsOk, IsErr, IfOk, IfErr}
use Rattle.std.proofs.lemmas.Option.{same_Some}
use Rattle.arena_mem.specs.Places.{Places, Buffers}
use Rattle.pb_schema.specs.declared.kind.FieldType.{FieldType}
use Rattle.pb_schema.specs.declared.schema.Schema.{Schema}
use Rattle.pb_schema.specs.Empty.{empty_with}
use Rattle.pb_schema.specs.Kinds.{ValueType, Scalar, Characters, Octets, Nested, value_type_of}
use Rattle.pb_schema.specs.Fits.{fields_of}
use Rattle.pb_schema.specs.Reads.{◌>>=◌}
use Rattle.pb_schema.specs.Walk.{Stop}
use Rattle.pb_schema.specs.HeldAt.{field_at, held_at, with_held}
use Rattle.pb_schema.specs.Tree.{One, Sub, Shape}
use Rattle.pb_schema.proofs.HeldLaws.{get_after_set}
use Rattle.pb_wire.specs.declared.wire_record.WireRecord.{WireRecord}
use Rattle.dyn_message.specs.declared.msg_ref.MsgRef.{MsgRef}
use Rattle.dyn_message.specs.Feet.{Foot, times, KeepsOthers, OldOrFresh, foot_bytes}
use Rattle.dyn_message.specs.Fields.{IsMessageType}
use Rattle.dyn_message.specs.Stands.{Stands, IsSingle, IsList}
use Rattle.dyn_message.specs.Changes.{Changes, NowStands}
use Rattle.dyn_message.specs.Links.{HasMadeSub, sub_or}
use Rattle.dyn_message.specs.Lists.{HasAppended, count_at, with_appended}
use Rattle.dyn_message.proofs.Changing.{changes_widen}
use Rattle.dyn_message.proofs.Opening.{has_field}
use Rattle.pb_parse.specs.declared.stop.Halt.{Halt}
use Rattle.pb_parse.specs.declared.stop.Halt.TheVariants as halts
use Rattle.pb_parse.specs.Parsing.{IsCause}
use Rattle.pb_parse.specs.Reading.{contents_read, onto_left, payload_at, read_left, record_at, walked, with_taken}
use Rattle.pb_parse.proofs.ContentsRead.{ok_is, err_is, some_ok, some_err, sub_holds}
use Rattle.pb_parse.proofs.HeldSteps.{with_held_ones, element_put, element_found}
use Rattle.pb_parse.proofs.Memories.{all_entries, among_more, element_read, sub_read, then_stands, then_within}
use Rattle.pb_parse.proofs.TakenShapes.{sub_listed, sub_shape}

-- WHAT IS TOLD

pub if_ok : {T E : Type 0} (P Q : T → Type 0) (r : Result T E) → ((x : T) → P x → Q x) → IfOk r P → IfOk r Q
if_ok P Q (Ok x) f h = f x h
if_ok P Q (Err e) f h = tt

pub all_ok : {T E : Type 0} (P : T → Type 0) (r : Result T E) → ((x : T) → P x) → IfOk r P
all_ok P (Ok x) f = f x
all_ok P (Err e) f = tt

pub same_both : {A B : Type 0} (P : A → B → Type 0) (a a' : A) (b b' : B) → a ≡ a' → b ≡ b' → P a b → P a' b'
same_both P a a' b b' e f p = subst (λ x. P x b') e (subst (λ y. P a y) f p)

pub if_err : {T E : Type 0} (P Q : E → Type 0) (r : Result T E) → ((e : E) → P e → Q e) → IfErr r P → IfErr r Q
if_err P Q (Ok x) f h = tt
if_err P Q (Err e) f h = f e h

pub same_cause : (blocks : ℕ → ℕ) (A B : Type 0) → (A → B) → (h : Halt) → IsCause blocks A h → IsCause blocks B h
same_cause blocks A B f halts.Bad a = f a
same_cause blocks A B f (halts.Refused fault) a = a

pub nested_type : (type : ValueType) → IsMessageType type → (inner : ℕ) × (type ≡ Nested inner)
nested_type (Nested inner) h = (inner, refl)
nested_type (Scalar coding) h = absurd h
nested_type Characters h = absurd h
nested_type Octets h = absurd h

-- ONE LEVEL DEEPER

pub more_than_none : (left : ℕ) → left ≢ 0 → left ≡ suc (left - 1)
more_than_none zero some = absurd (some refl)
more_than_none (suc left) some = omega arith

onto_is : (schema : Schema) (left inner : ℕ) (t : Shape) (s : List ℕ) → onto_left schema (suc left) inner t s ≡ read_left schema left (fields_of schema inner) t s
unfolding onto_left
onto_is schema left inner t s = refl

pub onto_less : (schema : Schema) (left inner : ℕ) (t : Shape) (s : List ℕ) → left ≢ 0 → onto_left schema left inner t s ≡ read_left schema (left - 1) (fields_of schema inner) t s
onto_less schema left inner t s some = ap (λ n. onto_left schema n inner t s) (more_than_none left some) ∙ onto_is schema (left - 1) inner t s

module _ (schema : Schema) (left : ℕ) (field : FieldType) (found : WireRecord) (bytes : List ℕ) (inner : ℕ) (type : value_type_of field.kind ≡ Nested inner) (some : left ≢ 0) where
  deeper : contents_read schema left field found bytes ≡ (walked schema (left - 1) (fields_of schema inner) found.payload (payload_at found bytes) >>= λ (stop : Stop). Ok stop.1)
  deeper = ap (λ n. contents_read schema n field found bytes) (more_than_none left some) ∙ sub_holds schema (left - 1) field found bytes inner type

  pub sound_inside : (s : List ℕ) → s ≡ payload_at found bytes → IsOk (walked schema (left - 1) (fields_of schema inner) found.payload s) → IsOk (contents_read schema left field found bytes)
  sound_inside s is sound =
      let stop = some_ok (walked schema (left - 1) (fields_of schema inner) found.payload s) sound in
      ok_is (contents_read schema left field found bytes) stop.0.1
      (deeper ∙ ap (λ r. r >>= λ (stop : Stop). Ok stop.1) (ap (walked schema (left - 1) (fields_of schema inner) found.payload) (sym is) ∙ stop.1))

  pub broken_inside : (s : List ℕ) → s ≡ payload_at found bytes → IsErr (walked schema (left - 1) (fields_of schema inner) found.payload s) → IsErr (contents_read schema left field found bytes)
  broken_inside s is broken =
      let d = some_err (walked schema (left - 1) (fields_of schema inner) found.payload s) broken in
      err_is (contents_read schema left field found bytes) d.0
      (deeper ∙ ap (λ r. r >>= λ (stop : Stop). Ok stop.1) (ap (walked schema (left - 1) (fields_of schema inner) found.payload) (sym is) ∙ d.1))

-- IN A FIELD

module _ (schema : Schema) (p0 p1 : Places) (b0 b1 : Buffers) (msg : MsgRef) (t : Shape) (feet : List Foot) (st : Stands schema p0 b0 msg t feet) (field : FieldType) (known : field_at schema msg.type_no field.number ≡ Some field) (child : MsgRef) where
  -- the type of the message that a field has
  pub made_type : IsSingle field.card → HasMadeSub schema p0 b0 p1 b1 msg t feet field.number child → value_type_of field.kind ≡ Nested child.type_no
  made_type single made = (has_field schema msg.type_no field.number field made.has.type known).1

  abbrev before : Shape
  before = sub_or (empty_with [] (fields_of schema child.type_no)) (held_at schema msg.type_no field.number t)

  pub made_tree : (made : HasMadeSub schema p0 b0 p1 b1 msg t feet field.number child) → made.has.tree ≡ before
  made_tree made =
      ap (sub_or (empty_with [] (fields_of schema child.type_no)))
      (sym made.has.held ∙ get_after_set schema msg.type_no field.number field (One (Sub before)) t known (all_entries schema p0 b0 msg t feet st))

  -- the payload was read into it
  pub sub_put : (left : ℕ) (found : WireRecord) (bytes s : List ℕ) (p2 : Places) (b2 : Buffers) → left ≢ 0 → IsSingle field.card → s ≡ payload_at found bytes → ((foot : Foot) → IsSome (foot_bytes p0 b0 foot) → IsSome (foot_bytes p1 b1 foot))
      → (made : HasMadeSub schema p0 b0 p1 b1 msg t feet field.number child)
      → NowStands schema p1 b1 p2 b2 child (read_left schema (left - 1) (fields_of schema child.type_no) made.has.tree s) made.has.own → KeepsOthers p1 b1 p2 b2 made.has.own
      → NowStands schema p0 b0 p2 b2 msg (with_taken schema left msg.type_no field (record_at found bytes) t) feet
  sub_put left found bytes s p2 b2 some single is still made now keeps =
      let u = read_left schema (left - 1) (fields_of schema child.type_no) made.has.tree s in
      let mid = with_held schema msg.type_no field.number (One (Sub before)) t in
      let u_is : u ≡ onto_left schema left child.type_no before (payload_at found bytes) =
      ap (λ v. read_left schema (left - 1) (fields_of schema child.type_no) v s) (made_tree made)
      ∙ (ap (read_left schema (left - 1) (fields_of schema child.type_no) before) is
      ∙ sym (onto_less schema left child.type_no before (payload_at found bytes) some)) in
      subst (λ v. NowStands schema p0 b0 p2 b2 msg v feet)
      (with_held_ones schema msg.type_no field.number (Sub before) (Sub u) t
      ∙ (ap (λ v. with_held schema msg.type_no field.number (One (Sub v)) t) u_is
      ∙ sub_shape schema left msg.type_no found bytes field t child.type_no (made_type single made) single))
      (then_stands schema p0 p1 p2 b0 b1 b2 msg mid _ feet still made.parent (sub_read schema p1 p2 b1 b2 msg mid made.parent.now field.number child u made.has now keeps))

  -- IN A LIST

  pub appended_type : IsList field.card → HasAppended schema p0 b0 p1 b1 msg t feet field.number child → value_type_of field.kind ≡ Nested child.type_no
  appended_type list made = (has_field schema msg.type_no field.number field made.has.type known).1

  abbrev none : Shape
  none = empty_with [] (fields_of schema child.type_no)

  pub appended_tree : (made : HasAppended schema p0 b0 p1 b1 msg t feet field.number child) → made.has.tree ≡ none
  appended_tree made =
      ap (λ v. sub_or none (One v))
      (same_Some (Sub made.has.tree) (Sub none)
      (sym made.has.held ∙ element_found schema msg.type_no field.number field (Sub none) t known (all_entries schema p0 b0 msg t feet st)))

  pub element_in : (left : ℕ) (found : WireRecord) (bytes s : List ℕ) (p2 : Places) (b2 : Buffers) → left ≢ 0 → IsList field.card → s ≡ payload_at found bytes → ((foot : Foot) → IsSome (foot_bytes p0 b0 foot) → IsSome (foot_bytes p1 b1 foot))
      → (made : HasAppended schema p0 b0 p1 b1 msg t feet field.number child)
      → NowStands schema p1 b1 p2 b2 child (read_left schema (left - 1) (fields_of schema child.type_no) made.has.tree s) made.has.own → KeepsOthers p1 b1 p2 b2 made.has.own
      → NowStands schema p0 b0 p2 b2 msg (with_taken schema left msg.type_no field (record_at found bytes) t) feet
  element_in left found bytes s p2 b2 some list is still made now keeps =
      let u = read_left schema (left - 1) (fields_of schema child.type_no) made.has.tree s in
      let mid = with_appended schema msg.type_no field.number (Sub none) t in
      let u_is : u ≡ onto_left schema left child.type_no none (payload_at found bytes) =
      ap (λ v. read_left schema (left - 1) (fields_of schema child.type_no) v s) (appended_tree made)
      ∙ (ap (read_left schema (left - 1) (fields_of schema child.type_no) none) is
      ∙ sym (onto_less schema left child.type_no none (payload_at found bytes) some)) in
      subst (λ v. NowStands schema p0 b0 p2 b2 msg v feet)
      (element_put schema msg.type_no field.number field (Sub none) (Sub u) t known (all_entries schema p0 b0 msg t feet st)
      ∙ (ap (λ v. with_appended schema msg.type_no field.number (Sub v) t) u_is
      ∙ sub_listed schema left msg.type_no found bytes field t child.type_no (appended_type list made) list))
      (then_stands schema p0 p1 p2 b0 b1 b2 msg mid _ feet still made.parent (element_read schema p1 p2 b1 b2 msg mid made.parent.now field.number (count_at schema msg.type_no field.number t) child u made.has now keeps))

-- what the calls that make the message and read into it did to the memory
module _ {S K : Type 0} (key : S → K) (places : S → Places) (buffers : S → Buffers) (blocks : S → ℕ → ℕ) where
  pub nested_changes : (p a len : ℕ) (feet now own : List Foot) (old mid new : S) → Changes key places buffers blocks p a feet old mid → OldOrFresh (places old) (buffers old) feet now
      → ((foot : Foot) → times foot own ≤ times foot now) → Changes key places buffers blocks (4 * len + 2) (4 * len + 2) own mid new → p ≤ 2 → a ≤ 2
      → Changes key places buffers blocks (4 * len + 4) (4 * len + 4) feet old new
  nested_changes p a len feet now own old mid new c from within d few_p few_a =
      then_within key places buffers blocks p (4 * len + 2) a (4 * len + 2) (4 * len + 4) (4 * len + 4) feet now old mid new c from
      (changes_widen key places buffers blocks (4 * len + 2) (4 * len + 2) (4 * len + 2) (4 * len + 2) own now mid new d (omega arith) (omega arith) (among_more own now within))
      (omega (arith, few_p)) (omega (arith, few_a))
