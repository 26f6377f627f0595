-- What each field gathers from records that hold what it takes is what the field may hold.
use Rattle.std.proofs.Common.{◌≡◌, ◌≢◌, ◌⊎◌, ℕ, zero, suc, ◌+◌, ◌-◌, ◌≤◌, List, [], ◌∷◌, ◌++◌, map, take, Bool, true, false, cond, ◌&&◌, eqb, Option, None, Some, Result, Ok, Err, refl, sym, ap, ◌∙◌, subst, ⊎_elim, arith, append-nil}
use Rattle.std.specs.Prelude.{flat_map, IsFalse}
use Rattle.std.specs.List.{concat}
use Rattle.std.specs.Str.{is_utf8}
use Rattle.std.proofs.lemmas.Bool.{false≢true, eqb-true, or_from, cond-true, cond-false}
use Rattle.pb_schema.specs.declared.kind.Card.{Card}
use Rattle.pb_schema.specs.declared.kind.Card.TheVariants as cards
use Rattle.pb_schema.specs.declared.kind.FieldType.{FieldType}
use Rattle.pb_schema.specs.declared.schema.Schema.{Schema}
use Rattle.pb_schema.specs.declared.wire_fault.WireKind.TheVariants.{NotUtf8, TooDeep}
use Rattle.pb_schema.specs.declared.wire_fault.WireFault.{WireFault}
use Rattle.pb_schema.specs.Reads.{fault, value_read}
use Rattle.pb_schema.specs.Kinds.{Coding, ValueType, Scalar, Characters, Octets, Nested, value_type_of, value_wire}
use Rattle.pb_schema.specs.Cards.{is_repeated, is_member}
use Rattle.pb_schema.specs.Fits.{takes, fields_of, contents_by, contents_in, contents_of}
use Rattle.pb_schema.specs.Form.{read_scalar}
use Rattle.pb_schema.specs.Walk.{in_message, read_contents, deeper_left}
use Rattle.pb_schema.specs.Records.{Record, Spells, IsRecord, AreRecords}
use Rattle.pb_schema.specs.Depth.{depth_of, held_levels, values_levels, value_levels, fields_levels}
use Rattle.pb_schema.specs.Merge.{is_set, sets_member}
use Rattle.pb_schema.specs.Tree.{Value, Number, Bytes, Sub, Held, Nothing, One, Many, HeldList, value_list, held_list}
use Rattle.pb_schema.specs.TreeOf.{pattern_in, elements_from, number_in, Nest, fitting, last_of, payloads_of, last_held, single_by, single, values_by, values_in, unless_default, is_of_oneof, of_oneof, last_run, held_by, held_of}
use Rattle.pb_schema.specs.Fitted.{IsPatternOf, IsStringOf, IsNestedOf, IsHeldBy, IsAlone, ValueFits, ValuesFit, HeldFits, FieldsFit, MessageFits}
use Rattle.pb_schema.specs.Lawful.{NumbersAscend}
use Rattle.pb_schema.proofs.FormLaws.{not_ok}
use Rattle.pb_schema.proofs.WalkSteps.{walk_left_is}
use Rattle.pb_schema.proofs.FitsLaws.{IsSized, number_below, front_below, ScalarFacts, scalar_facts, no_start, taken_by, not_taken}
use Rattle.pb_schema.proofs.Runs.{Each, each_filter, each_same, run_each, runs_differ}
use Rattle.pb_schema.proofs.SoundRecords.{Finds, Holds, walk_sound, sound_walk, sound_join, deeper_is}

-- RECORDS THAT A FIELD TAKES

-- the value of a record by itself
spelled_size : (A : List ℕ → Type 0) (number wire : ℕ) (payload behind : List ℕ) → Spells A number wire payload behind → wire ≢ 2 → wire ≢ 3 → IsSized wire payload
spelled_size A number zero payload behind p two three = tt
spelled_size A number (suc zero) payload behind p two three = p.0
spelled_size A number (suc (suc zero)) payload behind p two three = absurd (two refl)
spelled_size A number (suc (suc (suc zero))) payload behind p two three = absurd (three refl)
spelled_size A number (suc (suc (suc (suc zero)))) payload behind p two three = absurd p
spelled_size A number (suc (suc (suc (suc (suc zero))))) payload behind p two three = p.0
spelled_size A number (suc (suc (suc (suc (suc (suc wire)))))) payload behind p two three = absurd p

-- a record that a field of values of this type takes, which is a list or not, and that holds what the field takes
pub record Taken (schema : Schema) (left : ℕ) (type : ValueType) (repeated : Bool) (r : Record) : Type 0 where
  pub wire : (r.wire ≡ value_wire type) ⊎ ((r.wire ≡ 2) × (repeated ≡ true))
  pub is : IsRecord (AreRecords left) r
  pub holds : (tag : ℕ) × (at : ℕ) × Finds (read_contents schema (deeper_left schema left) tag at r.payload (contents_by type r.wire))

-- the first field that takes a record is this one
abbrev pub Own : Schema → List FieldType → FieldType → Type 0
Own schema all field = (r : Record) → takes schema field r ≡ true → contents_of schema all r ≡ contents_in field r

abbrev pub EachField : (FieldType → Type 0) → List FieldType → Type 0
EachField P [] = Unit {0}
EachField P (field ∷ fields) = P field × EachField P fields

each_field : (P Q R : FieldType → Type 0) (fields : List FieldType) → ((field : FieldType) → P field → Q field → R field) → EachField P fields → EachField Q fields → EachField R fields
each_field P Q R [] f p q = tt
each_field P Q R (field ∷ fields) f p q = (f field p.0 q.0, each_field P Q R fields f p.1 q.1)

-- the numbers of the fields behind are others
above : (least : ℕ) (fields : List FieldType) → NumbersAscend least fields → EachField (λ field. least ≤ field.number) fields
above least [] p = tt
above least (field ∷ fields) p = (p.0, each_field (λ x. field.number + 1 ≤ x.number) (λ x. field.number + 1 ≤ x.number) (λ x. least ≤ x.number) fields (λ x a b. omega (arith, a, p.0)) (above (field.number + 1) fields p.2) (above (field.number + 1) fields p.2))

pub others : (field : FieldType) (fields : List FieldType) → NumbersAscend (field.number + 1) fields → EachField (λ x. field.number ≢ x.number) fields
others field fields p = each_field (λ x. field.number + 1 ≤ x.number) (λ x. field.number + 1 ≤ x.number) (λ x. field.number ≢ x.number) fields (λ x a b e. absurd (omega (arith, a, e))) (above (field.number + 1) fields p) (above (field.number + 1) fields p)

own_more : (schema : Schema) (first field : FieldType) (fields : List FieldType) → first.number ≢ field.number → Own schema fields field → Own schema (first ∷ fields) field
own_more schema first field fields differ own = λ r e.
    let no = not_taken schema first r (λ q. differ (q ∙ sym (taken_by schema field r e).number)) in
    cond-false (takes schema first r) _ _ no ∙ own r e

pub owns : (schema : Schema) (least : ℕ) (fields : List FieldType) → NumbersAscend least fields → EachField (Own schema fields) fields
owns schema least [] p = tt
owns schema least (field ∷ fields) p = (
  λ r e. cond-true (takes schema field r) _ _ e,
  each_field (λ x. field.number ≢ x.number) (Own schema fields) (Own schema (field ∷ fields)) fields (λ x differ own. own_more schema field x fields differ own) (others field fields p.2) (owns schema (field.number + 1) fields p.2),
)

-- a sound record
abbrev pub Base : Schema → ℕ → List FieldType → Record → Type 0
Base schema left all r = IsRecord (AreRecords left) r × Holds schema left all r

-- a record that this field takes
abbrev pub TakenIn : Schema → ℕ → FieldType → Record → Type 0
TakenIn schema left field r = Taken schema left (value_type_of field.kind) (is_repeated field.card) r

pub taken : (schema : Schema) (left : ℕ) (all : List FieldType) (field : FieldType) (r : Record) → Own schema all field → Base schema left all r → takes schema field r ≡ true → TakenIn schema left field r
taken schema left all field r own base e =
    let wire = (taken_by schema field r e).wire in
    let other : r.wire ≢ 3 = λ three. ⊎_elim (λ (p : r.wire ≡ value_wire (value_type_of field.kind)). no_start (value_type_of field.kind) (scalar_facts field.kind) (sym p ∙ three)) (λ (p : (r.wire ≡ 2) × (is_repeated field.card ≡ true)). absurd (omega (arith, three, p.0))) wire in
    let holds = base.1 other in
    record {
      wire = wire;
      is = base.0;
      holds = (holds.0, holds.1, subst (λ c. Finds (read_contents schema (deeper_left schema left) holds.0 holds.1 r.payload c)) (own r e) holds.2);
    }

all_taken : (schema : Schema) (left : ℕ) (all : List FieldType) (field : FieldType) (rs : List Record) → Own schema all field → Each (λ r. Base schema left all r × (takes schema field r ≡ true)) rs → Each (TakenIn schema left field) rs
all_taken schema left all field rs own p =
    each_same (λ r. Base schema left all r × (takes schema field r ≡ true)) (TakenIn schema left field) rs (λ r q. taken schema left all field r own q.0 q.1) p

pub fitting_taken : (schema : Schema) (left : ℕ) (all : List FieldType) (field : FieldType) (rs : List Record) → Own schema all field → Each (Base schema left all) rs → Each (TakenIn schema left field) (fitting schema field rs)
fitting_taken schema left all field rs own p = all_taken schema left all field (fitting schema field rs) own (each_filter (Base schema left all) (takes schema field) rs p)

pub oneof_taken : (schema : Schema) (left : ℕ) (all : List FieldType) (field : FieldType) (oneof : ℕ) (rs : List Record) → Own schema all field → Each (Base schema left all) rs → Each (TakenIn schema left field) (last_run schema field (of_oneof schema all oneof rs))
oneof_taken schema left all field oneof rs own p =
    let members = of_oneof schema all oneof rs in
    let test = is_of_oneof schema all oneof in
    let based = each_same (λ r. Base schema left all r × (test r ≡ true)) (Base schema left all) members (λ r q. q.0) (each_filter (Base schema left all) test rs p) in
    all_taken schema left all field (last_run schema field members) own (run_each schema field (Base schema left all) members based)

-- WHAT A FIELD HOLDS

-- a message that is read with so many levels left
abbrev pub Fine : Schema → ℕ → ℕ → List ℕ → Type 0
Fine schema left type_no payload = (tag : ℕ) × (at : ℕ) × Finds (deeper_left schema left tag (in_message (fields_of schema type_no)) at payload)

-- each of some payloads is
abbrev pub AllFine : Schema → ℕ → ℕ → List (List ℕ) → Type 0
AllFine schema left type_no [] = Unit {0}
AllFine schema left type_no (s ∷ more) = Fine schema left type_no s × AllFine schema left type_no more

pub fine_join : (schema : Schema) (left type_no : ℕ) (x y : List ℕ) → Fine schema left type_no x → Fine schema left type_no y → Fine schema left type_no (x ++ y)
fine_join schema zero type_no x y p q = not_ok (record { kind = TooDeep; byte = p.0 }) p.2.0 p.2.1
fine_join schema (suc left) type_no x y p q =
    let fields = fields_of schema type_no in
    let inside = in_message fields in
    let first = walk_sound schema left fields 0 p.1 x p.2.0 (sym (walk_left_is schema left p.0 inside p.1 x) ∙ p.2.1) in
    let second = walk_sound schema left fields 0 q.1 y q.2.0 (sym (walk_left_is schema left q.0 inside q.1 y) ∙ q.2.1) in
    let both = sound_walk schema left fields 0 (x ++ y) (sound_join schema left fields x y first second) in
    (0, 0, (both.0, walk_left_is schema left 0 inside 0 (x ++ y) ∙ both.1))

-- one behind the other they are too
pub fine_concat : (schema : Schema) (left type_no : ℕ) (s : List ℕ) (more : List (List ℕ)) → AllFine schema left type_no (s ∷ more) → Fine schema left type_no (concat (s ∷ more))
fine_concat schema left type_no s [] p = subst (Fine schema left type_no) (sym (append-nil s)) p.0
fine_concat schema left type_no s (t ∷ more) p = fine_join schema left type_no s (concat (t ∷ more)) p.0 (fine_concat schema left type_no t more p.1)

-- what they are read as fits
abbrev pub NestFits : Schema → ℕ → Nest (List ℕ) → Type 0
NestFits schema left nest = (type_no : ℕ) (s : List ℕ) (more : List (List ℕ)) → AllFine schema left type_no (s ∷ more) → MessageFits schema (fields_of schema type_no) (nest type_no (s ∷ more)) × (suc (depth_of (nest type_no (s ∷ more))) ≤ left)

-- a value of this type, nested no deeper than what is left
abbrev Sized : Schema → ℕ → ValueType → Value → Type 0
Sized schema left type (Number p) = IsPatternOf type p
Sized schema left type (Bytes s) = IsStringOf type s
Sized schema left type (Sub t) = IsNestedOf (λ fields. MessageFits schema fields t) schema type × (suc (depth_of t) ≤ left)

abbrev EachValue : Schema → ℕ → ValueType → List Value → Type 0
EachValue schema left type [] = Unit {0}
EachValue schema left type (v ∷ vs) = Sized schema left type v × EachValue schema left type vs

-- what a field holds of one value fits, and is nested no deeper than what is left
abbrev Single : Schema → ℕ → ValueType → Held → Type 0
Single schema left type Nothing = Unit {0}
Single schema left type (One value) = Sized schema left type value
Single schema left type (Many _) = ⊥

abbrev Well : Schema → ℕ → FieldType → Held → Type 0
Well schema left field held = HeldFits schema field held × (held_levels held ≤ left)

value_well : (schema : Schema) (left : ℕ) (field : FieldType) (value : Value) → Sized schema left (value_type_of field.kind) value → ValueFits schema field value × (value_levels value ≤ left)
value_well schema left field (Number n) p = (p, omega arith)
value_well schema left field (Bytes s) p = (p, omega arith)
value_well schema left field (Sub t) p = p

single_well : (schema : Schema) (left : ℕ) (field : FieldType) (held : Held) → Single schema left (value_type_of field.kind) held → Well schema left field held
single_well schema left field Nothing p = (tt, omega arith)
single_well schema left field (One value) p = value_well schema left field value p
single_well schema left field (Many _) p = absurd p

values_well : (schema : Schema) (left : ℕ) (field : FieldType) (vs : List Value) → EachValue schema left (value_type_of field.kind) vs → ValuesFit schema field (value_list vs) × (values_levels (value_list vs) ≤ left)
values_well schema left field [] p = (tt, omega arith)
values_well schema left field (v ∷ vs) p =
    let first = value_well schema left field v p.0 in
    let rest = values_well schema left field vs p.1 in
    ((first.0, rest.0), omega (arith, first.1, rest.1))

abbrev LastIs : (Record → Type 0) → Option Record → Type 0
LastIs P None = Unit {0}
LastIs P (Some r) = P r

last_is : (P : Record → Type 0) (rs : List Record) → Each P rs → LastIs P (last_of rs)
last_is P [] p = tt
last_is P (r ∷ []) p = p.0
last_is P (r ∷ q ∷ rs) p = last_is P (q ∷ rs) p.1

last_sized : (schema : Schema) (left : ℕ) (type : ValueType) (P : Record → Type 0) (value : Record → Value) (rs : List Record) → Each P rs → ((r : Record) → P r → Sized schema left type (value r)) → Single schema left type (last_held value rs)
last_sized schema left type P value rs p f = cases (last_of rs) (last_is P rs p)
  where
    cases : (o : Option Record) → LastIs P o → Single schema left type (elim o [ None ↦ Nothing | Some r ↦ One (value r) ])
    cases None q = tt
    cases (Some r) q = f r q

-- a single record has the wire type of its kind
alone_wire : (r : Record) (type : ValueType) → (r.wire ≡ value_wire type) ⊎ ((r.wire ≡ 2) × (false ≡ true)) → r.wire ≡ value_wire type
alone_wire r type p = ⊎_elim (λ (a : r.wire ≡ value_wire type). a) (λ (b : (r.wire ≡ 2) × (false ≡ true)). absurd (false≢true b.1)) p

text_holds : (at : ℕ) (s : List ℕ) (b : Bool) → Finds (cond b (Ok at) (fault NotUtf8 at)) → b ≡ true
text_holds at s true found = refl
text_holds at s false found = not_ok (record { kind = NotUtf8; byte = at }) found.0 found.1

pub message_fine : (schema : Schema) (left : ℕ) (repeated : Bool) (type_no : ℕ) (r : Record) → Taken schema left (Nested type_no) repeated r → Fine schema left type_no r.payload
message_fine schema left repeated type_no r p = deeper_is schema (deeper_left schema left) p.holds.0 p.holds.1 r.payload type_no p.holds.2 λ stop. (p.holds.0, p.holds.1, stop)

pub messages_fine : (schema : Schema) (left : ℕ) (repeated : Bool) (type_no : ℕ) (rs : List Record) → Each (Taken schema left (Nested type_no) repeated) rs → AllFine schema left type_no (payloads_of rs)
messages_fine schema left repeated type_no [] p = tt
messages_fine schema left repeated type_no (r ∷ rs) p = (message_fine schema left repeated type_no r p.0, messages_fine schema left repeated type_no rs p.1)

single_sized : (schema : Schema) (left : ℕ) (nest : Nest (List ℕ)) → NestFits schema left nest → (type : ValueType) → ScalarFacts type → (rs : List Record) → Each (Taken schema left type false) rs → Single schema left type (single_by nest type rs)
single_sized schema left nest fine (Scalar coding) facts rs p = last_sized schema left (Scalar coding) (Taken schema left (Scalar coding) false) (λ r. Number (pattern_in coding r.payload)) rs p λ r q.
    let wire : r.wire ≡ coding.wire = alone_wire r (Scalar coding) q.wire in
    let sized = spelled_size (AreRecords left) r.number coding.wire r.payload q.is.1 (subst (λ w. Spells (AreRecords left) r.number w r.payload q.is.1) wire q.is.3) facts.0 facts.1 in
    facts.2 (number_in coding.wire r.payload) (number_below coding.wire r.payload sized)
single_sized schema left nest fine Characters facts rs p = last_sized schema left Characters (Taken schema left Characters false) (λ r. Bytes r.payload) rs p λ r q. text_holds q.holds.1 r.payload (is_utf8 r.payload) q.holds.2
single_sized schema left nest fine Octets facts rs p = last_sized schema left Octets (Taken schema left Octets false) (λ r. Bytes r.payload) rs p λ r q. tt
single_sized schema left nest fine (Nested type_no) facts [] p = tt
single_sized schema left nest fine (Nested type_no) facts (r ∷ rs) p = fine type_no r.payload (payloads_of rs) (messages_fine schema left false type_no (r ∷ rs) p)

-- the values of a list
values_join : (schema : Schema) (left : ℕ) (type : ValueType) (xs ys : List Value) → EachValue schema left type xs → EachValue schema left type ys → EachValue schema left type (xs ++ ys)
values_join schema left type [] ys p q = q
values_join schema left type (x ∷ xs) ys p q = (p.0, values_join schema left type xs ys p.1 q)

numbers_sized : (schema : Schema) (left : ℕ) (coding : Coding) → ScalarFacts (Scalar coding) → (skip : ℕ) (s : List ℕ) → EachValue schema left (Scalar coding) (map (λ e. Number (pattern_in coding e)) (elements_from coding.wire skip s))
numbers_sized schema left coding facts skip [] = tt
numbers_sized schema left coding facts (suc skip) (b ∷ s) = numbers_sized schema left coding facts skip s
numbers_sized schema left coding facts zero (b ∷ s) = cases (λ n. numbers_sized schema left coding facts (n - 1) s) (read_scalar coding.wire 0 (b ∷ s)) refl
  where
    cases : ((n : ℕ) → EachValue schema left (Scalar coding) (map (λ e. Number (pattern_in coding e)) (elements_from coding.wire (n - 1) s))) → (r : Result ℕ WireFault) → read_scalar coding.wire 0 (b ∷ s) ≡ r → EachValue schema left (Scalar coding) (map (λ e. Number (pattern_in coding e)) (elim (value_read r) [ None ↦ [] | Some n ↦ take n (b ∷ s) ∷ elements_from coding.wire (n - 1) s ]))
    cases more (Ok n) e = (facts.2 (number_in coding.wire (take n (b ∷ s))) (front_below coding.wire (b ∷ s) n e), more n)
    cases more (Err d) e = tt

record_values : (schema : Schema) (left : ℕ) (nest : Nest (List ℕ)) → NestFits schema left nest → (type : ValueType) → ScalarFacts type → (r : Record) → Taken schema left type true r → EachValue schema left type (values_by nest type r)
record_values schema left nest fine (Scalar coding) facts r p = numbers_sized schema left coding facts 0 r.payload
record_values schema left nest fine Characters facts r p = (text_holds p.holds.1 r.payload (is_utf8 r.payload) p.holds.2, tt)
record_values schema left nest fine Octets facts r p = (tt, tt)
record_values schema left nest fine (Nested type_no) facts r p = (fine type_no r.payload [] (message_fine schema left true type_no r p, tt), tt)

all_values : (schema : Schema) (left : ℕ) (nest : Nest (List ℕ)) → NestFits schema left nest → (field : FieldType) → (rs : List Record) → Each (Taken schema left (value_type_of field.kind) true) rs → EachValue schema left (value_type_of field.kind) (flat_map (values_in schema nest field) rs)
all_values schema left nest fine field [] p = tt
all_values schema left nest fine field (r ∷ rs) p =
    values_join schema left (value_type_of field.kind) (values_in schema nest field r) (flat_map (values_in schema nest field) rs)
    (record_values schema left nest fine (value_type_of field.kind) (scalar_facts field.kind) r p.0)
    (all_values schema left nest fine field rs p.1)

-- CARDS

single_none : (nest : Nest (List ℕ)) (type : ValueType) → single_by nest type [] ≡ Nothing
single_none nest (Scalar coding) = refl
single_none nest Characters = refl
single_none nest Octets = refl
single_none nest (Nested type_no) = refl

not_nil : (b : ℕ) (s : List ℕ) → b ∷ s ≢ []
not_nil b s e = cc

implicit_held : (schema : Schema) (left : ℕ) (type : ValueType) (held : Held) → Single schema left type held → IsHeldBy cards.Implicit (unless_default held)
implicit_held schema left type Nothing p = tt
implicit_held schema left type (One (Number zero)) p = tt
implicit_held schema left type (One (Number (suc n))) p = omega arith
implicit_held schema left type (One (Bytes [])) p = tt
implicit_held schema left type (One (Bytes (b ∷ s))) p = not_nil b s
implicit_held schema left type (One (Sub t)) p = tt
implicit_held schema left type (Many _) p = absurd p

implicit_single : (schema : Schema) (left : ℕ) (type : ValueType) (held : Held) → Single schema left type held → Single schema left type (unless_default held)
implicit_single schema left type Nothing p = p
implicit_single schema left type (One (Number zero)) p = tt
implicit_single schema left type (One (Number (suc n))) p = p
implicit_single schema left type (One (Bytes [])) p = tt
implicit_single schema left type (One (Bytes (b ∷ s))) p = p
implicit_single schema left type (One (Sub t)) p = p
implicit_single schema left type (Many _) p = p

explicit_held : (schema : Schema) (left : ℕ) (type : ValueType) (held : Held) → Single schema left type held → IsHeldBy cards.Explicit held
explicit_held schema left type Nothing p = tt
explicit_held schema left type (One value) p = tt
explicit_held schema left type (Many _) p = absurd p

member_held : (schema : Schema) (left : ℕ) (type : ValueType) (oneof : ℕ) (held : Held) → Single schema left type held → IsHeldBy (cards.Member oneof) held
member_held schema left type oneof Nothing p = tt
member_held schema left type oneof (One value) p = tt
member_held schema left type oneof (Many _) p = absurd p

-- a field by itself
field_well : (schema : Schema) (left : ℕ) (nest : Nest (List ℕ)) → NestFits schema left nest → (all : List FieldType) (rs : List Record) → Each (Base schema left all) rs → (field : FieldType) → Own schema all field → (card : Card) → field.card ≡ card → IsHeldBy card (held_by schema nest all rs field card) × Well schema left field (held_by schema nest all rs field card)
field_well schema left nest fine all rs base field own cards.Implicit e =
    let type = value_type_of field.kind in
    let takes = subst (λ b. Each (Taken schema left type b) (fitting schema field rs)) (ap is_repeated e) (fitting_taken schema left all field rs own base) in
    let held = single nest field (fitting schema field rs) in
    let sized = single_sized schema left nest fine type (scalar_facts field.kind) (fitting schema field rs) takes in
    (implicit_held schema left type held sized, single_well schema left field (unless_default held) (implicit_single schema left type held sized))
field_well schema left nest fine all rs base field own cards.Explicit e =
    let type = value_type_of field.kind in
    let takes = subst (λ b. Each (Taken schema left type b) (fitting schema field rs)) (ap is_repeated e) (fitting_taken schema left all field rs own base) in
    let held = single nest field (fitting schema field rs) in
    let sized = single_sized schema left nest fine type (scalar_facts field.kind) (fitting schema field rs) takes in
    (explicit_held schema left type held sized, single_well schema left field held sized)
field_well schema left nest fine all rs base field own (cards.Member oneof) e =
    let type = value_type_of field.kind in
    let run = last_run schema field (of_oneof schema all oneof rs) in
    let takes = subst (λ b. Each (Taken schema left type b) run) (ap is_repeated e) (oneof_taken schema left all field oneof rs own base) in
    let sized = single_sized schema left nest fine type (scalar_facts field.kind) run takes in
    (member_held schema left type oneof (single nest field run) sized, single_well schema left field (single nest field run) sized)
field_well schema left nest fine all rs base field own (cards.Repeated packed) e =
    let takes = subst (λ b. Each (Taken schema left (value_type_of field.kind) b) (fitting schema field rs)) (ap is_repeated e) (fitting_taken schema left all field rs own base) in
    (tt, values_well schema left field (flat_map (values_in schema nest field) (fitting schema field rs)) (all_values schema left nest fine field (fitting schema field rs) takes))

-- a member that isn't the last of its oneof isn't set
member_unset : (schema : Schema) (nest : Nest (List ℕ)) (all : List FieldType) (rs : List Record) (oneof : ℕ) (field : FieldType) (card : Card) → last_run schema field (of_oneof schema all oneof rs) ≡ [] → (is_member oneof card && is_set (held_by schema nest all rs field card)) ≡ false
member_unset schema nest all rs oneof field cards.Implicit e = refl
member_unset schema nest all rs oneof field cards.Explicit e = refl
member_unset schema nest all rs oneof field (cards.Repeated packed) e = refl
member_unset schema nest all rs oneof field (cards.Member other) e = cases (eqb oneof other) refl
  where
    cases : (t : Bool) → eqb oneof other ≡ t → (t && is_set (single nest field (last_run schema field (of_oneof schema all other rs)))) ≡ false
    cases false p = refl
    cases true p =
        let run : last_run schema field (of_oneof schema all other rs) ≡ [] = ap (λ n. last_run schema field (of_oneof schema all n rs)) (sym (eqb-true oneof other p)) ∙ e in
        ap (λ x. is_set (single nest field x)) run ∙ ap is_set (single_none nest (value_type_of field.kind))

others_unset : (schema : Schema) (nest : Nest (List ℕ)) (all : List FieldType) (rs : List Record) (oneof : ℕ) (fields : List FieldType) → EachField (λ field. last_run schema field (of_oneof schema all oneof rs) ≡ []) fields → sets_member oneof fields (held_list (map (held_of schema nest all rs) fields)) ≡ false
others_unset schema nest all rs oneof [] p = refl
others_unset schema nest all rs oneof (field ∷ fields) p = or_from (is_member oneof field.card && is_set (held_of schema nest all rs field)) (sets_member oneof fields (held_list (map (held_of schema nest all rs) fields))) (member_unset schema nest all rs oneof field field.card p.0) (others_unset schema nest all rs oneof fields p.1)

alone_any : (oneof : ℕ) (held : Held) (fields : List FieldType) (rest : HeldList) → IsFalse (sets_member oneof fields rest) → IsAlone (cards.Member oneof) held fields rest
alone_any oneof Nothing fields rest p = tt
alone_any oneof (One value) fields rest p = p
alone_any oneof (Many _) fields rest p = tt

alone_nothing : (oneof : ℕ) (held : Held) (fields : List FieldType) (rest : HeldList) → held ≡ Nothing → IsAlone (cards.Member oneof) held fields rest
alone_nothing oneof held fields rest e = subst (λ h. IsAlone (cards.Member oneof) h fields rest) (sym e) tt

no_run : (r : Record) (run : List Record) → r ∷ run ≢ []
no_run r run e = cc

field_alone : (schema : Schema) (nest : Nest (List ℕ)) (all : List FieldType) (rs : List Record) (field : FieldType) (fields : List FieldType) → EachField (λ x. field.number ≢ x.number) fields → (card : Card) → IsAlone card (held_by schema nest all rs field card) fields (held_list (map (held_of schema nest all rs) fields))
field_alone schema nest all rs field fields differ cards.Implicit = tt
field_alone schema nest all rs field fields differ cards.Explicit = tt
field_alone schema nest all rs field fields differ (cards.Repeated packed) = tt
field_alone schema nest all rs field fields differ (cards.Member oneof) = cases (last_run schema field (of_oneof schema all oneof rs)) refl
  where
    cases : (run : List Record) → last_run schema field (of_oneof schema all oneof rs) ≡ run → IsAlone (cards.Member oneof) (single nest field run) fields (held_list (map (held_of schema nest all rs) fields))
    cases [] e = alone_nothing oneof (single_by nest (value_type_of field.kind) []) fields (held_list (map (held_of schema nest all rs) fields)) (single_none nest (value_type_of field.kind))
    cases (r ∷ run) e =
        alone_any oneof (single nest field (r ∷ run)) fields (held_list (map (held_of schema nest all rs) fields))
        (others_unset schema nest all rs oneof fields (each_field (λ x. field.number ≢ x.number) (λ x. field.number ≢ x.number) (λ x. last_run schema x (of_oneof schema all oneof rs) ≡ []) fields (λ x a b.
        ⊎_elim
        (λ (none : last_run schema field (of_oneof schema all oneof rs) ≡ []). absurd (no_run r run (sym e ∙ none)))
        (λ (none : last_run schema x (of_oneof schema all oneof rs) ≡ []). none)
        (runs_differ schema field x a (of_oneof schema all oneof rs))) differ differ))

-- ALL FIELDS

pub fields_fit : (schema : Schema) (left : ℕ) (nest : Nest (List ℕ)) → NestFits schema left nest → (all : List FieldType) (rs : List Record) → Each (Base schema left all) rs → (least : ℕ) (fields : List FieldType) → NumbersAscend least fields → EachField (Own schema all) fields → FieldsFit schema fields (held_list (map (held_of schema nest all rs) fields)) × (fields_levels (held_list (map (held_of schema nest all rs) fields)) ≤ left)
fields_fit schema left nest fine all rs base least [] ascend own = (tt, omega arith)
fields_fit schema left nest fine all rs base least (field ∷ fields) ascend own =
    let first = field_well schema left nest fine all rs base field own.0 field.card refl in
    let rest = fields_fit schema left nest fine all rs base (field.number + 1) fields ascend.2 own.1 in
    ((first.0, first.1.0, field_alone schema nest all rs field fields (others field fields ascend.2) field.card, rest.0), omega (arith, first.1.1, rest.1))
