-- What is written for a message whose messages and unknown groups nest at most so many levels has no fault, where it is shorter than 2^31 bytes.
use Rattle.std.proofs.Common.{◌≡◌, ◌≢◌, ℕ, zero, suc, ◌-◌, ◌^◌, ◌<◌, ◌≤◌, List, [], ◌∷◌, ◌++◌, length, Bool, true, false, cond, ◌||◌, Ok, refl, sym, ap, ◌∙◌, subst, arith, append-nil, length-append}
use Rattle.std.proofs.lemmas.Bool.{false≢true, ne_eqb}
use Rattle.pb_schema.specs.declared.kind.FieldType.{FieldType}
use Rattle.pb_schema.specs.declared.schema.Schema.{Schema}
use Rattle.pb_schema.specs.declared.wire_fault.WireKind.TheVariants.{NotUtf8}
use Rattle.pb_schema.specs.Varint.{IsContinued, varint_of, value_bytes, length_bytes, tag_bytes}
use Rattle.pb_schema.specs.Tag.{tag_of, IsTag}
use Rattle.pb_schema.specs.Reads.{fault, ◌>>=◌}
use Rattle.pb_schema.specs.Kinds.{Coding, ValueType, Scalar, Characters, Octets, Nested, value_type_of, value_wire, wire_numbers, is_number}
use Rattle.pb_schema.specs.Cards.{is_packed}
use Rattle.pb_schema.specs.Form.{read_scalar}
use Rattle.pb_schema.specs.Fits.{Anything, Numbers, Message, takes, is_taken, wire_of, fields_of, contents_by, contents_in, contents_of}
use Rattle.pb_schema.specs.Walk.{in_message, numbers_end, read_contents, deeper_left}
use Rattle.pb_schema.specs.Broken.{most_levels}
use Rattle.pb_schema.specs.Records.{Record, IsRecord, AreRecords, RecordsWithin, Spells}
use Rattle.pb_schema.specs.Tree.{Value, Number, Bytes, Sub, Held, Nothing, One, Many, Tree, Message, ValueList, NoValues, ValueAnd, HeldList, NoFields, FieldAnd}
use Rattle.pb_schema.specs.Text.{framed, low_first, number_text, spelled_text, packed_text, field_tag, value_text, held_text, values_text, fields_text, message_text}
use Rattle.pb_schema.specs.Fitted.{IsPatternOf, IsStringOf, IsNestedOf, NoneTaken, IsUnknown, ValueFits, ValuesFit, HeldFits, FieldsFit, MessageFits}
use Rattle.pb_schema.proofs.VarintLaws.{varint_at_front, varint_of_is, groups_short}
use Rattle.pb_schema.proofs.Steps.{length-varint_of}
use Rattle.pb_schema.proofs.FormLaws.{read_varint_some, read_bytes_of}
use Rattle.pb_schema.proofs.WalkSteps.{walk_left_is}
use Rattle.pb_schema.proofs.FitsLaws.{ScalarFacts, scalar_facts}
use Rattle.pb_schema.proofs.Runs.{Each}
use Rattle.pb_schema.proofs.RecordsFront.{one_list_of_records}
use Rattle.pb_schema.proofs.SoundRecords.{Finds, Holds, Sound, sound_walk, sound_join}
use Rattle.pb_schema.proofs.Gathering.{Own, EachField}
use Rattle.pb_schema.proofs.ShapeLaws.{sound_none}
use Rattle.pb_schema.proofs.TextCuts.{payload_by, wire_small, length_low}
use Rattle.pb_schema.proofs.PutText.{IsNumberWire, NumberFacts, number_facts, ValueBy, by_type, PacksNumbers}
use Rattle.pb_schema.proofs.AppendedText.{takes_own, takes_packed, packable}

-- LEVELS

-- the bytes are records with groups nested at most so many levels
abbrev pub UnknownWithin : ℕ → List ℕ → Type 0
UnknownWithin left s = (rs : List Record) × RecordsWithin left s rs

abbrev mutual
  -- messages and unknown groups nest at most so many levels
  pub ValueWithin : ℕ → Value → Type 0
  ValueWithin left (Number p) = Unit {0}
  ValueWithin left (Bytes s) = Unit {0}
  ValueWithin zero (Sub t) = ⊥
  ValueWithin (suc left) (Sub t) = TreeWithin left t

  pub HeldWithin : ℕ → Held → Type 0
  HeldWithin left Nothing = Unit {0}
  HeldWithin left (One value) = ValueWithin left value
  HeldWithin left (Many values) = ValuesWithin left values

  pub ValuesWithin : ℕ → ValueList → Type 0
  ValuesWithin left NoValues = Unit {0}
  ValuesWithin left (ValueAnd value values) = ValueWithin left value × ValuesWithin left values

  pub FieldsWithin : ℕ → HeldList → Type 0
  FieldsWithin left NoFields = Unit {0}
  FieldsWithin left (FieldAnd held rest) = HeldWithin left held × FieldsWithin left rest

  pub TreeWithin : ℕ → Tree → Type 0
  TreeWithin left (Message held unknown) = FieldsWithin left held × UnknownWithin left unknown

-- RECORDS THAT ARE WRITTEN

number_spells : (A : List ℕ → Type 0) (number wire v : ℕ) → IsNumberWire wire → v < wire_numbers wire → Spells A number wire (number_text wire v) (number_text wire v)
number_spells A number zero v w h = (v, varint_of_is v value_bytes h (length-varint_of v), refl)
number_spells A number (suc zero) v w h = (length_low 8 v, refl)
number_spells A number (suc (suc zero)) v w h = absurd w
number_spells A number (suc (suc (suc zero))) v w h = absurd w
number_spells A number (suc (suc (suc (suc zero)))) v w h = absurd w
number_spells A number (suc (suc (suc (suc (suc zero))))) v w h = (length_low 4 v, refl)
number_spells A number (suc (suc (suc (suc (suc (suc wire)))))) v w h = absurd w

framed_spells : (A : List ℕ → Type 0) (number : ℕ) (s : List ℕ) → length s < 2 ^ 31 → Spells A number 2 s (framed s)
framed_spells A number s h = (varint_of (length s), varint_of_is (length s) length_bytes (omega (arith, h)) (groups_short 9 (length s) 4 (omega (arith, h))), h, refl)

-- a value's record: what stands behind the tag, and what its payload holds
abbrev ReadsBelow : Schema → ℕ → Type 0
ReadsBelow schema left = (type_no : ℕ) (u : Tree) → MessageFits schema (fields_of schema type_no) u → ValueWithin left (Sub u) → length (message_text schema (fields_of schema type_no) u) < 2 ^ 31
    → Finds (read_contents schema (deeper_left schema left) 0 0 (message_text schema (fields_of schema type_no) u) (Message type_no))

-- what stands behind the tag
abbrev body_by : Schema → ValueType → Value → List ℕ
body_by schema type (Number p) = spelled_text type p
body_by schema type (Bytes s) = framed s
body_by schema type (Sub t) = framed (payload_by schema type (Sub t))

body_is : (schema : Schema) (field : FieldType) (value : Value) → value_text schema field value ≡ body_by schema (value_type_of field.kind) value
body_is schema field (Number p) = refl
body_is schema field (Bytes s) = refl
body_is schema field (Sub t) = refl

value_spells : (A : List ℕ → Type 0) (schema : Schema) (number : ℕ) (type : ValueType) → NumberFacts type → (value : Value) → ValueBy schema type value → length (body_by schema type value) < 2 ^ 31 → Spells A number (value_wire type) (payload_by schema type value) (body_by schema type value)
value_spells A schema number (Scalar coding) facts (Number p) by h = number_spells A number coding.wire (coding.spelled p) facts.0 (facts.1 p by).1
value_spells A schema number (Scalar coding) facts (Bytes s) by h = absurd by
value_spells A schema number (Scalar coding) facts (Sub t) by h = absurd by
value_spells A schema number Characters facts (Number p) by h = absurd by
value_spells A schema number Characters facts (Bytes s) by h = framed_spells A number s (omega (arith, h, length-append (varint_of (length s)) s))
value_spells A schema number Characters facts (Sub t) by h = absurd by
value_spells A schema number Octets facts (Number p) by h = absurd by
value_spells A schema number Octets facts (Bytes s) by h = framed_spells A number s (omega (arith, h, length-append (varint_of (length s)) s))
value_spells A schema number Octets facts (Sub t) by h = absurd by
value_spells A schema number (Nested type_no) facts (Number p) by h = absurd by
value_spells A schema number (Nested type_no) facts (Bytes s) by h = absurd by
value_spells A schema number (Nested type_no) facts (Sub t) by h =
    let s = message_text schema (fields_of schema type_no) t in
    framed_spells A number s (omega (arith, h, length-append (varint_of (length s)) s))

value_reads : (schema : Schema) (left : ℕ) → ReadsBelow schema left → (type : ValueType) → ScalarFacts type → (value : Value) → ValueBy schema type value → ValueWithin left value → length (body_by schema type value) < 2 ^ 31
    → Finds (read_contents schema (deeper_left schema left) 0 0 (payload_by schema type value) (contents_by type (value_wire type)))
value_reads schema left below (Scalar coding) facts (Number p) by within h =
    (0, ap (λ b. read_contents schema (deeper_left schema left) 0 0 (spelled_text (Scalar coding) p) (cond b (Numbers coding.wire) Anything)) (ne_eqb coding.wire 2 facts.0))
value_reads schema left below (Scalar coding) facts (Bytes s) by within h = absurd by
value_reads schema left below (Scalar coding) facts (Sub t) by within h = absurd by
value_reads schema left below Characters facts (Number p) by within h = absurd by
value_reads schema left below Characters facts (Bytes s) by within h = (0, ap (λ b. cond b (Ok 0) (fault NotUtf8 0)) by)
value_reads schema left below Characters facts (Sub t) by within h = absurd by
value_reads schema left below Octets facts (Number p) by within h = absurd by
value_reads schema left below Octets facts (Bytes s) by within h = (0, refl)
value_reads schema left below Octets facts (Sub t) by within h = absurd by
value_reads schema left below (Nested type_no) facts (Number p) by within h = absurd by
value_reads schema left below (Nested type_no) facts (Bytes s) by within h = absurd by
value_reads schema left below (Nested type_no) facts (Sub t) by within h =
    let s = message_text schema (fields_of schema type_no) t in
    below type_no t by within (omega (arith, h, length-append (varint_of (length s)) s))

-- the tag of a field of a lawful type
tag_is : (number wire : ℕ) → 1 ≤ number → number ≤ 2 ^ 29 - 1 → wire ≤ 5 → IsTag (varint_of (tag_of number wire)) number wire
tag_is number wire some most h = record {
  varint = varint_of_is (tag_of number wire) tag_bytes (omega (arith, most, h)) (groups_short 9 (tag_of number wire) 4 (omega (arith, most, h)));
  below = omega (arith, most, h);
  least = some;
  most = most;
  wire_type = h;
}

one_sound : (schema : Schema) (left : ℕ) (all : List FieldType) (r : Record) → IsRecord (AreRecords left) r → Holds schema left all r → Sound schema left all r.span
one_sound schema left all r is holds = record { rs = r ∷ []; are = ([], is, sym (append-nil r.span), refl); hold = (holds, tt) }

-- what is known of a field
pub record Known (schema : Schema) (all : List FieldType) (field : FieldType) : Type 0 where
  pub own : Own schema all field
  pub packs : PacksNumbers field
  pub some : 1 ≤ field.number
  pub most : field.number ≤ 2 ^ 29 - 1

value_sound : (schema : Schema) (left : ℕ) → ReadsBelow schema left → (all : List FieldType) (field : FieldType) → Known schema all field → (value : Value) → ValueFits schema field value → ValueWithin left value → length (value_text schema field value) < 2 ^ 31
    → Sound schema left all (field_tag field ++ value_text schema field value)
value_sound schema left below all field known value fits within h =
    let type = value_type_of field.kind in
    let text = value_text schema field value in
    let short : length (body_by schema type value) < 2 ^ 31 = subst (λ s. length s < 2 ^ 31) (body_is schema field value) h in
    let by = by_type schema field value fits in
    let r : Record = record { number = field.number; wire = wire_of field; payload = payload_by schema type value; span = field_tag field ++ text } in
    let spells = subst (λ s. Spells (AreRecords left) field.number (wire_of field) (payload_by schema type value) s) (sym (body_is schema field value)) (value_spells (AreRecords left) schema field.number type (number_facts field.kind) value by short) in
    one_sound schema left all r
    (field_tag field, text, tag_is field.number (wire_of field) known.some known.most (wire_small field.kind), spells, refl)
    (λ other. (0, 0, subst (λ c. Finds (read_contents schema (deeper_left schema left) 0 0 r.payload c)) (sym (known.own r (takes_own schema field r refl refl))) (value_reads schema left below type (scalar_facts field.kind) value by within short)))

list_sound : (schema : Schema) (left : ℕ) → ReadsBelow schema left → (all : List FieldType) (field : FieldType) → Known schema all field → (values : ValueList) → ValuesFit schema field values → ValuesWithin left values → length (values_text schema field (field_tag field) values) < 2 ^ 31
    → Sound schema left all (values_text schema field (field_tag field) values)
list_sound schema left below all field known NoValues fits within h = sound_none schema left all
list_sound schema left below all field known (ValueAnd value values) fits within h =
    let text = value_text schema field value in
    let rest = values_text schema field (field_tag field) values in
    let size = length-append (field_tag field ++ text) rest in
    sound_join schema left all (field_tag field ++ text) rest
    (value_sound schema left below all field known value fits.0 within.0 (omega (arith, h, size, length-append (field_tag field) text)))
    (list_sound schema left below all field known values fits.1 within.1 (omega (arith, h, size)))

-- packed numbers

numbers_skip : (wire at : ℕ) (s y : List ℕ) → ((at : ℕ) → Finds (numbers_end wire at 0 y)) → Finds (numbers_end wire at (length s) (s ++ y))
numbers_skip wire at [] y more = more at
numbers_skip wire at (b ∷ s) y more = numbers_skip wire (suc at) s y more

numbers_step : (wire at : ℕ) (s y : List ℕ) → s ≢ [] → read_scalar wire at (s ++ y) ≡ Ok (length s) → ((at : ℕ) → Finds (numbers_end wire at 0 y)) → Finds (numbers_end wire at 0 (s ++ y))
numbers_step wire at [] y some e more = absurd (some refl)
numbers_step wire at (b ∷ s) y some e more =
    let one : length (b ∷ s) - 1 ≡ length s = omega arith in
    let found = numbers_skip wire (suc at) s y more in
    (found.0, ap (λ r. r >>= λ n. numbers_end wire (suc at) (n - 1) (s ++ y)) e ∙ (ap (λ n. numbers_end wire (suc at) n (s ++ y)) one ∙ found.1))

fixed_reads : (wire n v at : ℕ) (y : List ℕ) → ((s : List ℕ) → n ≤ length s → read_scalar wire at s ≡ Ok n) → 1 ≤ n → ((at : ℕ) → Finds (numbers_end wire at 0 y)) → Finds (numbers_end wire at 0 (low_first n v ++ y))
fixed_reads wire n v at y read some more =
    let size = length_low n v in
    numbers_step wire at (low_first n v) y (λ none. absurd (omega (arith, some, size, ap length none)))
    (read (low_first n v ++ y) (omega (arith, size, length-append (low_first n v) y)) ∙ ap (λ k. Ok k) (sym size)) more

number_reads : (wire v at : ℕ) (y : List ℕ) → IsNumberWire wire → v < wire_numbers wire → ((at : ℕ) → Finds (numbers_end wire at 0 y)) → Finds (numbers_end wire at 0 (number_text wire v ++ y))
number_reads zero v at y p h more =
    let is = varint_of_is v value_bytes h (length-varint_of v) in
    numbers_step 0 at (varint_of v) y (λ none. subst IsContinued none is.continued)
    (ap (λ r. r >>= λ value. Ok value.1) (read_varint_some value_bytes at (varint_of v ++ y) v (length (varint_of v)) (varint_at_front value_bytes (varint_of v) y v is))) more
number_reads (suc zero) v at y p h more = fixed_reads 1 8 v at y (λ s fits. read_bytes_of 8 at s fits) (omega arith) more
number_reads (suc (suc zero)) v at y p h more = absurd p
number_reads (suc (suc (suc zero))) v at y p h more = absurd p
number_reads (suc (suc (suc (suc zero)))) v at y p h more = absurd p
number_reads (suc (suc (suc (suc (suc zero))))) v at y p h more = fixed_reads 5 4 v at y (λ s fits. read_bytes_of 4 at s fits) (omega arith) more
number_reads (suc (suc (suc (suc (suc (suc wire)))))) v at y p h more = absurd p

packed_reads : (schema : Schema) (field : FieldType) (coding : Coding) → value_type_of field.kind ≡ Scalar coding → NumberFacts (Scalar coding) → (values : ValueList) → ValuesFit schema field values → (at : ℕ) → Finds (numbers_end coding.wire at 0 (values_text schema field [] values))
packed_reads schema field coding is facts NoValues fits at = (at, refl)
packed_reads schema field coding is facts (ValueAnd (Number p) more) fits at =
    let h : p < coding.patterns = subst (λ type. IsPatternOf type p) is fits.0 in
    subst (λ type. Finds (numbers_end coding.wire at 0 (([] ++ spelled_text type p) ++ values_text schema field [] more))) (sym is)
    (number_reads coding.wire (coding.spelled p) at (values_text schema field [] more) facts.0 (facts.1 p h).1 (λ at. packed_reads schema field coding is facts more fits.1 at))
packed_reads schema field coding is facts (ValueAnd (Bytes s) more) fits at = absurd (subst (λ type. IsStringOf type s) is fits.0)
packed_reads schema field coding is facts (ValueAnd (Sub u) more) fits at = absurd (subst (λ type. IsNestedOf (λ fields. MessageFits schema fields u) schema type) is fits.0)

packed_sound : (schema : Schema) (left : ℕ) (all : List FieldType) (field : FieldType) → Known schema all field → is_packed field.card ≡ true → (s : List ℕ) → ((coding : Coding) → value_type_of field.kind ≡ Scalar coding → NumberFacts (Scalar coding) → Finds (numbers_end coding.wire 0 0 s)) → length (packed_text field.number s) < 2 ^ 31
    → Sound schema left all (packed_text field.number s)
packed_sound schema left all field known packed [] reads h = sound_none schema left all
packed_sound schema left all field known packed (b ∷ s) reads h = by (value_type_of field.kind) refl (known.packs packed) (number_facts field.kind)
  where
    tag : List ℕ
    tag = varint_of (tag_of field.number 2)

    r : Record
    r = record { number = field.number; wire = 2; payload = b ∷ s; span = tag ++ framed (b ∷ s) }

    by : (type : ValueType) → value_type_of field.kind ≡ type → is_number type ≡ true → NumberFacts type → Sound schema left all (packed_text field.number (b ∷ s))
    by (Scalar coding) is n facts =
        let len = varint_of (length (b ∷ s)) in
        let short : length (b ∷ s) < 2 ^ 31 = omega (arith, h, length-append tag (framed (b ∷ s)), length-append len (b ∷ s)) in
        let asked : contents_of schema all r ≡ Numbers coding.wire = known.own r (takes_packed schema field r refl refl (packable field known.packs packed)) ∙ ap (λ type. contents_by type 2) is in
        one_sound schema left all r
        (tag, framed (b ∷ s), tag_is field.number 2 known.some known.most (omega arith), framed_spells (AreRecords left) field.number (b ∷ s) short, refl)
        (λ other. (0, 0, subst (λ c. Finds (read_contents schema (deeper_left schema left) 0 0 (b ∷ s) c)) (sym asked) (reads coding is facts)))
    by Characters is n facts = absurd (false≢true n)
    by Octets is n facts = absurd (false≢true n)
    by (Nested type_no) is n facts = absurd (false≢true n)

-- MESSAGES

held_sound : (schema : Schema) (left : ℕ) → ReadsBelow schema left → (all : List FieldType) (field : FieldType) → Known schema all field → (held : Held) → HeldFits schema field held → HeldWithin left held → length (held_text schema field held) < 2 ^ 31 → Sound schema left all (held_text schema field held)
held_sound schema left below all field known Nothing fits within h = sound_none schema left all
held_sound schema left below all field known (One value) fits within h = value_sound schema left below all field known value fits within (omega (arith, h, length-append (field_tag field) (value_text schema field value)))
held_sound schema left below all field known (Many values) fits within h = pick (is_packed field.card) refl h
  where
    pick : (packed : Bool) → is_packed field.card ≡ packed → length (elim packed as (λ _. List ℕ) [ true ↦ packed_text field.number (values_text schema field [] values) | false ↦ values_text schema field (field_tag field) values ]) < 2 ^ 31
        → Sound schema left all (elim packed as (λ _. List ℕ) [ true ↦ packed_text field.number (values_text schema field [] values) | false ↦ values_text schema field (field_tag field) values ])
    pick true e h = packed_sound schema left all field known e (values_text schema field [] values) (λ coding is facts. packed_reads schema field coding is facts values fits 0) h
    pick false e h = list_sound schema left below all field known values fits within h

fields_sound : (schema : Schema) (left : ℕ) → ReadsBelow schema left → (all fields : List FieldType) → EachField (Known schema all) fields → (held : HeldList) → FieldsFit schema fields held → FieldsWithin left held → length (fields_text schema fields held) < 2 ^ 31 → Sound schema left all (fields_text schema fields held)
fields_sound schema left below all [] known NoFields fits within h = sound_none schema left all
fields_sound schema left below all [] known (FieldAnd held rest) fits within h = absurd fits
fields_sound schema left below all (field ∷ fields) known NoFields fits within h = absurd fits
fields_sound schema left below all (field ∷ fields) known (FieldAnd held rest) fits within h =
    let size = length-append (held_text schema field held) (fields_text schema fields rest) in
    sound_join schema left all (held_text schema field held) (fields_text schema fields rest)
    (held_sound schema left below all field known.0 held fits.1 within.0 (omega (arith, h, size)))
    (fields_sound schema left below all fields known.1 rest fits.3 within.1 (omega (arith, h, size)))

holds_anything : (schema : Schema) (fields : List FieldType) (r : Record) → is_taken schema fields r ≡ false → contents_of schema fields r ≡ Anything
holds_anything schema [] r e = refl
holds_anything schema (field ∷ fields) r e = pick (takes schema field r) refl (holds_anything schema fields r)
  where
    pick : (t : Bool) → takes schema field r ≡ t → (is_taken schema fields r ≡ false → contents_of schema fields r ≡ Anything) → contents_of schema (field ∷ fields) r ≡ Anything
    pick true own more = absurd (false≢true (sym e ∙ ap (λ b. b || is_taken schema fields r) own))
    pick false own more = ap (λ b. cond b (contents_in field r) (contents_of schema fields r)) own ∙ more (sym (ap (λ b. b || is_taken schema fields r) own) ∙ e)

unknown_hold : (schema : Schema) (left : ℕ) (all : List FieldType) (rs : List Record) → NoneTaken schema all rs → Each (Holds schema left all) rs
unknown_hold schema left all [] none = tt
unknown_hold schema left all (r ∷ rs) none =
    (λ other. (0, 0, subst (λ c. Finds (read_contents schema (deeper_left schema left) 0 0 r.payload c)) (sym (holds_anything schema all r none.0)) (0, refl)), unknown_hold schema left all rs none.1)

unknown_sound : (schema : Schema) (left : ℕ) (all : List FieldType) (s : List ℕ) → IsUnknown schema all s → UnknownWithin left s → Sound schema left all s
unknown_sound schema left all s p q =
    let same : p.0 ≡ q.0 = one_list_of_records s p.0 q.0 (most_levels, p.1) (left, q.1) in
    record { rs = q.0; are = q.1; hold = unknown_hold schema left all q.0 (subst (NoneTaken schema all) same p.2) }

abbrev pub AllKnown : Schema → Type 0
AllKnown schema = (type_no : ℕ) → EachField (Known schema (fields_of schema type_no)) (fields_of schema type_no)

level_sound : (schema : Schema) → AllKnown schema → (left type_no : ℕ) → ReadsBelow schema left → (t : Tree) → MessageFits schema (fields_of schema type_no) t → TreeWithin left t → length (message_text schema (fields_of schema type_no) t) < 2 ^ 31 → Sound schema left (fields_of schema type_no) (message_text schema (fields_of schema type_no) t)
level_sound schema known left type_no below (Message held unknown) fits within h =
    let fields = fields_of schema type_no in
    let size = length-append (fields_text schema fields held) unknown in
    sound_join schema left fields (fields_text schema fields held) unknown
    (fields_sound schema left below fields fields (known type_no) held fits.0 within.0 (omega (arith, h, size)))
    (unknown_sound schema left fields unknown fits.1 within.1)

pub text_sound : (schema : Schema) → AllKnown schema → (left type_no : ℕ) (t : Tree) → MessageFits schema (fields_of schema type_no) t → TreeWithin left t → length (message_text schema (fields_of schema type_no) t) < 2 ^ 31 → Sound schema left (fields_of schema type_no) (message_text schema (fields_of schema type_no) t)
text_sound schema known zero type_no t fits within h = level_sound schema known 0 type_no (λ inner u f w short. absurd w) t fits within h
text_sound schema known (suc left) type_no t fits within h =
    level_sound schema known (suc left) type_no
    (λ inner u f w short.
    let fields = fields_of schema inner in
    let s = message_text schema fields u in
    let found = sound_walk schema left fields 0 s (text_sound schema known left inner u f w short) in
    (found.0.1, ap (λ r. r >>= λ stop. Ok stop.1) (walk_left_is schema left 0 (in_message fields) 0 s ∙ found.1)))
    t fits within h
