-- The field that takes a record, found by its number: no other field of the type takes it, and what its payload has to be is what this field says.
use Rattle.std.proofs.Common.{◌≡◌, ◌≢◌, ℕ, zero, suc, ◌+◌, ◌<◌, List, [], ◌∷◌, Bool, true, false, cond, ◌&&◌, ◌||◌, eqb, Option, None, Some, refl, sym, ap, ◌∙◌, arith}
use Rattle.std.proofs.lemmas.Bool.{eqb-true, eq-eqb, or_parts, or_from, or_right, false≢true, and_right, cond-false}
use Rattle.std.proofs.lemmas.Option.{none-some, same_Some}
use Rattle.pb_schema.specs.declared.kind.FieldType.{FieldType}
use Rattle.pb_schema.specs.declared.schema.MessageType.{MessageType}
use Rattle.pb_schema.specs.declared.schema.Schema.{Schema}
use Rattle.pb_schema.specs.Record.{Record}
use Rattle.pb_schema.specs.Fits.{Anything, fields_among, fields_of, takes, is_taken, contents_in, contents_of}
use Rattle.pb_schema.specs.Cards.{is_member}
use Rattle.pb_schema.specs.HeldAt.{field_among, field_at}
use Rattle.pb_schema.specs.TreeOf.{is_of_oneof}
use Rattle.pb_schema.specs.Lawful.{Lawful, NumbersAscend, TypesAllowed}
use Rattle.pb_schema.proofs.FitsLaws.{taken_by, not_taken}
use Rattle.pb_schema.proofs.HeldLaws.{field_number}

-- NUMBERS

types_ascend : (count : ℕ) (types : List MessageType) (type_no : ℕ) → TypesAllowed count types → NumbersAscend 1 (fields_among types type_no)
types_ascend count [] type_no allowed = tt
types_ascend count (type ∷ types) zero allowed = allowed.0.numbers
types_ascend count (type ∷ types) (suc type_no) allowed = types_ascend count types type_no allowed.1

-- the numbers of a type's fields ascend
pub ascend_in : (schema : Schema) (type_no : ℕ) → Lawful schema → NumbersAscend 1 (fields_of schema type_no)
ascend_in schema type_no lawful = types_ascend _ schema.types type_no lawful.types

-- the field with a record's number is the one that takes it
pub taken_number : (schema : Schema) (field : FieldType) (r : Record) → takes schema field r ≡ true → field.number ≡ r.number
taken_number schema field r e = (taken_by schema field r e).number

-- no field from a number on takes a record of a lower one
pub none_above : (schema : Schema) (r : Record) (least : ℕ) (fields : List FieldType) → NumbersAscend least fields → r.number < least → is_taken schema fields r ≡ false
none_above schema r least [] ascend low = refl
none_above schema r least (field ∷ fields) ascend low =
    or_from (takes schema field r) (is_taken schema fields r) (not_taken schema field r (λ same. absurd (omega (arith, same, ascend.0, low))))
    (none_above schema r (field.number + 1) fields ascend.2 (omega (arith, ascend.0, low)))

-- THE FIELD THAT THERE IS

-- what the first field does, where the field with this number is another
abbrev pub found_then : FieldType → List FieldType → ℕ → Bool → Option FieldType
found_then first fields number t = cond t (Some first) (field_among fields number)

pub found_here : (first : FieldType) (fields : List FieldType) (number : ℕ) (field : FieldType) → field_among (first ∷ fields) number ≡ Some field → eqb first.number number ≡ true → first ≡ field
found_here first fields number field found same = same_Some first field (sym (ap (found_then first fields number) same) ∙ found)

pub found_later : (first : FieldType) (fields : List FieldType) (number : ℕ) (field : FieldType) → field_among (first ∷ fields) number ≡ Some field → eqb first.number number ≡ false → field_among fields number ≡ Some field
found_later first fields number field found other = sym (ap (found_then first fields number) other) ∙ found

pub other_number : (a b : ℕ) → eqb a b ≡ false → a ≢ b
other_number a b differ same = absurd (false≢true (sym differ ∙ eq-eqb a b same))

-- the first field has another number than the record
pub first_left : (schema : Schema) (first : FieldType) (number : ℕ) (r : Record) → r.number ≡ number → eqb first.number number ≡ false → takes schema first r ≡ false
first_left schema first number r is differ = not_taken schema first r (λ same. other_number first.number number differ (same ∙ is))

pub taken_among : (schema : Schema) (fields : List FieldType) (number : ℕ) (field : FieldType) (r : Record) → field_among fields number ≡ Some field → takes schema field r ≡ true → is_taken schema fields r ≡ true
taken_among schema [] number field r found takes_it = absurd (none-some field found)
taken_among schema (first ∷ fields) number field r found takes_it = pick (λ later. taken_among schema fields number field r later takes_it) (eqb first.number number) refl
  where
    pick : (field_among fields number ≡ Some field → is_taken schema fields r ≡ true) → (t : Bool) → eqb first.number number ≡ t → (takes schema first r || is_taken schema fields r) ≡ true
    pick more true same = ap (λ b. b || is_taken schema fields r) (ap (λ (f : FieldType). takes schema f r) (found_here first fields number field found same) ∙ takes_it)
    pick more false differ = or_right (takes schema first r) (is_taken schema fields r) (more (found_later first fields number field found differ))

-- a record that a field takes holds what that field says
pub contents_found : (schema : Schema) (fields : List FieldType) (number : ℕ) (field : FieldType) (r : Record) → field_among fields number ≡ Some field → takes schema field r ≡ true → contents_of schema fields r ≡ contents_in field r
contents_found schema [] number field r found takes_it = absurd (none-some field found)
contents_found schema (first ∷ fields) number field r found takes_it = pick (λ later. contents_found schema fields number field r later takes_it) (eqb first.number number) refl
  where
    is : r.number ≡ number
    is = sym (taken_number schema field r takes_it) ∙ field_number (first ∷ fields) number field found

    pick : (field_among fields number ≡ Some field → contents_of schema fields r ≡ contents_in field r) → (t : Bool) → eqb first.number number ≡ t → contents_of schema (first ∷ fields) r ≡ contents_in field r
    pick more true same =
        let here : first ≡ field = found_here first fields number field found same in
        ap (λ b. cond b (contents_in first r) (contents_of schema fields r)) (ap (λ (f : FieldType). takes schema f r) here ∙ takes_it) ∙ ap (λ (f : FieldType). contents_in f r) here
    pick more false differ =
        ap (λ b. cond b (contents_in first r) (contents_of schema fields r)) (first_left schema first number r is differ)
        ∙ more (found_later first fields number field found differ)

-- nor does a member of a oneof where no field takes it
pub none_of_oneof : (schema : Schema) (r : Record) (oneof : ℕ) (fields : List FieldType) → is_taken schema fields r ≡ false → is_of_oneof schema fields oneof r ≡ false
none_of_oneof schema r oneof [] none = refl
none_of_oneof schema r oneof (field ∷ fields) none =
    let parts = or_parts (takes schema field r) (is_taken schema fields r) none in
    or_from (is_member oneof field.card && takes schema field r) (is_of_oneof schema fields oneof r) (and_right (is_member oneof field.card) (takes schema field r) parts.0) (none_of_oneof schema r oneof fields parts.1)

-- the same record is taken by a member of a oneof exactly where that field is one
pub oneof_found : (schema : Schema) (least : ℕ) (fields : List FieldType) (number : ℕ) (field : FieldType) (r : Record) (oneof : ℕ) → NumbersAscend least fields → field_among fields number ≡ Some field → takes schema field r ≡ true
    → is_of_oneof schema fields oneof r ≡ is_member oneof field.card
oneof_found schema least [] number field r oneof ascend found takes_it = absurd (none-some field found)
oneof_found schema least (first ∷ fields) number field r oneof ascend found takes_it = pick (λ later. oneof_found schema (first.number + 1) fields number field r oneof ascend.2 later takes_it) (eqb first.number number) refl
  where
    is : r.number ≡ number
    is = sym (taken_number schema field r takes_it) ∙ field_number (first ∷ fields) number field found

    plain : (b : Bool) → ((b && true) || false) ≡ b
    plain true = refl
    plain false = refl

    pick : (field_among fields number ≡ Some field → is_of_oneof schema fields oneof r ≡ is_member oneof field.card) → (t : Bool) → eqb first.number number ≡ t → is_of_oneof schema (first ∷ fields) oneof r ≡ is_member oneof field.card
    pick more true same =
        let here : first ≡ field = found_here first fields number field found same in
        let none : is_of_oneof schema fields oneof r ≡ false = none_of_oneof schema r oneof fields (none_above schema r (first.number + 1) fields ascend.2 (omega (arith, is, eqb-true first.number number same))) in
        ap (λ b. (is_member oneof first.card && takes schema first r) || b) none
        ∙ (ap (λ (f : FieldType). (is_member oneof f.card && takes schema f r) || false) here
        ∙ (ap (λ b. (is_member oneof field.card && b) || false) takes_it ∙ plain (is_member oneof field.card)))
    pick more false differ =
        ap (λ b. b || is_of_oneof schema fields oneof r) (and_right (is_member oneof first.card) (takes schema first r) (first_left schema first number r is differ))
        ∙ more (found_later first fields number field found differ)

-- THE FIELD THAT THERE ISN'T

-- a record that no field takes holds anything
pub contents_none : (schema : Schema) (fields : List FieldType) (r : Record) → is_taken schema fields r ≡ false → contents_of schema fields r ≡ Anything
contents_none schema [] r none = refl
contents_none schema (field ∷ fields) r none =
    let parts = or_parts (takes schema field r) (is_taken schema fields r) none in
    cond-false (takes schema field r) (contents_in field r) (contents_of schema fields r) parts.0 ∙ contents_none schema fields r parts.1

none_among : (schema : Schema) (fields : List FieldType) (number : ℕ) (r : Record) → field_among fields number ≡ None → r.number ≡ number → is_taken schema fields r ≡ false
none_among schema [] number r missing is = refl
none_among schema (first ∷ fields) number r missing is = pick (λ later. none_among schema fields number r later is) (eqb first.number number) refl
  where
    pick : (field_among fields number ≡ None → is_taken schema fields r ≡ false) → (t : Bool) → eqb first.number number ≡ t → (takes schema first r || is_taken schema fields r) ≡ false
    pick more true same = absurd (none-some first (sym missing ∙ ap (found_then first fields number) same))
    pick more false differ =
        or_from (takes schema first r) (is_taken schema fields r) (first_left schema first number r is differ)
        (more (sym (ap (found_then first fields number) differ) ∙ missing))

-- no field has the number of the record
pub no_number : (schema : Schema) (type_no number : ℕ) (r : Record) → field_at schema type_no number ≡ None → r.number ≡ number → is_taken schema (fields_of schema type_no) r ≡ false
no_number schema type_no number r missing is = none_among schema (fields_of schema type_no) number r missing is

unfit_among : (schema : Schema) (least : ℕ) (fields : List FieldType) (number : ℕ) (field : FieldType) (r : Record) → NumbersAscend least fields → field_among fields number ≡ Some field → r.number ≡ number → takes schema field r ≡ false
    → is_taken schema fields r ≡ false
unfit_among schema least [] number field r ascend found is unfit = refl
unfit_among schema least (first ∷ fields) number field r ascend found is unfit = pick (λ later. unfit_among schema (first.number + 1) fields number field r ascend.2 later is unfit) (eqb first.number number) refl
  where
    pick : (field_among fields number ≡ Some field → is_taken schema fields r ≡ false) → (t : Bool) → eqb first.number number ≡ t → (takes schema first r || is_taken schema fields r) ≡ false
    pick more true same =
        or_from (takes schema first r) (is_taken schema fields r) (ap (λ (f : FieldType). takes schema f r) (found_here first fields number field found same) ∙ unfit)
        (none_above schema r (first.number + 1) fields ascend.2 (omega (arith, is, eqb-true first.number number same)))
    pick more false differ =
        or_from (takes schema first r) (is_taken schema fields r) (first_left schema first number r is differ)
        (more (found_later first fields number field found differ))

-- the field with the record's number doesn't take its wire type
pub no_fit : (schema : Schema) (type_no number : ℕ) (field : FieldType) (r : Record) → Lawful schema → field_at schema type_no number ≡ Some field → r.number ≡ number → takes schema field r ≡ false → is_taken schema (fields_of schema type_no) r ≡ false
no_fit schema type_no number field r lawful found is unfit = unfit_among schema 1 (fields_of schema type_no) number field r (ascend_in schema type_no lawful) found is unfit
