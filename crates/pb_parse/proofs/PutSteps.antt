-- A record that is put into a message changes the field that takes it, and the other members of that field's oneof; one that no field takes changes none.
use Rattle.std.proofs.Common.{◌≡◌, ℕ, ◌+◌, ◌<◌, List, [], ◌∷◌, Bool, true, false, cond, eqb, Some, refl, sym, ap, ◌∙◌, arith}
use Rattle.std.proofs.lemmas.Bool.{eqb-true, ne_eqb, eq-eqb, or_parts, false≢true}
use Rattle.std.proofs.lemmas.Option.{none-some}
use Rattle.pb_schema.specs.declared.kind.Card.{Card}
use Rattle.pb_schema.specs.declared.kind.Card.TheVariants as cards
use Rattle.pb_schema.specs.declared.kind.FieldType.{FieldType}
use Rattle.pb_schema.specs.declared.schema.Schema.{Schema}
use Rattle.pb_schema.specs.Kinds.{ValueType, Scalar, Characters, Octets, Nested, value_type_of}
use Rattle.pb_schema.specs.Record.{Record}
use Rattle.pb_schema.specs.Fits.{fields_of, takes, is_taken}
use Rattle.pb_schema.specs.Cards.{is_member}
use Rattle.pb_schema.specs.HeldAt.{clears, changed, changed_at, field_among, field_at, held_among, held_at, with_held}
use Rattle.pb_schema.specs.Tree.{HeldWith, Nothing, One, Number, Bytes, Sub, TreeWith, ValueWith, HeldListWith, NoFields, FieldAnd, fields_held}
use Rattle.pb_schema.specs.TreeOf.{is_of_oneof, pattern_in}
use Rattle.pb_schema.specs.Put.{Onto, message_or, single_put, taken_put, other_put, held_put, fields_put, put}
use Rattle.pb_schema.specs.Empty.{empty_with}
use Rattle.pb_schema.specs.Lawful.{Lawful, NumbersAscend}
use Rattle.pb_schema.proofs.HeldLaws.{field_number}
use Rattle.pb_parse.proofs.FieldFound.{ascend_in, taken_number, found_here, found_later, first_left, oneof_found, none_of_oneof}

-- ONEOFS

-- both are members of one oneof
abbrev both : Card → Card → Bool
both (cards.Member oneof) other = is_member oneof other
both _ other = false

eqb_turned : (a b : ℕ) → eqb a b ≡ eqb b a
eqb_turned a b = pick (eqb b a) refl
  where
    pick : (t : Bool) → eqb b a ≡ t → eqb a b ≡ t
    pick true e = eq-eqb a b (sym (eqb-true b a e))
    pick false e = ne_eqb a b (λ same. absurd (false≢true (sym e ∙ eq-eqb b a (sym same))))

both_member : (card : Card) (oneof : ℕ) → both card (cards.Member oneof) ≡ is_member oneof card
both_member cards.Implicit oneof = refl
both_member cards.Explicit oneof = refl
both_member (cards.Member own) oneof = eqb_turned own oneof
both_member (cards.Repeated packed) oneof = refl

-- what a record puts into a field of one value is one value
pub single_one : {U : Type 0} (schema : Schema) (none : U) (onto : Onto U) (type : ValueType) (held : HeldWith U) (r : Record) → (value : ValueWith U) × (single_put schema none onto type held r ≡ One value)
single_one schema none onto (Scalar coding) held r = (Number (pattern_in coding r.payload), refl)
single_one schema none onto Characters held r = (Bytes r.payload, refl)
single_one schema none onto Octets held r = (Bytes r.payload, refl)
single_one schema none onto (Nested type_no) held r = (Sub (onto type_no (message_or (empty_with none (fields_of schema type_no)) held) r.payload), refl)

-- so a member that takes a record clears the others
clears_both : {U : Type 0} (schema : Schema) (none : U) (onto : Onto U) (field : FieldType) (held : HeldWith U) (r : Record) (card other : Card) → clears card (taken_put schema none onto field held r card) other ≡ both card other
clears_both schema none onto field held r cards.Implicit other = refl
clears_both schema none onto field held r cards.Explicit other = refl
clears_both schema none onto field held r (cards.Member oneof) other = ap (λ h. clears (cards.Member oneof) h other) (single_one schema none onto (value_type_of field.kind) held r).1
clears_both schema none onto field held r (cards.Repeated packed) other = refl

-- A FIELD THAT DOESN'T TAKE THE RECORD

-- what another field holds then
abbrev left_with : {U : Type 0} → Schema → List FieldType → Record → HeldWith U → Card → HeldWith U
left_with schema all r was card = other_put schema all was r card

other_same : {U : Type 0} (schema : Schema) (all : List FieldType) (r : Record) (card : Card) (was : HeldWith U) → ((oneof : ℕ) → is_of_oneof schema all oneof r ≡ is_member oneof card) → (other : Card) → other_put schema all was r other ≡ cond (both card other) Nothing was
other_same schema all r cards.Implicit was told cards.Implicit = refl
other_same schema all r cards.Explicit was told cards.Implicit = refl
other_same schema all r (cards.Member own) was told cards.Implicit = refl
other_same schema all r (cards.Repeated packed) was told cards.Implicit = refl
other_same schema all r cards.Implicit was told cards.Explicit = refl
other_same schema all r cards.Explicit was told cards.Explicit = refl
other_same schema all r (cards.Member own) was told cards.Explicit = refl
other_same schema all r (cards.Repeated packed) was told cards.Explicit = refl
other_same schema all r cards.Implicit was told (cards.Repeated listed) = refl
other_same schema all r cards.Explicit was told (cards.Repeated listed) = refl
other_same schema all r (cards.Member own) was told (cards.Repeated listed) = refl
other_same schema all r (cards.Repeated packed) was told (cards.Repeated listed) = refl
other_same {U} schema all r card was told (cards.Member oneof) =
    ap (λ b. elim b as (λ _. HeldWith U) [ true ↦ Nothing | false ↦ was ]) (told oneof ∙ sym (both_member card oneof)) ∙ plain (both card (cards.Member oneof))
  where
    plain : (t : Bool) → elim t as (λ _. HeldWith U) [ true ↦ Nothing | false ↦ was ] ≡ cond t Nothing was
    plain true = refl
    plain false = refl

-- ALL FIELDS

abbrev held_by_take : {U : Type 0} → Schema → U → Onto U → List FieldType → Record → FieldType → HeldWith U → Bool → HeldWith U
held_by_take schema none onto all r field was t = elim t [ true ↦ taken_put schema none onto field was r field.card | false ↦ other_put schema all was r field.card ]

module _ {U : Type 0} (schema : Schema) (none : U) (onto : Onto U) (all : List FieldType) (r : Record) (field : FieldType) (number : ℕ) (is : r.number ≡ number) (told : (oneof : ℕ) → is_of_oneof schema all oneof r ≡ is_member oneof field.card) where
  -- the field with another number
  one_other : (v : HeldWith U) → ((other : Card) → clears field.card v other ≡ both field.card other) → (first : FieldType) (was : HeldWith U) → eqb first.number number ≡ false → held_put schema none onto all r first was ≡ cond (eqb first.number number) v (cond (clears field.card v first.card) Nothing was)
  one_other v cleared first was differ =
      ap (held_by_take schema none onto all r first was) (first_left schema first number r is differ)
      ∙ (other_same schema all r field.card was told first.card
      ∙ (ap (λ b. cond b Nothing was) (sym (cleared first.card))
      ∙ sym (ap (λ b. cond b v (cond (clears field.card v first.card) Nothing was)) differ)))

  -- fields above the number
  above : (v : HeldWith U) → ((other : Card) → clears field.card v other ≡ both field.card other) → (least : ℕ) (fields : List FieldType) (others : HeldListWith U) → NumbersAscend least fields → number < least → fields_put schema none onto all r fields others ≡ changed number field.card v fields others
  above v cleared least [] others ascend low = nothing others
    where
      nothing : (others : HeldListWith U) → fields_put schema none onto all r [] others ≡ changed number field.card v [] others
      nothing NoFields = refl
      nothing (FieldAnd was rest) = refl
  above v cleared least (first ∷ fields) NoFields ascend low = refl
  above v cleared least (first ∷ fields) (FieldAnd was rest) ascend low =
      ap (λ h. FieldAnd h (fields_put schema none onto all r fields rest)) (one_other v cleared first was (ne_eqb first.number number (λ same. absurd (omega (arith, same, ascend.0, low)))))
      ∙ ap (FieldAnd (cond (eqb first.number number) v (cond (clears field.card v first.card) Nothing was))) (above v cleared (first.number + 1) fields rest ascend.2 (omega (arith, ascend.0, low)))

  -- the value that the field holds then
  abbrev put_there : HeldWith U → HeldWith U
  put_there held = taken_put schema none onto field held r field.card

  cleared_by : (held : HeldWith U) (other : Card) → clears field.card (put_there held) other ≡ both field.card other
  cleared_by held other = clears_both schema none onto field held r field.card other

  pub fields_taken : takes schema field r ≡ true → (least : ℕ) (fields : List FieldType) (others : HeldListWith U) → NumbersAscend least fields → field_among fields number ≡ Some field
      → fields_put schema none onto all r fields others ≡ changed number field.card (taken_put schema none onto field (held_among fields number others) r field.card) fields others
  fields_taken takes_it least [] others ascend found = absurd (none-some field found)
  fields_taken takes_it least (first ∷ fields) NoFields ascend found = refl
  fields_taken takes_it least (first ∷ fields) (FieldAnd was rest) ascend found = pick (λ later. fields_taken takes_it (first.number + 1) fields rest ascend.2 later) (eqb first.number number) refl
    where
      pick : (field_among fields number ≡ Some field → fields_put schema none onto all r fields rest ≡ changed number field.card (put_there (held_among fields number rest)) fields rest) → (t : Bool) → eqb first.number number ≡ t → fields_put schema none onto all r (first ∷ fields) (FieldAnd was rest) ≡ changed number field.card (put_there (held_among (first ∷ fields) number (FieldAnd was rest))) (first ∷ fields) (FieldAnd was rest)
      pick more true same =
          let here : first ≡ field = found_here first fields number field found same in
          let v = put_there was in
          let there : held_among (first ∷ fields) number (FieldAnd was rest) ≡ was = ap (λ t. cond t was (held_among fields number rest)) same in
          let first_put : held_put schema none onto all r first was ≡ v =
          ap (held_by_take schema none onto all r first was) (ap (λ (f : FieldType). takes schema f r) here ∙ takes_it) ∙ ap (λ (f : FieldType). taken_put schema none onto f was r f.card) here in
          ap (λ h. FieldAnd h (fields_put schema none onto all r fields rest)) (first_put ∙ sym (ap (λ t. cond t v (cond (clears field.card v first.card) Nothing was)) same))
          ∙ (ap (FieldAnd (cond (eqb first.number number) v (cond (clears field.card v first.card) Nothing was)))
          (above v (cleared_by was) (first.number + 1) fields rest ascend.2 (omega (arith, eqb-true first.number number same)))
          ∙ ap (λ h. changed number field.card (put_there h) (first ∷ fields) (FieldAnd was rest)) (sym there))
      pick more false differ =
          let later = held_among fields number rest in
          let v = put_there later in
          let there : held_among (first ∷ fields) number (FieldAnd was rest) ≡ later = ap (λ t. cond t was (held_among fields number rest)) differ in
          ap (λ h. FieldAnd h (fields_put schema none onto all r fields rest)) (one_other v (cleared_by later) first was differ)
          ∙ (ap (FieldAnd (cond (eqb first.number number) v (cond (clears field.card v first.card) Nothing was)))
          (more (found_later first fields number field found differ))
          ∙ ap (λ h. changed number field.card (put_there h) (first ∷ fields) (FieldAnd was rest)) (sym there))

-- a record that a field takes, put into a message
pub put_taken : {U : Type 0} (schema : Schema) (none : U) (onto : Onto U) (type_no number : ℕ) (field : FieldType) (r : Record) (t : TreeWith U) → Lawful schema → field_at schema type_no number ≡ Some field → takes schema field r ≡ true
    → put schema none onto (fields_of schema type_no) (fields_held t) r ≡ fields_held (with_held schema type_no number (taken_put schema none onto field (held_at schema type_no number t) r field.card) t)
put_taken schema none onto type_no number field r t lawful found takes_it =
    let fields = fields_of schema type_no in
    let ascend = ascend_in schema type_no lawful in
    let own : field.number ≡ number = field_number fields number field found in
    let v = taken_put schema none onto field (held_at schema type_no number t) r field.card in
    fields_taken schema none onto fields r field number (sym (taken_number schema field r takes_it) ∙ own) (λ oneof. oneof_found schema 1 fields number field r oneof ascend found takes_it) takes_it 1 fields (fields_held t) ascend found
    ∙ (ap (λ n. changed n field.card v fields (fields_held t)) (sym own)
    ∙ sym (ap (λ o. changed_at o v fields (fields_held t)) found))

-- A RECORD THAT NO FIELD TAKES

other_none : {U : Type 0} (schema : Schema) (all : List FieldType) (r : Record) (was : HeldWith U) → is_taken schema all r ≡ false → (card : Card) → other_put schema all was r card ≡ was
other_none schema all r was none cards.Implicit = refl
other_none schema all r was none cards.Explicit = refl
other_none schema all r was none (cards.Repeated packed) = refl
other_none {U} schema all r was none (cards.Member oneof) = ap (λ b. elim b as (λ _. HeldWith U) [ true ↦ Nothing | false ↦ was ]) (none_of_oneof schema r oneof all none)

fields_left : {U : Type 0} (schema : Schema) (none : U) (onto : Onto U) (all : List FieldType) (r : Record) → is_taken schema all r ≡ false → (fields : List FieldType) (others : HeldListWith U) → is_taken schema fields r ≡ false → fields_put schema none onto all r fields others ≡ others
fields_left schema none onto all r untaken [] NoFields left = refl
fields_left schema none onto all r untaken [] (FieldAnd was rest) left = refl
fields_left schema none onto all r untaken (field ∷ fields) NoFields left = refl
fields_left schema none onto all r untaken (field ∷ fields) (FieldAnd was rest) left =
    let parts = or_parts (takes schema field r) (is_taken schema fields r) left in
    ap (λ h. FieldAnd h (fields_put schema none onto all r fields rest)) (ap (held_by_take schema none onto all r field was) parts.0 ∙ other_none schema all r was untaken field.card)
    ∙ ap (FieldAnd was) (fields_left schema none onto all r untaken fields rest parts.1)

pub put_left : {U : Type 0} (schema : Schema) (none : U) (onto : Onto U) (fields : List FieldType) (held : HeldListWith U) (r : Record) → is_taken schema fields r ≡ false → put schema none onto fields held r ≡ held
put_left schema none onto fields held r untaken = fields_left schema none onto fields r untaken fields held untaken
