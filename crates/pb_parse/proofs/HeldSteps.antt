-- A message whose field is changed more than once: the last change counts, and a list that grows one by one grows by all.
use Rattle.std.proofs.Common.{◌≡◌, ℕ, ◌+◌, ◌<◌, List, [], ◌∷◌, length, Bool, true, false, cond, eqb, Option, None, Some, refl, sym, ap, ◌∙◌, arith}
use Rattle.std.specs.Prelude.{slice_get}
use Rattle.std.proofs.lemmas.Bool.{eqb-true, ne_eqb, false≢true}
use Rattle.pb_schema.specs.declared.kind.Card.{Card}
use Rattle.pb_schema.specs.declared.kind.Card.TheVariants as cards
use Rattle.pb_schema.specs.declared.kind.FieldType.{FieldType}
use Rattle.pb_schema.specs.declared.schema.Schema.{Schema}
use Rattle.pb_schema.specs.Fits.{fields_of}
use Rattle.pb_schema.specs.HeldAt.{clears, changed, changed_at, field_at, held_among, held_at, with_held}
use Rattle.pb_schema.specs.Tree.{HeldWith, Nothing, One, Many, TreeWith, Message, ValueWith, ValueListWith, ValueAnd, NoValues, HeldListWith, NoFields, FieldAnd, fields_held, unknown_held, values_in_list}
use Rattle.pb_schema.specs.Merge.{joined}
use Rattle.pb_schema.specs.Put.{values_held}
use Rattle.pb_schema.specs.Lawful.{Lawful, NumbersAscend}
use Rattle.pb_schema.proofs.HeldLaws.{IsFull, field_number, get_after_set}
use Rattle.dyn_message.specs.Lists.{elements_at, count_at, with_appended, with_element, replaced_at}
use Rattle.pb_parse.proofs.FieldFound.{ascend_in}

-- WHAT IS CLEARED

ones_clear : {U : Type 0} (card : Card) (v w : ValueWith U) (other : Card) → clears card (One w) other ≡ clears card (One v) other
ones_clear cards.Implicit v w other = refl
ones_clear cards.Explicit v w other = refl
ones_clear (cards.Member oneof) v w other = refl
ones_clear (cards.Repeated packed) v w other = refl

many_clear : {U : Type 0} (card : Card) (vs : ValueListWith U) (other : Card) → clears card (Many vs) other ≡ false
many_clear cards.Implicit vs other = refl
many_clear cards.Explicit vs other = refl
many_clear (cards.Member oneof) vs other = refl
many_clear (cards.Repeated packed) vs other = refl

-- CHANGED AGAIN

again_one : {U : Type 0} (t u v : Bool) (was held last : HeldWith U) → u ≡ v → cond t last (cond u Nothing (cond t held (cond v Nothing was))) ≡ cond t last (cond u Nothing was)
again_one true u v was held last same = refl
again_one false true v was held last same = refl
again_one false false true was held last same = absurd (false≢true same)
again_one false false false was held last same = refl

changed_again : {U : Type 0} (number : ℕ) (card : Card) (held last : HeldWith U) → ((other : Card) → clears card last other ≡ clears card held other) → (fields : List FieldType) (others : HeldListWith U)
    → changed number card last fields (changed number card held fields others) ≡ changed number card last fields others
changed_again number card held last same [] NoFields = refl
changed_again number card held last same [] (FieldAnd was rest) = refl
changed_again number card held last same (field ∷ fields) NoFields = refl
changed_again number card held last same (field ∷ fields) (FieldAnd was rest) =
    ap (λ h. FieldAnd h (changed number card last fields (changed number card held fields rest))) (again_one (eqb field.number number) (clears card last field.card) (clears card held field.card) was held last (same field.card))
    ∙ ap (FieldAnd (cond (eqb field.number number) last (cond (clears card last field.card) Nothing was))) (changed_again number card held last same fields rest)

with_held_again : {U : Type 0} (schema : Schema) (type_no number : ℕ) (held last : HeldWith U) (t : TreeWith U) → ((card other : Card) → clears card last other ≡ clears card held other)
    → with_held schema type_no number last (with_held schema type_no number held t) ≡ with_held schema type_no number last t
with_held_again {U} schema type_no number held last t same = ap (λ h. Message h (unknown_held t)) (pick (field_at schema type_no number))
  where
    pick : (o : Option FieldType) → changed_at o last (fields_of schema type_no) (changed_at o held (fields_of schema type_no) (fields_held t)) ≡ changed_at o last (fields_of schema type_no) (fields_held t)
    pick None = refl
    pick (Some field) = changed_again field.number field.card held last (same field.card) (fields_of schema type_no) (fields_held t)

pub with_held_ones : {U : Type 0} (schema : Schema) (type_no number : ℕ) (v w : ValueWith U) (t : TreeWith U) → with_held schema type_no number (One w) (with_held schema type_no number (One v) t) ≡ with_held schema type_no number (One w) t
with_held_ones schema type_no number v w t = with_held_again schema type_no number (One v) (One w) t (λ card other. ones_clear card v w other)

pub with_held_manys : {U : Type 0} (schema : Schema) (type_no number : ℕ) (vs ws : ValueListWith U) (t : TreeWith U) → with_held schema type_no number (Many ws) (with_held schema type_no number (Many vs) t) ≡ with_held schema type_no number (Many ws) t
with_held_manys schema type_no number vs ws t = with_held_again schema type_no number (Many vs) (Many ws) t (λ card other. many_clear card ws other ∙ sym (many_clear card vs other))

-- THE SAME VALUES

many_left : {U : Type 0} (t u : Bool) (vs : ValueListWith U) (was : HeldWith U) → t ≡ false → u ≡ false → cond t (Many vs) (cond u Nothing was) ≡ was
many_left true u vs was other none = absurd (false≢true (sym other))
many_left false true vs was other none = absurd (false≢true (sym none))
many_left false false vs was other none = refl

same_above : {U : Type 0} (number : ℕ) (card : Card) (vs : ValueListWith U) (least : ℕ) (fields : List FieldType) (others : HeldListWith U) → NumbersAscend least fields → number < least → changed number card (Many vs) fields others ≡ others
same_above number card vs least [] NoFields ascend low = refl
same_above number card vs least [] (FieldAnd was rest) ascend low = refl
same_above number card vs least (field ∷ fields) NoFields ascend low = refl
same_above number card vs least (field ∷ fields) (FieldAnd was rest) ascend low =
    ap (λ h. FieldAnd h (changed number card (Many vs) fields rest)) (many_left (eqb field.number number) (clears card (Many vs) field.card) vs was (ne_eqb field.number number (λ same. absurd (omega (arith, same, ascend.0, low)))) (many_clear card vs field.card))
    ∙ ap (FieldAnd was) (same_above number card vs (field.number + 1) fields rest ascend.2 (omega (arith, ascend.0, low)))

same_among : {U : Type 0} (number : ℕ) (card : Card) (vs : ValueListWith U) (least : ℕ) (fields : List FieldType) (others : HeldListWith U) → NumbersAscend least fields → held_among fields number others ≡ Many vs → changed number card (Many vs) fields others ≡ others
same_among number card vs least [] NoFields ascend e = refl
same_among number card vs least [] (FieldAnd was rest) ascend e = refl
same_among number card vs least (field ∷ fields) NoFields ascend e = refl
same_among {U} number card vs least (field ∷ fields) (FieldAnd was rest) ascend e = pick (λ later. same_among number card vs (field.number + 1) fields rest ascend.2 later) (eqb field.number number) refl
  where
    pick : (held_among fields number rest ≡ Many vs → changed number card (Many vs) fields rest ≡ rest) → (t : Bool) → eqb field.number number ≡ t → changed number card (Many vs) (field ∷ fields) (FieldAnd was rest) ≡ FieldAnd was rest
    pick more true same =
        let here : was ≡ Many vs = sym (ap (λ t. cond t was (held_among fields number rest)) same) ∙ e in
        ap (λ h. FieldAnd h (changed number card (Many vs) fields rest)) (ap (λ t. cond t (Many vs) (cond (clears card (Many vs) field.card) Nothing was)) same ∙ sym here)
        ∙ ap (FieldAnd was) (same_above number card vs (field.number + 1) fields rest ascend.2 (omega (arith, eqb-true field.number number same)))
    pick more false differ =
        ap (λ h. FieldAnd h (changed number card (Many vs) fields rest)) (many_left (eqb field.number number) (clears card (Many vs) field.card) vs was differ (many_clear card vs field.card))
        ∙ ap (FieldAnd was) (more (sym (ap (λ t. cond t was (held_among fields number rest)) differ) ∙ e))

-- a list that is put where it is
pub same_many : {U : Type 0} (schema : Schema) (type_no number : ℕ) (field : FieldType) (vs : ValueListWith U) (t : TreeWith U) → Lawful schema → field_at schema type_no number ≡ Some field → held_at schema type_no number t ≡ Many vs → with_held schema type_no number (Many vs) t ≡ t
same_many schema type_no number field vs (Message held unknown) lawful found e =
    let fields = fields_of schema type_no in
    ap (λ h. Message h unknown) (ap (λ o. changed_at o (Many vs) fields held) found
    ∙ (ap (λ n. changed n field.card (Many vs) fields held) (field_number fields number field found)
    ∙ same_among number field.card vs 1 fields held (ascend_in schema type_no lawful) e))

-- ONE VALUE MORE

joined_assoc : {U : Type 0} (xs ys zs : ValueListWith U) → joined (joined xs ys) zs ≡ joined xs (joined ys zs)
joined_assoc NoValues ys zs = refl
joined_assoc (ValueAnd x xs) ys zs = ap (ValueAnd x) (joined_assoc xs ys zs)

joined_none : {U : Type 0} (xs : ValueListWith U) → joined xs NoValues ≡ xs
joined_none NoValues = refl
joined_none (ValueAnd x xs) = ap (ValueAnd x) (joined_none xs)

-- what the list holds then
pub appended_values : {U : Type 0} (schema : Schema) (type_no number : ℕ) (field : FieldType) (v : ValueWith U) (t : TreeWith U) → field_at schema type_no number ≡ Some field → IsFull (fields_of schema type_no) (fields_held t)
    → values_held (held_at schema type_no number (with_appended schema type_no number v t)) ≡ joined (values_held (held_at schema type_no number t)) (ValueAnd v NoValues)
appended_values schema type_no number field v t found full = ap values_held (get_after_set schema type_no number field (Many (joined (values_held (held_at schema type_no number t)) (ValueAnd v NoValues))) t found full)

-- a list grows by the first value and then by the rest
pub listed_more : {U : Type 0} (schema : Schema) (type_no number : ℕ) (field : FieldType) (v : ValueWith U) (rest : ValueListWith U) (t : TreeWith U) → field_at schema type_no number ≡ Some field → IsFull (fields_of schema type_no) (fields_held t)
    → with_held schema type_no number (Many (joined (values_held (held_at schema type_no number t)) (ValueAnd v rest))) t
    ≡ with_held schema type_no number (Many (joined (values_held (held_at schema type_no number (with_appended schema type_no number v t))) rest)) (with_appended schema type_no number v t)
listed_more schema type_no number field v rest t found full =
    let xs = values_held (held_at schema type_no number t) in
    let u = with_appended schema type_no number v t in
    let vs : joined (values_held (held_at schema type_no number u)) rest ≡ joined xs (ValueAnd v rest) =
    ap (λ vs. joined vs rest) (appended_values schema type_no number field v t found full) ∙ joined_assoc xs (ValueAnd v NoValues) rest in
    sym (ap (λ vs. with_held schema type_no number (Many vs) u) vs ∙ with_held_manys schema type_no number (joined xs (ValueAnd v NoValues)) (joined xs (ValueAnd v rest)) t)

-- by none it stays
pub listed_none : {U : Type 0} (schema : Schema) (type_no number : ℕ) (field : FieldType) (vs : ValueListWith U) (t : TreeWith U) → Lawful schema → field_at schema type_no number ≡ Some field → held_at schema type_no number t ≡ Many vs
    → with_held schema type_no number (Many (joined (values_held (held_at schema type_no number t)) NoValues)) t ≡ t
listed_none schema type_no number field vs t lawful found e =
    ap (λ vs. with_held schema type_no number (Many vs) t) (joined_none (values_held (held_at schema type_no number t)) ∙ ap values_held e)
    ∙ same_many schema type_no number field vs t lawful found e

-- THE LAST VALUE CHANGED

replaced_last : {U : Type 0} (xs : ValueListWith U) (v w : ValueWith U) → replaced_at (length (values_in_list xs)) w (joined xs (ValueAnd v NoValues)) ≡ joined xs (ValueAnd w NoValues)
replaced_last NoValues v w = refl
replaced_last (ValueAnd x xs) v w = ap (ValueAnd x) (replaced_last xs v w)

found_last : {U : Type 0} (xs : ValueListWith U) (v : ValueWith U) → slice_get (values_in_list (joined xs (ValueAnd v NoValues))) (length (values_in_list xs)) ≡ Some v
found_last NoValues v = refl
found_last (ValueAnd x xs) v = found_last xs v

pub element_put : {U : Type 0} (schema : Schema) (type_no number : ℕ) (field : FieldType) (v w : ValueWith U) (t : TreeWith U) → field_at schema type_no number ≡ Some field → IsFull (fields_of schema type_no) (fields_held t)
    → with_element schema type_no number (count_at schema type_no number t) w (with_appended schema type_no number v t) ≡ with_appended schema type_no number w t
element_put schema type_no number field v w t found full =
    let xs = values_held (held_at schema type_no number t) in
    let u = with_appended schema type_no number v t in
    ap (λ vs. with_held schema type_no number (Many (replaced_at (length (values_in_list xs)) w vs)) u) (appended_values schema type_no number field v t found full)
    ∙ (ap (λ vs. with_held schema type_no number (Many vs) u) (replaced_last xs v w)
    ∙ with_held_manys schema type_no number (joined xs (ValueAnd v NoValues)) (joined xs (ValueAnd w NoValues)) t)

pub element_found : {U : Type 0} (schema : Schema) (type_no number : ℕ) (field : FieldType) (v : ValueWith U) (t : TreeWith U) → field_at schema type_no number ≡ Some field → IsFull (fields_of schema type_no) (fields_held t)
    → slice_get (elements_at schema type_no number (with_appended schema type_no number v t)) (count_at schema type_no number t) ≡ Some v
element_found schema type_no number field v t found full =
    let xs = values_held (held_at schema type_no number t) in
    ap (λ vs. slice_get (values_in_list vs) (length (values_in_list xs))) (appended_values schema type_no number field v t found full) ∙ found_last xs v
