-- Laws of a message with one field changed: the field holds what was put there, all other fields what they held, but for the other members of its oneof.
use Rattle.std.proofs.Common.{◌≡◌, ◌≢◌, ℕ, suc, ◌≤◌, List, [], ◌∷◌, length, Bool, true, false, cond, eqb, Option, None, Some, refl, sym, ap, ◌∙◌, arith}
use Rattle.std.specs.Prelude.{max}
use Rattle.std.proofs.lemmas.Bool.{ne_eqb, eqb-true}
use Rattle.std.proofs.lemmas.Option.{none-some, same_Some}
use Rattle.pb_schema.specs.declared.kind.Card.{Card}
use Rattle.pb_schema.specs.declared.kind.Card.TheVariants as cards
use Rattle.pb_schema.specs.declared.kind.FieldType.{FieldType}
use Rattle.pb_schema.specs.declared.schema.Schema.{Schema}
use Rattle.pb_schema.specs.Fits.{fields_of}
use Rattle.pb_schema.specs.Tree.{HeldWith, Nothing, One, Many, TreeWith, Message, HeldListWith, NoFields, FieldAnd, fields_held, fields_in_list, held_map, fields_map, tree_map}
use Rattle.pb_schema.specs.Depth.{held_levels, fields_levels, depth_of}
use Rattle.pb_schema.specs.HeldAt.{field_among, field_at, held_among, held_at, clears, changed, changed_at, with_held}

-- a message has one entry for each field
abbrev pub IsFull : {U : Type 0} → List FieldType → HeldListWith U → Type 0
IsFull fields held = length (fields_in_list held) ≡ length fields

one_less : (a b : ℕ) → suc a ≡ suc b → a ≡ b
one_less a b e = omega (arith, e)

-- GET AFTER SET

pub field_number : (fields : List FieldType) (number : ℕ) (field : FieldType) → field_among fields number ≡ Some field → field.number ≡ number
field_number [] number field e = absurd (none-some field e)
field_number (first ∷ fields) number field e = pick (eqb first.number number) refl (λ is. field_number fields number field is) e
  where
    pick : (t : Bool) → eqb first.number number ≡ t → (field_among fields number ≡ Some field → field.number ≡ number) → cond t (Some first) (field_among fields number) ≡ Some field → field.number ≡ number
    pick true same more is = sym (ap (λ (x : FieldType). x.number) (same_Some first field is)) ∙ eqb-true first.number number same
    pick false same more is = more is

set_among : {U : Type 0} (card : Card) (held : HeldWith U) (fields : List FieldType) (others : HeldListWith U) (number : ℕ) (field : FieldType) → IsFull fields others → field_among fields number ≡ Some field → held_among fields number (changed number card held fields others) ≡ held
set_among card held [] others number field full e = absurd (none-some field e)
set_among card held (first ∷ fields) NoFields number field full e = absurd (omega (arith, full))
set_among card held (first ∷ fields) (FieldAnd was rest) number field full e =
    pick (eqb first.number number) (λ is. set_among card held fields rest number field (one_less (length (fields_in_list rest)) (length fields) full) is) e
  where
    pick : (t : Bool) → (field_among fields number ≡ Some field → held_among fields number (changed number card held fields rest) ≡ held) → cond t (Some first) (field_among fields number) ≡ Some field
        → cond t (cond t held (cond (clears card held first.card) Nothing was)) (held_among fields number (changed number card held fields rest)) ≡ held
    pick true more is = refl
    pick false more is = more is

pub get_after_set : {U : Type 0} (schema : Schema) (type_no number : ℕ) (field : FieldType) (held : HeldWith U) (t : TreeWith U) → field_at schema type_no number ≡ Some field → IsFull (fields_of schema type_no) (fields_held t) → held_at schema type_no number (with_held schema type_no number held t) ≡ held
get_after_set schema type_no number field held t e full =
    let fields = fields_of schema type_no in
    ap (λ o. held_among fields number (changed_at o held fields (fields_held t))) e
    ∙ (ap (λ n. held_among fields number (changed n field.card held fields (fields_held t))) (field_number fields number field e)
    ∙ set_among field.card held fields (fields_held t) number field full e)

-- SET ELSEWHERE

-- what another field holds, by its own card
else_among : {U : Type 0} (number : ℕ) (card : Card) (held : HeldWith U) (fields : List FieldType) (others : HeldListWith U) (other : ℕ) (field : FieldType) → number ≢ other → field_among fields other ≡ Some field
    → held_among fields other (changed number card held fields others) ≡ cond (clears card held field.card) Nothing (held_among fields other others)
else_among number card held [] others other field differ e = absurd (none-some field e)
else_among {U} number card held (first ∷ fields) NoFields other field differ e = nothing (clears card held field.card)
  where
    nothing : (b : Bool) → ◌≡◌ {A = HeldWith U} Nothing (cond b Nothing Nothing)
    nothing true = refl
    nothing false = refl
else_among number card held (first ∷ fields) (FieldAnd was rest) other field differ e = pick (eqb first.number other) refl (λ is. else_among number card held fields rest other field differ is) e
  where
    pick : (t : Bool) → eqb first.number other ≡ t → (field_among fields other ≡ Some field → held_among fields other (changed number card held fields rest) ≡ cond (clears card held field.card) Nothing (held_among fields other rest)) → cond t (Some first) (field_among fields other) ≡ Some field
        → cond t (cond (eqb first.number number) held (cond (clears card held first.card) Nothing was)) (held_among fields other (changed number card held fields rest)) ≡ cond (clears card held field.card) Nothing (cond t was (held_among fields other rest))
    pick true same more is =
        ap (λ b. cond b held (cond (clears card held first.card) Nothing was)) (ne_eqb first.number number (λ q. differ (sym q ∙ eqb-true first.number other same)))
        ∙ ap (λ (x : FieldType). cond (clears card held x.card) Nothing was) (same_Some first field is)
    pick false same more is = more is

pub get_elsewhere : {U : Type 0} (schema : Schema) (type_no number other : ℕ) (field second : FieldType) (held : HeldWith U) (t : TreeWith U) → number ≢ other → field_at schema type_no number ≡ Some field → field_at schema type_no other ≡ Some second
    → held_at schema type_no other (with_held schema type_no number held t) ≡ cond (clears field.card held second.card) Nothing (held_at schema type_no other t)
get_elsewhere schema type_no number other field second held t differ e is =
    let fields = fields_of schema type_no in
    ap (λ o. held_among fields other (changed_at o held fields (fields_held t))) e
    ∙ (ap (λ n. held_among fields other (changed n field.card held fields (fields_held t))) (field_number fields number field e)
    ∙ else_among number field.card held fields (fields_held t) other second differ is)

-- WHAT STAYS

full_changed : {U : Type 0} (number : ℕ) (card : Card) (held : HeldWith U) (fields : List FieldType) (others : HeldListWith U) → length (fields_in_list (changed number card held fields others)) ≡ length (fields_in_list others)
full_changed number card held [] others = refl
full_changed number card held (field ∷ fields) NoFields = refl
full_changed number card held (field ∷ fields) (FieldAnd was rest) = ap suc (full_changed number card held fields rest)

full_changed_at : {U : Type 0} (o : Option FieldType) (held : HeldWith U) (fields : List FieldType) (others : HeldListWith U) → length (fields_in_list (changed_at o held fields others)) ≡ length (fields_in_list others)
full_changed_at None held fields others = refl
full_changed_at (Some field) held fields others = full_changed field.number field.card held fields others

pub entries_stay : {U : Type 0} (schema : Schema) (type_no number : ℕ) (held : HeldWith U) (t : TreeWith U) → length (fields_in_list (fields_held (with_held schema type_no number held t))) ≡ length (fields_in_list (fields_held t))
entries_stay schema type_no number held t = full_changed_at (field_at schema type_no number) held (fields_of schema type_no) (fields_held t)

-- no field is nested deeper than the message, and a change nests no deeper than the message and what is put there
held_depth_among : {U : Type 0} (fields : List FieldType) (number : ℕ) (others : HeldListWith U) → held_levels (held_among fields number others) ≤ fields_levels others
held_depth_among [] number others = omega arith
held_depth_among (field ∷ fields) number NoFields = omega arith
held_depth_among (field ∷ fields) number (FieldAnd held rest) = pick (eqb field.number number) (held_depth_among fields number rest)
  where
    pick : (t : Bool) → held_levels (held_among fields number rest) ≤ fields_levels rest → held_levels (cond t held (held_among fields number rest)) ≤ max (held_levels held) (fields_levels rest)
    pick true more = omega arith
    pick false more = omega (arith, more)

pub held_no_deeper : {U : Type 0} (schema : Schema) (type_no number : ℕ) (t : TreeWith U) → held_levels (held_at schema type_no number t) ≤ depth_of t
held_no_deeper schema type_no number (Message held unknown) = held_depth_among (fields_of schema type_no) number held

changed_depth : {U : Type 0} (number : ℕ) (card : Card) (held : HeldWith U) (fields : List FieldType) (others : HeldListWith U) → fields_levels (changed number card held fields others) ≤ max (held_levels held) (fields_levels others)
changed_depth number card held [] others = omega arith
changed_depth number card held (field ∷ fields) NoFields = omega arith
changed_depth number card held (field ∷ fields) (FieldAnd was rest) = pick (eqb field.number number) (clears card held field.card) (changed_depth number card held fields rest)
  where
    pick : (t u : Bool) → fields_levels (changed number card held fields rest) ≤ max (held_levels held) (fields_levels rest)
        → max (held_levels (cond t held (cond u Nothing was))) (fields_levels (changed number card held fields rest)) ≤ max (held_levels held) (max (held_levels was) (fields_levels rest))
    pick true u more = omega (arith, more)
    pick false true more = omega (arith, more)
    pick false false more = omega (arith, more)

pub changed_no_deeper : {U : Type 0} (schema : Schema) (type_no number : ℕ) (held : HeldWith U) (t : TreeWith U) → depth_of (with_held schema type_no number held t) ≤ max (held_levels held) (depth_of t)
changed_no_deeper schema type_no number held (Message others unknown) = pick (field_at schema type_no number)
  where
    pick : (o : Option FieldType) → fields_levels (changed_at o held (fields_of schema type_no) others) ≤ max (held_levels held) (fields_levels others)
    pick None = omega arith
    pick (Some field) = changed_depth field.number field.card held (fields_of schema type_no) others

-- WHERE WHAT IS UNKNOWN IS CHANGED

held_map_among : {U V : Type 0} (f : U → V) (fields : List FieldType) (number : ℕ) (others : HeldListWith U) → held_map f (held_among fields number others) ≡ held_among fields number (fields_map f others)
held_map_among f [] number others = refl
held_map_among f (field ∷ fields) number NoFields = refl
held_map_among f (field ∷ fields) number (FieldAnd held rest) = pick (eqb field.number number) (held_map_among f fields number rest)
  where
    pick : (t : Bool) → held_map f (held_among fields number rest) ≡ held_among fields number (fields_map f rest) → held_map f (cond t held (held_among fields number rest)) ≡ cond t (held_map f held) (held_among fields number (fields_map f rest))
    pick true more = refl
    pick false more = more

pub held_of_map : {U V : Type 0} (f : U → V) (schema : Schema) (type_no number : ℕ) (t : TreeWith U) → held_map f (held_at schema type_no number t) ≡ held_at schema type_no number (tree_map f t)
held_of_map f schema type_no number (Message held unknown) = held_map_among f (fields_of schema type_no) number held

clears_map : {U V : Type 0} (f : U → V) (card other : Card) (held : HeldWith U) → clears card held other ≡ clears card (held_map f held) other
clears_map f cards.Implicit other held = refl
clears_map f cards.Explicit other held = refl
clears_map f (cards.Member oneof) other Nothing = refl
clears_map f (cards.Member oneof) other (One value) = refl
clears_map f (cards.Member oneof) other (Many _) = refl
clears_map f (cards.Repeated packed) other held = refl

changed_map : {U V : Type 0} (f : U → V) (number : ℕ) (card : Card) (held : HeldWith U) (fields : List FieldType) (others : HeldListWith U) → fields_map f (changed number card held fields others) ≡ changed number card (held_map f held) fields (fields_map f others)
changed_map f number card held [] others = refl
changed_map f number card held (field ∷ fields) NoFields = refl
changed_map f number card held (field ∷ fields) (FieldAnd was rest) =
    ap (λ h. FieldAnd h (fields_map f (changed number card held fields rest))) (pick (eqb field.number number) (clears card held field.card) ∙ ap (λ b. cond (eqb field.number number) (held_map f held) (cond b Nothing (held_map f was))) (clears_map f card field.card held))
    ∙ ap (FieldAnd (cond (eqb field.number number) (held_map f held) (cond (clears card (held_map f held) field.card) Nothing (held_map f was)))) (changed_map f number card held fields rest)
  where
    pick : (t u : Bool) → held_map f (cond t held (cond u Nothing was)) ≡ cond t (held_map f held) (cond u Nothing (held_map f was))
    pick true u = refl
    pick false true = refl
    pick false false = refl

pub changed_of_map : {U V : Type 0} (f : U → V) (schema : Schema) (type_no number : ℕ) (held : HeldWith U) (t : TreeWith U) → tree_map f (with_held schema type_no number held t) ≡ with_held schema type_no number (held_map f held) (tree_map f t)
changed_of_map f schema type_no number held (Message others unknown) = ap (λ fields. Message fields (f unknown)) (pick (field_at schema type_no number))
  where
    pick : (o : Option FieldType) → fields_map f (changed_at o held (fields_of schema type_no) others) ≡ changed_at o (held_map f held) (fields_of schema type_no) (fields_map f others)
    pick None = refl
    pick (Some field) = changed_map f field.number field.card held (fields_of schema type_no) others
