-- What records stand for that are gathered is what putting them one after another gives, at each field, over all fields, and for payloads; and a map that joins pieces goes with it.
use Rattle.std.proofs.Common.{◌≡◌, ℕ, zero, suc, List, [], ◌∷◌, ◌++◌, map, Bool, true, false, not, cond, None, Some, refl, sym, ap, ◌∙◌, subst, append-nil, append_assoc}
use Rattle.std.specs.Prelude.{IsSome, All, filter, flat_map, ◌&&◌, ◌||◌}
use Rattle.std.specs.List.{slice_split, fold, concat}
use Rattle.std.proofs.lemmas.Bool.{eq-eqb}
use Rattle.std.proofs.lemmas.Grind.{flat_map-append}
use Rattle.std.proofs.lemmas.List.{map-append}
use Rattle.std.proofs.lemmas.List.Elements.{filter-append, All-nil, All-cons}
use Rattle.std.proofs.lemmas.List.Folds.{concat-append}
use Rattle.pb_schema.specs.declared.kind.Card.{Card}
use Rattle.pb_schema.specs.declared.kind.Card.TheVariants as cards
use Rattle.pb_schema.specs.declared.kind.FieldType.{FieldType}
use Rattle.pb_schema.specs.declared.schema.Schema.{Schema}
use Rattle.pb_schema.specs.Kinds.{ValueType, Scalar, Characters, Octets, Nested, value_type_of}
use Rattle.pb_schema.specs.Fits.{takes, fields_of}
use Rattle.pb_schema.specs.Records.{Record}
use Rattle.pb_schema.specs.Broken.{most_levels, broken_of}
use Rattle.pb_schema.specs.Lawful.{Lawful}
use Rattle.pb_schema.specs.Tree.{Tree, Shape, ValueWith, HeldWith, Nothing, One, Many, Number, Bytes, Sub, TreeWith, Message, ValueAnd, HeldListWith, NoFields, FieldAnd, value_list, held_list, value_map, held_map, values_map, fields_map, tree_map}
use Rattle.pb_schema.specs.Empty.{unset, empty_with}
use Rattle.pb_schema.specs.Merge.{joined}
use Rattle.pb_schema.specs.TreeOf.{Nest, pattern_in, elements_from, fitting, last_of, or_none, payloads_of, last_held, merged, single_by, single, values_by, values_in, unless_default, is_of_oneof, of_oneof, last_run, held_by, held_of, unknown_of, gathered, records_in, tree_of}
use Rattle.pb_schema.specs.ShapeOf.{records_of_all, piece, piece_of, pieces_of, shape_left, shape_of}
use Rattle.pb_schema.specs.Put.{Onto, nest_onto, message_or, single_put, values_held, taken_put, other_put, held_put, fields_put, put, read_into, tree_read, shape_read}
use Rattle.pb_schema.specs.Cards.{is_member}
use Rattle.pb_schema.proofs.Gathering.{EachField}
use Rattle.pb_schema.proofs.Runs.{ended_run}
use Rattle.pb_schema.proofs.CostLaws.{glued, split_join, split_some, IsSomeList}
use Rattle.pb_schema.proofs.ShapeLaws.{default_map, list_map, numbers_map, piece_concat, shape_tree, shape_one}
use Rattle.pb_schema.proofs.MapLaws.{joined_map}
use Rattle.pb_schema.proofs.FaultLaws.{no_fault_then}
use Rattle.pb_schema.proofs.AppendLaws.{fault_behind}

-- what is known one level down: no payloads are the empty message, and one payload more is read into the message of the others
pub record StepsBelow {U : Type 0} (schema : Schema) (none : U) (nest : Nest U) (onto : Onto U) : Type 0 where
  pub empty : (type_no : ℕ) → nest type_no [] ≡ empty_with none (fields_of schema type_no)
  pub more : (type_no : ℕ) (payloads : List (List ℕ)) (s : List ℕ) → nest type_no (payloads ++ (s ∷ [])) ≡ onto type_no (nest type_no payloads) s

first_payload : {U : Type 0} (schema : Schema) (none : U) (nest : Nest U) (onto : Onto U) → StepsBelow schema none nest onto → (type_no : ℕ) (s : List ℕ) → nest type_no (s ∷ []) ≡ onto type_no (empty_with none (fields_of schema type_no)) s
first_payload schema none nest onto below type_no s = below.more type_no [] s ∙ ap (λ t. onto type_no t s) (below.empty type_no)

-- ONE VALUE

last_more : {A : Type 0} (xs : List A) (x : A) → last_of (xs ++ (x ∷ [])) ≡ Some x
last_more [] x = refl
last_more (y ∷ []) x = refl
last_more (y ∷ z ∷ xs) x = last_more (z ∷ xs) x

last_one : {U : Type 0} (value : Record → ValueWith U) (rs : List Record) (r : Record) → last_held value (rs ++ (r ∷ [])) ≡ One (value r)
last_one value rs r = ap (λ o. elim o [ None ↦ Nothing | Some q ↦ One (value q) ]) (last_more rs r)

merged_more : {U : Type 0} (schema : Schema) (none : U) (nest : Nest U) (onto : Onto U) → StepsBelow schema none nest onto → (type_no : ℕ) (rs : List Record) (r : Record)
    → merged (nest type_no) (rs ++ (r ∷ [])) ≡ single_put schema none onto (Nested type_no) (merged (nest type_no) rs) r
merged_more schema none nest onto below type_no [] r = ap (λ t. One (Sub t)) (first_payload schema none nest onto below type_no r.payload)
merged_more schema none nest onto below type_no (q ∷ rs) r =
    ap (λ payloads. One (Sub (nest type_no payloads))) (map-append (λ (x : Record). x.payload) (q ∷ rs) (r ∷ []))
    ∙ ap (λ t. One (Sub t)) (below.more type_no (payloads_of (q ∷ rs)) r.payload)

single_more : {U : Type 0} (schema : Schema) (none : U) (nest : Nest U) (onto : Onto U) → StepsBelow schema none nest onto → (type : ValueType) (rs : List Record) (r : Record)
    → single_by nest type (rs ++ (r ∷ [])) ≡ single_put schema none onto type (single_by nest type rs) r
single_more schema none nest onto below (Scalar coding) rs r = last_one (λ q. Number (pattern_in coding q.payload)) rs r
single_more schema none nest onto below Characters rs r = last_one (λ q. Bytes q.payload) rs r
single_more schema none nest onto below Octets rs r = last_one (λ q. Bytes q.payload) rs r
single_more schema none nest onto below (Nested type_no) rs r = merged_more schema none nest onto below type_no rs r

-- a default is no message
default_message : {U : Type 0} (other : TreeWith U) (held : HeldWith U) → message_or other (unless_default held) ≡ message_or other held
default_message other Nothing = refl
default_message other (One (Number zero)) = refl
default_message other (One (Number (suc n))) = refl
default_message other (One (Bytes [])) = refl
default_message other (One (Bytes (b ∷ s))) = refl
default_message other (One (Sub t)) = refl
default_message other (Many _) = refl

default_put : {U : Type 0} (schema : Schema) (none : U) (onto : Onto U) (type : ValueType) (held : HeldWith U) (r : Record)
    → single_put schema none onto type (unless_default held) r ≡ single_put schema none onto type held r
default_put schema none onto (Scalar coding) held r = refl
default_put schema none onto Characters held r = refl
default_put schema none onto Octets held r = refl
default_put schema none onto (Nested type_no) held r = ap (λ t. One (Sub (onto type_no t r.payload))) (default_message (empty_with none (fields_of schema type_no)) held)

-- LISTS

list_join : {U : Type 0} (xs ys : List (ValueWith U)) → value_list (xs ++ ys) ≡ joined (value_list xs) (value_list ys)
list_join [] ys = refl
list_join (x ∷ xs) ys = ap (ValueAnd x) (list_join xs ys)

values_same : {U : Type 0} (schema : Schema) (none : U) (nest : Nest U) (onto : Onto U) → StepsBelow schema none nest onto → (type : ValueType) (r : Record)
    → values_by nest type r ≡ values_by (nest_onto schema none onto) type r
values_same schema none nest onto below (Scalar coding) r = refl
values_same schema none nest onto below Characters r = refl
values_same schema none nest onto below Octets r = refl
values_same schema none nest onto below (Nested type_no) r = ap (λ t. Sub t ∷ []) (first_payload schema none nest onto below type_no r.payload)

-- THE RECORDS OF A FIELD

filter_taken : (test : Record → Bool) (rs : List Record) (r : Record) → test r ≡ true → filter test (rs ++ (r ∷ [])) ≡ filter test rs ++ (r ∷ [])
filter_taken test rs r e = filter-append test rs (r ∷ []) ∙ ap (λ b. filter test rs ++ cond b (r ∷ []) []) e

filter_left : (test : Record → Bool) (rs : List Record) (r : Record) → test r ≡ false → filter test (rs ++ (r ∷ [])) ≡ filter test rs
filter_left test rs r e = filter-append test rs (r ∷ []) ∙ (ap (λ b. filter test rs ++ cond b (r ∷ []) []) e ∙ append-nil (filter test rs))

glued_last : (parts : List (List Record)) (other : List Record) → IsSomeList parts → or_none (last_of (glued parts (other ∷ []))) ≡ or_none (last_of parts) ++ other
glued_last [] other p = absurd p
glued_last (part ∷ []) other p = refl
glued_last (part ∷ next ∷ parts) other p = front next parts (glued_last (next ∷ parts) other tt)
  where
    begun : (next : List Record) (parts : List (List Record)) (first : List Record) → or_none (last_of (first ∷ glued (next ∷ parts) (other ∷ []))) ≡ or_none (last_of (glued (next ∷ parts) (other ∷ [])))
    begun next [] first = refl
    begun next (more ∷ parts) first = refl

    front : (next : List Record) (parts : List (List Record)) → or_none (last_of (glued (next ∷ parts) (other ∷ []))) ≡ or_none (last_of (next ∷ parts)) ++ other → or_none (last_of (part ∷ glued (next ∷ parts) (other ∷ []))) ≡ or_none (last_of (next ∷ parts)) ++ other
    front next parts e = begun next parts part ∙ e

-- a run grows by a record that the field takes
run_grows : (schema : Schema) (field : FieldType) (rs : List Record) (r : Record) → takes schema field r ≡ true → last_run schema field (rs ++ (r ∷ [])) ≡ last_run schema field rs ++ (r ∷ [])
run_grows schema field rs r e =
    let test : Record → Bool = λ q. not (takes schema field q) in
    ap (λ parts. or_none (last_of parts)) (split_join test rs (r ∷ []))
    ∙ (ap (λ b. or_none (last_of (glued (slice_split test rs) (cond (not b) ([] ∷ [] ∷ []) ((r ∷ []) ∷ []))))) e
    ∙ glued_last (slice_split test rs) (r ∷ []) (split_some test rs))

-- and ends at another
run_ends : (schema : Schema) (field : FieldType) (rs : List Record) (r : Record) → takes schema field r ≡ false → last_run schema field (rs ++ (r ∷ [])) ≡ []
run_ends schema field rs r e = ended_run schema field (rs ++ (r ∷ [])) r (last_more rs r) e

-- ONE FIELD

none_single : {U : Type 0} (nest : Nest U) (type : ValueType) → single_by nest type [] ≡ Nothing
none_single nest (Scalar coding) = refl
none_single nest Characters = refl
none_single nest Octets = refl
none_single nest (Nested type_no) = refl

-- a record that the field takes
field_taken : {U : Type 0} (schema : Schema) (none : U) (nest : Nest U) (onto : Onto U) → StepsBelow schema none nest onto → (all : List FieldType) (rs : List Record) (r : Record) (field : FieldType) → takes schema field r ≡ true → (card : Card) → (IsIn : (oneof : ℕ) → card ≡ cards.Member oneof → is_of_oneof schema all oneof r ≡ true)
    → held_by schema nest all (rs ++ (r ∷ [])) field card ≡ taken_put schema none onto field (held_by schema nest all rs field card) r card
field_taken schema none nest onto below all rs r field e cards.Implicit own =
    let type = value_type_of field.kind in
    ap (λ xs. unless_default (single_by nest type xs)) (filter_taken (takes schema field) rs r e)
    ∙ (ap unless_default (single_more schema none nest onto below type (fitting schema field rs) r)
    ∙ ap unless_default (sym (default_put schema none onto type (single nest field (fitting schema field rs)) r)))
field_taken schema none nest onto below all rs r field e cards.Explicit own =
    ap (single nest field) (filter_taken (takes schema field) rs r e)
    ∙ single_more schema none nest onto below (value_type_of field.kind) (fitting schema field rs) r
field_taken schema none nest onto below all rs r field e (cards.Member oneof) own =
    ap (λ xs. single nest field (last_run schema field xs)) (filter_taken (is_of_oneof schema all oneof) rs r (own oneof refl))
    ∙ (ap (single nest field) (run_grows schema field (of_oneof schema all oneof rs) r e)
    ∙ single_more schema none nest onto below (value_type_of field.kind) (last_run schema field (of_oneof schema all oneof rs)) r)
field_taken schema none nest onto below all rs r field e (cards.Repeated packed) own =
    let values = values_in schema nest field in
    let before = flat_map values (fitting schema field rs) in
    ap (λ xs. Many (value_list (flat_map values xs))) (filter_taken (takes schema field) rs r e)
    ∙ (ap (λ vs. Many (value_list vs)) (flat_map-append values (fitting schema field rs) (r ∷ []))
    ∙ (ap (λ vs. Many (value_list (before ++ vs))) (append-nil (values r) ∙ values_same schema none nest onto below (value_type_of field.kind) r)
    ∙ ap Many (list_join before (values_in schema (nest_onto schema none onto) field r))))

-- a record that it doesn't take
field_left : {U : Type 0} (schema : Schema) (nest : Nest U) (all : List FieldType) (rs : List Record) (r : Record) (field : FieldType) → takes schema field r ≡ false → (card : Card)
    → held_by schema nest all (rs ++ (r ∷ [])) field card ≡ other_put schema all (held_by schema nest all rs field card) r card
field_left schema nest all rs r field e cards.Implicit = ap (λ xs. unless_default (single nest field xs)) (filter_left (takes schema field) rs r e)
field_left schema nest all rs r field e cards.Explicit = ap (single nest field) (filter_left (takes schema field) rs r e)
field_left schema nest all rs r field e (cards.Repeated packed) = ap (λ xs. Many (value_list (flat_map (values_in schema nest field) xs))) (filter_left (takes schema field) rs r e)
field_left schema nest all rs r field e (cards.Member oneof) = pick (is_of_oneof schema all oneof r) refl
  where
    pick : (t : Bool) → is_of_oneof schema all oneof r ≡ t → single nest field (last_run schema field (of_oneof schema all oneof (rs ++ (r ∷ [])))) ≡ elim t [ true ↦ Nothing | false ↦ single nest field (last_run schema field (of_oneof schema all oneof rs)) ]
    pick true own =
        ap (λ xs. single nest field (last_run schema field xs)) (filter_taken (is_of_oneof schema all oneof) rs r own)
        ∙ (ap (single nest field) (run_ends schema field (of_oneof schema all oneof rs) r e) ∙ none_single nest (value_type_of field.kind))
    pick false own = ap (λ xs. single nest field (last_run schema field xs)) (filter_left (is_of_oneof schema all oneof) rs r own)

-- ALL FIELDS

-- what a member of a oneof takes is taken by a member
abbrev Among : Schema → List FieldType → List FieldType → Type 0
Among schema all fields = EachField (λ field. (oneof : ℕ) (r : Record) → (is_member oneof field.card && takes schema field r) ≡ true → is_of_oneof schema all oneof r ≡ true) fields

or_true : (a b : Bool) → b ≡ true → (a || b) ≡ true
or_true true b e = refl
or_true false b e = e

among_more : (schema : Schema) (all : List FieldType) (first : FieldType) (fields : List FieldType) → Among schema all fields → Among schema (first ∷ all) fields
among_more schema all first [] p = tt
among_more schema all first (field ∷ fields) p =
    (λ oneof r e. or_true (is_member oneof first.card && takes schema first r) (is_of_oneof schema all oneof r) (p.0 oneof r e), among_more schema all first fields p.1)

among_all : (schema : Schema) (all : List FieldType) → Among schema all all
among_all schema [] = tt
among_all schema (field ∷ fields) =
    (λ oneof r e. ap (λ b. b || is_of_oneof schema fields oneof r) e, among_more schema fields field fields (among_all schema fields))

field_more : {U : Type 0} (schema : Schema) (none : U) (nest : Nest U) (onto : Onto U) → StepsBelow schema none nest onto → (all : List FieldType) (rs : List Record) (r : Record) (field : FieldType)
    → ((oneof : ℕ) (q : Record) → (is_member oneof field.card && takes schema field q) ≡ true → is_of_oneof schema all oneof q ≡ true)
    → held_of schema nest all (rs ++ (r ∷ [])) field ≡ held_put schema none onto all r field (held_of schema nest all rs field)
field_more schema none nest onto below all rs r field among = pick (takes schema field r) refl
  where
    own : takes schema field r ≡ true → (oneof : ℕ) → field.card ≡ cards.Member oneof → is_of_oneof schema all oneof r ≡ true
    own e oneof is = among oneof r (ap (λ card. is_member oneof card && takes schema field r) is ∙ (ap (λ b. b && takes schema field r) (eq-eqb oneof oneof refl) ∙ e))

    pick : (t : Bool) → takes schema field r ≡ t → held_of schema nest all (rs ++ (r ∷ [])) field ≡ elim t [ true ↦ taken_put schema none onto field (held_of schema nest all rs field) r field.card | false ↦ other_put schema all (held_of schema nest all rs field) r field.card ]
    pick true e = field_taken schema none nest onto below all rs r field e field.card (own e)
    pick false e = field_left schema nest all rs r field e field.card

fields_more : {U : Type 0} (schema : Schema) (none : U) (nest : Nest U) (onto : Onto U) → StepsBelow schema none nest onto → (all : List FieldType) (rs : List Record) (r : Record) (fields : List FieldType) → Among schema all fields
    → held_list (map (held_of schema nest all (rs ++ (r ∷ []))) fields) ≡ fields_put schema none onto all r fields (held_list (map (held_of schema nest all rs) fields))
fields_more schema none nest onto below all rs r [] among = refl
fields_more schema none nest onto below all rs r (field ∷ fields) among =
    ap (λ held. FieldAnd held (held_list (map (held_of schema nest all (rs ++ (r ∷ []))) fields))) (field_more schema none nest onto below all rs r field among.0)
    ∙ ap (FieldAnd (held_put schema none onto all r field (held_of schema nest all rs field))) (fields_more schema none nest onto below all rs r fields among.1)

-- records one after another
pub records_put : {U : Type 0} (schema : Schema) (none : U) (nest : Nest U) (onto : Onto U) → StepsBelow schema none nest onto → (fields : List FieldType) (rs qs : List Record)
    → held_list (map (held_of schema nest fields (rs ++ qs)) fields) ≡ fold (put schema none onto fields) (held_list (map (held_of schema nest fields rs) fields)) qs
records_put schema none nest onto below fields rs [] = ap (λ xs. held_list (map (held_of schema nest fields xs) fields)) (append-nil rs)
records_put schema none nest onto below fields rs (q ∷ qs) =
    ap (λ xs. held_list (map (held_of schema nest fields xs) fields)) (sym (append_assoc rs (q ∷ []) qs))
    ∙ (records_put schema none nest onto below fields (rs ++ (q ∷ [])) qs
    ∙ ap (λ held. fold (put schema none onto fields) held qs) (fields_more schema none nest onto below fields rs q fields (among_all schema fields)))

-- no records
card_none : {U : Type 0} (schema : Schema) (nest : Nest U) (all : List FieldType) (field : FieldType) (card : Card) → held_by schema nest all [] field card ≡ unset card
card_none schema nest all field cards.Implicit = ap unless_default (none_single nest (value_type_of field.kind))
card_none schema nest all field cards.Explicit = none_single nest (value_type_of field.kind)
card_none schema nest all field (cards.Member oneof) = none_single nest (value_type_of field.kind)
card_none schema nest all field (cards.Repeated packed) = refl

pub fields_none : {U : Type 0} (schema : Schema) (nest : Nest U) (all fields : List FieldType) → held_list (map (held_of schema nest all []) fields) ≡ held_list (map (λ field. unset field.card) fields)
fields_none schema nest all [] = refl
fields_none schema nest all (field ∷ fields) =
    ap (λ held. FieldAnd held (held_list (map (held_of schema nest all []) fields))) (card_none schema nest all field field.card)
    ∙ ap (FieldAnd (unset field.card)) (fields_none schema nest all fields)

-- SHAPES

abbrev pub one_piece : List (List ℕ) → List ℕ → List (List ℕ)
one_piece pieces s = pieces ++ piece s

pub shape_none : (schema : Schema) (left : ℕ) (fields : List FieldType) → shape_left schema left fields [] ≡ empty_with [] fields
shape_none schema zero fields = ap (λ held. Message held []) (fields_none schema (λ type_no inner. empty_with [] (fields_of schema type_no)) fields fields)
shape_none schema (suc left) fields = ap (λ held. Message held []) (fields_none schema (λ type_no inner. shape_left schema left (fields_of schema type_no) inner) fields fields)

level_put : (schema : Schema) (nest : Nest (List (List ℕ))) (onto : Onto (List (List ℕ))) → StepsBelow schema [] nest onto → (left : ℕ) (fields : List FieldType) (payloads : List (List ℕ)) (s : List ℕ)
    → gathered schema nest fields (records_of_all left (payloads ++ (s ∷ []))) (pieces_of schema left fields (payloads ++ (s ∷ [])))
    ≡ Message (fold (put schema [] onto fields) (held_list (map (held_of schema nest fields (records_of_all left payloads)) fields)) (records_in left s)) (one_piece (pieces_of schema left fields payloads) (unknown_of schema fields (records_in left s)))
level_put schema nest onto below left fields payloads s =
    let rs = records_of_all left payloads in
    let more : records_of_all left (payloads ++ (s ∷ [])) ≡ rs ++ records_in left s = flat_map-append (records_in left) payloads (s ∷ []) ∙ ap (λ qs. rs ++ qs) (append-nil (records_in left s)) in
    let pieces : pieces_of schema left fields (payloads ++ (s ∷ [])) ≡ one_piece (pieces_of schema left fields payloads) (unknown_of schema fields (records_in left s)) =
    flat_map-append (piece_of schema left fields) payloads (s ∷ []) ∙ ap (λ ps. pieces_of schema left fields payloads ++ ps) (append-nil (piece_of schema left fields s)) in
    ap (λ xs. gathered schema nest fields xs (pieces_of schema left fields (payloads ++ (s ∷ [])))) more
    ∙ (ap (gathered schema nest fields (rs ++ records_in left s)) pieces
    ∙ ap (λ held. Message held (one_piece (pieces_of schema left fields payloads) (unknown_of schema fields (records_in left s)))) (records_put schema [] nest onto below fields rs (records_in left s)))

-- one payload more
pub shape_more : (schema : Schema) (left : ℕ) (fields : List FieldType) (payloads : List (List ℕ)) (s : List ℕ) → shape_left schema left fields (payloads ++ (s ∷ [])) ≡ read_into one_piece [] schema left fields (shape_left schema left fields payloads) s
shape_more schema zero fields payloads s =
    level_put schema (λ type_no inner. empty_with [] (fields_of schema type_no)) (λ type_no t inner. t) (record { empty = λ type_no. refl; more = λ type_no ps q. refl }) 0 fields payloads s
shape_more schema (suc left) fields payloads s =
    level_put schema (λ type_no inner. shape_left schema left (fields_of schema type_no) inner) (λ type_no t inner. read_into one_piece [] schema left (fields_of schema type_no) t inner)
    (record { empty = λ type_no. shape_none schema left (fields_of schema type_no); more = λ type_no ps q. shape_more schema left (fields_of schema type_no) ps q })
    (suc left) fields payloads s

-- TREES

-- of two ways of reading a payload into a message that is there, what one gives mapped is what the other gives of the mapped
abbrev GoesOnto : {U V : Type 0} → (U → V) → Onto U → Onto V → Type 0
GoesOnto {U} f onto other = (type_no : ℕ) (t : TreeWith U) (s : List ℕ) → tree_map f (onto type_no t s) ≡ other type_no (tree_map f t) s

unset_map : {U V : Type 0} (f : U → V) (card : Card) → held_map f (unset card) ≡ unset card
unset_map f cards.Implicit = refl
unset_map f cards.Explicit = refl
unset_map f (cards.Member oneof) = refl
unset_map f (cards.Repeated packed) = refl

none_map : {U V : Type 0} (f : U → V) (fields : List FieldType) → fields_map f (held_list (map (λ field. unset field.card) fields)) ≡ held_list (map (λ field. unset field.card) fields)
none_map f [] = refl
none_map f (field ∷ fields) =
    ap (λ held. FieldAnd held (fields_map f (held_list (map (λ x. unset x.card) fields)))) (unset_map f field.card)
    ∙ ap (FieldAnd (unset field.card)) (none_map f fields)

empty_map : {U V : Type 0} (f : U → V) (none : U) (fields : List FieldType) → tree_map f (empty_with none fields) ≡ empty_with (f none) fields
empty_map f none fields = ap (λ held. Message held (f none)) (none_map f fields)

message_map : {U V : Type 0} (f : U → V) (other : TreeWith U) (held : HeldWith U) → tree_map f (message_or other held) ≡ message_or (tree_map f other) (held_map f held)
message_map f other Nothing = refl
message_map f other (One (Number p)) = refl
message_map f other (One (Bytes s)) = refl
message_map f other (One (Sub t)) = refl
message_map f other (Many _) = refl

single_put_map : {U V : Type 0} (f : U → V) (schema : Schema) (none : U) (onto : Onto U) (other : Onto V) → GoesOnto f onto other → (type : ValueType) (held : HeldWith U) (r : Record)
    → held_map f (single_put schema none onto type held r) ≡ single_put schema (f none) other type (held_map f held) r
single_put_map f schema none onto other goes (Scalar coding) held r = refl
single_put_map f schema none onto other goes Characters held r = refl
single_put_map f schema none onto other goes Octets held r = refl
single_put_map f schema none onto other goes (Nested type_no) held r =
    let fields = fields_of schema type_no in
    ap (λ t. One (Sub t)) (goes type_no (message_or (empty_with none fields) held) r.payload)
    ∙ (ap (λ t. One (Sub (other type_no t r.payload))) (message_map f (empty_with none fields) held)
    ∙ ap (λ t. One (Sub (other type_no (message_or t (held_map f held)) r.payload))) (empty_map f none fields))

values_put_map : {U V : Type 0} (f : U → V) (schema : Schema) (none : U) (onto : Onto U) (other : Onto V) → GoesOnto f onto other → (type : ValueType) (r : Record)
    → map (value_map f) (values_by (nest_onto schema none onto) type r) ≡ values_by (nest_onto schema (f none) other) type r
values_put_map f schema none onto other goes (Scalar coding) r = numbers_map f coding (elements_from coding.wire 0 r.payload)
values_put_map f schema none onto other goes Characters r = refl
values_put_map f schema none onto other goes Octets r = refl
values_put_map f schema none onto other goes (Nested type_no) r =
    ap (λ t. Sub t ∷ []) (goes type_no (empty_with none (fields_of schema type_no)) r.payload ∙ ap (λ t. other type_no t r.payload) (empty_map f none (fields_of schema type_no)))

values_held_map : {U V : Type 0} (f : U → V) (held : HeldWith U) → values_map f (values_held held) ≡ values_held (held_map f held)
values_held_map f Nothing = refl
values_held_map f (One _) = refl
values_held_map f (Many _) = refl

taken_map : {U V : Type 0} (f : U → V) (schema : Schema) (none : U) (onto : Onto U) (other : Onto V) → GoesOnto f onto other → (field : FieldType) (held : HeldWith U) (r : Record) (card : Card)
    → held_map f (taken_put schema none onto field held r card) ≡ taken_put schema (f none) other field (held_map f held) r card
taken_map f schema none onto other goes field held r cards.Implicit =
    default_map f (single_put schema none onto (value_type_of field.kind) held r) ∙ ap unless_default (single_put_map f schema none onto other goes (value_type_of field.kind) held r)
taken_map f schema none onto other goes field held r cards.Explicit = single_put_map f schema none onto other goes (value_type_of field.kind) held r
taken_map f schema none onto other goes field held r (cards.Member oneof) = single_put_map f schema none onto other goes (value_type_of field.kind) held r
taken_map f schema none onto other goes field held r (cards.Repeated packed) =
    let values = values_in schema (nest_onto schema none onto) field r in
    ap Many (joined_map f (values_held held) (value_list values)
    ∙ (ap (λ vs. joined vs (values_map f (value_list values))) (values_held_map f held)
    ∙ ap (joined (values_held (held_map f held))) (list_map f values ∙ ap value_list (values_put_map f schema none onto other goes (value_type_of field.kind) r))))

other_map : {U V : Type 0} (f : U → V) (schema : Schema) (all : List FieldType) (held : HeldWith U) (r : Record) (card : Card) → held_map f (other_put schema all held r card) ≡ other_put schema all (held_map f held) r card
other_map f schema all held r cards.Implicit = refl
other_map f schema all held r cards.Explicit = refl
other_map f schema all held r (cards.Repeated packed) = refl
other_map f schema all held r (cards.Member oneof) = pick (is_of_oneof schema all oneof r)
  where
    pick : (t : Bool) → held_map f (elim t [ true ↦ Nothing | false ↦ held ]) ≡ elim t [ true ↦ Nothing | false ↦ held_map f held ]
    pick true = refl
    pick false = refl

field_put_map : {U V : Type 0} (f : U → V) (schema : Schema) (none : U) (onto : Onto U) (other : Onto V) → GoesOnto f onto other → (all : List FieldType) (r : Record) (field : FieldType) (held : HeldWith U)
    → held_map f (held_put schema none onto all r field held) ≡ held_put schema (f none) other all r field (held_map f held)
field_put_map f schema none onto other goes all r field held = pick (takes schema field r)
  where
    pick : (t : Bool) → held_map f (elim t [ true ↦ taken_put schema none onto field held r field.card | false ↦ other_put schema all held r field.card ]) ≡ elim t [ true ↦ taken_put schema (f none) other field (held_map f held) r field.card | false ↦ other_put schema all (held_map f held) r field.card ]
    pick true = taken_map f schema none onto other goes field held r field.card
    pick false = other_map f schema all held r field.card

fields_put_map : {U V : Type 0} (f : U → V) (schema : Schema) (none : U) (onto : Onto U) (other : Onto V) → GoesOnto f onto other → (all : List FieldType) (r : Record) (fields : List FieldType) (held : HeldListWith U)
    → fields_map f (fields_put schema none onto all r fields held) ≡ fields_put schema (f none) other all r fields (fields_map f held)
fields_put_map f schema none onto other goes all r [] NoFields = refl
fields_put_map f schema none onto other goes all r [] (FieldAnd held rest) = refl
fields_put_map f schema none onto other goes all r (field ∷ fields) NoFields = refl
fields_put_map f schema none onto other goes all r (field ∷ fields) (FieldAnd held rest) =
    ap (λ h. FieldAnd h (fields_map f (fields_put schema none onto all r fields rest))) (field_put_map f schema none onto other goes all r field held)
    ∙ ap (FieldAnd (held_put schema (f none) other all r field (held_map f held))) (fields_put_map f schema none onto other goes all r fields rest)

records_put_map : {U V : Type 0} (f : U → V) (schema : Schema) (none : U) (onto : Onto U) (other : Onto V) → GoesOnto f onto other → (fields : List FieldType) (rs : List Record) (held : HeldListWith U)
    → fields_map f (fold (put schema none onto fields) held rs) ≡ fold (put schema (f none) other fields) (fields_map f held) rs
records_put_map f schema none onto other goes fields [] held = refl
records_put_map f schema none onto other goes fields (r ∷ rs) held =
    records_put_map f schema none onto other goes fields rs (put schema none onto fields held r)
    ∙ ap (λ h. fold (put schema (f none) other fields) h rs) (fields_put_map f schema none onto other goes fields r fields held)

-- a payload more, where f of what is unknown and a piece is what is unknown by f and then the bytes
abbrev pub TakesBytes : {U V : Type 0} → (U → V) → (U → List ℕ → U) → (V → List ℕ → V) → Type 0
TakesBytes {U} f behind other = (u : U) (s : List ℕ) → f (behind u s) ≡ other (f u) s

pub read_map_onto : {U V : Type 0} (f : U → V) (behind : U → List ℕ → U) (other : V → List ℕ → V) → TakesBytes f behind other → (none : U) (schema : Schema) (left : ℕ) (fields : List FieldType) (t : TreeWith U) (s : List ℕ)
    → tree_map f (read_into behind none schema left fields t s) ≡ read_into other (f none) schema left fields (tree_map f t) s
read_map_onto f behind other takes none schema zero fields (Message held unknown) s =
    let rs = records_in 0 s in
    ap (λ h. Message h (f (behind unknown (unknown_of schema fields rs)))) (records_put_map f schema none (λ type_no t inner. t) (λ type_no t inner. t) (λ type_no t inner. refl) fields rs held)
    ∙ ap (Message (fold (put schema (f none) (λ type_no t inner. t) fields) (fields_map f held) rs)) (takes unknown (unknown_of schema fields rs))
read_map_onto f behind other takes none schema (suc left) fields (Message held unknown) s =
    let rs = records_in (suc left) s in
    ap (λ h. Message h (f (behind unknown (unknown_of schema fields rs))))
    (records_put_map f schema none (λ type_no t inner. read_into behind none schema left (fields_of schema type_no) t inner) (λ type_no t inner. read_into other (f none) schema left (fields_of schema type_no) t inner)
    (λ type_no t inner. read_map_onto f behind other takes none schema left (fields_of schema type_no) t inner) fields rs held)
    ∙ ap (Message (fold (put schema (f none) (λ type_no t inner. read_into other (f none) schema left (fields_of schema type_no) t inner) fields) (fields_map f held) rs)) (takes unknown (unknown_of schema fields rs))

pub joins_pieces : TakesBytes concat one_piece (λ x y. x ++ y)
joins_pieces pieces s = concat-append pieces (piece s) ∙ ap (λ x. concat pieces ++ x) (piece_concat s)

pub shape_read_joined : (schema : Schema) (type_no : ℕ) (t : Shape) (s : List ℕ) → tree_map concat (shape_read schema type_no t s) ≡ tree_read schema type_no (tree_map concat t) s
shape_read_joined schema type_no t s = read_map_onto concat one_piece (λ x y. x ++ y) joins_pieces [] schema most_levels (fields_of schema type_no) t s

-- more bytes behind a payload
pub tree_more : (schema : Schema) (type_no : ℕ) (x y : List ℕ) (t : Tree) → Lawful schema → tree_of schema type_no x ≡ Some t → IsSome (tree_of schema type_no (x ++ y)) → tree_of schema type_no (x ++ y) ≡ Some (tree_read schema type_no t y)
tree_more schema type_no x y t lawful e some =
    let front = no_fault_then schema type_no x (subst IsSome (sym e) refl) in
    let behind = fault_behind schema type_no 0 x y front (no_fault_then schema type_no (x ++ y) some) in
    let Whole : List ℕ → Type 0 = λ s. broken_of schema type_no 0 s ≡ None in
    let both : All Whole (x ∷ y ∷ []) = All-cons Whole x (y ∷ []) front (All-cons Whole y [] behind (All-nil Whole)) in
    ap (λ s. tree_of schema type_no (x ++ s)) (sym (append-nil y))
    ∙ (shape_tree schema type_no (x ∷ y ∷ []) lawful both
    ∙ (ap (λ shape. Some (tree_map concat shape)) (shape_more schema most_levels (fields_of schema type_no) (x ∷ []) y)
    ∙ (ap Some (shape_read_joined schema type_no (shape_of schema type_no (x ∷ [])) y)
    ∙ ap (λ u. Some (tree_read schema type_no u y)) (shape_one schema type_no x t lawful e))))
