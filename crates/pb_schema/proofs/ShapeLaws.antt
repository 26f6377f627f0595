-- The shape of payloads with its pieces joined is the tree of the payloads one behind the other, where each of them is sound.
use Rattle.std.proofs.Common.{◌≡◌, ℕ, zero, suc, List, [], ◌∷◌, ◌++◌, map, Bool, Option, None, Some, refl, sym, ap, ◌∙◌, subst, append-nil}
use Rattle.std.specs.Prelude.{flat_map, All}
use Rattle.std.specs.List.{concat}
use Rattle.std.proofs.lemmas.Grind.{flat_map-append}
use Rattle.std.proofs.lemmas.List.{map-append}
use Rattle.std.proofs.lemmas.List.Elements.{All-head, All-tail}
use Rattle.std.proofs.lemmas.List.Folds.{concat-append}
use Rattle.pb_schema.specs.declared.kind.Card.{Card}
use Rattle.pb_schema.specs.declared.kind.Card.TheVariants as cards
use Rattle.pb_schema.specs.declared.kind.FieldType.{FieldType}
use Rattle.pb_schema.specs.declared.schema.Schema.{Schema}
use Rattle.pb_schema.specs.declared.wire_fault.WireKind.TheVariants.{TooDeep}
use Rattle.pb_schema.specs.Kinds.{Coding, ValueType, Scalar, Characters, Octets, Nested, value_type_of}
use Rattle.pb_schema.specs.Cards.{is_repeated}
use Rattle.pb_schema.specs.Fits.{fields_of}
use Rattle.pb_schema.specs.Records.{Record, AreRecords}
use Rattle.pb_schema.specs.Broken.{most_levels, broken_of}
use Rattle.pb_schema.specs.Tree.{ValueWith, Number, Bytes, Sub, HeldWith, Nothing, One, Many, Tree, Message, ValueAnd, FieldAnd, value_list, held_list, value_map, held_map, values_map, fields_map, tree_map}
use Rattle.pb_schema.specs.Empty.{empty_with}
use Rattle.pb_schema.specs.TreeOf.{pattern_in, elements_from, Nest, fitting, last_of, or_none, payloads_of, single_by, single, values_by, values_in, unless_default, of_oneof, last_run, held_by, held_of, unknown_in, unknown_of, gathered, records_in, tree_left, tree_of}
use Rattle.pb_schema.specs.ShapeOf.{records_of_all, piece, piece_of, pieces_of, shape_left, shape_of}
use Rattle.pb_schema.specs.Lawful.{NumbersAscend, Lawful}
use Rattle.pb_schema.proofs.FormLaws.{not_ok}
use Rattle.pb_schema.proofs.Runs.{Each}
use Rattle.pb_schema.proofs.RecordsFront.{records_of_spans}
use Rattle.pb_schema.proofs.SoundRecords.{Sound, spans_join, sound_join}
use Rattle.pb_schema.proofs.Gathering.{Taken, TakenIn, Own, EachField, owns, Base, AllFine, fitting_taken, oneof_taken, messages_fine}
use Rattle.pb_schema.proofs.FittedLaws.{AllAscend, all_ascend, each_base, sound_records, sound_unbroken, fine_sound, no_fault_sound, tree_unless, tree_is}

-- WHAT FIELDS GATHER

-- two ways of reading payloads as messages that agree on payloads without a fault, by a map
abbrev Agree : {U V : Type 0} → (U → V) → Schema → ℕ → Nest U → Nest V → Type 0
Agree f schema left nest other = (type_no : ℕ) (s : List ℕ) (more : List (List ℕ)) → AllFine schema left type_no (s ∷ more) → tree_map f (nest type_no (s ∷ more)) ≡ other type_no (s ∷ more)

last_map : {U V : Type 0} (f : U → V) (value : Record → ValueWith U) (other : Record → ValueWith V) (o : Option Record) → ((r : Record) → value_map f (value r) ≡ other r) → held_map f (elim o [ None ↦ Nothing | Some r ↦ One (value r) ]) ≡ elim o [ None ↦ Nothing | Some r ↦ One (other r) ]
last_map f value other None same = refl
last_map f value other (Some r) same = ap One (same r)

single_map : {U V : Type 0} (f : U → V) (schema : Schema) (left : ℕ) (nest : Nest U) (other : Nest V) → Agree f schema left nest other → (repeated : Bool) (type : ValueType) (rs : List Record) → Each (Taken schema left type repeated) rs → held_map f (single_by nest type rs) ≡ single_by other type rs
single_map f schema left nest other agree repeated (Scalar coding) rs p = last_map f (λ r. Number (pattern_in coding r.payload)) (λ r. Number (pattern_in coding r.payload)) (last_of rs) (λ r. refl)
single_map f schema left nest other agree repeated Characters rs p = last_map f (λ r. Bytes r.payload) (λ r. Bytes r.payload) (last_of rs) (λ r. refl)
single_map f schema left nest other agree repeated Octets rs p = last_map f (λ r. Bytes r.payload) (λ r. Bytes r.payload) (last_of rs) (λ r. refl)
single_map f schema left nest other agree repeated (Nested type_no) [] p = refl
single_map f schema left nest other agree repeated (Nested type_no) (r ∷ rs) p = ap (λ t. One (Sub t)) (agree type_no r.payload (payloads_of rs) (messages_fine schema left repeated type_no (r ∷ rs) p))

pub numbers_map : {U V : Type 0} (f : U → V) (coding : Coding) (es : List (List ℕ)) → map (value_map f) (map (λ s. Number (pattern_in coding s)) es) ≡ map (λ s. Number (pattern_in coding s)) es
numbers_map f coding [] = refl
numbers_map f coding (e ∷ es) = ap (λ vs. Number (pattern_in coding e) ∷ vs) (numbers_map f coding es)

record_map : {U V : Type 0} (f : U → V) (schema : Schema) (left : ℕ) (nest : Nest U) (other : Nest V) → Agree f schema left nest other → (repeated : Bool) (type : ValueType) (r : Record) → Taken schema left type repeated r → map (value_map f) (values_by nest type r) ≡ values_by other type r
record_map f schema left nest other agree repeated (Scalar coding) r p = numbers_map f coding (elements_from coding.wire 0 r.payload)
record_map f schema left nest other agree repeated Characters r p = refl
record_map f schema left nest other agree repeated Octets r p = refl
record_map f schema left nest other agree repeated (Nested type_no) r p = ap (λ t. Sub t ∷ []) (agree type_no r.payload [] (messages_fine schema left repeated type_no (r ∷ []) (p, tt)))

pub list_map : {U V : Type 0} (f : U → V) (vs : List (ValueWith U)) → values_map f (value_list vs) ≡ value_list (map (value_map f) vs)
list_map f [] = refl
list_map f (v ∷ vs) = ap (ValueAnd (value_map f v)) (list_map f vs)

all_map : {U V : Type 0} (f : U → V) (schema : Schema) (left : ℕ) (nest : Nest U) (other : Nest V) → Agree f schema left nest other → (field : FieldType) (rs : List Record) → Each (TakenIn schema left field) rs → map (value_map f) (flat_map (values_in schema nest field) rs) ≡ flat_map (values_in schema other field) rs
all_map f schema left nest other agree field [] p = refl
all_map f schema left nest other agree field (r ∷ rs) p =
    map-append (value_map f) (values_in schema nest field r) (flat_map (values_in schema nest field) rs)
    ∙ (ap (λ vs. vs ++ map (value_map f) (flat_map (values_in schema nest field) rs)) (record_map f schema left nest other agree (is_repeated field.card) (value_type_of field.kind) r p.0)
    ∙ ap (λ vs. values_in schema other field r ++ vs) (all_map f schema left nest other agree field rs p.1))

pub default_map : {U V : Type 0} (f : U → V) (held : HeldWith U) → held_map f (unless_default held) ≡ unless_default (held_map f held)
default_map f Nothing = refl
default_map f (One (Number zero)) = refl
default_map f (One (Number (suc n))) = refl
default_map f (One (Bytes [])) = refl
default_map f (One (Bytes (b ∷ s))) = refl
default_map f (One (Sub t)) = refl
default_map f (Many _) = refl

field_map : {U V : Type 0} (f : U → V) (schema : Schema) (left : ℕ) (nest : Nest U) (other : Nest V) → Agree f schema left nest other → (all : List FieldType) (rs : List Record) → Each (Base schema left all) rs → (field : FieldType) → Own schema all field → (card : Card) → held_map f (held_by schema nest all rs field card) ≡ held_by schema other all rs field card
field_map f schema left nest other agree all rs base field own cards.Implicit =
    default_map f (single nest field (fitting schema field rs))
    ∙ ap unless_default (single_map f schema left nest other agree (is_repeated field.card) (value_type_of field.kind) (fitting schema field rs) (fitting_taken schema left all field rs own base))
field_map f schema left nest other agree all rs base field own cards.Explicit =
    single_map f schema left nest other agree (is_repeated field.card) (value_type_of field.kind) (fitting schema field rs) (fitting_taken schema left all field rs own base)
field_map f schema left nest other agree all rs base field own (cards.Member oneof) =
    single_map f schema left nest other agree (is_repeated field.card) (value_type_of field.kind) (last_run schema field (of_oneof schema all oneof rs)) (oneof_taken schema left all field oneof rs own base)
field_map f schema left nest other agree all rs base field own (cards.Repeated packed) =
    ap Many
    (list_map f (flat_map (values_in schema nest field) (fitting schema field rs))
    ∙ ap value_list (all_map f schema left nest other agree field (fitting schema field rs) (fitting_taken schema left all field rs own base)))

fields_held_map : {U V : Type 0} (f : U → V) (schema : Schema) (left : ℕ) (nest : Nest U) (other : Nest V) → Agree f schema left nest other → (all : List FieldType) (rs : List Record) → Each (Base schema left all) rs → (fields : List FieldType) → EachField (Own schema all) fields → fields_map f (held_list (map (held_of schema nest all rs) fields)) ≡ held_list (map (held_of schema other all rs) fields)
fields_held_map f schema left nest other agree all rs base [] own = refl
fields_held_map f schema left nest other agree all rs base (field ∷ fields) own =
    ap (λ held. FieldAnd held (fields_map f (held_list (map (held_of schema nest all rs) fields)))) (field_map f schema left nest other agree all rs base field own.0 field.card)
    ∙ ap (FieldAnd (held_of schema other all rs field)) (fields_held_map f schema left nest other agree all rs base fields own.1)

-- PAYLOADS ONE BEHIND THE OTHER

abbrev pub AllSound : Schema → ℕ → List FieldType → List (List ℕ) → Type 0
AllSound schema left fields [] = Unit {0}
AllSound schema left fields (s ∷ more) = Sound schema left fields s × AllSound schema left fields more

pub sound_none : (schema : Schema) (left : ℕ) (fields : List FieldType) → Sound schema left fields []
sound_none schema left fields = record { rs = []; are = refl; hold = tt }

pub sound_concat : (schema : Schema) (left : ℕ) (fields : List FieldType) (payloads : List (List ℕ)) → AllSound schema left fields payloads → Sound schema left fields (concat payloads)
sound_concat schema left fields [] p = sound_none schema left fields
sound_concat schema left fields (s ∷ more) p = sound_join schema left fields s (concat more) p.0 (sound_concat schema left fields more p.1)

-- their records are those of the whole
pub records_concat : (schema : Schema) (left : ℕ) (fields : List FieldType) (payloads : List (List ℕ)) → AllSound schema left fields payloads → records_in left (concat payloads) ≡ records_of_all left payloads
records_concat schema left fields [] p = refl
records_concat schema left fields (s ∷ more) p =
    let rest = sound_concat schema left fields more p.1 in
    ap or_none (records_of_spans left (p.0.rs ++ rest.rs) (s ++ concat more) (spans_join (AreRecords left) p.0.rs rest.rs s (concat more) p.0.are rest.are))
    ∙ (ap (λ rs. rs ++ rest.rs) (sym (sound_records schema left fields s p.0))
    ∙ ap (λ rs. records_in left s ++ rs) (sym (sound_records schema left fields (concat more) rest) ∙ records_concat schema left fields more p.1))

-- and their pieces joined the unknown bytes of all records
pub piece_concat : (s : List ℕ) → concat (piece s) ≡ s
piece_concat [] = refl
piece_concat (b ∷ s) = append-nil (b ∷ s)

pub pieces_concat : (schema : Schema) (left : ℕ) (fields : List FieldType) (payloads : List (List ℕ)) → concat (pieces_of schema left fields payloads) ≡ unknown_of schema fields (records_of_all left payloads)
pieces_concat schema left fields [] = refl
pieces_concat schema left fields (s ∷ more) =
    concat-append (piece_of schema left fields s) (pieces_of schema left fields more)
    ∙ (ap (λ x. x ++ concat (pieces_of schema left fields more)) (piece_concat (unknown_of schema fields (records_in left s)))
    ∙ (ap (λ x. unknown_of schema fields (records_in left s) ++ x) (pieces_concat schema left fields more)
    ∙ sym (flat_map-append (unknown_in schema fields) (records_in left s) (records_of_all left more))))

-- SHAPES AND TREES

gathered_map : (schema : Schema) (left : ℕ) (nest : Nest (List (List ℕ))) (other : Nest (List ℕ)) → Agree concat schema left nest other → (fields : List FieldType) → NumbersAscend 1 fields → (payloads : List (List ℕ)) → AllSound schema left fields payloads
    → tree_map concat (gathered schema nest fields (records_of_all left payloads) (pieces_of schema left fields payloads)) ≡ gathered schema other fields (records_in left (concat payloads)) (unknown_of schema fields (records_in left (concat payloads)))
gathered_map schema left nest other agree fields ascend payloads sound =
    let all = sound_concat schema left fields payloads sound in
    let is : records_of_all left payloads ≡ all.rs = sym (records_concat schema left fields payloads sound) ∙ sound_records schema left fields (concat payloads) all in
    let base = subst (Each (Base schema left fields)) (sym is) (each_base schema left fields all.rs (concat payloads) all.are all.hold) in
    ap (λ held. Message held (concat (pieces_of schema left fields payloads))) (fields_held_map concat schema left nest other agree fields (records_of_all left payloads) base fields (owns schema 1 fields ascend))
    ∙ (ap (Message (held_list (map (held_of schema other fields (records_of_all left payloads)) fields))) (pieces_concat schema left fields payloads)
    ∙ ap (λ rs. gathered schema other fields rs (unknown_of schema fields rs)) (sym (records_concat schema left fields payloads sound)))

fine_all_sound : (schema : Schema) (left type_no : ℕ) (payloads : List (List ℕ)) → AllFine schema (suc left) type_no payloads → AllSound schema left (fields_of schema type_no) payloads
fine_all_sound schema left type_no [] p = tt
fine_all_sound schema left type_no (s ∷ more) p = (fine_sound schema left type_no s p.0, fine_all_sound schema left type_no more p.1)

pub shape_joined : (schema : Schema) → AllAscend schema → (left type_no : ℕ) (payloads : List (List ℕ)) → AllSound schema left (fields_of schema type_no) payloads → tree_map concat (shape_left schema left (fields_of schema type_no) payloads) ≡ tree_left schema left (fields_of schema type_no) (concat payloads)
shape_joined schema ascend zero type_no payloads sound =
    gathered_map schema 0 (λ inner more. empty_with [] (fields_of schema inner)) (λ inner more. empty_with [] (fields_of schema inner)) (λ inner s more p. not_ok (record { kind = TooDeep; byte = p.0.0 }) p.0.2.0 p.0.2.1) (fields_of schema type_no) (ascend type_no) payloads sound
shape_joined schema ascend (suc left) type_no payloads sound =
    gathered_map schema (suc left) (λ inner more. shape_left schema left (fields_of schema inner) more) (λ inner more. tree_left schema left (fields_of schema inner) (concat more))
    (λ inner s more p. shape_joined schema ascend left inner (s ∷ more) (fine_all_sound schema left inner (s ∷ more) p))
    (fields_of schema type_no) (ascend type_no) payloads sound

all_sound : (schema : Schema) (type_no : ℕ) (payloads : List (List ℕ)) → All (λ s. broken_of schema type_no 0 s ≡ None) payloads → AllSound schema most_levels (fields_of schema type_no) payloads
all_sound schema type_no [] p = tt
all_sound schema type_no (s ∷ more) p =
    (no_fault_sound schema type_no 0 s (All-head (λ s. broken_of schema type_no 0 s ≡ None) s more p), all_sound schema type_no more (All-tail (λ s. broken_of schema type_no 0 s ≡ None) s more p))

pub shape_tree : (schema : Schema) (type_no : ℕ) (payloads : List (List ℕ)) → Lawful schema → All (λ s. broken_of schema type_no 0 s ≡ None) payloads → tree_of schema type_no (concat payloads) ≡ Some (tree_map concat (shape_of schema type_no payloads))
shape_tree schema type_no payloads lawful sound =
    let each = all_sound schema type_no payloads sound in
    ap (tree_unless schema type_no (concat payloads)) (sound_unbroken schema type_no 0 (concat payloads) (sound_concat schema most_levels (fields_of schema type_no) payloads each))
    ∙ ap Some (sym (shape_joined schema (all_ascend schema lawful) most_levels type_no payloads each))

-- of one payload
pub shape_one : (schema : Schema) (type_no : ℕ) (s : List ℕ) (t : Tree) → Lawful schema → tree_of schema type_no s ≡ Some t → tree_map concat (shape_of schema type_no (s ∷ [])) ≡ t
shape_one schema type_no s t lawful e =
    let is = tree_is schema type_no s t (broken_of schema type_no 0 s) e in
    shape_joined schema (all_ascend schema lawful) most_levels type_no (s ∷ []) (no_fault_sound schema type_no 0 s is.0, tt)
    ∙ (ap (tree_left schema most_levels (fields_of schema type_no)) (append-nil s) ∙ is.1)
