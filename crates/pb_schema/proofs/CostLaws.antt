-- What payloads count that are read one after another: those that come later count what the shape of the earlier ones and they themselves say.
use Rattle.std.proofs.Common.{◌≡◌, ℕ, zero, suc, ◌+◌, List, [], ◌∷◌, ◌++◌, length, map, not, refl, sym, ap, ◌∙◌, arith, append-nil, length-append, cond, Bool, true, false}
use Rattle.std.specs.Prelude.{sum_by, flat_map}
use Rattle.std.specs.List.{slice_split, onto_first}
use Rattle.std.proofs.lemmas.Grind.{flat_map-append}
use Rattle.std.proofs.lemmas.List.{map-append}
use Rattle.std.proofs.lemmas.List.Elements.{filter-append}
use Rattle.std.proofs.lemmas.List.Concat.{length-flat_map}
use Rattle.std.proofs.lemmas.List.Sums.{sum_by-append, sum_by-cons}
use Rattle.pb_schema.specs.declared.kind.Card.{Card}
use Rattle.pb_schema.specs.declared.kind.Card.TheVariants as cards
use Rattle.pb_schema.specs.declared.kind.FieldType.{FieldType}
use Rattle.pb_schema.specs.declared.schema.Schema.{Schema}
use Rattle.pb_schema.specs.Kinds.{ValueType, Scalar, Characters, Octets, Nested, value_type_of, slot_of}
use Rattle.pb_schema.specs.Fits.{takes, fields_of}
use Rattle.pb_schema.specs.Records.{Record}
use Rattle.pb_schema.specs.Tree.{ValueWith, Number, Bytes, Sub, HeldWith, Nothing, One, Many, Shape, Message, value_list, held_list}
use Rattle.pb_schema.specs.Empty.{empty_with}
use Rattle.pb_schema.specs.TreeOf.{Nest, payloads_of, fitting, is_of_oneof, of_oneof, runs, last_of, or_none, single_by, single, values_by, values_in, unless_default, held_by, held_of, records_in}
use Rattle.pb_schema.specs.ShapeOf.{records_of_all, piece_of, pieces_of, shape_left}
use Rattle.pb_schema.specs.Meter.{Meter, GrowsInParts}
use Rattle.pb_schema.specs.ParseCost.{NestCost, string_cost, merged_cost, single_cost, element_cost, value_count, list_cost, cost_by, field_cost, pieces_cost, gathered_cost, cost_left}
use Rattle.pb_schema.specs.MergeCost.{how_many}
use Rattle.pb_schema.proofs.TreeLists.{values_of_list}
use Rattle.pb_schema.specs.MoreCost.{NestMore, merged_more, single_more, runs_more, more_by, fields_more, gathered_more, more_left}

-- SUMS

sum_same : {A : Type 0} (f g : A → ℕ) (xs : List A) → ((x : A) → f x ≡ g x) → sum_by f xs ≡ sum_by g xs
sum_same f g [] same = refl
sum_same f g (x ∷ xs) same = omega (arith, sum_by-cons f x xs, sum_by-cons g x xs, same x, sum_same f g xs same)

-- ONE VALUE

-- what is known one level down: payloads that come later count what the shape of the earlier ones says
abbrev pub Later : NestCost → NestMore → Nest (List (List ℕ)) → Type 0
Later nest more shape = (type_no : ℕ) (ps qs : List (List ℕ)) → nest type_no (ps ++ qs) ≡ nest type_no ps + more type_no (shape type_no ps) qs

merged_later : (nest : NestCost) (more : NestMore) (shape : Nest (List (List ℕ))) → Later nest more shape → (type_no : ℕ) (rs qs : List Record)
    → merged_cost (nest type_no) (rs ++ qs) ≡ merged_cost (nest type_no) rs + merged_more (more type_no) (nest type_no) (single_by shape (Nested type_no) rs) qs
merged_later nest more shape later type_no [] [] = refl
merged_later nest more shape later type_no [] (q ∷ qs) = omega arith
merged_later nest more shape later type_no (r ∷ rs) [] = ap (λ xs. merged_cost (nest type_no) xs) (append-nil (r ∷ rs)) ∙ (let same : nest type_no (payloads_of (r ∷ rs)) ≡ nest type_no (payloads_of (r ∷ rs)) + 0 = omega arith in same)
merged_later nest more shape later type_no (r ∷ rs) (q ∷ qs) =
    ap (nest type_no) (map-append (λ (x : Record). x.payload) (r ∷ rs) (q ∷ qs)) ∙ later type_no (payloads_of (r ∷ rs)) (payloads_of (q ∷ qs))

single_later : (meter : Meter) (nest : NestCost) (more : NestMore) (shape : Nest (List (List ℕ))) → Later nest more shape → (type : ValueType) (rs qs : List Record)
    → single_cost meter nest type (rs ++ qs) ≡ single_cost meter nest type rs + single_more meter nest more type (single_by shape type rs) qs
single_later meter nest more shape later (Scalar coding) rs qs = refl
single_later meter nest more shape later Characters rs qs = sum_by-append (λ (r : Record). string_cost meter r.payload) rs qs
single_later meter nest more shape later Octets rs qs = sum_by-append (λ (r : Record). string_cost meter r.payload) rs qs
single_later meter nest more shape later (Nested type_no) rs qs = merged_later nest more shape later type_no rs qs

-- a default is no message
merged_default : (more : Shape → List (List ℕ) → ℕ) (nested : List (List ℕ) → ℕ) (held : HeldWith (List (List ℕ))) (rs : List Record) → merged_more more nested (unless_default held) rs ≡ merged_more more nested held rs
merged_default more nested held [] = refl
merged_default more nested Nothing (r ∷ rs) = refl
merged_default more nested (One (Number zero)) (r ∷ rs) = refl
merged_default more nested (One (Number (suc n))) (r ∷ rs) = refl
merged_default more nested (One (Bytes [])) (r ∷ rs) = refl
merged_default more nested (One (Bytes (b ∷ s))) (r ∷ rs) = refl
merged_default more nested (One (Sub t)) (r ∷ rs) = refl
merged_default more nested (Many _) (r ∷ rs) = refl

single_default : (meter : Meter) (nest : NestCost) (more : NestMore) (type : ValueType) (held : HeldWith (List (List ℕ))) (rs : List Record) → single_more meter nest more type (unless_default held) rs ≡ single_more meter nest more type held rs
single_default meter nest more (Scalar coding) held rs = refl
single_default meter nest more Characters held rs = refl
single_default meter nest more Octets held rs = refl
single_default meter nest more (Nested type_no) held rs = merged_default (more type_no) (nest type_no) held rs

-- RUNS

-- the last part of the one list and the first of the other are one part
abbrev pub glued : List (List Record) → List (List Record) → List (List Record)
glued [] others = others
glued (part ∷ []) [] = part ∷ []
glued (part ∷ []) (other ∷ others) = (part ++ other) ∷ others
glued (part ∷ next ∷ parts) others = part ∷ glued (next ∷ parts) others

glued_onto : (r : Record) (parts others : List (List Record)) → glued (onto_first r parts) others ≡ onto_first r (glued parts others)
glued_onto r [] [] = refl
glued_onto r [] (other ∷ others) = refl
glued_onto r (part ∷ []) [] = refl
glued_onto r (part ∷ []) (other ∷ others) = refl
glued_onto r (part ∷ next ∷ parts) others = refl

abbrev pub IsSomeList : List (List Record) → Type 0
IsSomeList [] = ⊥
IsSomeList (part ∷ parts) = Unit {0}

pub split_some : (test : Record → Bool) (rs : List Record) → IsSomeList (slice_split test rs)
split_some test [] = tt
split_some test (r ∷ rs) = pick (test r) (split_some test rs)
  where
    onto : (parts : List (List Record)) → IsSomeList (onto_first r parts)
    onto [] = tt
    onto (part ∷ parts) = tt

    pick : (t : Bool) → IsSomeList (slice_split test rs) → IsSomeList (cond t ([] ∷ slice_split test rs) (onto_first r (slice_split test rs)))
    pick true p = tt
    pick false p = onto (slice_split test rs)

glued_begun : (parts others : List (List Record)) → IsSomeList parts → glued ([] ∷ parts) others ≡ [] ∷ glued parts others
glued_begun [] others p = absurd p
glued_begun (part ∷ parts) others p = refl

glued_none : (others : List (List Record)) → IsSomeList others → glued ([] ∷ []) others ≡ others
glued_none [] p = absurd p
glued_none (other ∷ others) p = refl

pub split_join : (test : Record → Bool) (rs qs : List Record) → slice_split test (rs ++ qs) ≡ glued (slice_split test rs) (slice_split test qs)
split_join test [] qs = sym (glued_none (slice_split test qs) (split_some test qs))
split_join test (r ∷ rs) qs = pick (test r) (split_join test rs qs)
  where
    pick : (t : Bool) → slice_split test (rs ++ qs) ≡ glued (slice_split test rs) (slice_split test qs)
        → cond t ([] ∷ slice_split test (rs ++ qs)) (onto_first r (slice_split test (rs ++ qs))) ≡ glued (cond t ([] ∷ slice_split test rs) (onto_first r (slice_split test rs))) (slice_split test qs)
    pick true e = ap (λ parts. [] ∷ parts) e ∙ sym (glued_begun (slice_split test rs) (slice_split test qs) (split_some test rs))
    pick false e = ap (onto_first r) e ∙ sym (glued_onto r (slice_split test rs) (slice_split test qs))

glued_cost : (cost : List Record → ℕ) (more : ℕ) (parts : List (List Record)) (other : List Record) (others : List (List Record)) → IsSomeList parts → cost (or_none (last_of parts) ++ other) ≡ cost (or_none (last_of parts)) + more
    → sum_by cost (glued parts (other ∷ others)) ≡ sum_by cost parts + (more + sum_by cost others)
glued_cost cost more [] other others p e = absurd p
glued_cost cost more (part ∷ []) other others p e = omega (arith, e, sum_by-cons cost (part ++ other) others, sum_by-cons cost part [])
glued_cost cost more (part ∷ next ∷ parts) other others p e =
    omega (arith, sum_by-cons cost part (glued (next ∷ parts) (other ∷ others)), sum_by-cons cost part (next ∷ parts), glued_cost cost more (next ∷ parts) other others tt e)

runs_later : (meter : Meter) (nest : NestCost) (more : NestMore) (shape : Nest (List (List ℕ))) → Later nest more shape → (type : ValueType) (parts others : List (List Record)) → IsSomeList parts → IsSomeList others
    → sum_by (single_cost meter nest type) (glued parts others) ≡ sum_by (single_cost meter nest type) parts + runs_more meter nest more type (single_by shape type (or_none (last_of parts))) others
runs_later meter nest more shape later type parts [] p q = absurd q
runs_later meter nest more shape later type parts (other ∷ others) p q =
    glued_cost (single_cost meter nest type) (single_more meter nest more type (single_by shape type (or_none (last_of parts))) other) parts other others p
    (single_later meter nest more shape later type (or_none (last_of parts)) other)

-- LISTS

count_of : {U : Type 0} (schema : Schema) (nest : Nest U) (field : FieldType) (r : Record) → length (values_in schema nest field r) ≡ value_count schema field r
count_of schema nest field r = by (value_type_of field.kind)
  where
    same_count : {U V A : Type 0} (f : A → ValueWith U) (g : A → ValueWith V) (xs : List A) → length (map f xs) ≡ length (map g xs)
    same_count f g [] = refl
    same_count f g (x ∷ xs) = ap suc (same_count f g xs)

    by : (type : ValueType) → length (values_by nest type r) ≡ length (values_by {U = List ℕ} (λ type_no payloads. empty_with [] []) type r)
    by (Scalar coding) = same_count _ _ _
    by Characters = refl
    by Octets = refl
    by (Nested type_no) = refl

held_count : {U : Type 0} (schema : Schema) (nest : Nest U) (field : FieldType) (rs : List Record) → how_many (Many (value_list (flat_map (values_in schema nest field) rs))) ≡ sum_by (value_count schema field) rs
held_count schema nest field rs =
    ap length (values_of_list (flat_map (values_in schema nest field) rs))
    ∙ (length-flat_map (values_in schema nest field) rs ∙ sum_same (λ r. length (values_in schema nest field r)) (value_count schema field) rs (count_of schema nest field))

list_later : (meter : Meter) → GrowsInParts meter → (schema : Schema) (nest : NestCost) (field : FieldType) (rs qs : List Record)
    → list_cost meter schema nest field 0 (rs ++ qs) ≡ list_cost meter schema nest field 0 rs + list_cost meter schema nest field (sum_by (value_count schema field) rs) qs
list_later meter grows schema nest field rs qs =
    let size = slot_of (value_type_of field.kind) in
    let n = sum_by (value_count schema field) rs in
    let m = sum_by (value_count schema field) qs in
    let cost = element_cost meter nest (value_type_of field.kind) in
    let all : 0 + sum_by (value_count schema field) (rs ++ qs) ≡ n + m = omega (arith, sum_by-append (value_count schema field) rs qs) in
    let first : 0 + n ≡ n = omega arith in
    let growth : meter.growth size 0 (0 + sum_by (value_count schema field) (rs ++ qs)) ≡ meter.growth size 0 (0 + n) + meter.growth size n (n + m) =
    ap (meter.growth size 0) all ∙ (grows.parts size 0 n (n + m) (omega arith) (omega arith) ∙ ap (λ k. meter.growth size 0 k + meter.growth size n (n + m)) (sym first)) in
    omega (arith, growth, sum_by-append cost rs qs)

-- FIELDS

card_later : (meter : Meter) → GrowsInParts meter → (schema : Schema) (nest : NestCost) (more : NestMore) (shape : Nest (List (List ℕ))) → Later nest more shape → (all : List FieldType) (rs qs : List Record) (field : FieldType) (card : Card)
    → cost_by meter schema nest all (rs ++ qs) field card ≡ cost_by meter schema nest all rs field card + more_by meter schema nest more all qs field (held_by schema shape all rs field card) card
card_later meter grows schema nest more shape later all rs qs field cards.Implicit =
    let type = value_type_of field.kind in
    ap (single_cost meter nest type) (filter-append (takes schema field) rs qs)
    ∙ (single_later meter nest more shape later type (fitting schema field rs) (fitting schema field qs)
    ∙ ap (λ n. single_cost meter nest type (fitting schema field rs) + n) (sym (single_default meter nest more type (single shape field (fitting schema field rs)) (fitting schema field qs))))
card_later meter grows schema nest more shape later all rs qs field cards.Explicit =
    ap (single_cost meter nest (value_type_of field.kind)) (filter-append (takes schema field) rs qs)
    ∙ single_later meter nest more shape later (value_type_of field.kind) (fitting schema field rs) (fitting schema field qs)
card_later meter grows schema nest more shape later all rs qs field (cards.Member oneof) =
    let test : Record → Bool = λ r. not (takes schema field r) in
    let ours = of_oneof schema all oneof rs in
    let theirs = of_oneof schema all oneof qs in
    let cost = single_cost meter nest (value_type_of field.kind) in
    ap (λ xs. sum_by cost (runs schema field xs)) (filter-append (is_of_oneof schema all oneof) rs qs)
    ∙ (ap (sum_by cost) (split_join test ours theirs)
    ∙ runs_later meter nest more shape later (value_type_of field.kind) (slice_split test ours) (slice_split test theirs) (split_some test ours) (split_some test theirs))
card_later meter grows schema nest more shape later all rs qs field (cards.Repeated packed) =
    ap (list_cost meter schema nest field 0) (filter-append (takes schema field) rs qs)
    ∙ (list_later meter grows schema nest field (fitting schema field rs) (fitting schema field qs)
    ∙ ap (λ n. list_cost meter schema nest field 0 (fitting schema field rs) + list_cost meter schema nest field n (fitting schema field qs)) (sym (held_count schema shape field (fitting schema field rs))))

fields_later : (meter : Meter) → GrowsInParts meter → (schema : Schema) (nest : NestCost) (more : NestMore) (shape : Nest (List (List ℕ))) → Later nest more shape → (all : List FieldType) (rs qs : List Record) (fields : List FieldType)
    → sum_by (field_cost meter schema nest all (rs ++ qs)) fields ≡ sum_by (field_cost meter schema nest all rs) fields + fields_more meter schema nest more all qs fields (held_list (map (held_of schema shape all rs) fields))
fields_later meter grows schema nest more shape later all rs qs [] = refl
fields_later meter grows schema nest more shape later all rs qs (field ∷ fields) =
    omega (
      arith,
      sum_by-cons (field_cost meter schema nest all (rs ++ qs)) field fields,
      sum_by-cons (field_cost meter schema nest all rs) field fields,
      card_later meter grows schema nest more shape later all rs qs field field.card,
      fields_later meter grows schema nest more shape later all rs qs fields,
    )

-- PIECES AND MESSAGES

pieces_later : (meter : Meter) → GrowsInParts meter → (ps qs : List (List ℕ)) → pieces_cost meter 0 (ps ++ qs) ≡ pieces_cost meter 0 ps + pieces_cost meter (length ps) qs
pieces_later meter grows ps qs =
    let size = slot_of Octets in
    let n = length ps in
    let m = length qs in
    let all : 0 + length (ps ++ qs) ≡ n + m = omega (arith, length-append ps qs) in
    let first : 0 + n ≡ n = omega arith in
    let growth : meter.growth size 0 (0 + length (ps ++ qs)) ≡ meter.growth size 0 (0 + n) + meter.growth size n (n + m) =
    ap (meter.growth size 0) all ∙ (grows.parts size 0 n (n + m) (omega arith) (omega arith) ∙ ap (λ k. meter.growth size 0 k + meter.growth size n (n + m)) (sym first)) in
    omega (arith, growth, sum_by-append (string_cost meter) ps qs)

gathered_later : (meter : Meter) → GrowsInParts meter → (schema : Schema) (nest : NestCost) (more : NestMore) (shape : Nest (List (List ℕ))) → Later nest more shape → (type_no left : ℕ) (ps qs : List (List ℕ))
    → gathered_cost meter schema nest type_no (records_of_all left (ps ++ qs)) (pieces_of schema left (fields_of schema type_no) (ps ++ qs))
    ≡ gathered_cost meter schema nest type_no (records_of_all left ps) (pieces_of schema left (fields_of schema type_no) ps)
    + gathered_more meter schema nest more type_no (Message (held_list (map (held_of schema shape (fields_of schema type_no) (records_of_all left ps)) (fields_of schema type_no))) (pieces_of schema left (fields_of schema type_no) ps)) (records_of_all left qs) (pieces_of schema left (fields_of schema type_no) qs)
gathered_later meter grows schema nest more shape later type_no left ps qs =
    let fields = fields_of schema type_no in
    let rs = records_of_all left ps in
    let pieces = pieces_of schema left fields ps in
    ap (λ xs. gathered_cost meter schema nest type_no xs (pieces_of schema left fields (ps ++ qs))) (flat_map-append (records_in left) ps qs)
    ∙ (ap (gathered_cost meter schema nest type_no (rs ++ records_of_all left qs)) (flat_map-append (piece_of schema left fields) ps qs)
    ∙ omega (arith, fields_later meter grows schema nest more shape later fields rs (records_of_all left qs) fields, pieces_later meter grows pieces (pieces_of schema left fields qs)))

pub cost_later : (meter : Meter) → GrowsInParts meter → (schema : Schema) (left type_no : ℕ) (ps qs : List (List ℕ)) → cost_left meter schema left type_no (ps ++ qs) ≡ cost_left meter schema left type_no ps + more_left meter schema left type_no (shape_left schema left (fields_of schema type_no) ps) qs
cost_later meter grows schema zero type_no ps qs =
    gathered_later meter grows schema (λ inner more. 0) (λ inner u more. 0) (λ inner more. empty_with [] (fields_of schema inner)) (λ inner first more. refl) type_no 0 ps qs
cost_later meter grows schema (suc left) type_no ps qs =
    gathered_later meter grows schema (λ inner more. cost_left meter schema left inner more) (λ inner u more. more_left meter schema left inner u more) (λ inner more. shape_left schema left (fields_of schema inner) more)
    (λ inner first more. cost_later meter grows schema left inner first more) type_no (suc left) ps qs

-- NO PAYLOADS

single_free : (meter : Meter) (nest : NestCost) (type : ValueType) → single_cost meter nest type [] ≡ 0
single_free meter nest (Scalar coding) = refl
single_free meter nest Characters = refl
single_free meter nest Octets = refl
single_free meter nest (Nested type_no) = refl

growth_free : (meter : Meter) → GrowsInParts meter → (size : ℕ) → meter.growth size 0 (0 + 0) ≡ 0
growth_free meter grows size = let none : 0 ≡ 0 + 0 = omega arith in ap (meter.growth size 0) (sym none) ∙ grows.none size 0

card_free : (meter : Meter) → GrowsInParts meter → (schema : Schema) (nest : NestCost) (all : List FieldType) (field : FieldType) (card : Card) → cost_by meter schema nest all [] field card ≡ 0
card_free meter grows schema nest all field cards.Implicit = single_free meter nest (value_type_of field.kind)
card_free meter grows schema nest all field cards.Explicit = single_free meter nest (value_type_of field.kind)
card_free meter grows schema nest all field (cards.Member oneof) = omega (arith, sum_by-cons (single_cost meter nest (value_type_of field.kind)) [] [], single_free meter nest (value_type_of field.kind))
card_free meter grows schema nest all field (cards.Repeated packed) = omega (arith, growth_free meter grows (slot_of (value_type_of field.kind)))

fields_free : (meter : Meter) → GrowsInParts meter → (schema : Schema) (nest : NestCost) (all fields : List FieldType) → sum_by (field_cost meter schema nest all []) fields ≡ 0
fields_free meter grows schema nest all [] = refl
fields_free meter grows schema nest all (field ∷ fields) =
    omega (arith, sum_by-cons (field_cost meter schema nest all []) field fields, card_free meter grows schema nest all field field.card, fields_free meter grows schema nest all fields)

gathered_free : (meter : Meter) → GrowsInParts meter → (schema : Schema) (nest : NestCost) (type_no : ℕ) → gathered_cost meter schema nest type_no [] [] ≡ meter.size type_no
gathered_free meter grows schema nest type_no =
    omega (arith, fields_free meter grows schema nest (fields_of schema type_no) (fields_of schema type_no), growth_free meter grows (slot_of Octets))

-- they are read as the empty message, which is a record alone
pub cost_of_none : (meter : Meter) → GrowsInParts meter → (schema : Schema) (left type_no : ℕ) → cost_left meter schema left type_no [] ≡ meter.size type_no
cost_of_none meter grows schema zero type_no = gathered_free meter grows schema (λ inner more. 0) type_no
cost_of_none meter grows schema (suc left) type_no = gathered_free meter grows schema (λ inner more. cost_left meter schema left inner more) type_no
