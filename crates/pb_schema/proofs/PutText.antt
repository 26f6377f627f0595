-- The records of a text put into a message one after another merge the text's tree into it.
use Rattle.std.proofs.Common.{◌≡◌, ◌≢◌, ℕ, zero, suc, ◌-◌, ◌<◌, ◌≤◌, List, [], ◌∷◌, ◌++◌, ◌/◌, length, take, map, Bool, true, false, None, Some, Ok, refl, sym, ap, ◌∙◌, subst, arith, append-nil, length-append}
use Rattle.std.specs.List.{fold}
use Rattle.std.proofs.lemmas.Bool.{false≢true}
use Rattle.pb_schema.specs.declared.kind.Kind.{Kind}
use Rattle.pb_schema.specs.declared.kind.Kind.TheVariants as kinds
use Rattle.pb_schema.specs.declared.kind.Card.{Card}
use Rattle.pb_schema.specs.declared.kind.Card.TheVariants as cards
use Rattle.pb_schema.specs.declared.kind.FieldType.{FieldType}
use Rattle.pb_schema.specs.declared.schema.Schema.{Schema}
use Rattle.pb_schema.specs.Varint.{IsContinued, varint_of, value_bytes}
use Rattle.pb_schema.specs.Reads.{value_read, ◌>>=◌}
use Rattle.pb_schema.specs.Kinds.{Coding, ValueType, Scalar, Characters, Octets, Nested, value_type_of, wire_numbers, is_number}
use Rattle.pb_schema.specs.Cards.{is_packed}
use Rattle.pb_schema.specs.Form.{read_scalar}
use Rattle.pb_schema.specs.Fits.{takes, fields_of, fields_of_value}
use Rattle.pb_schema.specs.Records.{Record}
use Rattle.pb_schema.specs.Tree.{Value, Number, Bytes, Sub, Held, Nothing, One, Many, Tree, ValueList, NoValues, ValueAnd, value_list, held_list, values_in_list}
use Rattle.pb_schema.specs.Empty.{unset, empty_with}
use Rattle.pb_schema.specs.Merge.{joined, held_merged, message_merged}
use Rattle.pb_schema.specs.TreeOf.{pattern_in, elements_from, values_by, values_in, unless_default}
use Rattle.pb_schema.specs.Text.{number_text, low_first, spelled_text, values_text, message_text}
use Rattle.pb_schema.specs.Fitted.{IsNoDefault, IsPatternOf, IsStringOf, IsNestedOf, IsHeldBy, IsAlone, ValueFits, ValuesFit, HeldFits, FieldsFit, MessageFits}
use Rattle.pb_schema.specs.Put.{Onto, nest_onto, single_put, taken_put, other_put, held_put}
use Rattle.pb_schema.proofs.VarintLaws.{varint_at_front, varint_of_is}
use Rattle.pb_schema.proofs.Steps.{length-varint_of}
use Rattle.pb_schema.proofs.FormLaws.{read_varint_some, read_bytes_of}
use Rattle.pb_schema.proofs.KindLaws.{kind_back, pattern_back}
use Rattle.pb_schema.proofs.Gathering.{Fine}
use Rattle.pb_schema.proofs.MergeLaws.{message_left, joined_none}
use Rattle.pb_schema.proofs.TreeLists.{list_of_values}
use Rattle.pb_schema.proofs.Runs.{Each}
use Rattle.pb_schema.proofs.TextCuts.{payload_by, OfList, OfPacked, OfMany, OfHeld}

abbrev pub behind : List ℕ → List ℕ → List ℕ
behind x y = x ++ y

-- NUMBERS

abbrev pub IsNumberWire : ℕ → Type 0
IsNumberWire zero = Unit {0}
IsNumberWire (suc zero) = Unit {0}
IsNumberWire (suc (suc zero)) = ⊥
IsNumberWire (suc (suc (suc zero))) = ⊥
IsNumberWire (suc (suc (suc (suc zero)))) = ⊥
IsNumberWire (suc (suc (suc (suc (suc zero))))) = Unit {0}
IsNumberWire (suc (suc (suc (suc (suc (suc wire)))))) = ⊥

elements_skip : (wire : ℕ) (s y : List ℕ) → elements_from wire (length s) (s ++ y) ≡ elements_from wire 0 y
elements_skip wire [] y = refl
elements_skip wire (b ∷ s) y = elements_skip wire s y

take_front : (s y : List ℕ) → take (length s) (s ++ y) ≡ s
take_front [] y = refl
take_front (b ∷ s) y = ap (λ t. b ∷ t) (take_front s y)

elements_step : (wire : ℕ) (s y : List ℕ) → s ≢ [] → read_scalar wire 0 (s ++ y) ≡ Ok (length s) → elements_from wire 0 (s ++ y) ≡ s ∷ elements_from wire 0 y
elements_step wire [] y some e = absurd (some refl)
elements_step wire (b ∷ s) y some e =
    let one : length (b ∷ s) - 1 ≡ length s = omega arith in
    ap (λ r. elim (value_read r) [ None ↦ [] | Some n ↦ take n (b ∷ (s ++ y)) ∷ elements_from wire (n - 1) (s ++ y) ]) e
    ∙ (ap (λ t. t ∷ elements_from wire (length (b ∷ s) - 1) (s ++ y)) (take_front (b ∷ s) y)
    ∙ ap (λ t. (b ∷ s) ∷ t) (ap (λ n. elements_from wire n (s ++ y)) one ∙ elements_skip wire s y))

length_low : (n v : ℕ) → length (low_first n v) ≡ n
length_low zero v = refl
length_low (suc n) v = ap suc (length_low n (v / 256))

fixed_step : (wire n v : ℕ) (y : List ℕ) → ((s : List ℕ) → n ≤ length s → read_scalar wire 0 s ≡ Ok n) → 1 ≤ n → elements_from wire 0 (low_first n v ++ y) ≡ low_first n v ∷ elements_from wire 0 y
fixed_step wire n v y read some =
    let size = length_low n v in
    elements_step wire (low_first n v) y (λ none. absurd (omega (arith, some, size, ap length none)))
    (read (low_first n v ++ y) (omega (arith, size, length-append (low_first n v) y)) ∙ ap (λ k. Ok k) (sym size))

elements_front : (wire v : ℕ) (y : List ℕ) → IsNumberWire wire → v < wire_numbers wire → elements_from wire 0 (number_text wire v ++ y) ≡ number_text wire v ∷ elements_from wire 0 y
elements_front zero v y p h =
    let is = varint_of_is v value_bytes h (length-varint_of v) in
    elements_step 0 (varint_of v) y (λ none. subst IsContinued none is.continued)
    (ap (λ r. r >>= λ value. Ok value.1) (read_varint_some value_bytes 0 (varint_of v ++ y) v (length (varint_of v)) (varint_at_front value_bytes (varint_of v) y v is)))
elements_front (suc zero) v y p h = fixed_step 1 8 v y (λ s fits. read_bytes_of 8 0 s fits) (omega arith)
elements_front (suc (suc zero)) v y p h = absurd p
elements_front (suc (suc (suc zero))) v y p h = absurd p
elements_front (suc (suc (suc (suc zero)))) v y p h = absurd p
elements_front (suc (suc (suc (suc (suc zero))))) v y p h = fixed_step 5 4 v y (λ s fits. read_bytes_of 4 0 s fits) (omega arith)
elements_front (suc (suc (suc (suc (suc (suc wire)))))) v y p h = absurd p

-- what the table of kinds says of the numbers of a type
abbrev pub NumberFacts : ValueType → Type 0
NumberFacts (Scalar coding) = IsNumberWire coding.wire × ((p : ℕ) → p < coding.patterns → (pattern_in coding (number_text coding.wire (coding.spelled p)) ≡ p) × (coding.spelled p < wire_numbers coding.wire))
NumberFacts Characters = Unit {0}
NumberFacts Octets = Unit {0}
NumberFacts (Nested type_no) = Unit {0}

abbrev WireFact : ValueType → Type 0
WireFact (Scalar coding) = IsNumberWire coding.wire
WireFact Characters = Unit {0}
WireFact Octets = Unit {0}
WireFact (Nested type_no) = Unit {0}

wire_fact : (kind : Kind) → WireFact (value_type_of kind)
wire_fact kinds.Text = tt
wire_fact _ = tt

pub number_facts : (kind : Kind) → NumberFacts (value_type_of kind)
number_facts kind = by (value_type_of kind) refl (wire_fact kind)
  where
    by : (type : ValueType) → value_type_of kind ≡ type → WireFact type → NumberFacts type
    by (Scalar coding) e w = (w, λ p h. (pattern_back kind coding p e h, (kind_back kind coding p e h).1))
    by Characters e w = tt
    by Octets e w = tt
    by (Nested type_no) e w = tt

-- ONE VALUE

-- what is known one level down: a text that is read into a message is merged into it
abbrev pub Merges : Schema → ℕ → Onto (List ℕ) → Type 0
Merges schema left onto = (type_no : ℕ) (t u : Tree) → MessageFits schema (fields_of schema type_no) t → MessageFits schema (fields_of schema type_no) u → Fine schema left type_no (message_text schema (fields_of schema type_no) u)
    → onto type_no t (message_text schema (fields_of schema type_no) u) ≡ message_merged behind schema (fields_of schema type_no) t u

-- a payload of this type has no fault
abbrev pub FineBy : Schema → ℕ → ValueType → List ℕ → Type 0
FineBy schema left (Nested type_no) s = Fine schema left type_no s
FineBy schema left (Scalar coding) s = Unit {0}
FineBy schema left Characters s = Unit {0}
FineBy schema left Octets s = Unit {0}

abbrev pub ValueBy : Schema → ValueType → Value → Type 0
ValueBy schema type (Number p) = IsPatternOf type p
ValueBy schema type (Bytes s) = IsStringOf type s
ValueBy schema type (Sub t) = IsNestedOf (λ fields. MessageFits schema fields t) schema type

pub by_type : (schema : Schema) (field : FieldType) (value : Value) → ValueFits schema field value → ValueBy schema (value_type_of field.kind) value
by_type schema field (Number p) fits = fits
by_type schema field (Bytes s) fits = fits
by_type schema field (Sub t) fits = fits

-- the message that a field of this type holds is one of its type
abbrev MessageBy : Schema → ValueType → Held → Type 0
MessageBy schema (Nested type_no) (One (Sub t)) = MessageFits schema (fields_of schema type_no) t
MessageBy schema _ held = Unit {0}

message_by : (schema : Schema) (type : ValueType) (value : Value) → ValueBy schema type value → MessageBy schema type (One value)
message_by schema (Scalar coding) value fits = tt
message_by schema Characters value fits = tt
message_by schema Octets value fits = tt
message_by schema (Nested type_no) (Number p) fits = tt
message_by schema (Nested type_no) (Bytes s) fits = tt
message_by schema (Nested type_no) (Sub t) fits = fits

held_by_type : (schema : Schema) (field : FieldType) (held : Held) → HeldFits schema field held → MessageBy schema (value_type_of field.kind) held
held_by_type schema field Nothing fits = none (value_type_of field.kind)
  where
    none : (type : ValueType) → MessageBy schema type Nothing
    none (Scalar coding) = tt
    none Characters = tt
    none Octets = tt
    none (Nested type_no) = tt
held_by_type schema field (One value) fits = message_by schema (value_type_of field.kind) value (by_type schema field value fits)
held_by_type schema field (Many values) fits = none (value_type_of field.kind)
  where
    none : (type : ValueType) → MessageBy schema type (Many values)
    none (Scalar coding) = tt
    none Characters = tt
    none Octets = tt
    none (Nested type_no) = tt

empty_fits : (schema : Schema) (all fields : List FieldType) → FieldsFit schema fields (held_list (map (λ field. unset field.card) fields))
empty_fits schema all [] = tt
empty_fits schema all (field ∷ fields) = (card field.card, holds field.card, stands field.card, empty_fits schema all fields)
  where
    card : (c : Card) → IsHeldBy c (unset c)
    card cards.Implicit = tt
    card cards.Explicit = tt
    card (cards.Member oneof) = tt
    card (cards.Repeated packed) = tt

    holds : (c : Card) → HeldFits schema field (unset c)
    holds cards.Implicit = tt
    holds cards.Explicit = tt
    holds (cards.Member oneof) = tt
    holds (cards.Repeated packed) = tt

    stands : (c : Card) → IsAlone c (unset c) fields (held_list (map (λ x. unset x.card) fields))
    stands cards.Implicit = tt
    stands cards.Explicit = tt
    stands (cards.Member oneof) = tt
    stands (cards.Repeated packed) = tt

pub empty_message : (schema : Schema) (fields : List FieldType) → MessageFits schema fields (empty_with [] fields)
empty_message schema fields = (empty_fits schema fields fields, ([], refl, tt))

-- what a field holds of a value where it holds this already
abbrev pub value_after : Schema → ValueType → Held → Value → Value
value_after schema type (One (Sub t)) (Sub u) = Sub (message_merged behind schema (fields_of_value schema type) t u)
value_after schema type _ value = value

pub merged_after : (schema : Schema) (field : FieldType) (replaced : Bool) (held : Held) (value : Value) → held_merged behind schema field replaced held (One value) ≡ One (value_after schema (value_type_of field.kind) held value)
merged_after schema field replaced Nothing (Number p) = refl
merged_after schema field replaced Nothing (Bytes s) = refl
merged_after schema field replaced Nothing (Sub u) = refl
merged_after schema field replaced (One (Number q)) (Number p) = refl
merged_after schema field replaced (One (Number q)) (Bytes s) = refl
merged_after schema field replaced (One (Number q)) (Sub u) = refl
merged_after schema field replaced (One (Bytes q)) (Number p) = refl
merged_after schema field replaced (One (Bytes q)) (Bytes s) = refl
merged_after schema field replaced (One (Bytes q)) (Sub u) = refl
merged_after schema field replaced (One (Sub t)) (Number p) = refl
merged_after schema field replaced (One (Sub t)) (Bytes s) = refl
merged_after schema field replaced (One (Sub t)) (Sub u) = refl
merged_after schema field replaced (Many _) (Number p) = refl
merged_after schema field replaced (Many _) (Bytes s) = refl
merged_after schema field replaced (Many _) (Sub u) = refl

into_empty : (schema : Schema) (left : ℕ) (onto : Onto (List ℕ)) → Merges schema left onto → (type_no : ℕ) (u : Tree) → MessageFits schema (fields_of schema type_no) u → (s : List ℕ) → s ≡ message_text schema (fields_of schema type_no) u → Fine schema left type_no s
    → onto type_no (empty_with [] (fields_of schema type_no)) s ≡ u
into_empty schema left onto merges type_no u fits s e fine =
    let fields = fields_of schema type_no in
    ap (onto type_no (empty_with [] fields)) e
    ∙ (merges type_no (empty_with [] fields) u (empty_message schema fields) fits (subst (Fine schema left type_no) e fine) ∙ message_left schema fields u fits)

bytes_stay : (schema : Schema) (type : ValueType) (held : Held) (s : List ℕ) → ◌≡◌ {A = Held} (One (Bytes s)) (One (value_after schema type held (Bytes s)))
bytes_stay schema type Nothing s = refl
bytes_stay schema type (One (Number q)) s = refl
bytes_stay schema type (One (Bytes q)) s = refl
bytes_stay schema type (One (Sub t)) s = refl
bytes_stay schema type (Many _) s = refl

single_after : (schema : Schema) (left : ℕ) (onto : Onto (List ℕ)) → Merges schema left onto → (type : ValueType) → NumberFacts type → (held : Held) → MessageBy schema type held → (value : Value) → ValueBy schema type value → (r : Record) → r.payload ≡ payload_by schema type value → FineBy schema left type r.payload
    → single_put schema [] onto type held r ≡ One (value_after schema type held value)
single_after schema left onto merges (Scalar coding) facts held by (Number p) fits r e fine = ap (λ s. One (Number (pattern_in coding s))) e ∙ (ap (λ n. One (Number n)) (facts.1 p fits).0 ∙ number_stays held)
  where
    number_stays : (held : Held) → ◌≡◌ {A = Held} (One (Number p)) (One (value_after schema (Scalar coding) held (Number p)))
    number_stays Nothing = refl
    number_stays (One (Number q)) = refl
    number_stays (One (Bytes s)) = refl
    number_stays (One (Sub t)) = refl
    number_stays (Many _) = refl
single_after schema left onto merges (Scalar coding) facts held by (Bytes s) fits r e fine = absurd fits
single_after schema left onto merges (Scalar coding) facts held by (Sub u) fits r e fine = absurd fits
single_after schema left onto merges Characters facts held by (Number p) fits r e fine = absurd fits
single_after schema left onto merges Characters facts held by (Bytes s) fits r e fine = ap (λ x. One (Bytes x)) e ∙ bytes_stay schema Characters held s
single_after schema left onto merges Characters facts held by (Sub u) fits r e fine = absurd fits
single_after schema left onto merges Octets facts held by (Number p) fits r e fine = absurd fits
single_after schema left onto merges Octets facts held by (Bytes s) fits r e fine = ap (λ x. One (Bytes x)) e ∙ bytes_stay schema Octets held s
single_after schema left onto merges Octets facts held by (Sub u) fits r e fine = absurd fits
single_after schema left onto merges (Nested type_no) facts held by (Number p) fits r e fine = absurd fits
single_after schema left onto merges (Nested type_no) facts held by (Bytes s) fits r e fine = absurd fits
single_after schema left onto merges (Nested type_no) facts (One (Sub t)) by (Sub u) fits r e fine =
    ap (λ s. One (Sub (onto type_no t s))) e ∙ ap (λ m. One (Sub m)) (merges type_no t u by fits (subst (Fine schema left type_no) e fine))
single_after schema left onto merges (Nested type_no) facts Nothing by (Sub u) fits r e fine = ap (λ m. One (Sub m)) (into_empty schema left onto merges type_no u fits r.payload e fine)
single_after schema left onto merges (Nested type_no) facts (One (Number p)) by (Sub u) fits r e fine = ap (λ m. One (Sub m)) (into_empty schema left onto merges type_no u fits r.payload e fine)
single_after schema left onto merges (Nested type_no) facts (One (Bytes s)) by (Sub u) fits r e fine = ap (λ m. One (Sub m)) (into_empty schema left onto merges type_no u fits r.payload e fine)
single_after schema left onto merges (Nested type_no) facts (Many _) by (Sub u) fits r e fine = ap (λ m. One (Sub m)) (into_empty schema left onto merges type_no u fits r.payload e fine)

-- ONE FIELD

-- what a field holds after records
abbrev pub column : Schema → Onto (List ℕ) → List FieldType → FieldType → Held → List Record → Held
column schema onto all field held rs = fold (λ h r. held_put schema [] onto all r field h) held rs

abbrev put_by : Schema → Onto (List ℕ) → List FieldType → Record → FieldType → Held → Bool → Held
put_by schema onto all r field held t = elim t [ true ↦ taken_put schema [] onto field held r field.card | false ↦ other_put schema all held r field.card ]

put_taken : (schema : Schema) (onto : Onto (List ℕ)) (all : List FieldType) (r : Record) (field : FieldType) (held : Held) → takes schema field r ≡ true → held_put schema [] onto all r field held ≡ taken_put schema [] onto field held r field.card
put_taken schema onto all r field held e = ap (put_by schema onto all r field held) e

pub put_other : (schema : Schema) (onto : Onto (List ℕ)) (all : List FieldType) (r : Record) (field : FieldType) (held : Held) → takes schema field r ≡ false → held_put schema [] onto all r field held ≡ other_put schema all held r field.card
put_other schema onto all r field held e = ap (put_by schema onto all r field held) e

-- a record that the field takes, whose payload has no fault
abbrev pub Mine : Schema → ℕ → FieldType → Record → Type 0
Mine schema left field r = (takes schema field r ≡ true) × FineBy schema left (value_type_of field.kind) r.payload

value_number : (schema : Schema) (type : ValueType) (held : Held) (p : ℕ) → value_after schema type held (Number p) ≡ Number p
value_number schema type Nothing p = refl
value_number schema type (One (Number q)) p = refl
value_number schema type (One (Bytes s)) p = refl
value_number schema type (One (Sub t)) p = refl
value_number schema type (Many _) p = refl

value_bytes_stay : (schema : Schema) (type : ValueType) (held : Held) (s : List ℕ) → value_after schema type held (Bytes s) ≡ Bytes s
value_bytes_stay schema type Nothing s = refl
value_bytes_stay schema type (One (Number q)) s = refl
value_bytes_stay schema type (One (Bytes q)) s = refl
value_bytes_stay schema type (One (Sub t)) s = refl
value_bytes_stay schema type (Many _) s = refl

default_stays : (schema : Schema) (type : ValueType) (held : Held) (value : Value) → IsNoDefault value → unless_default (One (value_after schema type held value)) ≡ One (value_after schema type held value)
default_stays schema type held (Number zero) p = absurd (omega (arith, p))
default_stays schema type held (Number (suc n)) p =
    let same = value_number schema type held (suc n) in
    ap (λ v. unless_default (One v)) same ∙ sym (ap (λ v. One v) same)
default_stays schema type held (Bytes []) p = absurd (p refl)
default_stays schema type held (Bytes (b ∷ s)) p =
    let same = value_bytes_stay schema type held (b ∷ s) in
    ap (λ v. unless_default (One v)) same ∙ sym (ap (λ v. One v) same)
default_stays schema type Nothing (Sub u) p = refl
default_stays schema type (One (Number q)) (Sub u) p = refl
default_stays schema type (One (Bytes s)) (Sub u) p = refl
default_stays schema type (One (Sub t)) (Sub u) p = refl
default_stays schema type (Many _) (Sub u) p = refl

own_value : (schema : Schema) (left : ℕ) (onto : Onto (List ℕ)) → Merges schema left onto → (field : FieldType) (held : Held) → HeldFits schema field held → (value : Value) → ValueFits schema field value → (r : Record) → r.payload ≡ payload_by schema (value_type_of field.kind) value → FineBy schema left (value_type_of field.kind) r.payload
    → (card : Card) → IsHeldBy card (One value) → taken_put schema [] onto field held r card ≡ held_merged behind schema field false held (One value)
own_value schema left onto merges field held holds value fits r e fine card h = by card h
  where
    type : ValueType
    type = value_type_of field.kind

    single : single_put schema [] onto type held r ≡ One (value_after schema type held value)
    single = single_after schema left onto merges type (number_facts field.kind) held (held_by_type schema field held holds) value (by_type schema field value fits) r e fine

    by : (card : Card) → IsHeldBy card (One value) → taken_put schema [] onto field held r card ≡ held_merged behind schema field false held (One value)
    by cards.Implicit h = ap unless_default single ∙ (default_stays schema type held value h ∙ sym (merged_after schema field false held value))
    by cards.Explicit h = single ∙ sym (merged_after schema field false held value)
    by (cards.Member oneof) h = single ∙ sym (merged_after schema field false held value)
    by (cards.Repeated packed) h = absurd h

-- LISTS

joined_more : (xs ys zs : ValueList) → joined (joined xs ys) zs ≡ joined xs (joined ys zs)
joined_more NoValues ys zs = refl
joined_more (ValueAnd x xs) ys zs = ap (ValueAnd x) (joined_more xs ys zs)

value_in_list : (schema : Schema) (left : ℕ) (onto : Onto (List ℕ)) → Merges schema left onto → (type : ValueType) → NumberFacts type → (value : Value) → ValueBy schema type value → (r : Record) → r.payload ≡ payload_by schema type value → FineBy schema left type r.payload
    → values_by (nest_onto schema [] onto) type r ≡ value ∷ []
value_in_list schema left onto merges (Scalar coding) facts (Number p) fits r e fine =
    let text = number_text coding.wire (coding.spelled p) in
    let one : elements_from coding.wire 0 r.payload ≡ text ∷ [] = ap (elements_from coding.wire 0) (e ∙ sym (append-nil text)) ∙ elements_front coding.wire (coding.spelled p) [] facts.0 (facts.1 p fits).1 in
    ap (map (λ s. Number (pattern_in coding s))) one ∙ ap (λ n. Number n ∷ []) (facts.1 p fits).0
value_in_list schema left onto merges (Scalar coding) facts (Bytes s) fits r e fine = absurd fits
value_in_list schema left onto merges (Scalar coding) facts (Sub u) fits r e fine = absurd fits
value_in_list schema left onto merges Characters facts (Number p) fits r e fine = absurd fits
value_in_list schema left onto merges Characters facts (Bytes s) fits r e fine = ap (λ x. Bytes x ∷ []) e
value_in_list schema left onto merges Characters facts (Sub u) fits r e fine = absurd fits
value_in_list schema left onto merges Octets facts (Number p) fits r e fine = absurd fits
value_in_list schema left onto merges Octets facts (Bytes s) fits r e fine = ap (λ x. Bytes x ∷ []) e
value_in_list schema left onto merges Octets facts (Sub u) fits r e fine = absurd fits
value_in_list schema left onto merges (Nested type_no) facts (Number p) fits r e fine = absurd fits
value_in_list schema left onto merges (Nested type_no) facts (Bytes s) fits r e fine = absurd fits
value_in_list schema left onto merges (Nested type_no) facts (Sub u) fits r e fine = ap (λ m. Sub m ∷ []) (into_empty schema left onto merges type_no u fits r.payload e fine)

-- a list takes what a record has
list_put : (schema : Schema) (onto : Onto (List ℕ)) (all : List FieldType) (field : FieldType) (packed : Bool) → field.card ≡ cards.Repeated packed → (held : ValueList) (r : Record) → takes schema field r ≡ true
    → held_put schema [] onto all r field (Many held) ≡ Many (joined held (value_list (values_in schema (nest_onto schema [] onto) field r)))
list_put schema onto all field packed is held r e = put_taken schema onto all r field (Many held) e ∙ ap (taken_put schema [] onto field (Many held) r) is

own_list : (schema : Schema) (left : ℕ) (onto : Onto (List ℕ)) → Merges schema left onto → (all : List FieldType) (field : FieldType) (packed : Bool) → field.card ≡ cards.Repeated packed → (held values : ValueList) → ValuesFit schema field values → (rs : List Record) → OfList schema field values rs → Each (Mine schema left field) rs
    → column schema onto all field (Many held) rs ≡ Many (joined held values)
own_list schema left onto merges all field packed is held NoValues fits rs of mine = ap (column schema onto all field (Many held)) of ∙ ap (λ vs. Many vs) (sym (joined_none held))
own_list schema left onto merges all field packed is held (ValueAnd value values) fits rs of mine =
    let r = of.0 in
    let rest = of.1 in
    let each = subst (Each (Mine schema left field)) of.2 mine in
    let one = value_in_list schema left onto merges (value_type_of field.kind) (number_facts field.kind) value (by_type schema field value fits.0) r of.3.payload_is each.0.1 in
    ap (column schema onto all field (Many held)) of.2
    ∙ (ap (λ h. column schema onto all field h rest) (list_put schema onto all field packed is held r each.0.0 ∙ ap (λ vs. Many (joined held (value_list vs))) one)
    ∙ (own_list schema left onto merges all field packed is (joined held (ValueAnd value NoValues)) values fits.1 rest of.4 each.1
    ∙ ap (λ vs. Many vs) (joined_more held (ValueAnd value NoValues) values)))

packed_values : (schema : Schema) (field : FieldType) (coding : Coding) → value_type_of field.kind ≡ Scalar coding → NumberFacts (Scalar coding) → (values : ValueList) → ValuesFit schema field values
    → map (λ s. Number (pattern_in coding s)) (elements_from coding.wire 0 (values_text schema field [] values)) ≡ values_in_list values
packed_values schema field coding is facts NoValues fits = refl
packed_values schema field coding is facts (ValueAnd (Number p) more) fits =
    let h : p < coding.patterns = subst (λ type. IsPatternOf type p) is fits.0 in
    let rest = values_text schema field [] more in
    ap (λ type. map (λ s. Number (pattern_in coding s)) (elements_from coding.wire 0 (([] ++ spelled_text type p) ++ rest))) is
    ∙ (ap (map (λ s. Number (pattern_in coding s))) (elements_front coding.wire (coding.spelled p) rest facts.0 (facts.1 p h).1)
    ∙ (ap (λ n. Number n ∷ map (λ s. Number (pattern_in coding s)) (elements_from coding.wire 0 rest)) (facts.1 p h).0
    ∙ ap (λ vs. Number p ∷ vs) (packed_values schema field coding is facts more fits.1)))
packed_values schema field coding is facts (ValueAnd (Bytes s) more) fits = absurd (subst (λ type. IsStringOf type s) is fits.0)
packed_values schema field coding is facts (ValueAnd (Sub u) more) fits = absurd (subst (λ type. IsNestedOf (λ fields. MessageFits schema fields u) schema type) is fits.0)

-- a packed list is of numbers
abbrev pub PacksNumbers : FieldType → Type 0
PacksNumbers field = is_packed field.card ≡ true → is_number (value_type_of field.kind) ≡ true

own_packed : (schema : Schema) (left : ℕ) (onto : Onto (List ℕ)) (all : List FieldType) (field : FieldType) → PacksNumbers field → field.card ≡ cards.Repeated true → (held values : ValueList) → ValuesFit schema field values → (rs : List Record) → OfPacked field (values_text schema field [] values) rs → Each (Mine schema left field) rs
    → column schema onto all field (Many held) rs ≡ Many (joined held values)
own_packed schema left onto all field packs is held values fits rs of mine =
    by_type_of (value_type_of field.kind) refl (packs (ap is_packed is)) (number_facts field.kind)
  where
    by_text : (coding : Coding) → value_type_of field.kind ≡ Scalar coding → (s : List ℕ) → values_text schema field [] values ≡ s → map (λ e. Number (pattern_in coding e)) (elements_from coding.wire 0 s) ≡ values_in_list values → OfPacked field s rs
        → column schema onto all field (Many held) rs ≡ Many (joined held values)
    by_text coding type_is [] text all_of of =
        ap (column schema onto all field (Many held)) of
        ∙ ap (λ vs. Many vs) (sym (joined_none held) ∙ ap (λ vs. joined held vs) (ap value_list all_of ∙ list_of_values values))
    by_text coding type_is (b ∷ s) text all_of of =
        let each = subst (Each (Mine schema left field)) of.1 mine in
        let these : values_in schema (nest_onto schema [] onto) field of.0 ≡ values_in_list values =
        ap (λ type. values_by (nest_onto schema [] onto) type of.0) type_is ∙ (ap (λ t. map (λ e. Number (pattern_in coding e)) (elements_from coding.wire 0 t)) of.2.payload_is ∙ all_of) in
        ap (column schema onto all field (Many held)) of.1
        ∙ (list_put schema onto all field true is held of.0 each.0.0
        ∙ ap (λ vs. Many (joined held vs)) (ap value_list these ∙ list_of_values values))

    by_type_of : (type : ValueType) → value_type_of field.kind ≡ type → is_number type ≡ true → NumberFacts type → column schema onto all field (Many held) rs ≡ Many (joined held values)
    by_type_of (Scalar coding) type_is n facts = by_text coding type_is (values_text schema field [] values) refl (packed_values schema field coding type_is facts values fits) of
    by_type_of Characters type_is n facts = absurd (false≢true n)
    by_type_of Octets type_is n facts = absurd (false≢true n)
    by_type_of (Nested type_no) type_is n facts = absurd (false≢true n)

-- WHAT A FIELD HOLDS AFTER ITS OWN RECORDS

pub nothing_more : (schema : Schema) (field : FieldType) (held : Held) → held ≡ held_merged behind schema field false held Nothing
nothing_more schema field Nothing = refl
nothing_more schema field (One value) = refl
nothing_more schema field (Many more) = refl

pub own_field : (schema : Schema) (left : ℕ) (onto : Onto (List ℕ)) → Merges schema left onto → (all : List FieldType) (field : FieldType) → PacksNumbers field → (held : Held) → IsHeldBy field.card held → HeldFits schema field held → (theirs : Held) → IsHeldBy field.card theirs → HeldFits schema field theirs
    → (rs : List Record) → OfHeld schema field theirs rs → Each (Mine schema left field) rs → column schema onto all field held rs ≡ held_merged behind schema field false held theirs
own_field schema left onto merges all field packs held h holds Nothing i fits rs of mine = ap (column schema onto all field held) of ∙ nothing_more schema field held
own_field schema left onto merges all field packs held h holds (One value) i fits rs of mine =
    let each = subst (Each (Mine schema left field)) of.1 mine in
    ap (column schema onto all field held) of.1
    ∙ (put_taken schema onto all of.0 field held each.0.0 ∙ own_value schema left onto merges field held holds value fits of.0 of.2.payload_is each.0.1 field.card i)
own_field schema left onto merges all field packs held h holds (Many values) i fits rs of mine = by field.card refl held h i of
  where
    lists : (packed : Bool) → field.card ≡ cards.Repeated packed → (ws : ValueList) → OfMany schema field values rs packed → column schema onto all field (Many ws) rs ≡ Many (joined ws values)
    lists true is ws of = own_packed schema left onto all field packs is ws values fits rs of mine
    lists false is ws of = own_list schema left onto merges all field false is ws values fits rs of mine

    by : (card : Card) → field.card ≡ card → (held : Held) → IsHeldBy card held → IsHeldBy card (Many values) → OfMany schema field values rs (is_packed card) → column schema onto all field held rs ≡ held_merged behind schema field false held (Many values)
    by (cards.Repeated packed) is (Many ws) h i of = lists packed is ws of
    by (cards.Repeated packed) is Nothing h i of = absurd h
    by (cards.Repeated packed) is (One value) h i of = absurd h
    by cards.Implicit is held h i of = absurd i
    by cards.Explicit is held h i of = absurd i
    by (cards.Member oneof) is held h i of = absurd i
