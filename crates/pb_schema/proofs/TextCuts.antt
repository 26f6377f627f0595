-- How bytes that begin with what is written are cut into records, where they are: the record at the front is the one that was written, and what is behind it is behind it.
use Rattle.std.proofs.Common.{◌≡◌, ◌≢◌, ℕ, zero, suc, ◌+◌, ◌/◌, ◌%◌, ◌^◌, ◌<◌, ◌≤◌, List, [], ◌∷◌, ◌++◌, length, Bool, true, false, cond, refl, sym, ap, ◌∙◌, subst, arith, nat_lt, append_assoc}
use Rattle.std.proofs.lemmas.Bool.{false≢true, ltb-true, lt-ltb}
use Rattle.pb_schema.specs.declared.kind.FieldType.{FieldType}
use Rattle.pb_schema.specs.declared.schema.Schema.{Schema}
use Rattle.pb_schema.specs.Varint.{IsContinued, seven_bits, Varint, groups, varint_of, value_bytes}
use Rattle.pb_schema.specs.Tag.{tag_of}
use Rattle.pb_schema.specs.Kinds.{ValueType, Scalar, Characters, Octets, Nested, value_type_of, value_wire}
use Rattle.pb_schema.specs.declared.kind.Kind.{Kind}
use Rattle.pb_schema.specs.declared.kind.Kind.TheVariants as kinds
use Rattle.std.specs.Prelude.{flat_map}
use Rattle.pb_schema.specs.Cards.{is_packed}
use Rattle.pb_schema.specs.Fits.{fields_of_value, nested_fields, wire_of}
use Rattle.pb_schema.specs.Broken.{most_levels}
use Rattle.pb_schema.specs.Records.{Record, AreRecords, RecordsWithin, Spans, Spells}
use Rattle.pb_schema.specs.Tree.{Value, Number, Bytes, Sub, Held, Nothing, One, Many, ValueList, NoValues, ValueAnd, HeldList, NoFields, FieldAnd}
use Rattle.pb_schema.specs.Text.{framed, low_first, number_text, spelled_text, packed_text, field_tag, value_text, held_text, values_text, fields_text, message_text}
use Rattle.pb_schema.specs.Fitted.{IsPatternOf, IsStringOf, IsNestedOf, NoneTaken, IsUnknown, ValueFits, ValuesFit, HeldFits, FieldsFit, MessageFits}
use Rattle.pb_schema.proofs.VarintLaws.{same_cons}
use Rattle.pb_schema.proofs.FitsLaws.{ScalarFacts, scalar_facts}
use Rattle.pb_schema.proofs.RecordsFront.{one_list_of_records}

-- LISTS

pub same_front : (t x y : List ℕ) → t ++ x ≡ t ++ y → x ≡ y
same_front [] x y e = e
same_front (b ∷ t) x y e = same_front t x y (same_cons b b (t ++ x) (t ++ y) e).1

-- fronts of one length
pub same_fronts : (s t x y : List ℕ) → length s ≡ length t → s ++ x ≡ t ++ y → (s ≡ t) × (x ≡ y)
same_fronts [] [] x y h e = (refl, e)
same_fronts [] (c ∷ t) x y h e = absurd (omega (arith, h))
same_fronts (b ∷ s) [] x y h e = absurd (omega (arith, h))
same_fronts (b ∷ s) (c ∷ t) x y h e =
    let heads = same_cons b c (s ++ x) (t ++ y) e in
    let rest = same_fronts s t x y (omega (arith, h)) heads.1 in
    (ap (λ k. k ∷ s) heads.0 ∙ ap (λ k. c ∷ k) rest.0, rest.1)

-- VARINTS

over_false : (n : ℕ) → nat_lt n 128 ≡ false → 128 ≤ n
over_false n e = omega (arith, not_lt)
  where
    not_lt : n < 128 → ⊥
    not_lt h = false≢true (sym e ∙ lt-ltb n 128 h)

-- a varint at the front of a number in groups is those groups
pub groups_cut : (more n : ℕ) (s x y : List ℕ) → IsContinued s → length s ≤ suc more → s ++ x ≡ groups more n ++ y → (s ≡ groups more n) × (seven_bits s ≡ n)
groups_cut more n [] x y c h e = absurd c
groups_cut zero n (b ∷ []) x y c h e = let p = (same_cons b n x y e).0 in (ap (λ k. k ∷ []) p, omega (arith, c, p))
groups_cut zero n (b ∷ d ∷ s) x y c h e = absurd (omega (arith, h))
groups_cut (suc more) n (b ∷ s) x y c h e = pick (nat_lt n 128) refl e (λ m t. groups_cut more m t x y)
  where
    small : n < 128 → (s : List ℕ) → IsContinued (b ∷ s) → (b ∷ s) ++ x ≡ (n ∷ []) ++ y → (b ∷ s ≡ n ∷ []) × (seven_bits (b ∷ s) ≡ n)
    small h [] c e = let p = (same_cons b n x y e).0 in (ap (λ k. k ∷ []) p, omega (arith, c, p))
    small h (d ∷ s) c e = absurd (omega (arith, h, c.0, (same_cons b n ((d ∷ s) ++ x) y e).0))

    large : (s : List ℕ) → IsContinued (b ∷ s) → length (b ∷ s) ≤ suc (suc more) → (b ∷ s) ++ x ≡ ((n % 128 + 128) ∷ groups more (n / 128)) ++ y
        → ((m : ℕ) (t : List ℕ) → IsContinued t → length t ≤ suc more → t ++ x ≡ groups more m ++ y → (t ≡ groups more m) × (seven_bits t ≡ m)) → (b ∷ s ≡ (n % 128 + 128) ∷ groups more (n / 128)) × (seven_bits (b ∷ s) ≡ n)
    large [] c h e again = absurd (omega (arith, c, (same_cons b (n % 128 + 128) x (groups more (n / 128) ++ y) e).0))
    large (d ∷ s) c h e again =
        let heads = same_cons b (n % 128 + 128) ((d ∷ s) ++ x) (groups more (n / 128) ++ y) e in
        let rest = again (n / 128) (d ∷ s) c.1 (omega (arith, h)) heads.1 in
        (ap (λ k. k ∷ d ∷ s) heads.0 ∙ ap (λ t. (n % 128 + 128) ∷ t) rest.0, omega (arith, heads.0, rest.1))

    pick : (t : Bool) → nat_lt n 128 ≡ t → (b ∷ s) ++ x ≡ cond t (n ∷ []) ((n % 128 + 128) ∷ groups more (n / 128)) ++ y
        → ((m : ℕ) (t : List ℕ) → IsContinued t → length t ≤ suc more → t ++ x ≡ groups more m ++ y → (t ≡ groups more m) × (seven_bits t ≡ m)) → (b ∷ s ≡ cond t (n ∷ []) ((n % 128 + 128) ∷ groups more (n / 128))) × (seven_bits (b ∷ s) ≡ n)
    pick true is e again = small (ltb-true n 128 is) s c e
    pick false is e again = large s c h e again

seven_short : (s : List ℕ) → length s ≤ 5 → seven_bits s < 2 ^ 35
seven_short [] h = omega arith
seven_short (a ∷ []) h = omega arith
seven_short (a ∷ b ∷ []) h = omega arith
seven_short (a ∷ b ∷ c ∷ []) h = omega arith
seven_short (a ∷ b ∷ c ∷ d ∷ []) h = omega arith
seven_short (a ∷ b ∷ c ∷ d ∷ e ∷ []) h = omega arith
seven_short (a ∷ b ∷ c ∷ d ∷ e ∷ f ∷ s) h = absurd (omega (arith, h))

-- a tag or a length, which is short, is the number itself
pub short_cut : (s : List ℕ) (v n : ℕ) (x y : List ℕ) → Varint s 5 v → s ++ x ≡ varint_of n ++ y → (v ≡ n) × (x ≡ y)
short_cut s v n x y p e =
    let cut = groups_cut 9 n s x y p.continued (omega (arith, p.most_bytes)) e in
    let below = seven_short s p.most_bytes in
    (omega (arith, p.value, cut.1, below), same_front (varint_of n) x y (ap (λ t. t ++ x) (sym cut.0) ∙ e))

pub long_cut : (s : List ℕ) (v n : ℕ) (x y : List ℕ) → Varint s value_bytes v → s ++ x ≡ varint_of n ++ y → (s ≡ varint_of n) × (x ≡ y)
long_cut s v n x y p e =
    let cut = groups_cut 9 n s x y p.continued (omega (arith, p.most_bytes)) e in
    (cut.0, same_front (varint_of n) x y (ap (λ t. t ++ x) (sym cut.0) ∙ e))

some_groups : (more n : ℕ) (x : List ℕ) → groups more n ++ x ≢ []
some_groups zero n x e = cc
some_groups (suc more) n x e = pick (nat_lt n 128) e
  where
    pick : (t : Bool) → cond t (n ∷ []) ((n % 128 + 128) ∷ groups more (n / 128)) ++ x ≡ [] → ⊥
    pick true e = cc
    pick false e = cc

-- PAYLOADS

pub length_low : (n v : ℕ) → length (low_first n v) ≡ n
length_low zero v = refl
length_low (suc n) v = ap suc (length_low n (v / 256))

-- of a record whose payload is written as this, the payload, and what is behind
abbrev pub CutTo : (List ℕ → Type 0) → ℕ → ℕ → List ℕ → List ℕ → Type 0
CutTo A number wire body payload = (own behind x y : List ℕ) → Spells A number wire own behind → behind ++ x ≡ body ++ y → (own ≡ payload) × (x ≡ y)

number_cut : (A : List ℕ → Type 0) (number wire v : ℕ) → wire ≢ 2 → wire ≢ 3 → CutTo A number wire (number_text wire v) (number_text wire v)
number_cut A number zero v two three own behind x y p e = long_cut own p.0 v x y p.1 (ap (λ t. t ++ x) (sym p.2) ∙ e)
number_cut A number (suc zero) v two three own behind x y p e = same_fronts own (low_first 8 v) x y (p.0 ∙ sym (length_low 8 v)) (ap (λ t. t ++ x) (sym p.1) ∙ e)
number_cut A number (suc (suc zero)) v two three own behind x y p e = absurd (two refl)
number_cut A number (suc (suc (suc zero))) v two three own behind x y p e = absurd (three refl)
number_cut A number (suc (suc (suc (suc zero)))) v two three own behind x y p e = absurd p
number_cut A number (suc (suc (suc (suc (suc zero))))) v two three own behind x y p e = same_fronts own (low_first 4 v) x y (p.0 ∙ sym (length_low 4 v)) (ap (λ t. t ++ x) (sym p.1) ∙ e)
number_cut A number (suc (suc (suc (suc (suc (suc wire)))))) v two three own behind x y p e = absurd p

pub framed_cut : (A : List ℕ → Type 0) (number : ℕ) (payload : List ℕ) → CutTo A number 2 (framed payload) payload
framed_cut A number payload own behind x y p e =
    let all : p.0 ++ (own ++ x) ≡ varint_of (length payload) ++ (payload ++ y) =
    sym (append_assoc p.0 own x) ∙ (ap (λ t. t ++ x) (sym p.3) ∙ (e ∙ append_assoc (varint_of (length payload)) payload y)) in
    let len = short_cut p.0 (length own) (length payload) (own ++ x) (payload ++ y) p.1 all in
    same_fronts own payload x y len.0 len.1

pub spelled_cut : (A : List ℕ → Type 0) (number : ℕ) (type : ValueType) (v : ℕ) → ScalarFacts type → IsPatternOf type v → CutTo A number (value_wire type) (spelled_text type v) (spelled_text type v)
spelled_cut A number (Scalar coding) v facts p = number_cut A number coding.wire (coding.spelled v) facts.0 facts.1
spelled_cut A number Characters v facts p = absurd p
spelled_cut A number Octets v facts p = absurd p
spelled_cut A number (Nested type_no) v facts p = absurd p

pub string_cut : (A : List ℕ → Type 0) (number : ℕ) (type : ValueType) (s : List ℕ) → IsStringOf type s → CutTo A number (value_wire type) (framed s) s
string_cut A number (Scalar coding) s p = absurd p
string_cut A number Characters s p = framed_cut A number s
string_cut A number Octets s p = framed_cut A number s
string_cut A number (Nested type_no) s p = absurd p

pub nested_cut : (A : List ℕ → Type 0) (number : ℕ) (type : ValueType) (Fits : List FieldType → Type 0) (schema : Schema) (s : List ℕ) → IsNestedOf Fits schema type → CutTo A number (value_wire type) (framed s) s
nested_cut A number (Scalar coding) Fits schema s p = absurd p
nested_cut A number Characters Fits schema s p = absurd p
nested_cut A number Octets Fits schema s p = absurd p
nested_cut A number (Nested type_no) Fits schema s p = framed_cut A number s

-- RECORDS

-- a record of this number and wire type with this payload
pub record IsThis (number wire : ℕ) (payload : List ℕ) (r : Record) : Type 0 where
  pub number_is : r.number ≡ number
  pub wire_is : r.wire ≡ wire
  pub payload_is : r.payload ≡ payload

-- the record at the front of records is the one that is written there, and the others are behind it
pub record HeadCut (A : List ℕ → Type 0) (number wire : ℕ) (payload y : List ℕ) (rs : List Record) : Type 0 where
  pub r : Record
  pub rest : List Record
  pub are : rs ≡ r ∷ rest
  pub is : IsThis number wire payload r
  pub behind : Spans A rest y

pub head_cut : (A : List ℕ → Type 0) (number wire : ℕ) (body payload y : List ℕ) (rs : List Record) → wire ≤ 5 → CutTo A number wire body payload → Spans A rs ((varint_of (tag_of number wire) ++ body) ++ y) → HeadCut A number wire payload y rs
head_cut A number wire body payload y [] h cut are = absurd (some_groups 9 (tag_of number wire) (body ++ y) (sym (append_assoc (varint_of (tag_of number wire)) body y) ∙ are))
head_cut A number wire body payload y (r ∷ rs) h cut are =
    let is = are.1 in
    let tag = is.0 in
    let all : tag ++ (is.1 ++ are.0) ≡ varint_of (tag_of number wire) ++ (body ++ y) =
    sym (append_assoc tag is.1 are.0) ∙ (ap (λ t. t ++ are.0) (sym is.4) ∙ (sym are.2 ∙ append_assoc (varint_of (tag_of number wire)) body y)) in
    let first = short_cut tag (tag_of r.number r.wire) (tag_of number wire) (is.1 ++ are.0) (body ++ y) is.2.varint all in
    let number_is : r.number ≡ number = omega (arith, first.0, is.2.wire_type, h) in
    let wire_is : r.wire ≡ wire = omega (arith, first.0, is.2.wire_type, h) in
    let spells = subst (λ w. Spells A number w r.payload is.1) wire_is (subst (λ n. Spells A n r.wire r.payload is.1) number_is is.3) in
    let found = cut r.payload is.1 are.0 y spells first.1 in
    record { r = r; rest = rs; are = refl; is = record { number_is = number_is; wire_is = wire_is; payload_is = found.0 }; behind = subst (Spans A rs) found.1 are.3 }

-- FIELDS

-- the payload of the record that a value of this type is written as
abbrev pub payload_by : Schema → ValueType → Value → List ℕ
payload_by schema type (Number p) = spelled_text type p
payload_by schema type (Bytes s) = s
payload_by schema type (Sub t) = message_text schema (fields_of_value schema type) t

abbrev pub OfValue : Schema → FieldType → Value → Record → Type 0
OfValue schema field value r = IsThis field.number (wire_of field) (payload_by schema (value_type_of field.kind) value) r

abbrev pub OfList : Schema → FieldType → ValueList → List Record → Type 0
OfList schema field NoValues rs = rs ≡ []
OfList schema field (ValueAnd value values) rs = (r : Record) × (rest : List Record) × (rs ≡ r ∷ rest) × OfValue schema field value r × OfList schema field values rest

abbrev pub OfPacked : FieldType → List ℕ → List Record → Type 0
OfPacked field [] rs = rs ≡ []
OfPacked field (b ∷ s) rs = (r : Record) × (rs ≡ r ∷ []) × IsThis field.number 2 (b ∷ s) r

abbrev pub OfMany : Schema → FieldType → ValueList → List Record → Bool → Type 0
OfMany schema field values rs packed = elim packed as (λ _. Type 0) [ true ↦ OfPacked field (values_text schema field [] values) rs | false ↦ OfList schema field values rs ]

-- the records that are written for what a field holds
abbrev pub OfHeld : Schema → FieldType → Held → List Record → Type 0
OfHeld schema field Nothing rs = rs ≡ []
OfHeld schema field (One value) rs = (r : Record) × (rs ≡ r ∷ []) × OfValue schema field value r
OfHeld schema field (Many values) rs = OfMany schema field values rs (is_packed field.card)

pub wire_small : (kind : Kind) → value_wire (value_type_of kind) ≤ 5
wire_small kinds.Text = omega arith
wire_small _ = omega arith

value_cut : (A : List ℕ → Type 0) (schema : Schema) (field : FieldType) (value : Value) → ValueFits schema field value → CutTo A field.number (wire_of field) (value_text schema field value) (payload_by schema (value_type_of field.kind) value)
value_cut A schema field (Number p) fits = spelled_cut A field.number (value_type_of field.kind) p (scalar_facts field.kind) fits
value_cut A schema field (Bytes s) fits = string_cut A field.number (value_type_of field.kind) s fits
value_cut A schema field (Sub t) fits = nested_cut A field.number (value_type_of field.kind) (λ fields. MessageFits schema fields t) schema (message_text schema (nested_fields schema field) t) fits

list_cut : (A : List ℕ → Type 0) (schema : Schema) (field : FieldType) (values : ValueList) → ValuesFit schema field values → (y : List ℕ) (rs : List Record) → Spans A rs (values_text schema field (field_tag field) values ++ y)
    → (mine : List Record) × (rest : List Record) × (rs ≡ mine ++ rest) × OfList schema field values mine × Spans A rest y
list_cut A schema field NoValues fits y rs are = ([], rs, refl, refl, are)
list_cut A schema field (ValueAnd value values) fits y rs are =
    let text = value_text schema field value in
    let more = values_text schema field (field_tag field) values in
    let head = head_cut A field.number (wire_of field) text (payload_by schema (value_type_of field.kind) value) (more ++ y) rs (wire_small field.kind) (value_cut A schema field value fits.0)
    (subst (Spans A rs) (append_assoc (field_tag field ++ text) more y) are) in
    let behind = list_cut A schema field values fits.1 y head.rest head.behind in
    (head.r ∷ behind.0, behind.1, head.are ∙ ap (λ qs. head.r ∷ qs) behind.2, (head.r, behind.0, refl, head.is, behind.3), behind.4)

packed_cut : (A : List ℕ → Type 0) (field : FieldType) (s y : List ℕ) (rs : List Record) → Spans A rs (packed_text field.number s ++ y) → (mine : List Record) × (rest : List Record) × (rs ≡ mine ++ rest) × OfPacked field s mine × Spans A rest y
packed_cut A field [] y rs are = ([], rs, refl, refl, are)
packed_cut A field (b ∷ s) y rs are =
    let head = head_cut A field.number 2 (framed (b ∷ s)) (b ∷ s) y rs (omega arith) (framed_cut A field.number (b ∷ s)) are in
    (head.r ∷ [], head.rest, head.are, (head.r, refl, head.is), head.behind)

held_cut : (A : List ℕ → Type 0) (schema : Schema) (field : FieldType) (held : Held) → HeldFits schema field held → (y : List ℕ) (rs : List Record) → Spans A rs (held_text schema field held ++ y)
    → (mine : List Record) × (rest : List Record) × (rs ≡ mine ++ rest) × OfHeld schema field held mine × Spans A rest y
held_cut A schema field Nothing fits y rs are = ([], rs, refl, refl, are)
held_cut A schema field (One value) fits y rs are =
    let head = head_cut A field.number (wire_of field) (value_text schema field value) (payload_by schema (value_type_of field.kind) value) y rs (wire_small field.kind) (value_cut A schema field value fits) are in
    (head.r ∷ [], head.rest, head.are, (head.r, refl, head.is), head.behind)
held_cut A schema field (Many values) fits y rs are = pick (is_packed field.card) are
  where
    pick : (packed : Bool) → Spans A rs (elim packed [ true ↦ packed_text field.number (values_text schema field [] values) | false ↦ values_text schema field (field_tag field) values ] ++ y)
        → (mine : List Record) × (rest : List Record) × (rs ≡ mine ++ rest) × OfMany schema field values mine packed × Spans A rest y
    pick true are = packed_cut A field (values_text schema field [] values) y rs are
    pick false are = list_cut A schema field values fits y rs are

-- MESSAGES

-- the records of a text: those of each field, in order, and then those that no field takes, which are these bytes
abbrev pub Parts : Schema → List FieldType → List ℕ → List FieldType → HeldList → List Record → Type 0
Parts schema all unknown [] NoFields rs = NoneTaken schema all rs × (flat_map (λ r. r.span) rs ≡ unknown)
Parts schema all unknown [] (FieldAnd held rest) rs = ⊥
Parts schema all unknown (field ∷ fields) NoFields rs = ⊥
Parts schema all unknown (field ∷ fields) (FieldAnd held more) rs = (mine : List Record) × (rest : List Record) × (rs ≡ mine ++ rest) × OfHeld schema field held mine × Parts schema all unknown fields more rest

spans_text : (A : List ℕ → Type 0) (rs : List Record) (s : List ℕ) → Spans A rs s → flat_map (λ r. r.span) rs ≡ s
spans_text A [] s are = sym are
spans_text A (r ∷ rs) s are = ap (λ t. r.span ++ t) (spans_text A rs are.0 are.3) ∙ sym are.2

pub parts_cut : (schema : Schema) (left : ℕ) (all : List FieldType) (unknown : List ℕ) → IsUnknown schema all unknown → (fields : List FieldType) (held : HeldList) → FieldsFit schema fields held → (rs : List Record) → RecordsWithin left (fields_text schema fields held ++ unknown) rs → Parts schema all unknown fields held rs
parts_cut schema left all unknown none [] NoFields fits rs are =
    let same : none.0 ≡ rs = one_list_of_records unknown none.0 rs (most_levels, none.1) (left, are) in
    (subst (NoneTaken schema all) same none.2, spans_text (AreRecords left) rs unknown are)
parts_cut schema left all unknown none [] (FieldAnd held rest) fits rs are = absurd fits
parts_cut schema left all unknown none (field ∷ fields) NoFields fits rs are = absurd fits
parts_cut schema left all unknown none (field ∷ fields) (FieldAnd held rest) fits rs are =
    let first = held_text schema field held in
    let more = fields_text schema fields rest in
    let cut = held_cut (AreRecords left) schema field held fits.1 (more ++ unknown) rs (subst (Spans (AreRecords left) rs) (append_assoc first more unknown) are) in
    (cut.0, cut.1, cut.2, cut.3, parts_cut schema left all unknown none fields rest fits.3 cut.1 cut.4)
