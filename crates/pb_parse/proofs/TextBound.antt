-- The text of a message gets longer by at most twenty bytes for each byte that is read into it: a record has a byte more than its payload, a tag or a prefix at most ten bytes, and each byte of numbers stands for one number at most. So the text of a decoded message has at most twenty times the bytes of its payload.
use Rattle.std.proofs.Common.{◌≡◌, ℕ, zero, suc, ◌+◌, ◌-◌, ◌*◌, ◌≤◌, List, [], ◌∷◌, ◌++◌, length, map, take, Bool, true, false, cond, ◌||◌, Option, None, Some, refl, sym, ap, ◌∙◌, subst, ⊎_elim, arith, length-append}
use Rattle.std.specs.List.{fold, concat}
use Rattle.std.proofs.lemmas.Bool.{or_parts}
use Rattle.pb_schema.specs.declared.kind.Card.{Card}
use Rattle.pb_schema.specs.declared.kind.Card.TheVariants as cards
use Rattle.pb_schema.specs.declared.kind.FieldType.{FieldType}
use Rattle.pb_schema.specs.declared.schema.Schema.{Schema}
use Rattle.pb_schema.specs.Varint.{IsContinued, varint_of}
use Rattle.pb_schema.specs.Tag.{tag_of}
use Rattle.pb_schema.specs.Reads.{value_read}
use Rattle.pb_schema.specs.Kinds.{Coding, ValueType, Scalar, Characters, Octets, Nested, value_type_of, value_wire, is_number}
use Rattle.pb_schema.specs.Cards.{is_packed}
use Rattle.pb_schema.specs.Fits.{fields_of, fields_of_value, nested_fields, wire_of, takes, is_taken}
use Rattle.pb_schema.specs.Form.{read_scalar}
use Rattle.pb_schema.specs.Broken.{most_levels}
use Rattle.pb_schema.specs.Lawful.{Lawful, NumbersAscend}
use Rattle.pb_schema.specs.Records.{Record, Spells, IsRecord, AreRecords, RecordsWithin, records_within}
use Rattle.pb_schema.specs.Tree.{Held, Nothing, One, Many, Number, Bytes, Sub, Tree, Message, ValueList, NoValues, ValueAnd, HeldList, NoFields, FieldAnd, value_list, held_list, held_map, fields_map, tree_map}
use Rattle.pb_schema.specs.Empty.{unset, empty_with}
use Rattle.pb_schema.specs.Merge.{joined}
use Rattle.pb_schema.specs.Text.{framed, number_text, spelled_text, packed_text, field_tag, value_text, held_text, values_text, fields_text, message_text, text_of}
use Rattle.pb_schema.specs.TreeOf.{pattern_in, elements_from, values_by, values_in, unless_default, is_of_oneof, unknown_in, unknown_of, or_none, records_in, tree_of}
use Rattle.pb_schema.specs.ShapeOf.{shape_of}
use Rattle.pb_schema.specs.Put.{Onto, nest_onto, message_or, single_put, values_held, taken_put, other_put, held_put, fields_put, put, read_into, tree_read}
use Rattle.pb_schema.proofs.Steps.{length-varint_of}
use Rattle.pb_schema.proofs.TextCuts.{length_low}
use Rattle.pb_schema.proofs.FitsLaws.{taken_by}
use Rattle.pb_schema.proofs.FittedLaws.{AllAscend, all_ascend}
use Rattle.pb_schema.proofs.RecordsFront.{records_found}
use Rattle.pb_schema.proofs.ShapeLaws.{shape_one}
use Rattle.pb_schema.proofs.PutLaws.{shape_none, shape_more, shape_read_joined}
use Rattle.pb_parse.proofs.FieldFound.{taken_number, none_above}

-- PARTS OF A TEXT

number_short : (wire v : ℕ) → length (number_text wire v) ≤ 10
number_short zero v = length-varint_of v
number_short (suc zero) v = omega (arith, length_low 8 v)
number_short (suc (suc wire)) v = omega (arith, length_low 4 v)

spelled_short : (type : ValueType) (p : ℕ) → length (spelled_text type p) ≤ 10
spelled_short (Scalar coding) p = number_short coding.wire (coding.spelled p)
spelled_short Characters p = omega arith
spelled_short Octets p = omega arith
spelled_short (Nested type_no) p = omega arith

tag_short : (field : FieldType) → length (field_tag field) ≤ 10
tag_short field = length-varint_of (tag_of field.number (wire_of field))

framed_size : (s : List ℕ) → (length s ≤ length (framed s)) × (length (framed s) ≤ length s + 10)
framed_size s =
    let prefix = length-varint_of (length s) in
    let both = length-append (varint_of (length s)) s in
    (omega (arith, both), omega (arith, prefix, both))

packed_size : (number : ℕ) (s : List ℕ) → (length s ≤ length (packed_text number s)) × (length (packed_text number s) ≤ length s + 20)
packed_size number [] = (omega arith, omega arith)
packed_size number (b ∷ s) =
    let tag = length-varint_of (tag_of number 2) in
    let body = framed_size (b ∷ s) in
    let both = length-append (varint_of (tag_of number 2)) (framed (b ∷ s)) in
    (omega (arith, body.0, both), omega (arith, tag, body.1, both))

-- one value more in a list
list_size : (front text more : List ℕ) → length ((front ++ text) ++ more) ≡ length front + length text + length more
list_size front text more = omega (arith, length-append (front ++ text) more, length-append front text)

values_joined : (schema : Schema) (field : FieldType) (front : List ℕ) (a b : ValueList)
    → length (values_text schema field front (joined a b)) ≡ length (values_text schema field front a) + length (values_text schema field front b)
values_joined schema field front NoValues b = omega arith
values_joined schema field front (ValueAnd value values) b =
    let text = value_text schema field value in
    omega (arith, values_joined schema field front values b, list_size front text (values_text schema field front (joined values b)), list_size front text (values_text schema field front values))

-- what a list is written as, in one record or in many
abbrev many_text : Schema → FieldType → Bool → ValueList → List ℕ
many_text schema field packed values = elim packed [
  | true ↦ packed_text field.number (values_text schema field [] values)
  | false ↦ values_text schema field (field_tag field) values
]

no_values : (schema : Schema) (field : FieldType) (packed : Bool) → length (many_text schema field packed NoValues) ≡ 0
no_values schema field true = refl
no_values schema field false = refl

-- THE EMPTY MESSAGE

unset_text : (schema : Schema) (field : FieldType) (card : Card) → length (held_text schema field (unset card)) ≡ 0
unset_text schema field cards.Implicit = refl
unset_text schema field cards.Explicit = refl
unset_text schema field (cards.Member oneof) = refl
unset_text schema field (cards.Repeated packed) = no_values schema field (is_packed field.card)

unset_texts : (schema : Schema) (fields : List FieldType) → length (fields_text schema fields (held_list (map (λ field. unset field.card) fields))) ≡ 0
unset_texts schema [] = refl
unset_texts schema (field ∷ fields) =
    let head = held_text schema field (unset field.card) in
    let more = fields_text schema fields (held_list (map (λ field. unset field.card) fields)) in
    omega (arith, length-append head more, unset_text schema field field.card, unset_texts schema fields)

empty_text : (schema : Schema) (fields : List FieldType) → length (message_text schema fields (empty_with [] fields)) ≡ 0
empty_text schema fields =
    omega (arith, length-append (fields_text schema fields (held_list (map (λ field. unset field.card) fields))) [], unset_texts schema fields)

unset_map : (card : Card) → held_map concat (unset card) ≡ unset card
unset_map cards.Implicit = refl
unset_map cards.Explicit = refl
unset_map (cards.Member oneof) = refl
unset_map (cards.Repeated packed) = refl

unsets_map : (fields : List FieldType) → fields_map concat (held_list (map (λ field. unset field.card) fields)) ≡ held_list (map (λ field. unset field.card) fields)
unsets_map [] = refl
unsets_map (field ∷ fields) =
    ap (λ held. FieldAnd held (fields_map concat (held_list (map (λ x. unset x.card) fields)))) (unset_map field.card)
    ∙ ap (FieldAnd (unset field.card)) (unsets_map fields)

empty_map : (fields : List FieldType) → tree_map concat (empty_with [] fields) ≡ empty_with [] fields
empty_map fields = ap (λ held. Message held []) (unsets_map fields)

-- A RECORD'S BYTES

-- a record has more bytes than its payload, and where a length stands in front of that one more
record Roomy (r : Record) : Type 0 where
  pub tagged : 1 + length r.payload ≤ length r.span
  pub counted : r.wire ≡ 2 → 2 + length r.payload ≤ length r.span

some_continued : (s : List ℕ) → IsContinued s → 1 ≤ length s
some_continued [] c = absurd c
some_continued (b ∷ s) c = omega arith

spells_room : (A : List ℕ → Type 0) (number wire : ℕ) (payload s : List ℕ) → Spells A number wire payload s → length payload ≤ length s
spells_room A number zero payload s p = omega (arith, ap length p.2)
spells_room A number (suc zero) payload s p = omega (arith, ap length p.1)
spells_room A number (suc (suc zero)) payload s p = omega (arith, ap length p.3, length-append p.0 payload)
spells_room A number (suc (suc (suc zero))) payload s p = omega (arith, ap length p.3, length-append payload p.0)
spells_room A number (suc (suc (suc (suc zero)))) payload s p = absurd p
spells_room A number (suc (suc (suc (suc (suc zero))))) payload s p = omega (arith, ap length p.1)
spells_room A number (suc (suc (suc (suc (suc (suc wire)))))) payload s p = absurd p

spells_counted : (A : List ℕ → Type 0) (number : ℕ) (payload s : List ℕ) → Spells A number 2 payload s → 1 + length payload ≤ length s
spells_counted A number payload s p = omega (arith, ap length p.3, length-append p.0 payload, some_continued p.0 p.1.continued)

roomy : (A : List ℕ → Type 0) (r : Record) → IsRecord A r → Roomy r
roomy A r p =
    let some = some_continued p.0 p.2.varint.continued in
    let size = ap length p.4 ∙ length-append p.0 p.1 in
    record {
      tagged = omega (arith, some, size, spells_room A r.number r.wire r.payload p.1 p.3);
      counted =
          λ two. omega (arith, some, size, spells_counted A r.number r.payload p.1 (subst (λ w. Spells A r.number w r.payload p.1) two p.3));
    }

-- a field of anything but numbers takes records with a length
wire_two : (schema : Schema) (field : FieldType) (r : Record) → takes schema field r ≡ true → (type : ValueType) → value_type_of field.kind ≡ type → is_number type ≡ false → r.wire ≡ 2
wire_two schema field r e (Scalar coding) is plain = absurd (cc)
wire_two schema field r e Characters is plain = ⊎_elim (λ (p : r.wire ≡ wire_of field). p ∙ ap value_wire is) (λ p. p.0) (taken_by schema field r e).wire
wire_two schema field r e Octets is plain = ⊎_elim (λ (p : r.wire ≡ wire_of field). p ∙ ap value_wire is) (λ p. p.0) (taken_by schema field r e).wire
wire_two schema field r e (Nested type_no) is plain = ⊎_elim (λ (p : r.wire ≡ wire_of field). p ∙ ap value_wire is) (λ p. p.0) (taken_by schema field r e).wire

-- ONE VALUE

-- the text of a message gets longer by at most twenty bytes for each byte that is read into it
abbrev Bounded : Schema → Onto (List ℕ) → Type 0
Bounded schema onto = (type_no : ℕ) (t : Tree) (s : List ℕ)
    → length (message_text schema (fields_of schema type_no) (onto type_no t s)) ≤ length (message_text schema (fields_of schema type_no) t) + 20 * length s

-- the message that a field holds, or else the empty one, is no longer than what is written for the field
message_within : (schema : Schema) (field : FieldType) (type_no : ℕ) → nested_fields schema field ≡ fields_of schema type_no → (held : Held)
    → length (message_text schema (fields_of schema type_no) (message_or (empty_with [] (fields_of schema type_no)) held)) ≤ length (held_text schema field held)
message_within schema field type_no e Nothing = omega (arith, empty_text schema (fields_of schema type_no))
message_within schema field type_no e (One (Number p)) = omega (arith, empty_text schema (fields_of schema type_no))
message_within schema field type_no e (One (Bytes s)) = omega (arith, empty_text schema (fields_of schema type_no))
message_within schema field type_no e (One (Sub t)) =
    let text = message_text schema (nested_fields schema field) t in
    omega (arith, ap (λ fields. length (message_text schema fields t)) e, (framed_size text).0, length-append (field_tag field) (framed text))
message_within schema field type_no e (Many list) = omega (arith, empty_text schema (fields_of schema type_no))

single_grows : (schema : Schema) (onto : Onto (List ℕ)) → Bounded schema onto → (field : FieldType) (r : Record) → Roomy r → (type : ValueType) → value_type_of field.kind ≡ type → (held : Held)
    → length (held_text schema field (single_put schema [] onto type held r)) ≤ length (held_text schema field held) + 20 * length r.span
single_grows schema onto bounded field r room (Scalar coding) is held =
    let text = spelled_text (value_type_of field.kind) (pattern_in coding r.payload) in
    omega (arith, room.tagged, tag_short field, spelled_short (value_type_of field.kind) (pattern_in coding r.payload), length-append (field_tag field) text)
single_grows schema onto bounded field r room Characters is held =
    omega (arith, room.tagged, tag_short field, (framed_size r.payload).1, length-append (field_tag field) (framed r.payload))
single_grows schema onto bounded field r room Octets is held =
    omega (arith, room.tagged, tag_short field, (framed_size r.payload).1, length-append (field_tag field) (framed r.payload))
single_grows schema onto bounded field r room (Nested type_no) is held =
    let there = message_or (empty_with [] (fields_of schema type_no)) held in
    let now = onto type_no there r.payload in
    let text = message_text schema (nested_fields schema field) now in
    let same = ap (fields_of_value schema) is in
    omega (arith, room.tagged, tag_short field, (framed_size text).1, length-append (field_tag field) (framed text), ap (λ fields. length (message_text schema fields now)) same, bounded type_no there r.payload, message_within schema field type_no same held)

-- LISTS

-- a byte is of one number at most
elements_few : (wire skip : ℕ) (s : List ℕ) → length (elements_from wire skip s) ≤ length s
elements_few wire skip [] = omega arith
elements_few wire (suc skip) (b ∷ s) = omega (arith, elements_few wire skip s)
elements_few wire zero (b ∷ s) = pick (λ k. elements_few wire k s) (value_read (read_scalar wire 0 (b ∷ s)))
  where
    pick : ((k : ℕ) → length (elements_from wire k s) ≤ length s) → (o : Option ℕ) → length (elim o as (λ _. List (List ℕ)) [ None ↦ [] | Some n ↦ take n (b ∷ s) ∷ elements_from wire (n - 1) s ]) ≤ suc (length s)
    pick more None = omega arith
    pick more (Some n) = omega (arith, more (n - 1))

numbers_size : (schema : Schema) (field : FieldType) (front : List ℕ) → length front ≤ 10 → (coding : Coding) (xs : List (List ℕ))
    → length (values_text schema field front (value_list (map (λ s. Number (pattern_in coding s)) xs))) ≤ 20 * length xs
numbers_size schema field front short coding [] = omega arith
numbers_size schema field front short coding (x ∷ xs) =
    let text = spelled_text (value_type_of field.kind) (pattern_in coding x) in
    let more = values_text schema field front (value_list (map (λ s. Number (pattern_in coding s)) xs)) in
    omega (arith, short, spelled_short (value_type_of field.kind) (pattern_in coding x), list_size front text more, numbers_size schema field front short coding xs)

-- what the values of a record add to a list, with twenty bytes to spare for a tag and a prefix
abbrev Adds : Schema → FieldType → Record → ValueList → Type 0
Adds schema field r values = (front : List ℕ) → length front ≤ 10 → length (values_text schema field front values) + 20 ≤ 20 * length r.span + length front

values_add : (schema : Schema) (onto : Onto (List ℕ)) → Bounded schema onto → (field : FieldType) (r : Record) → Roomy r → (type : ValueType) → value_type_of field.kind ≡ type → (is_number type ≡ false → r.wire ≡ 2)
    → Adds schema field r (value_list (values_by (nest_onto schema [] onto) type r))
values_add schema onto bounded field r room (Scalar coding) is two front short =
    let xs = elements_from coding.wire 0 r.payload in
    omega (arith, room.tagged, numbers_size schema field front short coding xs, elements_few coding.wire 0 r.payload)
values_add schema onto bounded field r room Characters is two front short =
    omega (arith, room.counted (two refl), (framed_size r.payload).1, list_size front (framed r.payload) [])
values_add schema onto bounded field r room Octets is two front short =
    omega (arith, room.counted (two refl), (framed_size r.payload).1, list_size front (framed r.payload) [])
values_add schema onto bounded field r room (Nested type_no) is two front short =
    let fields = fields_of schema type_no in
    let now = onto type_no (empty_with [] fields) r.payload in
    let text = message_text schema (nested_fields schema field) now in
    omega (arith, room.counted (two refl), (framed_size text).1, list_size front (framed text) [], ap (λ fs. length (message_text schema fs now)) (ap (fields_of_value schema) is), bounded type_no (empty_with [] fields) r.payload, empty_text schema fields)

many_grows : (schema : Schema) (field : FieldType) (r : Record) (packed : Bool) (old added : ValueList) → Adds schema field r added
    → length (many_text schema field packed (joined old added)) ≤ length (many_text schema field packed old) + 20 * length r.span
many_grows schema field r true old added adds =
    let whole = values_text schema field [] (joined old added) in
    omega (arith, (packed_size field.number whole).1, (packed_size field.number (values_text schema field [] old)).0, values_joined schema field [] old added, adds [] (omega arith))
many_grows schema field r false old added adds =
    omega (arith, values_joined schema field (field_tag field) old added, adds (field_tag field) (tag_short field), tag_short field)

list_grows : (schema : Schema) (field : FieldType) (r : Record) (held : Held) (added : ValueList) → Adds schema field r added
    → length (held_text schema field (Many (joined (values_held held) added))) ≤ length (held_text schema field held) + 20 * length r.span
list_grows schema field r Nothing added adds =
    omega (arith, many_grows schema field r (is_packed field.card) NoValues added adds, no_values schema field (is_packed field.card))
list_grows schema field r (One value) added adds =
    omega (arith, many_grows schema field r (is_packed field.card) NoValues added adds, no_values schema field (is_packed field.card))
list_grows schema field r (Many values) added adds = many_grows schema field r (is_packed field.card) values added adds

-- ONE FIELD

default_shorter : (schema : Schema) (field : FieldType) (held : Held) → length (held_text schema field (unless_default held)) ≤ length (held_text schema field held)
default_shorter schema field Nothing = omega arith
default_shorter schema field (One (Number zero)) = omega arith
default_shorter schema field (One (Number (suc n))) = omega arith
default_shorter schema field (One (Bytes [])) = omega arith
default_shorter schema field (One (Bytes (b ∷ s))) = omega arith
default_shorter schema field (One (Sub t)) = omega arith
default_shorter schema field (Many list) = omega arith

taken_grows : (schema : Schema) (onto : Onto (List ℕ)) → Bounded schema onto → (field : FieldType) (r : Record) → Roomy r → takes schema field r ≡ true → (held : Held) (card : Card)
    → length (held_text schema field (taken_put schema [] onto field held r card)) ≤ length (held_text schema field held) + 20 * length r.span
taken_grows schema onto bounded field r room e held cards.Implicit =
    let put_in = single_put schema [] onto (value_type_of field.kind) held r in
    omega (arith, default_shorter schema field put_in, single_grows schema onto bounded field r room (value_type_of field.kind) refl held)
taken_grows schema onto bounded field r room e held cards.Explicit = single_grows schema onto bounded field r room (value_type_of field.kind) refl held
taken_grows schema onto bounded field r room e held (cards.Member oneof) = single_grows schema onto bounded field r room (value_type_of field.kind) refl held
taken_grows schema onto bounded field r room e held (cards.Repeated packed) =
    let type = value_type_of field.kind in
    list_grows schema field r held (value_list (values_in schema (nest_onto schema [] onto) field r)) (values_add schema onto bounded field r room type refl (wire_two schema field r e type refl))

-- a field that doesn't take the record keeps what it holds, or holds nothing
other_shorter : (schema : Schema) (all : List FieldType) (field : FieldType) (r : Record) (held : Held) (card : Card) → length (held_text schema field (other_put schema all held r card)) ≤ length (held_text schema field held)
other_shorter schema all field r held cards.Implicit = omega arith
other_shorter schema all field r held cards.Explicit = omega arith
other_shorter schema all field r held (cards.Repeated packed) = omega arith
other_shorter schema all field r held (cards.Member oneof) = pick (is_of_oneof schema all oneof r)
  where
    pick : (t : Bool) → length (held_text schema field (elim t [ true ↦ Nothing | false ↦ held ])) ≤ length (held_text schema field held)
    pick true = omega arith
    pick false = omega arith

-- ALL FIELDS

-- what a field holds then, by whether it takes the record
abbrev put_by : Schema → Onto (List ℕ) → List FieldType → Record → FieldType → Held → Bool → Held
put_by schema onto all r field held t = elim t [ true ↦ taken_put schema [] onto field held r field.card | false ↦ other_put schema all held r field.card ]

fields_shorter : (schema : Schema) (onto : Onto (List ℕ)) (all : List FieldType) (r : Record) (fields : List FieldType) → is_taken schema fields r ≡ false → (held : HeldList)
    → length (fields_text schema fields (fields_put schema [] onto all r fields held)) ≤ length (fields_text schema fields held)
fields_shorter schema onto all r [] none NoFields = omega arith
fields_shorter schema onto all r [] none (FieldAnd held rest) = omega arith
fields_shorter schema onto all r (field ∷ fields) none NoFields = omega arith
fields_shorter schema onto all r (field ∷ fields) none (FieldAnd held rest) =
    let parts = or_parts (takes schema field r) (is_taken schema fields r) none in
    let now = fields_put schema [] onto all r fields rest in
    let same = ap (λ t. length (held_text schema field (put_by schema onto all r field held t))) parts.0 in
    omega (arith, same, other_shorter schema all field r held field.card, fields_shorter schema onto all r fields parts.1 rest, length-append (held_text schema field (held_put schema [] onto all r field held)) (fields_text schema fields now), length-append (held_text schema field held) (fields_text schema fields rest))

span_or_none : (b : Bool) (span : List ℕ) → length (cond b [] span) ≤ length span
span_or_none true span = omega arith
span_or_none false span = omega arith

-- of fields whose numbers ascend one at most takes the record, and where none does its bytes are unknown
fields_grow : (schema : Schema) (onto : Onto (List ℕ)) → Bounded schema onto → (all : List FieldType) (r : Record) → Roomy r → (least : ℕ) (fields : List FieldType) → NumbersAscend least fields → (held : HeldList)
    → length (fields_text schema fields (fields_put schema [] onto all r fields held)) + length (unknown_in schema fields r) ≤ length (fields_text schema fields held) + 20 * length r.span
fields_grow schema onto bounded all r room least [] ascend NoFields = omega arith
fields_grow schema onto bounded all r room least [] ascend (FieldAnd held rest) = omega arith
fields_grow schema onto bounded all r room least (field ∷ fields) ascend NoFields = omega (arith, span_or_none (is_taken schema (field ∷ fields) r) r.span)
fields_grow schema onto bounded all r room least (field ∷ fields) ascend (FieldAnd held rest) = pick (fields_grow schema onto bounded all r room (field.number + 1) fields ascend.2 rest) (takes schema field r) refl
  where
    before : length (held_text schema field held ++ fields_text schema fields rest) ≡ length (held_text schema field held) + length (fields_text schema fields rest)
    before = length-append (held_text schema field held) (fields_text schema fields rest)

    pick : length (fields_text schema fields (fields_put schema [] onto all r fields rest)) + length (unknown_in schema fields r) ≤ length (fields_text schema fields rest) + 20 * length r.span
        → (t : Bool) → takes schema field r ≡ t
        → length (held_text schema field (put_by schema onto all r field held t) ++ fields_text schema fields (fields_put schema [] onto all r fields rest)) + length (cond (t || is_taken schema fields r) [] r.span)
        ≤ length (held_text schema field held ++ fields_text schema fields rest) + 20 * length r.span
    pick more true e =
        let none = none_above schema r (field.number + 1) fields ascend.2 (omega (arith, taken_number schema field r e)) in
        omega (arith, before, taken_grows schema onto bounded field r room e held field.card, fields_shorter schema onto all r fields none rest, length-append (held_text schema field (taken_put schema [] onto field held r field.card)) (fields_text schema fields (fields_put schema [] onto all r fields rest)))
    pick more false e =
        omega (arith, before, more, other_shorter schema all field r held field.card, length-append (held_text schema field (other_put schema all held r field.card)) (fields_text schema fields (fields_put schema [] onto all r fields rest)))

-- PAYLOADS

records_grow : (schema : Schema) (onto : Onto (List ℕ)) → Bounded schema onto → (fields : List FieldType) → NumbersAscend 1 fields → (left : ℕ) (rs : List Record) (s : List ℕ) → RecordsWithin left s rs → (held : HeldList)
    → length (fields_text schema fields (fold (put schema [] onto fields) held rs)) + length (unknown_of schema fields rs) ≤ length (fields_text schema fields held) + 20 * length s
records_grow schema onto bounded fields ascend left [] s are held = omega arith
records_grow schema onto bounded fields ascend left (r ∷ rs) s are held =
    let room = roomy (AreRecords left) r are.1 in
    let step = fields_grow schema onto bounded fields r room 1 fields ascend held in
    let more = records_grow schema onto bounded fields ascend left rs are.0 are.3 (put schema [] onto fields held r) in
    omega (arith, step, more, ap length are.2, length-append r.span are.0, length-append (unknown_in schema fields r) (unknown_of schema fields rs))

-- a payload that isn't cut into records adds nothing
payload_grows : (schema : Schema) (onto : Onto (List ℕ)) → Bounded schema onto → (fields : List FieldType) → NumbersAscend 1 fields → (left : ℕ) (held : HeldList) (unknown s : List ℕ)
    → length (message_text schema fields (Message (fold (put schema [] onto fields) held (records_in left s)) (unknown ++ unknown_of schema fields (records_in left s))))
    ≤ length (message_text schema fields (Message held unknown)) + 20 * length s
payload_grows schema onto bounded fields ascend left held unknown s = pick (records_within left s) refl
  where
    pick : (o : Option (List Record)) → records_within left s ≡ o
        → length (fields_text schema fields (fold (put schema [] onto fields) held (or_none o)) ++ (unknown ++ unknown_of schema fields (or_none o))) ≤ length (fields_text schema fields held ++ unknown) + 20 * length s
    pick None e = omega (arith, length-append (fields_text schema fields held) (unknown ++ []), length-append unknown [], length-append (fields_text schema fields held) unknown)
    pick (Some rs) e =
        let grown = records_grow schema onto bounded fields ascend left rs s (records_found left rs s e) held in
        let more = unknown_of schema fields rs in
        let text = fields_text schema fields (fold (put schema [] onto fields) held rs) in
        omega (arith, grown, length-append text (unknown ++ more), length-append unknown more, length-append (fields_text schema fields held) unknown)

read_grows : (schema : Schema) → AllAscend schema → (left : ℕ) → Bounded schema (λ type_no t s. read_into (λ x y. x ++ y) [] schema left (fields_of schema type_no) t s)
read_grows schema ascend zero type_no (Message held unknown) s =
    payload_grows schema (λ type_no t inner. t) (λ type_no t inner. omega arith) (fields_of schema type_no) (ascend type_no) 0 held unknown s
read_grows schema ascend (suc left) type_no (Message held unknown) s =
    payload_grows schema (λ type_no t inner. read_into (λ x y. x ++ y) [] schema left (fields_of schema type_no) t inner) (λ type_no t inner. read_grows schema ascend left type_no t inner) (fields_of schema type_no) (ascend type_no) (suc left) held unknown s

-- MESSAGES

-- a tree is what its payload's records make of the empty message
tree_from_empty : (schema : Schema) (type_no : ℕ) (s : List ℕ) (t : Tree) → Lawful schema → tree_of schema type_no s ≡ Some t → tree_read schema type_no (empty_with [] (fields_of schema type_no)) s ≡ t
tree_from_empty schema type_no s t lawful e =
    let fields = fields_of schema type_no in
    ap (λ u. tree_read schema type_no u s) (sym (empty_map fields))
    ∙ (ap (λ shape. tree_read schema type_no (tree_map concat shape) s) (sym (shape_none schema most_levels fields))
    ∙ (sym (shape_read_joined schema type_no (shape_of schema type_no []) s)
    ∙ (ap (tree_map concat) (sym (shape_more schema most_levels fields [] s)) ∙ shape_one schema type_no s t lawful e)))

pub text_bounded : (schema : Schema) (type_no : ℕ) (s : List ℕ) (t : Tree) → Lawful schema → tree_of schema type_no s ≡ Some t → length (text_of schema type_no t) ≤ 20 * length s
text_bounded schema type_no s t lawful e =
    let fields = fields_of schema type_no in
    let grown = read_grows schema (all_ascend schema lawful) most_levels type_no (empty_with [] fields) s in
    let none = empty_text schema fields in
    subst (λ u. length (message_text schema fields u) ≤ 20 * length s) (tree_from_empty schema type_no s t lawful e) (omega (arith, grown, none))
