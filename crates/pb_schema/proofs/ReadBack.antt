-- What is written for a message that was decoded is read back: records that are put keep how deep messages and unknown groups nest, so that the text nests no deeper than the payload did.
use Rattle.std.proofs.Common.{◌≡◌, ℕ, zero, suc, ◌+◌, ◌^◌, ◌<◌, ◌≤◌, List, [], ◌∷◌, ◌++◌, length, map, Bool, true, false, cond, Some, refl, sym, ap, ◌∙◌, subst, arith, append-nil}
use Rattle.std.specs.Prelude.{IsSome}
use Rattle.std.specs.List.{fold, concat}
use Rattle.std.proofs.lemmas.Option.{same_Some}
use Rattle.pb_schema.specs.declared.kind.Card.{Card}
use Rattle.pb_schema.specs.declared.kind.Card.TheVariants as cards
use Rattle.pb_schema.specs.declared.kind.FieldType.{FieldType}
use Rattle.pb_schema.specs.declared.schema.Schema.{Schema}
use Rattle.pb_schema.specs.declared.wire_fault.WireKind.TheVariants.{TooDeep}
use Rattle.pb_schema.specs.Kinds.{Coding, ValueType, Scalar, Characters, Octets, Nested, value_type_of}
use Rattle.pb_schema.specs.Cards.{is_repeated}
use Rattle.pb_schema.specs.Fits.{takes, is_taken, fields_of}
use Rattle.pb_schema.specs.Broken.{most_levels}
use Rattle.pb_schema.specs.Records.{Record, AreRecords}
use Rattle.pb_schema.specs.Tree.{Number, Bytes, Sub, Held, Nothing, One, Many, Tree, Message, ValueList, NoValues, ValueAnd, HeldList, NoFields, FieldAnd, value_list, held_list}
use Rattle.pb_schema.specs.Empty.{unset, empty_with, empty}
use Rattle.pb_schema.specs.Merge.{joined}
use Rattle.pb_schema.specs.TreeOf.{pattern_in, elements_from, values_by, unless_default, is_of_oneof, unknown_in, unknown_of, records_in, tree_left, tree_of}
use Rattle.pb_schema.specs.Text.{text_of}
use Rattle.pb_schema.specs.Lawful.{NumbersAscend, Lawful}
use Rattle.pb_schema.specs.Put.{Onto, nest_onto, message_or, single_put, values_held, taken_put, other_put, held_put, fields_put, put, read_into, tree_read}
use Rattle.pb_schema.proofs.FormLaws.{not_ok}
use Rattle.pb_schema.proofs.Runs.{Each}
use Rattle.pb_schema.proofs.SoundRecords.{Sound, spans_join}
use Rattle.pb_schema.proofs.Gathering.{Own, owns, EachField, Base, taken, Fine}
use Rattle.pb_schema.proofs.FaultLaws.{no_fault_then, tree_there}
use Rattle.pb_schema.proofs.FittedLaws.{AllAscend, all_ascend, each_base, sound_records, fine_sound, no_fault_sound, sound_unbroken, decoded_fits}
use Rattle.pb_schema.proofs.MergeLaws.{merge_left}
use Rattle.pb_schema.proofs.PutLaws.{fields_none, tree_more}
use Rattle.pb_schema.proofs.PutText.{behind, FineBy, PacksNumbers}
use Rattle.pb_schema.proofs.AppendedText.{all_along, fine_by, appended_merges}
use Rattle.pb_schema.proofs.TextSound.{UnknownWithin, ValueWithin, HeldWithin, ValuesWithin, FieldsWithin, TreeWithin, Known, AllKnown, text_sound}

-- VALUES

joined_within : (left : ℕ) (xs ys : ValueList) → ValuesWithin left xs → ValuesWithin left ys → ValuesWithin left (joined xs ys)
joined_within left NoValues ys p q = q
joined_within left (ValueAnd x xs) ys p q = (p.0, joined_within left xs ys p.1 q)

numbers_within : (left : ℕ) (coding : Coding) (es : List (List ℕ)) → ValuesWithin left (value_list (map (λ s. Number (pattern_in coding s)) es))
numbers_within left coding [] = tt
numbers_within left coding (e ∷ es) = (tt, numbers_within left coding es)

-- what is known one level down
abbrev KeepsWithin : Schema → ℕ → Onto (List ℕ) → Type 0
KeepsWithin schema left onto = (type_no : ℕ) (held : Held) (s : List ℕ) → HeldWithin left held → Fine schema left type_no s → ValueWithin left (Sub (onto type_no (message_or (empty_with [] (fields_of schema type_no)) held) s))

single_within : (schema : Schema) (left : ℕ) (onto : Onto (List ℕ)) → KeepsWithin schema left onto → (type : ValueType) (held : Held) → HeldWithin left held → (r : Record) → FineBy schema left type r.payload → HeldWithin left (single_put schema [] onto type held r)
single_within schema left onto keeps (Scalar coding) held within r fine = tt
single_within schema left onto keeps Characters held within r fine = tt
single_within schema left onto keeps Octets held within r fine = tt
single_within schema left onto keeps (Nested type_no) held within r fine = keeps type_no held r.payload within fine

default_within : (left : ℕ) (held : Held) → HeldWithin left held → HeldWithin left (unless_default held)
default_within left Nothing p = p
default_within left (One (Number zero)) p = tt
default_within left (One (Number (suc n))) p = p
default_within left (One (Bytes [])) p = tt
default_within left (One (Bytes (b ∷ s))) p = p
default_within left (One (Sub t)) p = p
default_within left (Many _) p = p

record_within : (schema : Schema) (left : ℕ) (onto : Onto (List ℕ)) → KeepsWithin schema left onto → (type : ValueType) (r : Record) → FineBy schema left type r.payload → ValuesWithin left (value_list (values_by (nest_onto schema [] onto) type r))
record_within schema left onto keeps (Scalar coding) r fine = numbers_within left coding (elements_from coding.wire 0 r.payload)
record_within schema left onto keeps Characters r fine = (tt, tt)
record_within schema left onto keeps Octets r fine = (tt, tt)
record_within schema left onto keeps (Nested type_no) r fine = (keeps type_no Nothing r.payload tt fine, tt)

values_within : (left : ℕ) (held : Held) → HeldWithin left held → ValuesWithin left (values_held held)
values_within left Nothing p = tt
values_within left (One _) p = tt
values_within left (Many _) p = p

-- FIELDS

taken_within : (schema : Schema) (left : ℕ) (onto : Onto (List ℕ)) → KeepsWithin schema left onto → (field : FieldType) (held : Held) → HeldWithin left held → (r : Record) → FineBy schema left (value_type_of field.kind) r.payload → (card : Card) → HeldWithin left (taken_put schema [] onto field held r card)
taken_within schema left onto keeps field held within r fine cards.Implicit = default_within left (single_put schema [] onto (value_type_of field.kind) held r) (single_within schema left onto keeps (value_type_of field.kind) held within r fine)
taken_within schema left onto keeps field held within r fine cards.Explicit = single_within schema left onto keeps (value_type_of field.kind) held within r fine
taken_within schema left onto keeps field held within r fine (cards.Member oneof) = single_within schema left onto keeps (value_type_of field.kind) held within r fine
taken_within schema left onto keeps field held within r fine (cards.Repeated packed) =
    joined_within left (values_held held) (value_list (values_by (nest_onto schema [] onto) (value_type_of field.kind) r)) (values_within left held within) (record_within schema left onto keeps (value_type_of field.kind) r fine)

other_within : (schema : Schema) (left : ℕ) (all : List FieldType) (held : Held) → HeldWithin left held → (r : Record) (card : Card) → HeldWithin left (other_put schema all held r card)
other_within schema left all held within r cards.Implicit = within
other_within schema left all held within r cards.Explicit = within
other_within schema left all held within r (cards.Repeated packed) = within
other_within schema left all held within r (cards.Member oneof) = pick (is_of_oneof schema all oneof r)
  where
    pick : (t : Bool) → HeldWithin left (elim t as (λ _. Held) [ true ↦ Nothing | false ↦ held ])
    pick true = tt
    pick false = within

held_put_within : (schema : Schema) (left : ℕ) (onto : Onto (List ℕ)) → KeepsWithin schema left onto → (all : List FieldType) (r : Record) → Base schema left all r → (field : FieldType) → Own schema all field → (held : Held) → HeldWithin left held → HeldWithin left (held_put schema [] onto all r field held)
held_put_within schema left onto keeps all r base field own held within = pick (takes schema field r) refl
  where
    pick : (t : Bool) → takes schema field r ≡ t → HeldWithin left (elim t as (λ _. Held) [ true ↦ taken_put schema [] onto field held r field.card | false ↦ other_put schema all held r field.card ])
    pick true e = taken_within schema left onto keeps field held within r (fine_by schema left (value_type_of field.kind) (is_repeated field.card) r (taken schema left all field r own base e)) field.card
    pick false e = other_within schema left all held within r field.card

fields_put_within : (schema : Schema) (left : ℕ) (onto : Onto (List ℕ)) → KeepsWithin schema left onto → (all : List FieldType) (r : Record) → Base schema left all r → (fields : List FieldType) → EachField (Own schema all) fields → (held : HeldList) → FieldsWithin left held → FieldsWithin left (fields_put schema [] onto all r fields held)
fields_put_within schema left onto keeps all r base [] own NoFields within = within
fields_put_within schema left onto keeps all r base [] own (FieldAnd held rest) within = within
fields_put_within schema left onto keeps all r base (field ∷ fields) own NoFields within = within
fields_put_within schema left onto keeps all r base (field ∷ fields) own (FieldAnd held rest) within =
    (held_put_within schema left onto keeps all r base field own.0 held within.0, fields_put_within schema left onto keeps all r base fields own.1 rest within.1)

records_within_put : (schema : Schema) (left : ℕ) (onto : Onto (List ℕ)) → KeepsWithin schema left onto → (all : List FieldType) → EachField (Own schema all) all → (rs : List Record) → Each (Base schema left all) rs → (held : HeldList) → FieldsWithin left held → FieldsWithin left (fold (put schema [] onto all) held rs)
records_within_put schema left onto keeps all own [] base held within = within
records_within_put schema left onto keeps all own (r ∷ rs) base held within =
    records_within_put schema left onto keeps all own rs base.1 (put schema [] onto all held r) (fields_put_within schema left onto keeps all r base.0 all own held within)

-- UNKNOWN BYTES

unknown_join : (left : ℕ) (s t : List ℕ) → UnknownWithin left s → UnknownWithin left t → UnknownWithin left (s ++ t)
unknown_join left s t p q = (p.0 ++ q.0, spans_join (AreRecords left) p.0 q.0 s t p.1 q.1)

unknown_put : (schema : Schema) (left : ℕ) (all : List FieldType) (rs : List Record) → Each (Base schema left all) rs → UnknownWithin left (unknown_of schema all rs)
unknown_put schema left all [] base = ([], refl)
unknown_put schema left all (r ∷ rs) base = unknown_join left (unknown_in schema all r) (unknown_of schema all rs) (pick (is_taken schema all r)) (unknown_put schema left all rs base.1)
  where
    pick : (t : Bool) → UnknownWithin left (cond t [] r.span)
    pick true = ([], refl)
    pick false = (r ∷ [], ([], base.0.0, sym (append-nil r.span), refl))

-- MESSAGES

unset_within : (left : ℕ) (fields : List FieldType) → FieldsWithin left (held_list (map (λ field. unset field.card) fields))
unset_within left [] = tt
unset_within left (field ∷ fields) = (by field.card, unset_within left fields)
  where
    by : (card : Card) → HeldWithin left (unset card)
    by cards.Implicit = tt
    by cards.Explicit = tt
    by (cards.Member oneof) = tt
    by (cards.Repeated packed) = tt

empty_within : (left : ℕ) (fields : List FieldType) → TreeWithin left (empty_with [] fields)
empty_within left fields = (unset_within left fields, ([], refl))

message_within : (left : ℕ) (fields : List FieldType) (held : Held) → HeldWithin (suc left) held → TreeWithin left (message_or (empty_with [] fields) held)
message_within left fields Nothing p = empty_within left fields
message_within left fields (One (Number n)) p = empty_within left fields
message_within left fields (One (Bytes s)) p = empty_within left fields
message_within left fields (One (Sub t)) p = p
message_within left fields (Many _) p = empty_within left fields

level_within : (schema : Schema) (left : ℕ) (onto : Onto (List ℕ)) → KeepsWithin schema left onto → (all : List FieldType) → NumbersAscend 1 all → (held : HeldList) (before s : List ℕ) → TreeWithin left (Message held before) → Sound schema left all s
    → TreeWithin left (Message (fold (put schema [] onto all) held (records_in left s)) (before ++ unknown_of schema all (records_in left s)))
level_within schema left onto keeps all ascend held before s within sound =
    let rs = sound.rs in
    let base = each_base schema left all rs s sound.are sound.hold in
    subst (λ qs. TreeWithin left (Message (fold (put schema [] onto all) held qs) (before ++ unknown_of schema all qs))) (sym (sound_records schema left all s sound))
    (records_within_put schema left onto keeps all (owns schema 1 all ascend) rs base held within.0, unknown_join left before (unknown_of schema all rs) within.1 (unknown_put schema left all rs base))

read_within : (schema : Schema) → AllAscend schema → (left type_no : ℕ) (t : Tree) (s : List ℕ) → TreeWithin left t → Sound schema left (fields_of schema type_no) s → TreeWithin left (read_into behind [] schema left (fields_of schema type_no) t s)
read_within schema ascend zero type_no (Message held before) s within sound =
    level_within schema 0 (λ inner t s. t) (λ inner held s w fine. not_ok (record { kind = TooDeep; byte = fine.0 }) fine.2.0 fine.2.1) (fields_of schema type_no) (ascend type_no) held before s within sound
read_within schema ascend (suc left) type_no (Message held before) s within sound =
    level_within schema (suc left) (λ inner t s. read_into behind [] schema left (fields_of schema inner) t s)
    (λ inner held s w fine. read_within schema ascend left inner (message_or (empty_with [] (fields_of schema inner)) held) s (message_within left (fields_of schema inner) held w) (fine_sound schema left inner s fine))
    (fields_of schema type_no) (ascend type_no) held before s within sound

-- nothing is read as the empty message
empty_read : (schema : Schema) (type_no : ℕ) → tree_of schema type_no [] ≡ Some (empty schema type_no)
empty_read schema type_no = ap (λ held. Some (Message held [])) (fields_none schema (λ inner payloads. tree_left schema 99 (fields_of schema inner) (concat payloads)) (fields_of schema type_no) (fields_of schema type_no))

decoded_within : (schema : Schema) (type_no : ℕ) (s : List ℕ) (t : Tree) → Lawful schema → tree_of schema type_no s ≡ Some t → TreeWithin most_levels t
decoded_within schema type_no s t lawful e =
    let there : IsSome (tree_of schema type_no s) = subst IsSome (sym e) refl in
    let same : tree_read schema type_no (empty schema type_no) s ≡ t = same_Some _ _ (sym (tree_more schema type_no [] s (empty schema type_no) lawful (empty_read schema type_no) there) ∙ e) in
    let sound = no_fault_sound schema type_no 0 s (no_fault_then schema type_no s there) in
    subst (TreeWithin most_levels) same (read_within schema (all_ascend schema lawful) most_levels type_no (empty schema type_no) s (empty_within most_levels (fields_of schema type_no)) sound)

-- LAWFUL SCHEMAS

known_each : (schema : Schema) (all : List FieldType) (least : ℕ) → 1 ≤ least → (fields : List FieldType) → NumbersAscend least fields → EachField (Own schema all) fields → EachField PacksNumbers fields → EachField (Known schema all) fields
known_each schema all least some [] ascend own packs = tt
known_each schema all least some (field ∷ fields) ascend own packs =
    (record { own = own.0; packs = packs.0; some = omega (arith, some, ascend.0); most = ascend.1 }, known_each schema all (field.number + 1) (omega arith) fields ascend.2 own.1 packs.1)

all_known : (schema : Schema) → Lawful schema → AllKnown schema
all_known schema lawful = λ type_no.
    let fields = fields_of schema type_no in
    let ascend = all_ascend schema lawful type_no in
    known_each schema fields 1 (omega arith) fields ascend (owns schema 1 fields ascend) (all_along schema lawful type_no).packs

-- THE LAW

pub written_back : (schema : Schema) (type_no : ℕ) (s : List ℕ) (t : Tree) → Lawful schema → tree_of schema type_no s ≡ Some t → length (text_of schema type_no t) < 2 ^ 31 → tree_of schema type_no (text_of schema type_no t) ≡ Some t
written_back schema type_no s t lawful e short =
    let fitted = decoded_fits schema type_no s t lawful e in
    let text = text_of schema type_no t in
    let sound = text_sound schema (all_known schema lawful) most_levels type_no t fitted.fits (decoded_within schema type_no s t lawful e) short in
    let there = tree_there schema type_no text (sound_unbroken schema type_no 0 text sound) in
    appended_merges schema type_no [] (empty schema type_no) t lawful fitted (empty_read schema type_no) there
    ∙ ap (λ u. Some u) (merge_left schema type_no t fitted)
