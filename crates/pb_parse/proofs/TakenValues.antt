-- What a field comes to hold that takes a record, in the words of the calls that change messages.
use Rattle.std.proofs.Common.{◌≡◌, ◌≢◌, ℕ, zero, suc, List, [], ◌∷◌, length, map, Some, Ok, refl, sym, ap, ◌∙◌}
use Rattle.pb_schema.specs.declared.kind.Card.{Card}
use Rattle.pb_schema.specs.declared.kind.Card.TheVariants as cards
use Rattle.pb_schema.specs.declared.kind.FieldType.{FieldType}
use Rattle.pb_schema.specs.declared.schema.Schema.{Schema}
use Rattle.pb_schema.specs.Kinds.{Coding, ValueType, Scalar, Characters, Octets, Nested, value_type_of}
use Rattle.pb_schema.specs.Record.{Record}
use Rattle.pb_schema.specs.Fits.{fields_of}
use Rattle.pb_schema.specs.Form.{read_scalar}
use Rattle.pb_schema.specs.HeldAt.{field_at}
use Rattle.pb_schema.specs.Tree.{HeldWith, Nothing, One, Many, Number, Bytes, Sub, TreeWith, ValueAnd, NoValues, value_list}
use Rattle.pb_schema.specs.TreeOf.{pattern_in, elements_from, values_by, unless_default}
use Rattle.pb_schema.specs.Merge.{joined}
use Rattle.pb_schema.specs.Empty.{empty_with}
use Rattle.pb_schema.specs.Put.{Onto, nest_onto, message_or, single_put, values_held, taken_put}
use Rattle.dyn_message.specs.Stands.{IsSingle, IsList}
use Rattle.dyn_message.specs.Fields.{IsBytesType, number_held, bytes_held, held_by, number_put, bytes_put}
use Rattle.dyn_message.specs.Links.{sub_or}
use Rattle.pb_parse.proofs.NumberSteps.{elements_one}

-- ONE VALUE

default_number : {U : Type 0} (p : ℕ) → unless_default {U = U} (One (Number p)) ≡ number_held cards.Implicit p
default_number zero = refl
default_number (suc p) = refl

default_bytes : {U : Type 0} (s : List ℕ) → unless_default {U = U} (One (Bytes s)) ≡ bytes_held cards.Implicit s
default_bytes [] = refl
default_bytes (b ∷ s) = refl

number_by : {U : Type 0} (schema : Schema) (none : U) (onto : Onto U) (field : FieldType) (held : HeldWith U) (r : Record) (coding : Coding) → value_type_of field.kind ≡ Scalar coding → (card : Card) → IsSingle card
    → taken_put schema none onto field held r card ≡ number_held card (pattern_in coding r.payload)
number_by schema none onto field held r coding is cards.Implicit single = ap (λ type. unless_default (single_put schema none onto type held r)) is ∙ default_number (pattern_in coding r.payload)
number_by schema none onto field held r coding is cards.Explicit single = ap (λ type. single_put schema none onto type held r) is
number_by schema none onto field held r coding is (cards.Member oneof) single = ap (λ type. single_put schema none onto type held r) is
number_by schema none onto field held r coding is (cards.Repeated packed) single = absurd single

pub number_put_is : {U : Type 0} (schema : Schema) (none : U) (onto : Onto U) (type_no number : ℕ) (field : FieldType) (held : HeldWith U) (r : Record) (coding : Coding) → field_at schema type_no number ≡ Some field → value_type_of field.kind ≡ Scalar coding → IsSingle field.card
    → taken_put schema none onto field held r field.card ≡ number_put schema type_no number (pattern_in coding r.payload)
number_put_is schema none onto type_no number field held r coding found is single =
    number_by schema none onto field held r coding is field.card single
    ∙ sym (ap (held_by (λ card. number_held card (pattern_in coding r.payload))) found)

bytes_single : {U : Type 0} (schema : Schema) (none : U) (onto : Onto U) (held : HeldWith U) (r : Record) (type : ValueType) → IsBytesType type → single_put schema none onto type held r ≡ One (Bytes r.payload)
bytes_single schema none onto held r (Scalar coding) is = absurd is
bytes_single schema none onto held r Characters is = refl
bytes_single schema none onto held r Octets is = refl
bytes_single schema none onto held r (Nested type_no) is = absurd is

bytes_by : {U : Type 0} (schema : Schema) (none : U) (onto : Onto U) (field : FieldType) (held : HeldWith U) (r : Record) → IsBytesType (value_type_of field.kind) → (card : Card) → IsSingle card → taken_put schema none onto field held r card ≡ bytes_held card r.payload
bytes_by schema none onto field held r is cards.Implicit single = ap unless_default (bytes_single schema none onto held r (value_type_of field.kind) is) ∙ default_bytes r.payload
bytes_by schema none onto field held r is cards.Explicit single = bytes_single schema none onto held r (value_type_of field.kind) is
bytes_by schema none onto field held r is (cards.Member oneof) single = bytes_single schema none onto held r (value_type_of field.kind) is
bytes_by schema none onto field held r is (cards.Repeated packed) single = absurd single

pub bytes_put_is : {U : Type 0} (schema : Schema) (none : U) (onto : Onto U) (type_no number : ℕ) (field : FieldType) (held : HeldWith U) (r : Record) → field_at schema type_no number ≡ Some field → IsBytesType (value_type_of field.kind) → IsSingle field.card
    → taken_put schema none onto field held r field.card ≡ bytes_put schema type_no number r.payload
bytes_put_is schema none onto type_no number field held r found is single =
    bytes_by schema none onto field held r is field.card single ∙ sym (ap (held_by (λ card. bytes_held card r.payload)) found)

-- the message that is there, or else this one
same_message : {U : Type 0} (other : TreeWith U) (held : HeldWith U) → message_or other held ≡ sub_or other held
same_message other Nothing = refl
same_message other (One (Number p)) = refl
same_message other (One (Bytes s)) = refl
same_message other (One (Sub t)) = refl
same_message other (Many vs) = refl

sub_by : {U : Type 0} (schema : Schema) (none : U) (onto : Onto U) (field : FieldType) (held : HeldWith U) (r : Record) (inner : ℕ) → value_type_of field.kind ≡ Nested inner → (card : Card) → IsSingle card
    → taken_put schema none onto field held r card ≡ One (Sub (onto inner (message_or (empty_with none (fields_of schema inner)) held) r.payload))
sub_by schema none onto field held r inner is cards.Implicit single = ap (λ type. unless_default (single_put schema none onto type held r)) is
sub_by schema none onto field held r inner is cards.Explicit single = ap (λ type. single_put schema none onto type held r) is
sub_by schema none onto field held r inner is (cards.Member oneof) single = ap (λ type. single_put schema none onto type held r) is
sub_by schema none onto field held r inner is (cards.Repeated packed) single = absurd single

pub sub_put_is : {U : Type 0} (schema : Schema) (none : U) (onto : Onto U) (field : FieldType) (held : HeldWith U) (r : Record) (inner : ℕ) → value_type_of field.kind ≡ Nested inner → IsSingle field.card
    → taken_put schema none onto field held r field.card ≡ One (Sub (onto inner (sub_or (empty_with none (fields_of schema inner)) held) r.payload))
sub_put_is schema none onto field held r inner is single =
    sub_by schema none onto field held r inner is field.card single
    ∙ ap (λ t. One (Sub (onto inner t r.payload))) (same_message (empty_with none (fields_of schema inner)) held)

-- LISTS

-- a list takes the values of the record behind its own
list_by : {U : Type 0} (schema : Schema) (none : U) (onto : Onto U) (field : FieldType) (held : HeldWith U) (r : Record) (card : Card) → IsList card
    → taken_put schema none onto field held r card ≡ Many (joined (values_held held) (value_list (values_by (nest_onto schema none onto) (value_type_of field.kind) r)))
list_by schema none onto field held r cards.Implicit list = absurd list
list_by schema none onto field held r cards.Explicit list = absurd list
list_by schema none onto field held r (cards.Member oneof) list = absurd list
list_by schema none onto field held r (cards.Repeated packed) list = refl

-- packed numbers, or one by itself
pub packed_put_is : {U : Type 0} (schema : Schema) (none : U) (onto : Onto U) (field : FieldType) (held : HeldWith U) (r : Record) (coding : Coding) → value_type_of field.kind ≡ Scalar coding → IsList field.card
    → taken_put schema none onto field held r field.card ≡ Many (joined (values_held held) (value_list (map (λ s. Number (pattern_in coding s)) (elements_from coding.wire 0 r.payload))))
packed_put_is schema none onto field held r coding is list =
    list_by schema none onto field held r field.card list ∙ ap (λ type. Many (joined (values_held held) (value_list (values_by (nest_onto schema none onto) type r)))) is

pub number_listed_is : {U : Type 0} (schema : Schema) (none : U) (onto : Onto U) (field : FieldType) (held : HeldWith U) (r : Record) (coding : Coding) (at : ℕ) → value_type_of field.kind ≡ Scalar coding → IsList field.card → read_scalar coding.wire at r.payload ≡ Ok (length r.payload) → r.payload ≢ []
    → taken_put schema none onto field held r field.card ≡ Many (joined (values_held held) (ValueAnd (Number (pattern_in coding r.payload)) NoValues))
number_listed_is schema none onto field held r coding at is list whole some =
    packed_put_is schema none onto field held r coding is list
    ∙ ap (λ elements. Many (joined (values_held held) (value_list (map (λ s. Number (pattern_in coding s)) elements)))) (elements_one coding.wire at r.payload whole some)

bytes_values : {U : Type 0} (schema : Schema) (none : U) (onto : Onto U) (r : Record) (type : ValueType) → IsBytesType type → values_by (nest_onto schema none onto) type r ≡ Bytes r.payload ∷ []
bytes_values schema none onto r (Scalar coding) is = absurd is
bytes_values schema none onto r Characters is = refl
bytes_values schema none onto r Octets is = refl
bytes_values schema none onto r (Nested type_no) is = absurd is

pub bytes_listed_is : {U : Type 0} (schema : Schema) (none : U) (onto : Onto U) (field : FieldType) (held : HeldWith U) (r : Record) → IsBytesType (value_type_of field.kind) → IsList field.card
    → taken_put schema none onto field held r field.card ≡ Many (joined (values_held held) (ValueAnd (Bytes r.payload) NoValues))
bytes_listed_is schema none onto field held r is list =
    list_by schema none onto field held r field.card list ∙ ap (λ values. Many (joined (values_held held) (value_list values))) (bytes_values schema none onto r (value_type_of field.kind) is)

pub sub_listed_is : {U : Type 0} (schema : Schema) (none : U) (onto : Onto U) (field : FieldType) (held : HeldWith U) (r : Record) (inner : ℕ) → value_type_of field.kind ≡ Nested inner → IsList field.card
    → taken_put schema none onto field held r field.card ≡ Many (joined (values_held held) (ValueAnd (Sub (onto inner (empty_with none (fields_of schema inner)) r.payload)) NoValues))
sub_listed_is schema none onto field held r inner is list =
    list_by schema none onto field held r field.card list ∙ ap (λ type. Many (joined (values_held held) (value_list (values_by (nest_onto schema none onto) type r)))) is
