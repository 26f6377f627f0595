-- Laws of merging: the empty message changes nothing, on both sides.
use Rattle.std.proofs.Common.{◌≡◌, ℕ, List, [], ◌∷◌, ◌++◌, Bool, true, false, ◌||◌, ◌&&◌, map, refl, ap, ◌∙◌, append-nil}
use Rattle.pb_schema.specs.declared.kind.Card.{Card}
use Rattle.pb_schema.specs.declared.kind.Card.TheVariants as cards
use Rattle.pb_schema.specs.declared.kind.FieldType.{FieldType}
use Rattle.pb_schema.specs.declared.schema.Schema.{Schema}
use Rattle.pb_schema.specs.Fits.{fields_of}
use Rattle.pb_schema.specs.Tree.{Held, Nothing, One, Many, Tree, Message, ValueList, NoValues, ValueAnd, HeldList, NoFields, FieldAnd, held_list}
use Rattle.pb_schema.specs.Cards.{is_member}
use Rattle.pb_schema.specs.Empty.{unset, empty_with, empty}
use Rattle.pb_schema.specs.Merge.{joined, is_set, sets_member, is_replaced, held_merged, fields_merged, message_merged, merge_of}
use Rattle.pb_schema.specs.Fitted.{IsHeldBy, FieldsFit, MessageFits, Fitted}

-- what a message holds that has nothing set
abbrev unset_of : List FieldType → HeldList
unset_of fields = held_list (map (λ field. unset field.card) fields)

pub joined_none : (values : ValueList) → joined values NoValues ≡ values
joined_none NoValues = refl
joined_none (ValueAnd value values) = ap (λ rest. ValueAnd value rest) (joined_none values)

-- ON THE LEFT

held_left : (schema : Schema) (field : FieldType) (replaced : Bool) (card : Card) (x : Held) → IsHeldBy card x → held_merged (λ x y. x ++ y) schema field replaced (unset card) x ≡ x
held_left schema field replaced cards.Implicit x p = refl
held_left schema field replaced cards.Explicit x p = refl
held_left schema field replaced (cards.Member oneof) x p = refl
held_left schema field replaced (cards.Repeated packed) Nothing p = absurd p
held_left schema field replaced (cards.Repeated packed) (One value) p = absurd p
held_left schema field replaced (cards.Repeated packed) (Many _) p = refl

fields_left : (schema : Schema) (all : List FieldType) (whole : HeldList) (fields : List FieldType) (held : HeldList) → FieldsFit schema fields held → fields_merged (λ x y. x ++ y) schema all whole fields (unset_of fields) held ≡ held
fields_left schema all whole [] NoFields p = refl
fields_left schema all whole [] (FieldAnd x rest) p = absurd p
fields_left schema all whole (field ∷ fields) NoFields p = absurd p
fields_left schema all whole (field ∷ fields) (FieldAnd x rest) p =
    ap (λ y. FieldAnd y (fields_merged (λ x y. x ++ y) schema all whole fields (unset_of fields) rest)) (held_left schema field (is_replaced field.card all whole) field.card x p.0)
    ∙ ap (λ more. FieldAnd x more) (fields_left schema all whole fields rest p.3)

pub message_left : (schema : Schema) (fields : List FieldType) (t : Tree) → MessageFits schema fields t → message_merged (λ x y. x ++ y) schema fields (empty_with [] fields) t ≡ t
message_left schema fields (Message held unknown) p = ap (λ x. Message x unknown) (fields_left schema fields held fields held p.0)

pub merge_left : (schema : Schema) (type_no : ℕ) (t : Tree) → Fitted schema type_no t → merge_of schema type_no (empty schema type_no) t ≡ t
merge_left schema type_no t p = message_left schema (fields_of schema type_no) t p.fits

-- ON THE RIGHT

unset_is : (card : Card) → is_set (unset {U = List ℕ} card) ≡ false
unset_is cards.Implicit = refl
unset_is cards.Explicit = refl
unset_is (cards.Member oneof) = refl
unset_is (cards.Repeated packed) = refl

neither : (a b c : Bool) → b ≡ false → c ≡ false → ((a && b) || c) ≡ false
neither true false false p q = refl
neither true false true p q = cc
neither true true c p q = cc
neither false b false p q = refl
neither false b true p q = cc

-- no member is set
no_member : (oneof : ℕ) (fields : List FieldType) → sets_member oneof fields (unset_of fields) ≡ false
no_member oneof [] = refl
no_member oneof (field ∷ fields) = neither (is_member oneof field.card) (is_set (unset field.card)) (sets_member oneof fields (unset_of fields)) (unset_is field.card) (no_member oneof fields)

not_replaced : (card : Card) (fields : List FieldType) → is_replaced card fields (unset_of fields) ≡ false
not_replaced cards.Implicit fields = refl
not_replaced cards.Explicit fields = refl
not_replaced (cards.Member oneof) fields = no_member oneof fields
not_replaced (cards.Repeated packed) fields = refl

held_right : (schema : Schema) (field : FieldType) (card : Card) (x : Held) → IsHeldBy card x → held_merged (λ x y. x ++ y) schema field false x (unset card) ≡ x
held_right schema field cards.Implicit Nothing p = refl
held_right schema field cards.Implicit (One value) p = refl
held_right schema field cards.Implicit (Many _) p = absurd p
held_right schema field cards.Explicit Nothing p = refl
held_right schema field cards.Explicit (One value) p = refl
held_right schema field cards.Explicit (Many _) p = absurd p
held_right schema field (cards.Member oneof) Nothing p = refl
held_right schema field (cards.Member oneof) (One value) p = refl
held_right schema field (cards.Member oneof) (Many _) p = absurd p
held_right schema field (cards.Repeated packed) Nothing p = absurd p
held_right schema field (cards.Repeated packed) (One value) p = absurd p
held_right schema field (cards.Repeated packed) (Many values) p = ap Many (joined_none values)

fields_right : (schema : Schema) (all : List FieldType) (fields : List FieldType) (held : HeldList) → FieldsFit schema fields held → fields_merged (λ x y. x ++ y) schema all (unset_of all) fields held (unset_of fields) ≡ held
fields_right schema all [] NoFields p = refl
fields_right schema all [] (FieldAnd x rest) p = absurd p
fields_right schema all (field ∷ fields) NoFields p = absurd p
fields_right schema all (field ∷ fields) (FieldAnd x rest) p =
    ap (λ replaced. FieldAnd (held_merged (λ x y. x ++ y) schema field replaced x (unset field.card)) (fields_merged (λ x y. x ++ y) schema all (unset_of all) fields rest (unset_of fields))) (not_replaced field.card all)
    ∙ (ap (λ y. FieldAnd y (fields_merged (λ x y. x ++ y) schema all (unset_of all) fields rest (unset_of fields))) (held_right schema field field.card x p.0)
    ∙ ap (λ more. FieldAnd x more) (fields_right schema all fields rest p.3))

message_right : (schema : Schema) (fields : List FieldType) (t : Tree) → MessageFits schema fields t → message_merged (λ x y. x ++ y) schema fields t (empty_with [] fields) ≡ t
message_right schema fields (Message held unknown) p =
    ap (λ x. Message x (unknown ++ [])) (fields_right schema fields fields held p.0) ∙ ap (λ more. Message held more) (append-nil unknown)

pub merge_right : (schema : Schema) (type_no : ℕ) (t : Tree) → Fitted schema type_no t → merge_of schema type_no t (empty schema type_no) ≡ t
merge_right schema type_no t p = message_right schema (fields_of schema type_no) t p.fits
