-- A message's text has at most thirty bytes for each of its units: a varint has at most ten, and a value stands behind
-- two of them at most, its tag and its length, or is one.
use Rattle.std.proofs.Common.{◌+◌, ◌*◌, ◌/◌, ◌%◌, ◌≤◌, ℕ, zero, suc, cond, ltb, Bool, true, false, List, [], ◌∷◌, ◌++◌, length, length-append, arith}
use Rattle.std.specs.List.{concat}
use Rattle.pb_schema.specs.declared.kind.FieldType.{FieldType}
use Rattle.pb_schema.specs.declared.schema.Schema.{Schema}
use Rattle.pb_schema.specs.Cards.{is_packed}
use Rattle.pb_schema.specs.Fits.{nested_fields, wire_of}
use Rattle.pb_schema.specs.Kinds.{ValueType, Scalar, Characters, Octets, Nested, value_type_of}
use Rattle.pb_schema.specs.Tag.{tag_of}
use Rattle.pb_schema.specs.Text.{framed, packed_text, number_text, spelled_text, field_tag, value_text, held_text, values_text, fields_text, message_text}
use Rattle.pb_schema.specs.Tree.{ValueWith, Number, Bytes, Sub, HeldWith, Nothing, One, Many, Shape, Message, ValueListWith, NoValues, ValueAnd, HeldListWith, NoFields, FieldAnd, values_in_list, value_map, held_map, values_map, fields_map, tree_map}
use Rattle.pb_schema.specs.Units.{value_units, held_units, values_units, fields_units, tree_units}
use Rattle.pb_schema.specs.Varint.{groups, varint_of}
use Rattle.pb_schema.proofs.TextCuts.{length_low}
use Rattle.pb_write.proofs.Lists.{many_text}

-- the size of what is unknown
abbrev pub joined_length : List (List ℕ) → ℕ
joined_length pieces = length (concat pieces)

groups_few : (more v : ℕ) → length (groups more v) ≤ suc more
groups_few zero v = omega arith
groups_few (suc more) v = pick (ltb v 128) (groups_few more (v / 128))
  where
    pick : (t : Bool) → length (groups more (v / 128)) ≤ suc more → length (cond t (v ∷ []) ((v % 128 + 128) ∷ groups more (v / 128))) ≤ suc (suc more)
    pick true few = omega arith
    pick false few = omega (arith, few)

varint_few : (v : ℕ) → length (varint_of v) ≤ 10
varint_few v = groups_few 9 v

framed_few : (s : List ℕ) → length (framed s) ≤ length s + 10
framed_few s = omega (arith, length-append (varint_of (length s)) s, varint_few (length s))

number_few : (wire v : ℕ) → length (number_text wire v) ≤ 10
number_few zero v = varint_few v
number_few (suc zero) v = omega (arith, length_low 8 v)
number_few (suc (suc wire)) v = omega (arith, length_low 4 v)

spelled_few : (type : ValueType) (p : ℕ) → length (spelled_text type p) ≤ 10
spelled_few (Scalar coding) p = number_few coding.wire (coding.spelled p)
spelled_few Characters p = omega arith
spelled_few Octets p = omega arith
spelled_few (Nested type_no) p = omega arith

packed_few : (number : ℕ) (s : List ℕ) → length (packed_text number s) ≤ length s + 20
packed_few number [] = omega arith
packed_few number (b ∷ s) = omega (arith, length-append (varint_of (tag_of number 2)) (framed (b ∷ s)), varint_few (tag_of number 2), framed_few (b ∷ s))

-- of values without tags there are twenty bytes less for each
packed_values : (schema : Schema) (field : FieldType) (values : ValueListWith (List (List ℕ))) (units : ℕ) → length (values_text schema field [] (values_map concat values)) + 20 * length (values_in_list values) ≤ 30 * units
    → length (packed_text field.number (values_text schema field [] (values_map concat values))) ≤ 30 * units
packed_values schema field NoValues units few = omega (arith, few)
packed_values schema field (ValueAnd value values) units few = omega (arith, few, packed_few field.number (values_text schema field [] (values_map concat (ValueAnd value values))))

many_few : (schema : Schema) (field : FieldType) (packed : Bool) (values : ValueListWith (List (List ℕ))) (units : ℕ) → length (values_text schema field [] (values_map concat values)) + 20 * length (values_in_list values) ≤ 30 * units
    → length (values_text schema field (field_tag field) (values_map concat values)) ≤ 30 * units → length (many_text schema field (values_map concat values) packed) ≤ 30 * units
many_few schema field true values units bare tagged = packed_values schema field values units bare
many_few schema field false values units bare tagged = tagged

module _ (schema : Schema) where
  mutual
    -- a value without its tag
    value_few : (field : FieldType) (value : ValueWith (List (List ℕ))) → length (value_text schema field (value_map concat value)) + 20 ≤ 30 * value_units joined_length value
    value_few field (Number p) = omega (arith, spelled_few (value_type_of field.kind) p)
    value_few field (Bytes s) = omega (arith, framed_few s)
    value_few field (Sub t) =
        let few = tree_few (nested_fields schema field) t in
        omega (arith, few, framed_few (message_text schema (nested_fields schema field) (tree_map concat t)))

    held_few : (field : FieldType) (held : HeldWith (List (List ℕ))) → length (held_text schema field (held_map concat held)) ≤ 30 * held_units joined_length held
    held_few field Nothing = omega arith
    held_few field (One value) =
        let few = value_few field value in
        omega (arith, few, length-append (field_tag field) (value_text schema field (value_map concat value)), varint_few (tag_of field.number (wire_of field)))
    held_few field (Many values) =
        many_few schema field (is_packed field.card) values (values_units joined_length values) (bare_few field values) (tagged_few field values)

    bare_few : (field : FieldType) (values : ValueListWith (List (List ℕ))) → length (values_text schema field [] (values_map concat values)) + 20 * length (values_in_list values) ≤ 30 * values_units joined_length values
    bare_few field NoValues = omega arith
    bare_few field (ValueAnd value values) =
        let first = value_few field value in let later = bare_few field values in
        omega (arith, first, later, length-append ([] ++ value_text schema field (value_map concat value)) (values_text schema field [] (values_map concat values)))

    tagged_few : (field : FieldType) (values : ValueListWith (List (List ℕ))) → length (values_text schema field (field_tag field) (values_map concat values)) ≤ 30 * values_units joined_length values
    tagged_few field NoValues = omega arith
    tagged_few field (ValueAnd value values) =
        let first = value_few field value in let later = tagged_few field values in
        omega (arith, first, later, length-append (field_tag field ++ value_text schema field (value_map concat value)) (values_text schema field (field_tag field) (values_map concat values)), length-append (field_tag field) (value_text schema field (value_map concat value)), varint_few (tag_of field.number (wire_of field)))

    fields_few : (fields : List FieldType) (held : HeldListWith (List (List ℕ))) → length (fields_text schema fields (fields_map concat held)) ≤ 30 * fields_units joined_length held
    fields_few fields NoFields = omega arith
    fields_few [] (FieldAnd held rest) = omega arith
    fields_few (field ∷ fields) (FieldAnd held rest) =
        let first = held_few field held in let later = fields_few fields rest in
        omega (arith, first, later, length-append (held_text schema field (held_map concat held)) (fields_text schema fields (fields_map concat rest)))

    pub tree_few : (fields : List FieldType) (t : Shape) → length (message_text schema fields (tree_map concat t)) + 30 ≤ 30 * tree_units joined_length t
    tree_few fields (Message held pieces) =
        let few = fields_few fields held in
        omega (arith, few, length-append (fields_text schema fields (fields_map concat held)) (concat pieces))
