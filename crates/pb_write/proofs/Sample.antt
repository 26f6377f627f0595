-- The node that the tests write, step by step, with its units and its text.
use Rattle.std.proofs.Common.{◌≡◌, ◌+◌, ◌^◌, ◌≤◌, ◌<◌, ℕ, List, [], ◌∷◌, length, refl, sym, ap, ◌∙◌, subst, arith}
use Rattle.std.proofs.lemmas.Option.{same_Some}
use Rattle.pb_schema.specs.declared.kind.FieldType.{FieldType}
use Rattle.pb_schema.specs.declared.schema.Schema.{Schema}
use Rattle.pb_schema.specs.Builtin.{builtin}
use Rattle.pb_schema.specs.Empty.{empty_with}
use Rattle.pb_schema.specs.Fits.{fields_of}
use Rattle.pb_schema.specs.HeldAt.{held_at, with_held}
use Rattle.pb_schema.specs.Kinds.{Nested, value_type_of}
use Rattle.pb_schema.specs.Tree.{Number, Sub, One, Shape}
use Rattle.pb_schema.specs.Units.{tree_units}
use Rattle.dyn_message.specs.Fields.{number_put, bytes_put}
use Rattle.dyn_message.specs.Links.{LinksTo, sub_or}
use Rattle.dyn_message.specs.Lists.{with_appended}
use Rattle.dyn_message.specs.Unknown.{with_piece}
use Rattle.pb_write.specs.Texts.{shape_text}
use Rattle.pb_write.proofs.Short.{joined_length, tree_few}

abbrev pub with_nothing : Schema → Shape
with_nothing schema = empty_with [] (fields_of schema 1)

abbrev pub with_unknown : Schema → Shape
with_unknown schema = with_piece (248 ∷ 7 ∷ 1 ∷ []) (with_nothing schema)

abbrev pub with_all : Schema → ℕ → ℕ → List ℕ → Shape
with_all schema n k blob =
    let marked = with_appended schema n 4 (Number 4294967295) (with_unknown schema) in
    let counted = with_held schema n 2 (number_put schema n 2 18446744073709551611) marked in
    let filled = with_held schema n 5 (bytes_put schema n 5 blob) counted in
    let worded = with_held schema n 7 (bytes_put schema n 7 []) filled in
    with_held schema n 6 (One (Sub (sub_or (empty_with [] (fields_of schema k)) (held_at schema n 6 worded)))) worded

-- the text of the whole
text_is : shape_text builtin 1 (with_all builtin 1 1 (98 ∷ []))
    ≡ 16 ∷ 251 ∷ 255 ∷ 255 ∷ 255 ∷ 255 ∷ 255 ∷ 255 ∷ 255 ∷ 255 ∷ 1 ∷ 34 ∷ 10 ∷ 255 ∷ 255 ∷ 255 ∷ 255 ∷ 255 ∷ 255 ∷ 255 ∷ 255 ∷ 255 ∷ 1 ∷ 42 ∷ 1 ∷ 98 ∷ 50 ∷ 0 ∷ 58 ∷ 0 ∷ 248 ∷ 7 ∷ 1 ∷ []
text_is = refl

-- UNITS

units_nothing : (schema : Schema) → schema ≡ builtin → tree_units joined_length (with_nothing schema) ≤ 1
units_nothing schema is = subst (λ s. tree_units joined_length (with_nothing s) ≤ 1) (sym is) (omega arith)

units_unknown : (schema : Schema) → schema ≡ builtin → tree_units joined_length (with_unknown schema) ≤ 4
units_unknown schema is = subst (λ s. tree_units joined_length (with_unknown s) ≤ 4) (sym is) (omega arith)

units_builtin : (blob : List ℕ) → tree_units joined_length (with_all builtin 1 1 blob) ≤ length blob + 20
units_builtin [] = omega arith
units_builtin (b ∷ s) = omega arith

units_all : (schema : Schema) (n k : ℕ) (blob : List ℕ) → schema ≡ builtin → n ≡ 1 → k ≡ 1 → tree_units joined_length (with_all schema n k blob) ≤ length blob + 20
units_all schema n k blob is node child =
    subst (λ s. tree_units joined_length (with_all s n k blob) ≤ length blob + 20) (sym is)
    (subst (λ m. tree_units joined_length (with_all builtin m k blob) ≤ length blob + 20) (sym node)
    (subst (λ m. tree_units joined_length (with_all builtin 1 m blob) ≤ length blob + 20) (sym child) (units_builtin blob)))

-- SHORT TEXTS

short_by : (schema : Schema) (type_no : ℕ) (t : Shape) (units : ℕ) → tree_units joined_length t ≤ units → units < 2 ^ 32 → length (shape_text schema type_no t) < 2 ^ 63
short_by schema type_no t units few bound = omega (arith, few, bound, tree_few schema (fields_of schema type_no) t)

pub short_nothing : (schema : Schema) (type_no : ℕ) → schema ≡ builtin → length (shape_text schema type_no (with_nothing schema)) < 2 ^ 63
short_nothing schema type_no is = short_by schema type_no (with_nothing schema) 1 (units_nothing schema is) (omega arith)

pub short_unknown : (schema : Schema) (type_no : ℕ) → schema ≡ builtin → length (shape_text schema type_no (with_unknown schema)) < 2 ^ 63
short_unknown schema type_no is = short_by schema type_no (with_unknown schema) 4 (units_unknown schema is) (omega arith)

pub short_all : (schema : Schema) (n k : ℕ) (blob : List ℕ) → schema ≡ builtin → n ≡ 1 → k ≡ 1 → length blob < 2 ^ 31 → length (shape_text schema n (with_all schema n k blob)) < 2 ^ 63
short_all schema n k blob is node child short = short_by schema n (with_all schema n k blob) (length blob + 20) (units_all schema n k blob is node child) (omega (arith, short))

-- THE CHILD

same_nested : (a b : ℕ) → Nested a ≡ Nested b → b ≡ a
same_nested a b is = cc

builtin_child : (k : ℕ) → LinksTo builtin 1 6 k → k ≡ 1
builtin_child k has = same_nested 1 k (ap (λ (f : FieldType). value_type_of f.kind) (same_Some _ has.field has.found) ∙ has.type)

pub child_is : (schema : Schema) (n k : ℕ) → schema ≡ builtin → n ≡ 1 → LinksTo schema n 6 k → k ≡ 1
child_is schema n k is node has = builtin_child k (subst (λ s. LinksTo s 1 6 k) is (subst (λ m. LinksTo schema m 6 k) node has))
