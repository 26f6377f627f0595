-- A payload that is read into an empty message: its shape, its tree, and its fault.
use Rattle.std.proofs.Common.{◌≡◌, ◌≢◌, ℕ, List, [], ◌∷◌, None, Some, Result, Ok, Err, refl, sym, ap, ◌∙◌, append-nil}
use Rattle.std.specs.Prelude.{IsOk, IsErr}
use Rattle.std.specs.List.{concat}
use Rattle.std.proofs.lemmas.List.Elements.{All-nil, All-cons}
use Rattle.std.proofs.lemmas.Option.{none-some}
use Rattle.pb_schema.specs.declared.kind.FieldType.{FieldType}
use Rattle.pb_schema.specs.declared.schema.Schema.{Schema}
use Rattle.pb_schema.specs.declared.wire_fault.WireFault.{WireFault}
use Rattle.pb_schema.specs.Reads.{fault_read}
use Rattle.pb_schema.specs.Fits.{fields_of}
use Rattle.pb_schema.specs.Walk.{in_message}
use Rattle.pb_schema.specs.Broken.{most_levels, broken_of}
use Rattle.pb_schema.specs.Tree.{tree_map}
use Rattle.pb_schema.specs.TreeOf.{tree_of}
use Rattle.pb_schema.specs.Empty.{empty_with}
use Rattle.pb_schema.specs.ShapeOf.{shape_left}
use Rattle.pb_schema.specs.Put.{read_into}
use Rattle.pb_schema.specs.Lawful.{Lawful}
use Rattle.pb_schema.proofs.PutLaws.{one_piece, shape_none, shape_more}
use Rattle.pb_schema.proofs.ShapeLaws.{shape_tree}
use Rattle.pb_schema.proofs.WalkSteps.{walk_left_is}
use Rattle.pb_parse.specs.Reading.{read_left, walked}
use Rattle.pb_parse.specs.Whole.{shape_of_payload}
use Rattle.pb_parse.proofs.NumberLaws.{err_is}

left_shape : (schema : Schema) (left : ℕ) (fields : List FieldType) (s : List ℕ) → read_left schema left fields (empty_with [] fields) s ≡ shape_left schema left fields (s ∷ [])
unfolding read_left
left_shape schema left fields s = sym (shape_more schema left fields [] s ∙ ap (λ t. read_into one_piece [] schema left fields t s) (shape_none schema left fields))

-- what the records of a payload make of the empty message is the payload's shape
pub whole_shape : (schema : Schema) (type_no : ℕ) (s : List ℕ) → read_left schema most_levels (fields_of schema type_no) (empty_with [] (fields_of schema type_no)) s ≡ shape_of_payload schema type_no s
unfolding shape_of_payload
whole_shape schema type_no s = left_shape schema most_levels (fields_of schema type_no) s

-- its fault is the walk's
pub whole_fault : (schema : Schema) (type_no : ℕ) (s : List ℕ) → broken_of schema type_no 0 s ≡ fault_read (walked schema most_levels (fields_of schema type_no) 0 s)
unfolding walked
whole_fault schema type_no s = ap fault_read (walk_left_is schema most_levels 0 (in_message (fields_of schema type_no)) 0 s)

no_fault : {A : Type 0} (r : Result A WireFault) → IsOk r → fault_read r ≡ None
no_fault (Ok x) ok = refl
no_fault {A} (Err d) ok = absurd (never ok)
  where
    never : IsOk {T = A} (Err d) → ⊥
    never e = cc

pub sound_whole : (schema : Schema) (type_no : ℕ) (s : List ℕ) → IsOk (walked schema most_levels (fields_of schema type_no) 0 s) → broken_of schema type_no 0 s ≡ None
sound_whole schema type_no s ok = whole_fault schema type_no s ∙ no_fault (walked schema most_levels (fields_of schema type_no) 0 s) ok

pub broken_whole : (schema : Schema) (type_no : ℕ) (s : List ℕ) → IsErr (walked schema most_levels (fields_of schema type_no) 0 s) → broken_of schema type_no 0 s ≢ None
broken_whole schema type_no s err none =
    let is = err_is (walked schema most_levels (fields_of schema type_no) 0 s) err in
    none-some is.0 (sym none ∙ (whole_fault schema type_no s ∙ ap fault_read is.1))

-- without one it has the tree of its shape
pub tree_whole : (schema : Schema) (type_no : ℕ) (s : List ℕ) → Lawful schema → broken_of schema type_no 0 s ≡ None → tree_of schema type_no s ≡ Some (tree_map concat (shape_of_payload schema type_no s))
unfolding shape_of_payload
tree_whole schema type_no s lawful none =
    let Whole : List ℕ → Type 0 = λ x. broken_of schema type_no 0 x ≡ None in
    ap (tree_of schema type_no) (sym (append-nil s)) ∙ shape_tree schema type_no (s ∷ []) lawful (All-cons Whole s [] none (All-nil Whole))
