-- What the frames file that the words name holds, where the files tell it and what the set gives.
use Rattle.std.specs.Prelude.{◌≡◌, ℕ, List, Option, None, Some, Ok, IsSomeAnd}
use Rattle.arena_mem.specs.Outside.{NamedFiles, content_of}
use Rattle.pb_schema.specs.declared.schema.Schema.{Schema}
use Rattle.pb_schema.specs.Tree.{Tree}
use Rattle.arena_run.specs.Words.{IsCat, IsTypeOf}
use Rattle.arena_run.specs.Sets.{set_given}
use Rattle.arena_run.specs.Faults.{first_fault, trees_in}

-- the schema that the set gives, and the type and the frames file that the words name have this, where the files tell their content
abbrev pub OfContent : List (List ℕ) → Option NamedFiles → (Schema → ℕ → List ℕ → Type 0) → Type 0
OfContent words files P =
    (set type_name frames content : List ℕ) (schema : Schema) (type_no : ℕ) → IsCat words set type_name frames
    → set_given files set ≡ Some (Ok schema) → IsTypeOf schema type_name type_no
    → content_of files frames ≡ Some content → P schema type_no content

-- bytes without a fault, whose trees have this
pub record HasTrees (schema : Schema) (type_no : ℕ) (content : List ℕ) (P : List Tree → Type 0) : Type 0 where
  pub sound : first_fault schema type_no content ≡ None
  pub trees : IsSomeAnd (trees_in schema type_no content) P

-- that file has no fault, and its trees have this, where the files tell its content
abbrev pub OfTrees : List (List ℕ) → Option NamedFiles → (Schema → ℕ → List Tree → Type 0) → Type 0
OfTrees words files P = OfContent words files (λ schema type_no content. HasTrees schema type_no content (P schema type_no))
