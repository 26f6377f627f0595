-- How many lines a run wrote whose sink failed.
use Rattle.std.specs.Prelude.{◌+◌, ◌-◌, ◌<◌, ◌≤◌, ℕ, List, length, take, Option, None, Some}
use Rattle.pb_schema.specs.declared.schema.Schema.{Schema}
use Rattle.pb_schema.specs.Payloads.{framed_texts}
use Rattle.pb_schema.specs.Tree.{Tree}

-- so many of the trees' framed texts lie whole in so many bytes, one behind the other, and one more doesn't
pub record LieWhole (schema : Schema) (type_no : ℕ) (trees : List Tree) (bytes lines : ℕ) : Type 0 where
  pub few : lines ≤ length trees
  pub whole : length (framed_texts schema type_no (take lines trees)) ≤ bytes
  pub next : lines < length trees → bytes < length (framed_texts schema type_no (take (lines + 1) trees))

-- so many of them lie whole in what a sink took, where it tells that
abbrev pub TookLines : Schema → ℕ → List Tree → Option (List ℕ) → Option (List ℕ) → ℕ → Type 0
TookLines schema type_no trees None now lines = lines ≤ length trees
TookLines schema type_no trees (Some was) None lines = ⊥
TookLines schema type_no trees (Some was) (Some now) lines = LieWhole schema type_no trees (length now - length was) lines
