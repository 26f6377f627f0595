-- Files as a list of names with their bytes, and the map that such a list means.
use Rattle.std.specs.Prelude.{ℕ, Bool, List, [], map, slice_index_or, Option, None, if◌then◌else◌}
use Rattle.std.specs.FinMap as finite
use Rattle.arena_mem.specs.Outside.{NamedFiles}

-- a name, and the bytes of the file of that name
pub record FileBytes : Type 0 where
  pub name : List ℕ
  pub content : List ℕ

-- the files by their names; of two with one name the first counts
abbrev pub named_files : List FileBytes → NamedFiles
named_files files = finite.from_entries (map (λ f. (f.name, f.content)) files)

-- the bytes of the file at that index
abbrev pub content_at : List FileBytes → ℕ → List ℕ
content_at files index = (slice_index_or files index (record { name = []; content = [] })).content

-- the bytes that a pick of that name opens; nothing where the call fails, or where no file has the name
abbrev pub opens : List FileBytes → List ℕ → Bool → Option (List ℕ)
opens files name fails = if fails then None else finite.get (named_files files) name
