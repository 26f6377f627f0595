-- The full names of the types of a schema.
use Rattle.std.specs.Prelude.{◌≡◌, ◌≢◌, ◌<◌, ℕ, List, Option, Some}
use Rattle.std.specs.Option.{option_map}
use Rattle.std.specs.List.{slice_get}
use Rattle.pb_schema.specs.declared.schema.Schema.{Schema}

-- the full name of the type with this number, where there is one
abbrev pub name_of : Schema → ℕ → Option (List ℕ)
name_of schema type_no = option_map (λ type. type.name) (slice_get schema.types type_no)

-- the type with this number has this full name
abbrev pub HasName : Schema → List ℕ → ℕ → Type 0
HasName schema name type_no = name_of schema type_no ≡ Some name

-- no type with a number below this one has this full name
abbrev pub NoneBelow : Schema → List ℕ → ℕ → Type 0
NoneBelow schema name bound = (type_no : ℕ) → type_no < bound → name_of schema type_no ≢ Some name
