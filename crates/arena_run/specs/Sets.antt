-- What the word SET gives: the schema that is built in, or that of the descriptor set in the file of that name.
use Rattle.std.specs.Prelude.{◌≡◌, ◌^◌, ℕ, Bool, true, false, List, length, Option, Some, Result, Ok, Err, IfSome, nat_le, codes, if◌then◌else◌}
use Rattle.std.specs.Option.{option_map}
use Rattle.std.specs.Str.{bytes_eq}
use Rattle.arena_mem.specs.Outside.{NamedFiles, content_of}
use Rattle.pb_schema.specs.declared.schema.Schema.{Schema}
use Rattle.pb_schema.specs.Builtin.{builtin}
use Rattle.desc_pool.specs.declared.fault.SchemaFault.{SchemaFault}
use Rattle.desc_pool.specs.Linked.{linked_set}
use Rattle.arena_run.specs.declared.fault.InputKind.TheVariants.{SetBytes}
use Rattle.arena_run.specs.declared.fault.Fault.{Fault}
use Rattle.arena_run.specs.declared.fault.Fault.TheVariants.{Schema as SetFault, TooLong}
use Rattle.arena_run.specs.Words.{IsCat, IsTypeOf}

abbrev pub set_bytes_limit : ℕ
set_bytes_limit = 2 ^ 22

-- a refusal of the set is the fault of the run
abbrev pub as_fault : Result Schema SchemaFault → Result Schema Fault
as_fault (Ok schema) = Ok schema
as_fault (Err refused) = Err (SetFault refused)

-- THE ORDER: the length of a set, its refusals
unfoldable pub set_answer : List ℕ → Result Schema Fault
set_answer content = if nat_le (length content) set_bytes_limit then as_fault (linked_set content) else Err (TooLong SetBytes set_bytes_limit)

-- the word of the schema that is built in, which never names a file
abbrev pub is_built_in : List ℕ → Bool
is_built_in set = bytes_eq set (codes "builtin")

-- a schema, or why there is none, where the files tell that; the one that is built in is always told
abbrev pub given_by : Bool → Option (List ℕ) → Option (Result Schema Fault)
given_by true found = Some (Ok builtin)
given_by false found = option_map set_answer found

unfoldable pub set_given : Option NamedFiles → List ℕ → Option (Result Schema Fault)
set_given files set = given_by (is_built_in set) (content_of files set)

-- the set that the words name gives this schema, where that is told
abbrev pub IsGiven : List (List ℕ) → Option NamedFiles → Schema → Type 0
IsGiven words files schema = (set type_name frames : List ℕ) → IsCat words set type_name frames → IfSome (set_given files set) (λ answer. answer ≡ Ok schema)

-- the set gives a schema with a type of that name, where that is told
abbrev pub IsTypedBy : Option NamedFiles → List ℕ → List ℕ → Type 0
IsTypedBy files set type_name = IfSome (set_given files set) (λ answer. (schema : Schema) × (type_no : ℕ) × (answer ≡ Ok schema) × IsTypeOf schema type_name type_no)
