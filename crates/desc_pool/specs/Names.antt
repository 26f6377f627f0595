-- The full names that a set declares, in the order in which they are looked at: a file's own enums, then each message
-- with its enums right behind it.
use Rattle.std.specs.Prelude.{ℕ, suc, Bool, true, false, not, ◌&&◌, List, [], ◌∷◌, ◌++◌, flat_map, map, sum_by, Option, None, Some, if◌then◌else◌}
use Rattle.std.specs.List.{list_any}
use Rattle.std.specs.Str.{bytes_eq}
use Rattle.desc_pool.specs.declared.file.MessageDecl.{MessageDecl}
use Rattle.desc_pool.specs.declared.file.FileDecl.{FileDecl}
use Rattle.desc_pool.specs.declared.names.NameDecl.{NameDecl}

abbrev pub enum_decl : List ℕ → NameDecl
enum_decl name = record { name = name; is_message = false }

abbrev pub message_decl : MessageDecl → List NameDecl
message_decl message = record { name = message.name; is_message = true } ∷ map enum_decl message.enums

abbrev pub file_decl : FileDecl → List NameDecl
file_decl file = map enum_decl file.enums ++ flat_map message_decl file.messages

abbrev pub names_of : List FileDecl → List NameDecl
names_of files = flat_map file_decl files

-- how often a name stands among them
abbrev pub times : List ℕ → List NameDecl → ℕ
times name names = sum_by (λ decl. if bytes_eq name decl.name then 1 else 0) names

-- an enum has this name
abbrev pub is_enum : List NameDecl → List ℕ → Bool
is_enum names name = list_any (λ decl. not decl.is_message && bytes_eq name decl.name) names

-- the place among all messages of the one with this name, where so many stand in front; where names aren't told apart,
-- of the last one
abbrev pub place_from : ℕ → List NameDecl → List ℕ → Option ℕ
place_from place [] name = None
place_from place (decl ∷ names) name = elim (place_from (if decl.is_message then suc place else place) names name) [
  | Some later ↦ Some later
  | None ↦ if decl.is_message && bytes_eq name decl.name then Some place else None
]

abbrev pub place_of : List NameDecl → List ℕ → Option ℕ
place_of names name = place_from 0 names name
