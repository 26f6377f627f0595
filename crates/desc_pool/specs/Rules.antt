-- What is looked for in the fields of each message.
use Rattle.std.specs.Prelude.{◌≡◌, ◌<◌, ℕ, Bool, false, not, ◌&&◌, ◌||◌, List, [], Option, filter, length, slice_index}
use Rattle.desc_pool.specs.declared.file.FieldDecl.{FieldDecl}
use Rattle.desc_pool.specs.declared.file.MessageDecl.{MessageDecl}
use Rattle.desc_pool.specs.declared.names.NameDecl.{NameDecl}
use Rattle.desc_pool.specs.declared.rules.Rule.{Rule}
use Rattle.desc_pool.specs.declared.rules.Rule.TheVariants.{BadNumber, RelativeName, UnknownType, UnsupportedType}
use Rattle.desc_pool.specs.declared.rules.Search.{Search}
use Rattle.desc_pool.specs.declared.rules.Search.TheVariants.{Breaking, Repeated, BadlyPlaced}
use Rattle.desc_pool.specs.Refusals.{first_that, first_repeated, has_bad_number, is_badly_placed, is_in, is_relative, is_unknown, is_unsupported}

abbrev pub breaks : Rule → List NameDecl → FieldDecl → Bool
breaks BadNumber names field = has_bad_number field
breaks RelativeName names field = is_relative field
breaks UnknownType names field = is_unknown names field
breaks UnsupportedType names field = is_unsupported field

abbrev pub found_by : Search → List NameDecl → MessageDecl → Option FieldDecl
found_by (Breaking rule) names message = first_that (breaks rule names) message.fields
found_by Repeated names message = first_repeated [] message.fields
found_by BadlyPlaced names message = first_that (is_badly_placed message) message.fields

-- a field, or an optional field alone, is in the oneof
abbrev pub is_inside : Bool → ℕ → FieldDecl → Bool
is_inside optional_alone oneof field = (not optional_alone || field.optional) && is_in oneof field

-- how many such fields of a message are in each of its oneofs
pub record CountsInside (optional_alone : Bool) (message : MessageDecl) (counts : List ℕ) : Type 0 where
  pub size : length counts ≡ message.oneofs
  pub members : (oneof : ℕ) → oneof < message.oneofs
      → slice_index counts oneof ≡ length (filter (is_inside optional_alone oneof) message.fields)

-- the same of all fields
abbrev pub CountsMembers : MessageDecl → List ℕ → Type 0
CountsMembers message counts = CountsInside false message counts
