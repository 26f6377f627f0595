-- Which sets aren't linked, one word for each refusal (proto3 guide, "Assigning Field Numbers", "Oneof" and "Packages
-- and Name Resolution"; descriptor.proto, `FieldDescriptorProto`). Each tells the first thing that it is about.
use Rattle.std.specs.Prelude.{◌^◌, ℕ, suc, Bool, false, not, ◌&&◌, ◌||◌, ◌==◌, nat_lt, nat_le, List, [], ◌∷◌, ◌++◌, length, filter, flat_map, codes, Option, None, Some, if◌then◌else◌}
use Rattle.std.specs.Option.{option_map, is_some}
use Rattle.std.specs.List.{list_any}
use Rattle.std.specs.Map.{lookup}
use Rattle.pb_schema.specs.declared.kind.Kind.{Kind}
use Rattle.pb_schema.specs.declared.kind.Kind.TheVariants as kinds
use Rattle.pb_schema.specs.Lawful.{most_types, most_fields}
use Rattle.desc_pool.specs.declared.file.FieldDecl.{FieldDecl}
use Rattle.desc_pool.specs.declared.file.MessageDecl.{MessageDecl}
use Rattle.desc_pool.specs.declared.file.FileDecl.{FileDecl}
use Rattle.desc_pool.specs.declared.names.NameDecl.{NameDecl}
use Rattle.desc_pool.specs.declared.fault.SchemaFault.{SchemaFault}
use Rattle.desc_pool.specs.declared.fault.SchemaFault.TheVariants.{Syntax, DuplicateName, BadNumber, DuplicateNumber, RelativeName, UnknownType, BadOneof, UnsupportedType, TooMany}
use Rattle.desc_pool.specs.Trees.{or_empty}
use Rattle.desc_pool.specs.Names.{names_of, times, is_enum, place_of}

-- THE FIRST

abbrev pub first_that : {A : Type 0} → (A → Bool) → List A → Option A
first_that test [] = None
first_that test (x ∷ xs) = if test x then Some x else first_that test xs

-- what the first one gives that gives anything
abbrev pub first_some : {A B : Type 0} → (A → Option B) → List A → Option B
first_some f [] = None
first_some f (x ∷ xs) = elim (f x) [ Some y ↦ Some y | None ↦ first_some f xs ]

-- the place of the first, where so many stand in front
abbrev pub place_that : {A : Type 0} → (A → Bool) → ℕ → List A → Option ℕ
place_that test place [] = None
place_that test place (x ∷ xs) = if test x then Some place else place_that test (suc place) xs

-- a field is told by its message's full name, a dot and its own
abbrev pub field_name : MessageDecl → FieldDecl → List ℕ
field_name message field = message.name ++ codes "." ++ field.name

-- the first field of all messages, in the order of files and messages, of which each has at most one to tell
abbrev pub first_field : (MessageDecl → Option FieldDecl) → List FileDecl → Option (List ℕ)
first_field rule files =
    first_some (λ file. first_some (λ message. option_map (field_name message) (rule message)) file.messages) files

-- THE REFUSALS

-- a file isn't of proto3
abbrev pub syntax : List FileDecl → Option ℕ
syntax files = place_that (λ file. not file.is_proto3) 0 files

-- a full name stands more than once
abbrev pub duplicate_name : List FileDecl → Option (List ℕ)
duplicate_name files =
    let names = names_of files in
    option_map (λ decl. decl.name) (first_that (λ decl. nat_lt 1 (times decl.name names)) names)

-- a number isn't 1 to 2^29 - 1
abbrev pub has_bad_number : FieldDecl → Bool
has_bad_number field = nat_lt field.number 1 || nat_le (2 ^ 29) field.number

-- a field has the number of an earlier one
abbrev pub first_repeated : List ℕ → List FieldDecl → Option FieldDecl
first_repeated earlier [] = None
first_repeated earlier (field ∷ fields) =
    if list_any (λ number. number == field.number) earlier
    then Some field
    else first_repeated (field.number ∷ earlier) fields

-- a field names a message or an enum, which it has to do from the root, with a dot in front
abbrev pub names_message : FieldDecl → Bool
names_message field = field.type_code == 11

abbrev pub names_enum : FieldDecl → Bool
names_enum field = field.type_code == 14

abbrev pub begins_with_dot : List ℕ → Bool
begins_with_dot [] = false
begins_with_dot (b ∷ name) = b == 46

abbrev pub is_relative : FieldDecl → Bool
is_relative field =
    (names_message field || names_enum field) && not (begins_with_dot (or_empty field.type_name))

-- the full name of what it names, which stands behind the dot
abbrev pub behind_dot : List ℕ → List ℕ
behind_dot [] = []
behind_dot (b ∷ name) = if b == 46 then name else []

abbrev pub target : FieldDecl → List ℕ
target field = behind_dot (or_empty field.type_name)

-- there is no such message, or no such enum
abbrev pub is_unknown : List NameDecl → FieldDecl → Bool
is_unknown names field =
    (names_message field && not (is_some (place_of names (target field))))
    || (names_enum field && not (is_enum names (target field)))

-- how many fields of a message are in the oneof
abbrev pub is_in : ℕ → FieldDecl → Bool
is_in oneof field = elim field.oneof_index [ Some index ↦ index == oneof | None ↦ false ]

abbrev pub members : MessageDecl → ℕ → ℕ
members message oneof = length (filter (is_in oneof) message.fields)

abbrev pub is_repeated : FieldDecl → Bool
is_repeated field = field.label == 3

-- a field's oneof isn't declared, or it is a list in one, or it is optional and not alone in it
abbrev pub is_bad_member : MessageDecl → FieldDecl → ℕ → Bool
is_bad_member message field oneof =
    nat_le message.oneofs oneof || (is_repeated field || (field.optional && nat_lt 1 (members message oneof)))

-- the same, or it is optional without one
abbrev pub is_badly_placed : MessageDecl → FieldDecl → Bool
is_badly_placed message field = elim field.oneof_index [
  | Some oneof ↦ is_bad_member message field oneof
  | None ↦ field.optional
]

-- the kinds by their numbers in descriptor.proto, where a message is of the type at this place; a group isn't one
abbrev pub kind_table : ℕ → List (ℕ × Kind)
kind_table place =
    (1, kinds.Double)
    ∷ (2, kinds.Float)
    ∷ (3, kinds.Int64)
    ∷ (4, kinds.UInt64)
    ∷ (5, kinds.Int32)
    ∷ (6, kinds.Fixed64)
    ∷ (7, kinds.Fixed32)
    ∷ (8, kinds.Bool)
    ∷ (9, kinds.Text)
    ∷ (11, kinds.Message place)
    ∷ (12, kinds.Bytes)
    ∷ (13, kinds.UInt32)
    ∷ (14, kinds.Enumeration)
    ∷ (15, kinds.SFixed32)
    ∷ (16, kinds.SFixed64)
    ∷ (17, kinds.SInt32)
    ∷ (18, kinds.SInt64)
    ∷ []

abbrev pub kind_by : ℕ → ℕ → Option Kind
kind_by code place = lookup (λ number. number == code) (kind_table place)

-- a type that isn't one of these, or a label that is neither absent, optional nor repeated
abbrev pub is_unsupported : FieldDecl → Bool
is_unsupported field = not (is_some (kind_by field.type_code 0)) || field.label == 2 || nat_lt 3 field.label

-- more messages than a schema may have, or more fields than a message may have
abbrev pub all_messages : List FileDecl → List MessageDecl
all_messages files = flat_map (λ file. file.messages) files

abbrev pub too_many : List FileDecl → Option (List ℕ)
too_many files =
    if nat_lt most_types (length (all_messages files))
    then Some []
    else
    first_some
    (λ file. option_map (λ message. message.name) (first_that (λ message. nat_lt most_fields (length message.fields)) file.messages))
    files

-- THE ORDER

infixr 5 ◌otherwise◌
abbrev pub ◌otherwise◌ : {A : Type 0} → Option A → Option A → Option A
(Some x) otherwise y = Some x
None otherwise y = y

-- the first field of all files with this property
abbrev pub field_that : (FieldDecl → Bool) → List FileDecl → Option (List ℕ)
field_that test files = first_field (λ message. first_that test message.fields) files

abbrev pub refusal : List FileDecl → Option SchemaFault
refusal files =
    option_map Syntax (syntax files)
    otherwise option_map DuplicateName (duplicate_name files)
    otherwise option_map BadNumber (field_that has_bad_number files)
    otherwise option_map DuplicateNumber (first_field (λ message. first_repeated [] message.fields) files)
    otherwise option_map RelativeName (field_that is_relative files)
    otherwise option_map UnknownType (field_that (is_unknown (names_of files)) files)
    otherwise option_map BadOneof (first_field (λ message. first_that (is_badly_placed message) message.fields) files)
    otherwise option_map UnsupportedType (field_that is_unsupported files)
    otherwise option_map TooMany (too_many files)
