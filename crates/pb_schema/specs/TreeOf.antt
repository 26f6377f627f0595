-- What the bytes of a message stand for (encoding guide, "Last One Wins", "Repeated Elements" and "Packed Repeated
-- Fields"; proto3 guide, "Oneof Features" and "Unknown Fields"). Each field gathers over the whole list of the records.
use Rattle.std.specs.Prelude.{◌+◌, ◌-◌, ◌*◌, ◌%◌, ◌^◌, ℕ, zero, suc, Bool, not, ◌&&◌, List, [], ◌∷◌, take, map, filter, flat_map, Option, None, Some, if◌then◌else◌}
use Rattle.std.specs.List.{list_any, slice_split, concat}
use Rattle.pb_schema.specs.declared.kind.Card.{Card}
use Rattle.pb_schema.specs.declared.kind.Card.TheVariants as cards
use Rattle.pb_schema.specs.declared.kind.FieldType.{FieldType}
use Rattle.pb_schema.specs.declared.schema.Schema.{Schema}
use Rattle.pb_schema.specs.Varint.{seven_bits}
use Rattle.pb_schema.specs.Reads.{value_read}
use Rattle.pb_schema.specs.Kinds.{Coding, ValueType, Scalar, Characters, Octets, Nested, value_type_of}
use Rattle.pb_schema.specs.Cards.{is_member}
use Rattle.pb_schema.specs.Fits.{takes, is_taken, fields_of}
use Rattle.pb_schema.specs.Form.{read_scalar}
use Rattle.pb_schema.specs.Broken.{broken_of, most_levels}
use Rattle.pb_schema.specs.Records.{Record, records_within}
use Rattle.pb_schema.specs.Tree.{ValueWith, Number, Bytes, Sub, HeldWith, Nothing, One, Many, TreeWith, Tree, Message, value_list, held_list}
use Rattle.pb_schema.specs.Empty.{empty_with}

-- NUMBERS

-- the number of some bytes, the lowest first
abbrev pub little_endian : List ℕ → ℕ
little_endian [] = 0
little_endian (b ∷ s) = b % 256 + 256 * little_endian s

-- the number that the bytes of a value of wire type 0, or of a fixed one, spell
abbrev pub number_in : ℕ → List ℕ → ℕ
number_in zero s = seven_bits s % 2 ^ 64
number_in (suc wire) s = little_endian s

-- the bytes of each of the numbers that stand one after another, behind some bytes that are skipped
abbrev pub elements_from : ℕ → ℕ → List ℕ → List (List ℕ)
elements_from wire skip [] = []
elements_from wire (suc skip) (b ∷ s) = elements_from wire skip s
elements_from wire zero (b ∷ s) =
    elim (value_read (read_scalar wire 0 (b ∷ s))) [
      | None ↦ []
      | Some n ↦ take n (b ∷ s) ∷ elements_from wire (n - 1) s
    ]

-- the pattern of the number that some bytes spell
abbrev pub pattern_in : Coding → List ℕ → ℕ
pattern_in coding s = coding.kept (number_in coding.wire s)

-- FIELDS

-- how payloads are read, one behind the other, as one message of a type
abbrev pub Nest : Type 0 → Type 0
Nest U = ℕ → List (List ℕ) → TreeWith U

-- the records that the field takes
abbrev pub fitting : Schema → FieldType → List Record → List Record
fitting schema field rs = filter (takes schema field) rs

-- the last element, or nothing
abbrev pub last_of : {A : Type 0} → List A → Option A
last_of [] = None
last_of (x ∷ []) = Some x
last_of (x ∷ y ∷ xs) = last_of (y ∷ xs)

-- the elements where there is a list, and else none
abbrev pub or_none : {A : Type 0} → Option (List A) → List A
or_none None = []
or_none (Some xs) = xs

abbrev pub payloads_of : List Record → List (List ℕ)
payloads_of rs = map (λ r. r.payload) rs

-- the value of the last record
abbrev pub last_held : {U : Type 0} → (Record → ValueWith U) → List Record → HeldWith U
last_held value rs = elim (last_of rs) [ None ↦ Nothing | Some r ↦ One (value r) ]

-- the message of all payloads together
abbrev pub merged : {U : Type 0} → (List (List ℕ) → TreeWith U) → List Record → HeldWith U
merged nested [] = Nothing
merged nested (r ∷ rs) = One (Sub (nested (payloads_of (r ∷ rs))))

-- the one value of this type that some records have: of a number, text or bytes the last wins, messages are read as one
abbrev pub single_by : {U : Type 0} → Nest U → ValueType → List Record → HeldWith U
single_by nest (Scalar coding) rs = last_held (λ r. Number (pattern_in coding r.payload)) rs
single_by nest Characters rs = last_held (λ r. Bytes r.payload) rs
single_by nest Octets rs = last_held (λ r. Bytes r.payload) rs
single_by nest (Nested type_no) rs = merged (nest type_no) rs

-- the one value of a field that some of its records have
abbrev pub single : {U : Type 0} → Nest U → FieldType → List Record → HeldWith U
single nest field rs = single_by nest (value_type_of field.kind) rs

-- the values of this type that one record of a list has: its numbers, packed or not, or its one text, bytes or message
abbrev pub values_by : {U : Type 0} → Nest U → ValueType → Record → List (ValueWith U)
values_by nest (Scalar coding) r = map (λ s. Number (pattern_in coding s)) (elements_from coding.wire 0 r.payload)
values_by nest Characters r = Bytes r.payload ∷ []
values_by nest Octets r = Bytes r.payload ∷ []
values_by nest (Nested type_no) r = Sub (nest type_no (r.payload ∷ [])) ∷ []

-- the values that one record of a list adds to the field
abbrev pub values_in : {U : Type 0} → Schema → Nest U → FieldType → Record → List (ValueWith U)
values_in schema nest field r = values_by nest (value_type_of field.kind) r

-- a default counts as nothing
abbrev pub unless_default : {U : Type 0} → HeldWith U → HeldWith U
unless_default (One (Number zero)) = Nothing
unless_default (One (Bytes [])) = Nothing
unless_default held = held

-- a member of the oneof takes the record
abbrev pub is_of_oneof : Schema → List FieldType → ℕ → Record → Bool
is_of_oneof schema fields oneof r = list_any (λ field. is_member oneof field.card && takes schema field r) fields

-- the records that members of a oneof take
abbrev pub of_oneof : Schema → List FieldType → ℕ → List Record → List Record
of_oneof schema fields oneof rs = filter (is_of_oneof schema fields oneof) rs

-- the runs of records that the field takes, parted by each other record; a run may be empty
abbrev pub runs : Schema → FieldType → List Record → List (List Record)
runs schema field rs = slice_split (λ r. not (takes schema field r)) rs

-- the last run, which is empty where the last record is another
abbrev pub last_run : Schema → FieldType → List Record → List Record
last_run schema field rs = or_none (last_of (runs schema field rs))

-- what a field of this card holds
abbrev pub held_by : {U : Type 0} → Schema → Nest U → List FieldType → List Record → FieldType → Card → HeldWith U
held_by schema nest fields rs field cards.Implicit = unless_default (single nest field (fitting schema field rs))
held_by schema nest fields rs field cards.Explicit = single nest field (fitting schema field rs)
held_by schema nest fields rs field (cards.Member oneof) =
    single nest field (last_run schema field (of_oneof schema fields oneof rs))
held_by schema nest fields rs field (cards.Repeated packed) =
    Many (value_list (flat_map (values_in schema nest field) (fitting schema field rs)))

abbrev pub held_of : {U : Type 0} → Schema → Nest U → List FieldType → List Record → FieldType → HeldWith U
held_of schema nest fields rs field = held_by schema nest fields rs field field.card

-- what a record adds to the unknown bytes: its span where no field takes it
abbrev pub unknown_in : Schema → List FieldType → Record → List ℕ
unknown_in schema fields r = if is_taken schema fields r then [] else r.span

-- the unknown bytes of some records
abbrev pub unknown_of : Schema → List FieldType → List Record → List ℕ
unknown_of schema fields rs = flat_map (unknown_in schema fields) rs

-- MESSAGES

-- what the fields hold of some records, and what is unknown
abbrev pub gathered : {U : Type 0} → Schema → Nest U → List FieldType → List Record → U → TreeWith U
gathered schema nest fields rs unknown = Message (held_list (map (held_of schema nest fields rs) fields)) unknown

-- the records of a payload, where groups are nested at most so many levels; none of one that isn't cut so
abbrev pub records_in : ℕ → List ℕ → List Record
records_in left s = or_none (records_within left s)

-- the tree of a payload whose bytes have no fault, where so many levels are left below it
abbrev pub tree_left : Schema → ℕ → List FieldType → List ℕ → Tree
tree_left schema zero fields s =
    gathered schema (λ type_no payloads. empty_with [] (fields_of schema type_no)) fields
    (records_in 0 s)
    (unknown_of schema fields (records_in 0 s))
tree_left schema (suc left) fields s =
    gathered schema (λ type_no payloads. tree_left schema left (fields_of schema type_no) (concat payloads)) fields
    (records_in (suc left) s)
    (unknown_of schema fields (records_in (suc left) s))

-- the tree of a payload at the root; it exists where the bytes have no fault
abbrev pub tree_of : Schema → ℕ → List ℕ → Option Tree
tree_of schema type_no s =
    elim (broken_of schema type_no 0 s) [
      | None ↦ Some (tree_left schema most_levels (fields_of schema type_no) s)
      | Some fault ↦ None
    ]
