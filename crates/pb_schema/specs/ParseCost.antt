-- What the messages that are read from payloads count by a meter: each record of a string sets it anew, a list grows
-- value by value, and each message is one record. It is gathered over the records of all payloads, as what the message
-- holds is.
use Rattle.std.specs.Prelude.{◌+◌, ℕ, zero, suc, List, [], ◌∷◌, length, sum_by}
use Rattle.pb_schema.specs.declared.kind.Card.{Card}
use Rattle.pb_schema.specs.declared.kind.Card.TheVariants as cards
use Rattle.pb_schema.specs.declared.kind.FieldType.{FieldType}
use Rattle.pb_schema.specs.declared.schema.Schema.{Schema}
use Rattle.pb_schema.specs.Kinds.{ValueType, Scalar, Characters, Octets, Nested, value_type_of, slot_of}
use Rattle.pb_schema.specs.Fits.{fields_of}
use Rattle.pb_schema.specs.Broken.{most_levels}
use Rattle.pb_schema.specs.Records.{Record}
use Rattle.pb_schema.specs.Empty.{empty_with}
use Rattle.pb_schema.specs.TreeOf.{payloads_of, fitting, of_oneof, runs, values_in}
use Rattle.pb_schema.specs.ShapeOf.{records_of_all, pieces_of}
use Rattle.pb_schema.specs.Meter.{Meter}

-- what payloads count that are read as one message of a type
abbrev pub NestCost : Type 0
NestCost = ℕ → List (List ℕ) → ℕ

-- text or bytes
abbrev pub string_cost : Meter → List ℕ → ℕ
string_cost meter s = meter.bytes (length s)

-- a message of all payloads together, where there are any
abbrev pub merged_cost : (List (List ℕ) → ℕ) → List Record → ℕ
merged_cost nested [] = 0
merged_cost nested (r ∷ rs) = nested (payloads_of (r ∷ rs))

-- the one value of this type that some records set: each text or bytes, and one message
abbrev pub single_cost : Meter → NestCost → ValueType → List Record → ℕ
single_cost meter nest (Scalar coding) rs = 0
single_cost meter nest Characters rs = sum_by (λ r. string_cost meter r.payload) rs
single_cost meter nest Octets rs = sum_by (λ r. string_cost meter r.payload) rs
single_cost meter nest (Nested type_no) rs = merged_cost (nest type_no) rs

-- the values of this type that a record adds to a list
abbrev pub element_cost : Meter → NestCost → ValueType → Record → ℕ
element_cost meter nest (Scalar coding) r = 0
element_cost meter nest Characters r = string_cost meter r.payload
element_cost meter nest Octets r = string_cost meter r.payload
element_cost meter nest (Nested type_no) r = nest type_no (r.payload ∷ [])

-- how many values a record adds to a list, whatever its messages hold
abbrev pub value_count : Schema → FieldType → Record → ℕ
value_count schema field r = length (values_in {U = List ℕ} schema (λ type_no payloads. empty_with [] []) field r)

-- a list that has so many values already
abbrev pub list_cost : Meter → Schema → NestCost → FieldType → ℕ → List Record → ℕ
list_cost meter schema nest field before rs =
    meter.growth (slot_of (value_type_of field.kind)) before (before + sum_by (value_count schema field) rs)
    + sum_by (element_cost meter nest (value_type_of field.kind)) rs

-- the records of a field of this card; of a member of a oneof each run counts, since another member ends what it set
abbrev pub cost_by : Meter → Schema → NestCost → List FieldType → List Record → FieldType → Card → ℕ
cost_by meter schema nest fields rs field cards.Implicit =
    single_cost meter nest (value_type_of field.kind) (fitting schema field rs)
cost_by meter schema nest fields rs field cards.Explicit =
    single_cost meter nest (value_type_of field.kind) (fitting schema field rs)
cost_by meter schema nest fields rs field (cards.Member oneof) =
    sum_by (single_cost meter nest (value_type_of field.kind)) (runs schema field (of_oneof schema fields oneof rs))
cost_by meter schema nest fields rs field (cards.Repeated packed) =
    list_cost meter schema nest field 0 (fitting schema field rs)

abbrev pub field_cost : Meter → Schema → NestCost → List FieldType → List Record → FieldType → ℕ
field_cost meter schema nest fields rs field = cost_by meter schema nest fields rs field field.card

-- pieces of unknown bytes, behind so many that are there
abbrev pub pieces_cost : Meter → ℕ → List (List ℕ) → ℕ
pieces_cost meter before pieces =
    meter.growth (slot_of Octets) before (before + length pieces) + sum_by (string_cost meter) pieces

-- a message with these records and pieces
abbrev pub gathered_cost : Meter → Schema → NestCost → ℕ → List Record → List (List ℕ) → ℕ
gathered_cost meter schema nest type_no rs pieces =
    meter.size type_no + sum_by (field_cost meter schema nest (fields_of schema type_no) rs) (fields_of schema type_no)
    + pieces_cost meter 0 pieces

-- payloads that are read as one message, where so many levels are left below it
abbrev pub cost_left : Meter → Schema → ℕ → ℕ → List (List ℕ) → ℕ
cost_left meter schema zero type_no payloads =
    gathered_cost meter schema (λ inner more. 0) type_no
    (records_of_all 0 payloads)
    (pieces_of schema 0 (fields_of schema type_no) payloads)
cost_left meter schema (suc left) type_no payloads =
    gathered_cost meter schema (λ inner more. cost_left meter schema left inner more) type_no
    (records_of_all (suc left) payloads)
    (pieces_of schema (suc left) (fields_of schema type_no) payloads)

-- payloads that are read as one message of this type at the root
abbrev pub parse_cost : Meter → Schema → ℕ → List (List ℕ) → ℕ
parse_cost meter schema type_no payloads = cost_left meter schema most_levels type_no payloads
