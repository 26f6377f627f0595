-- What payloads count more, by a meter, where a message is there that they are read into: a message that is there takes
-- more in, a list grows from what it holds, and a string is set anew.
use Rattle.std.specs.Prelude.{◌+◌, ℕ, zero, suc, List, [], ◌∷◌, length, sum_by}
use Rattle.pb_schema.specs.declared.kind.Card.{Card}
use Rattle.pb_schema.specs.declared.kind.Card.TheVariants as cards
use Rattle.pb_schema.specs.declared.kind.FieldType.{FieldType}
use Rattle.pb_schema.specs.declared.schema.Schema.{Schema}
use Rattle.pb_schema.specs.Kinds.{ValueType, Nested, value_type_of}
use Rattle.pb_schema.specs.Fits.{fields_of}
use Rattle.pb_schema.specs.Broken.{most_levels}
use Rattle.pb_schema.specs.Records.{Record}
use Rattle.pb_schema.specs.Tree.{HeldWith, One, Sub, Shape, Message, HeldListWith, FieldAnd}
use Rattle.pb_schema.specs.TreeOf.{payloads_of, fitting, of_oneof, runs}
use Rattle.pb_schema.specs.ShapeOf.{records_of_all, pieces_of}
use Rattle.pb_schema.specs.Meter.{Meter}
use Rattle.pb_schema.specs.ParseCost.{NestCost, single_cost, list_cost, pieces_cost, cost_left}
use Rattle.pb_schema.specs.MergeCost.{how_many}

-- what payloads count more that are read into a message of a type
abbrev pub NestMore : Type 0
NestMore = ℕ → Shape → List (List ℕ) → ℕ

-- the payloads of all records are read into the message that is there, or else as one message
abbrev pub merged_more : (Shape → List (List ℕ) → ℕ) → (List (List ℕ) → ℕ) → HeldWith (List (List ℕ)) → List Record → ℕ
merged_more more nested held [] = 0
merged_more more nested (One (Sub t)) (r ∷ rs) = more t (payloads_of (r ∷ rs))
merged_more more nested _ (r ∷ rs) = nested (payloads_of (r ∷ rs))

-- the one value of this type that some records set, where a field holds this
abbrev pub single_more : Meter → NestCost → NestMore → ValueType → HeldWith (List (List ℕ)) → List Record → ℕ
single_more meter nest more (Nested type_no) held rs = merged_more (more type_no) (nest type_no) held rs
single_more meter nest more type held rs = single_cost meter nest type rs

-- of runs the first goes on with what the field holds
abbrev pub runs_more : Meter → NestCost → NestMore → ValueType → HeldWith (List (List ℕ)) → List (List Record) → ℕ
runs_more meter nest more type held [] = 0
runs_more meter nest more type held (run ∷ rest) =
    single_more meter nest more type held run + sum_by (single_cost meter nest type) rest

-- the records of a field of this card, where the field holds this
abbrev pub more_by : Meter → Schema → NestCost → NestMore → List FieldType → List Record → FieldType
    → HeldWith (List (List ℕ)) → Card → ℕ
more_by meter schema nest more fields rs field held cards.Implicit =
    single_more meter nest more (value_type_of field.kind) held (fitting schema field rs)
more_by meter schema nest more fields rs field held cards.Explicit =
    single_more meter nest more (value_type_of field.kind) held (fitting schema field rs)
more_by meter schema nest more fields rs field held (cards.Member oneof) =
    runs_more meter nest more (value_type_of field.kind) held (runs schema field (of_oneof schema fields oneof rs))
more_by meter schema nest more fields rs field held (cards.Repeated packed) =
    list_cost meter schema nest field (how_many held) (fitting schema field rs)

-- each field by itself, where `all` are the fields of the type
abbrev pub fields_more : Meter → Schema → NestCost → NestMore → List FieldType → List Record → List FieldType
    → HeldListWith (List (List ℕ)) → ℕ
fields_more meter schema nest more all rs (field ∷ fields) (FieldAnd held rest) =
    more_by meter schema nest more all rs field held field.card + fields_more meter schema nest more all rs fields rest
fields_more meter schema nest more all rs _ _ = 0

-- these records and pieces more in a message
abbrev pub gathered_more : Meter → Schema → NestCost → NestMore → ℕ → Shape → List Record → List (List ℕ) → ℕ
gathered_more meter schema nest more type_no (Message held before) rs pieces =
    fields_more meter schema nest more (fields_of schema type_no) rs (fields_of schema type_no) held
    + pieces_cost meter (length before) pieces

-- payloads more in a message, where so many levels are left below it
abbrev pub more_left : Meter → Schema → ℕ → ℕ → Shape → List (List ℕ) → ℕ
more_left meter schema zero type_no t payloads =
    gathered_more meter schema (λ inner more. 0) (λ inner u more. 0) type_no t
    (records_of_all 0 payloads)
    (pieces_of schema 0 (fields_of schema type_no) payloads)
more_left meter schema (suc left) type_no t payloads =
    gathered_more meter schema
    (λ inner more. cost_left meter schema left inner more)
    (λ inner u more. more_left meter schema left inner u more)
    type_no t
    (records_of_all (suc left) payloads)
    (pieces_of schema (suc left) (fields_of schema type_no) payloads)

-- payloads more in a message of this type at the root
abbrev pub more_cost : Meter → Schema → ℕ → Shape → List (List ℕ) → ℕ
more_cost meter schema type_no t payloads = more_left meter schema most_levels type_no t payloads
