-- What parsing counts by a meter, and what of that a memory was made to hold: a record that a field takes, the rest of a
-- payload, and a payload that is read into a message that is there.
use Rattle.std.specs.Prelude.{◌≡◌, ◌+◌, ℕ, zero, suc, List, [], ◌∷◌, ◌++◌}
use Rattle.std.specs.FinMap as map
use Rattle.arena_mem.specs.Places.{Places, Buffers, used}
use Rattle.msg_layout.specs.Layout.{layout_of}
use Rattle.pb_schema.specs.declared.kind.Card.{Card}
use Rattle.pb_schema.specs.declared.kind.Card.TheVariants as cards
use Rattle.pb_schema.specs.declared.kind.FieldType.{FieldType}
use Rattle.pb_schema.specs.declared.schema.Schema.{Schema}
use Rattle.pb_schema.specs.Fits.{fields_of}
use Rattle.pb_schema.specs.HeldAt.{held_at}
use Rattle.pb_schema.specs.Kinds.{value_type_of}
use Rattle.pb_schema.specs.MergeCost.{how_many}
use Rattle.pb_schema.specs.Meter.{Meter, placed_bytes, cleanups}
use Rattle.pb_schema.specs.MoreCost.{NestMore, single_more, gathered_more, more_left}
use Rattle.pb_schema.specs.ParseCost.{NestCost, list_cost, cost_left}
use Rattle.pb_schema.specs.Records.{Record}
use Rattle.pb_schema.specs.ShapeOf.{piece}
use Rattle.pb_schema.specs.Tree.{HeldWith, Shape}
use Rattle.pb_schema.specs.TreeOf.{records_in, unknown_of}

-- WHAT IS COUNTED

-- a record that a field of this card takes, where the field holds this
abbrev pub record_more : Meter → Schema → NestCost → NestMore → FieldType → HeldWith (List (List ℕ)) → Record → Card → ℕ
record_more meter schema nest more field held r (cards.Repeated packed) =
    list_cost meter schema nest field (how_many held) (r ∷ [])
record_more meter schema nest more field held r _ = single_more meter nest more (value_type_of field.kind) held (r ∷ [])

-- payloads that are read as one message, or into one that is there, one level deeper than where so many levels are left
unfoldable pub nest_left : Meter → Schema → ℕ → NestCost
nest_left meter schema zero type_no payloads = 0
nest_left meter schema (suc left) type_no payloads = cost_left meter schema left type_no payloads

unfoldable pub more_below : Meter → Schema → ℕ → NestMore
more_below meter schema zero type_no t payloads = 0
more_below meter schema (suc left) type_no t payloads = more_left meter schema left type_no t payloads

-- a record that a field of a message takes
unfoldable pub taken_cost : Meter → Schema → ℕ → ℕ → FieldType → Record → Shape → ℕ
taken_cost meter schema left type_no field r t =
    record_more meter schema (nest_left meter schema left) (more_below meter schema left) field (held_at schema type_no field.number t) r field.card

-- a payload that is read into a message that is there
unfoldable pub read_cost : Meter → Schema → ℕ → ℕ → Shape → List ℕ → ℕ
read_cost meter schema left type_no t s = more_left meter schema left type_no t (s ∷ [])

-- the rest of a payload, where the records before it made this message, and these bytes before it were unknown
unfoldable pub rest_cost : Meter → Schema → ℕ → ℕ → Shape → List ℕ → List ℕ → ℕ
rest_cost meter schema left type_no t unknown s =
    gathered_more meter schema (nest_left meter schema left) (more_below meter schema left) type_no t
    (records_in left s)
    (piece (unknown ++ unknown_of schema (fields_of schema type_no) (records_in left s)))

-- WHAT A MEMORY WAS MADE TO HOLD

-- the bytes placed, where records have the sizes of their layouts
abbrev pub record_meter : Schema → Meter
record_meter schema = placed_bytes (λ type_no. (layout_of schema type_no).size)

-- the bytes placed, and the buffers kept, are as many more as the first count by their meters is above the second
pub record Spends (schema : Schema) (places : Places) (buffers : Buffers) (places' : Places) (buffers' : Buffers) (before after : Meter → ℕ) : Type 0 where
  pub space : used places' + after (record_meter schema) ≡ used places + before (record_meter schema)
  pub kept : map.len buffers' + after cleanups ≡ map.len buffers + before cleanups

-- they are as many more as this counts
abbrev pub Costs : Schema → Places → Buffers → Places → Buffers → (Meter → ℕ) → Type 0
Costs schema places buffers places' buffers' cost = Spends schema places buffers places' buffers' cost (λ meter. 0)
