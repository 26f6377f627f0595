-- What a whole payload is parsed as.
use Rattle.std.specs.Prelude.{ℕ, List, [], ◌∷◌}
use Rattle.pb_schema.specs.declared.schema.Schema.{Schema}
use Rattle.pb_schema.specs.Meter.{Meter}
use Rattle.pb_schema.specs.ParseCost.{parse_cost}
use Rattle.pb_schema.specs.Tree.{Shape}
use Rattle.pb_schema.specs.ShapeOf.{shape_of}

-- the shape of one payload at the root; a word of its own, since the definition would open a hundred levels in a clause
unfoldable pub shape_of_payload : Schema → ℕ → List ℕ → Shape
shape_of_payload schema type_no payload = shape_of schema type_no (payload ∷ [])

-- what the payload counts there by a meter
unfoldable pub payload_cost : Meter → Schema → ℕ → List ℕ → ℕ
payload_cost meter schema type_no payload = parse_cost meter schema type_no (payload ∷ [])
