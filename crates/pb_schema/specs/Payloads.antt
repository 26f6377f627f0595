-- Lists of payloads that are read at one type, and lists of trees that are written: the trees of all payloads, the
-- first payload with a fault, and the texts of all trees, each behind its length.
use Rattle.std.specs.Prelude.{ℕ, suc, List, [], ◌∷◌, flat_map, Option, None, Some, option_and_then}
use Rattle.std.specs.Option.{option_map}
use Rattle.pb_schema.specs.declared.schema.Schema.{Schema}
use Rattle.pb_schema.specs.declared.wire_fault.WireFault.{WireFault}
use Rattle.pb_schema.specs.Fault.{fault_of}
use Rattle.pb_schema.specs.Tree.{Tree}
use Rattle.pb_schema.specs.TreeOf.{tree_of}
use Rattle.pb_schema.specs.Text.{framed, text_of}

-- the tree of each payload, where each of them has one
abbrev pub trees_of : Schema → ℕ → List (List ℕ) → Option (List Tree)
trees_of schema type_no [] = Some []
trees_of schema type_no (payload ∷ payloads) =
    option_and_then
    (λ tree. option_map (λ trees. tree ∷ trees) (trees_of schema type_no payloads))
    (tree_of schema type_no payload)

-- the place of the first payload with a fault, and its first fault, where the payloads begin at this place
abbrev pub bad_payload_from : Schema → ℕ → ℕ → List (List ℕ) → Option (ℕ × WireFault)
bad_payload_from schema type_no place [] = None
bad_payload_from schema type_no place (payload ∷ payloads) =
    elim (fault_of schema type_no 0 payload) [
      | Some fault ↦ Some (place, fault)
      | None ↦ bad_payload_from schema type_no (suc place) payloads
    ]

-- the place of the first payload with a fault, and its first fault
abbrev pub bad_payload : Schema → ℕ → List (List ℕ) → Option (ℕ × WireFault)
bad_payload schema type_no payloads = bad_payload_from schema type_no 0 payloads

-- the text of a tree behind its length
abbrev pub framed_text : Schema → ℕ → Tree → List ℕ
framed_text schema type_no t = framed (text_of schema type_no t)

-- those of all trees, in order
abbrev pub framed_texts : Schema → ℕ → List Tree → List ℕ
framed_texts schema type_no trees = flat_map (framed_text schema type_no) trees
