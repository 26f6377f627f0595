-- The fields of the built-in node, for the tests.
use Rattle.std.proofs.Common.{◌≡◌, ℕ, sym, subst}
use Rattle.pb_schema.specs.declared.kind.Card.{Card}
use Rattle.pb_schema.specs.declared.schema.Schema.{Schema}
use Rattle.pb_schema.specs.Kinds.{ValueType}
use Rattle.pb_schema.specs.Builtin.{builtin}
use Rattle.dyn_message.specs.Fields.{HasField}

-- a field of the node is one of a schema that is the built-in one, at a type that is the node
pub node_has : (Cards : Card → Type 0) (Types : ValueType → Type 0) (schema : Schema) (type_no number : ℕ) → schema ≡ builtin → type_no ≡ 1 → HasField Cards Types builtin 1 number → HasField Cards Types schema type_no number
node_has Cards Types schema type_no number is_builtin is_node has =
    subst (λ s. HasField Cards Types s type_no number) (sym is_builtin) (subst (λ n. HasField Cards Types builtin n number) (sym is_node) has)
