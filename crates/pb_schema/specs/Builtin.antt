-- The built-in schema: type 0 is `pb.Tick { uint64 value = 1; }`, and type 1 is `pb.Node { string name = 1; int64 count
-- = 2; repeated Node child = 3; repeated int32 mark = 4; bytes blob = 5; Node next = 6; oneof pick { string word = 7;
-- Node node = 8; } }`, both of proto3.
use Rattle.std.specs.Prelude.{ℕ, true, false, List, [], ◌∷◌}
use Rattle.pb_schema.specs.declared.kind.Kind.{Kind}
use Rattle.pb_schema.specs.declared.kind.Kind.TheVariants as kinds
use Rattle.pb_schema.specs.declared.kind.Card.{Card}
use Rattle.pb_schema.specs.declared.kind.Card.TheVariants as cards
use Rattle.pb_schema.specs.declared.kind.FieldType.{FieldType}
use Rattle.pb_schema.specs.declared.schema.MessageType.{MessageType}
use Rattle.pb_schema.specs.declared.schema.Schema.{Schema}

abbrev pub field : ℕ → Kind → Card → FieldType
field number kind card = record { number = number; kind = kind; card = card }

-- the names are the bytes of `pb.Tick` and `pb.Node`
abbrev pub tick_type : MessageType
tick_type =
    record {
      name = 112 ∷ 98 ∷ 46 ∷ 84 ∷ 105 ∷ 99 ∷ 107 ∷ [];
      fields = field 1 kinds.UInt64 cards.Implicit ∷ [];
      oneofs = 0;
    }

abbrev pub node_fields : List FieldType
node_fields =
    field 1 kinds.Text cards.Implicit
    ∷ field 2 kinds.Int64 cards.Implicit
    ∷ field 3 (kinds.Message 1) (cards.Repeated false)
    ∷ field 4 kinds.Int32 (cards.Repeated true)
    ∷ field 5 kinds.Bytes cards.Implicit
    ∷ field 6 (kinds.Message 1) cards.Explicit
    ∷ field 7 kinds.Text (cards.Member 0)
    ∷ field 8 (kinds.Message 1) (cards.Member 0)
    ∷ []

abbrev pub node_type : MessageType
node_type = record { name = 112 ∷ 98 ∷ 46 ∷ 78 ∷ 111 ∷ 100 ∷ 101 ∷ []; fields = node_fields; oneofs = 1 }

abbrev pub builtin : Schema
builtin = record { types = tick_type ∷ node_type ∷ [] }
