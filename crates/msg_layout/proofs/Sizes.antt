-- Worked records: the sizes of the built-in types, and where each field of `pb.Node` lies.
use Rattle.std.proofs.Common.{◌≡◌, [], ◌∷◌, map, refl, false}
use Rattle.pb_schema.specs.declared.kind.Kind.TheVariants as kinds
use Rattle.pb_schema.specs.declared.kind.Card.TheVariants as cards
use Rattle.pb_schema.specs.declared.schema.MessageType.{MessageType}
use Rattle.pb_schema.specs.Builtin.{builtin, field}
use Rattle.msg_layout.specs.declared.entry.Entry.{Entry}
use Rattle.msg_layout.specs.declared.entry.Mark.TheVariants as marks
use Rattle.msg_layout.specs.Layout.{layout_of, layout_of_type}

size_of_tick : (layout_of builtin 0).size ≡ 32
size_of_tick = refl

slot_of_value : map (λ (e : Entry). e.slot) (layout_of builtin 0).entries ≡ 24 ∷ []
slot_of_value = refl

size_of_node : (layout_of builtin 1).size ≡ 192
size_of_node = refl

-- behind the oneof's word, padded to 8 bytes
unknown_of_node : (layout_of builtin 1).unknown ≡ 8
unknown_of_node = refl

-- name, count, child, mark, blob, next, word, node
slots_of_node : map (λ (e : Entry). e.slot) (layout_of builtin 1).entries ≡ 32 ∷ 184 ∷ 56 ∷ 80 ∷ 104 ∷ 152 ∷ 128 ∷ 168 ∷ []
slots_of_node = refl

marks_of_node : map (λ (e : Entry). e.mark) (layout_of builtin 1).entries
    ≡ marks.Unmarked ∷ marks.Unmarked ∷ marks.Unmarked ∷ marks.Unmarked ∷ marks.Unmarked ∷ marks.Unmarked ∷ marks.Word 0 ∷ marks.Word 0 ∷ []
marks_of_node = refl

-- `message M { int32 a = 1; optional string b = 2; repeated M kids = 3; }`
type_m : MessageType
type_m = record {
  name = [];
  fields = field 1 kinds.Int32 cards.Implicit ∷ field 2 kinds.Text cards.Explicit ∷ field 3 (kinds.Message 0) (cards.Repeated false) ∷ [];
  oneofs = 0;
}

size_of_m : (layout_of_type type_m).size ≡ 88
unfolding type_m
size_of_m = refl

slots_of_m : map (λ (e : Entry). e.slot) (layout_of_type type_m).entries ≡ 80 ∷ 32 ∷ 56 ∷ []
unfolding type_m
slots_of_m = refl

marks_of_m : map (λ (e : Entry). e.mark) (layout_of_type type_m).entries ≡ marks.Unmarked ∷ marks.Bit 0 ∷ marks.Unmarked ∷ []
unfolding type_m
marks_of_m = refl
