-- Worked values: records and slots of the built-in types.
use Rattle.std.proofs.Common.{◌≡◌, ◌++◌, ℕ, true, false, List, [], ◌∷◌, replicate, None, Some, refl, arith}
use Rattle.std.specs.FinMap as map
use Rattle.arena_mem.specs.declared.place.Place.{Place}
use Rattle.arena_mem.specs.Places.{Places, Buffers}
use Rattle.pb_schema.specs.declared.kind.Kind.TheVariants as kinds
use Rattle.pb_schema.specs.declared.kind.Card.TheVariants as cards
use Rattle.pb_schema.specs.Builtin.{builtin, field}
use Rattle.pb_schema.specs.Tree.{Nothing, One, Many, Number, Bytes, NoFields, FieldAnd, NoValues, ValueAnd}
use Rattle.msg_layout.specs.declared.entry.Mark.TheVariants as marks
use Rattle.msg_layout.specs.Layout.{layout_of}
use Rattle.dyn_message.specs.Feet.{InPlace, InBuffer}
use Rattle.dyn_message.specs.Slots.{word, slot_in, told_in, told_by}
use Rattle.dyn_message.specs.Strings.{ShortBytes, LongBytes, NoBytes}
use Rattle.dyn_message.specs.Arrays.{Elements}
use Rattle.dyn_message.specs.Stands.{HeldStands, FieldsStand}

abbrev four : ℕ → List ℕ
four n = n ∷ 0 ∷ 0 ∷ 0 ∷ []

-- block 0 of region 7, from byte 16 on
abbrev place : ℕ → Place
place len = record { region = 7; block = 0; offset = 16; len = len }

-- a tick with nothing set, and with the value 150, whose slot is the last 8 bytes
tick_empty : (places : Places) (buffers : Buffers) → FieldsStand builtin places buffers (replicate 32 0) (layout_of builtin 0).entries (FieldAnd Nothing NoFields) []
unfolding told_in slot_in
tick_empty places buffers = record { own = []; rest = []; are = refl; first = (tt, tt, refl, refl); second = refl }

tick_150 : (places : Places) (buffers : Buffers) → FieldsStand builtin places buffers (replicate 24 0 ++ 150 ∷ replicate 7 0) (layout_of builtin 0).entries (FieldAnd (One (Number 150)) NoFields) []
unfolding told_in slot_in
tick_150 places buffers = record { own = []; rest = []; are = refl; first = (omega arith, tt, ((omega arith, refl), refl)); second = refl }

-- a node's short blob, and a long one
short_blob : (places : Places) (buffers : Buffers) → map.get places (place 8) ≡ Some (97 ∷ 98 ∷ replicate 6 0)
    → HeldStands builtin places buffers (field 5 kinds.Bytes cards.Implicit) None (four 7 ++ four 0 ++ four 16 ++ four 8 ++ four 2 ++ four 1) (One (Bytes (97 ∷ 98 ∷ []))) (InPlace (place 8) ∷ [])
unfolding word
short_blob places buffers there = (
  omega arith,
  tt,
  record {
    kind = tt;
    short = omega arith;
    holds = ShortBytes (record { form = refl; count = refl; some = omega arith; few = omega arith; room = refl; was = _; there = there; front = refl }) refl;
  },
)

long_blob : (places : Places) (buffers : Buffers) → map.get buffers (record { region = 7; number = 5 }) ≡ Some (replicate 16 255)
    → HeldStands builtin places buffers (field 5 kinds.Bytes cards.Implicit) None (four 7 ++ four 5 ++ four 0 ++ four 0 ++ four 16 ++ four 2) (One (Bytes (replicate 16 255))) (InBuffer (record { region = 7; number = 5 }) ∷ [])
unfolding word
long_blob places buffers there = (
  omega arith,
  tt,
  record {
    kind = tt;
    short = omega arith;
    holds = LongBytes (record { form = refl; zero = refl; count = refl; many = omega arith; there = there }) refl;
  },
)

-- the word of the oneof tells which member is set, also where its slot is zero
told_members : (told_by 7 (marks.Word 0) (four 7) ≡ Some true) × (told_by 8 (marks.Word 0) (four 7) ≡ Some false)
unfolding word
told_members = (refl, refl)

no_bytes : (places : Places) (buffers : Buffers) → HeldStands builtin places buffers (field 7 kinds.Bytes (cards.Member 0)) (Some true) (replicate 24 0) (One (Bytes [])) []
no_bytes places buffers = (tt, refl, record { kind = tt; short = omega arith; holds = NoBytes refl refl refl })

-- a bit tells of its own field alone
told_bits : (told_by 1 (marks.Bit 9) (0 ∷ 2 ∷ 0 ∷ 0 ∷ []) ≡ Some true) × (told_by 2 (marks.Bit 8) (0 ∷ 2 ∷ 0 ∷ 0 ∷ []) ≡ Some false)
told_bits = (refl, refl)

-- five marks in an array with room for eight
five_marks : (places : Places) (buffers : Buffers) → map.get places (place 32) ≡ Some (four 1 ++ four 2 ++ four 3 ++ four 4 ++ four 5 ++ replicate 12 0)
    → HeldStands builtin places buffers (field 4 kinds.Int32 (cards.Repeated true)) None (four 7 ++ four 0 ++ four 16 ++ four 32 ++ four 5 ++ four 3)
    (Many (ValueAnd (Number 1) (ValueAnd (Number 2) (ValueAnd (Number 3) (ValueAnd (Number 4) (ValueAnd (Number 5) NoValues)))))) (InPlace (place 32) ∷ [])
unfolding word
five_marks places buffers there = (
  tt,
  Elements (record {
    form = refl;
    counted = refl;
    some = omega arith;
    most = omega arith;
    doublings = 1;
    enough = omega arith;
    least = omega arith;
    room = refl;
    bytes = _;
    there = there;
    len = refl;
    behind = [];
    feet_are = refl;
    elements = record { own = []; rest = []; are = refl; first = ((omega arith, refl), refl); second = record { own = []; rest = []; are = refl; first = ((omega arith, refl), refl); second = record { own = []; rest = []; are = refl; first = ((omega arith, refl), refl); second = record { own = []; rest = []; are = refl; first = ((omega arith, refl), refl); second = record { own = []; rest = []; are = refl; first = ((omega arith, refl), refl); second = refl } } } } };
  }),
)
