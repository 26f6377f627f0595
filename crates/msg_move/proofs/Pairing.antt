-- Two nodes in one memory, and the fields of a node, for the tests.
use Rattle.std.proofs.Common.{◌≡◌, ℕ, List, [], ◌∷◌, refl, sym, ap, ◌∙◌, inr, arith}
use Rattle.arena_mem.specs.Places.{Places, Buffers, KeepsRest, KeepsBuffers}
use Rattle.pb_schema.specs.declared.schema.Schema.{Schema}
use Rattle.pb_schema.specs.Builtin.{builtin}
use Rattle.pb_schema.specs.Kinds.{Nested}
use Rattle.pb_schema.specs.Fitted.{IsPatternOf}
use Rattle.pb_schema.specs.Tree.{Shape}
use Rattle.dyn_message.specs.declared.msg_ref.MsgRef.{MsgRef}
use Rattle.dyn_message.specs.Changes.{IsFreshEmpty}
use Rattle.dyn_message.specs.Feet.{Foot, InPlace, foot_bytes}
use Rattle.dyn_message.specs.Fields.{HasBytes, HasMessage, HasNumber, IsBytesType, IsMessageType, IsNumberType, TakesNumber}
use Rattle.dyn_message.specs.Links.{LinksTo}
use Rattle.dyn_message.specs.Stands.{IsSingle, Stands}
use Rattle.dyn_message.proofs.Counting.{one_is}
use Rattle.dyn_message.proofs.NodeFields.{node_has}
use Rattle.dyn_message.proofs.Setting.{growth_keeps}
use Rattle.msg_move.specs.Pairs.{ArePair}
use Rattle.msg_move.proofs.Crossing.{fresh_beside}
use Rattle.msg_move.proofs.Joining.{stays}

pub count_field : (schema : Schema) (n : ℕ) → schema ≡ builtin → n ≡ 1 → HasNumber schema n 2
count_field schema n is node = node_has IsSingle IsNumberType schema n 2 is node (record { field = _; found = refl; card = tt; type = tt })

pub count_takes : (schema : Schema) (n : ℕ) → schema ≡ builtin → n ≡ 1 → TakesNumber schema n 2 7
count_takes schema n is node = node_has IsSingle (λ type. IsPatternOf type 7) schema n 2 is node (record { field = _; found = refl; card = tt; type = omega arith })

pub blob_field : (schema : Schema) (n : ℕ) → schema ≡ builtin → n ≡ 1 → HasBytes schema n 5
blob_field schema n is node = node_has IsSingle IsBytesType schema n 5 is node (record { field = _; found = refl; card = tt; type = tt })

pub next_field : (schema : Schema) (n : ℕ) → schema ≡ builtin → n ≡ 1 → HasMessage schema n 6
next_field schema n is node = node_has IsSingle IsMessageType schema n 6 is node (record { field = _; found = refl; card = tt; type = tt })

pub next_links : (schema : Schema) (n k : ℕ) → schema ≡ builtin → n ≡ 1 → k ≡ 1 → LinksTo schema n 6 k
next_links schema n k is node child = node_has IsSingle (λ type. type ≡ Nested k) schema n 6 is node (record { field = _; found = refl; card = tt; type = ap Nested (sym child) })

-- a message that stands, and a fresh one
pub pair_of : (schema : Schema) (places places' : Places) (buffers buffers' : Buffers) (one two : MsgRef) (t : Shape) (feet : List Foot) → Stands schema places buffers one t feet → KeepsRest places places' → KeepsBuffers buffers buffers'
    → IsFreshEmpty schema places places' buffers' 1 two → one.type_no ≡ 1 → ArePair schema places' buffers' one two 1
pair_of schema places places' buffers buffers' one two t feet st rest kept made type = record {
  one_type = type;
  two_type = made.type;
  one_shape = t;
  one_feet = feet;
  two_shape = _;
  two_feet = InPlace two.place ∷ [];
  one_stands = stays schema places places' buffers buffers' one t feet (growth_keeps places places' buffers buffers' [] rest kept) st;
  two_stands = made.stands;
  separate = fresh_beside schema places buffers one t feet (InPlace two.place ∷ []) st (λ foot among. inr (ap (foot_bytes places buffers) (one_is (InPlace two.place) foot among) ∙ made.fresh));
}
