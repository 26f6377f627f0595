-- Unknown bytes that grow by the pieces of another message, one by one.
use Rattle.std.proofs.Common.{◌≡◌, ◌+◌, ◌≤◌, ◌<◌, ◌^◌, ℕ, zero, suc, List, [], ◌∷◌, length, take, drop, Some, length-append, refl, sym, ap, ◌∙◌, subst, arith}
use Rattle.std.specs.Prelude.{slice_get, IsSome}
use Rattle.std.proofs.lemmas.Option.{same_Some}
use Rattle.arena_mem.specs.Places.{Places, Buffers}
use Rattle.pb_schema.specs.declared.schema.Schema.{Schema}
use Rattle.pb_schema.specs.Tree.{Shape, Message, unknown_held}
use Rattle.msg_layout.specs.Slots.{array_slot}
use Rattle.dyn_message.specs.declared.msg_ref.MsgRef.{MsgRef}
use Rattle.dyn_message.specs.Arrays.{HoldsArray, NoElements, Elements}
use Rattle.dyn_message.specs.Changes.{NowStands}
use Rattle.dyn_message.specs.Feet.{Foot, foot_bytes}
use Rattle.dyn_message.specs.Stands.{IsPieceIn, PiecesStand, Stands}
use Rattle.dyn_message.specs.Unknown.{pieces_of, with_piece}
use Rattle.dyn_message.proofs.OneShape.{message_one}
use Rattle.pb_parse.proofs.Memories.{stays, then_stands}
use Rattle.pb_schema.specs.Records.{Record, Records}
use Rattle.msg_merge.specs.Merging.{pieces_count, pieces_into}

-- PIECES THAT STAND

-- whole records, and some
pub record IsPiece (piece : List ℕ) : Type 0 where
  pub whole : (rs : List Record) × Records piece rs
  pub some : 1 ≤ length piece
  pub short : length piece < 2 ^ 31

is_piece : (places : Places) (buffers : Buffers) (slot first piece : List ℕ) (feet : List Foot) → first ≡ piece → IsPieceIn places buffers slot first feet → IsPiece piece
is_piece places buffers slot first piece feet is p = subst IsPiece is (record { whole = p.whole; some = p.some; short = p.short })

pieces_stand : (places : Places) (buffers : Buffers) (bytes : List ℕ) (pieces : List (List ℕ)) (feet : List Foot) (i : ℕ) (piece : List ℕ) → PiecesStand places buffers bytes pieces feet → slice_get pieces i ≡ Some piece → IsPiece piece
pieces_stand places buffers bytes [] feet zero piece stand found = absurd cc
pieces_stand places buffers bytes [] feet (suc i) piece stand found = absurd cc
pieces_stand places buffers bytes (first ∷ pieces) feet zero piece stand found = is_piece places buffers (take array_slot bytes) first piece stand.own (same_Some first piece found) stand.first
pieces_stand places buffers bytes (first ∷ pieces) feet (suc i) piece stand found = pieces_stand places buffers (drop array_slot bytes) pieces stand.rest i piece stand.second found

array_pieces : {size : ℕ} (places : Places) (buffers : Buffers) (pieces : List (List ℕ)) (slot : List ℕ) (feet : List Foot) (i : ℕ) (piece : List ℕ) → HoldsArray (λ elements more. PiecesStand places buffers elements pieces more) places size (length pieces) slot feet → slice_get pieces i ≡ Some piece → IsPiece piece
array_pieces places buffers [] slot feet zero piece (NoElements none zeros are) found = absurd cc
array_pieces places buffers [] slot feet (suc i) piece (NoElements none zeros are) found = absurd cc
array_pieces places buffers (first ∷ pieces) slot feet i piece (NoElements none zeros are) found = absurd (omega (arith, none))
array_pieces places buffers pieces slot feet i piece (Elements a) found = pieces_stand places buffers a.bytes pieces a.behind i piece a.elements found

pub piece_of : (schema : Schema) (places : Places) (buffers : Buffers) (msg : MsgRef) (t : Shape) (feet : List Foot) (i : ℕ) (piece : List ℕ) → Stands schema places buffers msg t feet → slice_get (pieces_of t) i ≡ Some piece → IsPiece piece
piece_of schema places buffers msg (Message held pieces) feet i piece st found = let m = st.message in array_pieces places buffers pieces _ m.holds.own i piece m.holds.first found

pub same_pieces : (schema : Schema) (places : Places) (buffers : Buffers) (msg : MsgRef) (t u : Shape) (feet own : List Foot) → Stands schema places buffers msg t feet → Stands schema places buffers msg u own → length (pieces_of t) ≡ length (pieces_of u)
same_pieces schema places buffers msg t u feet own st su = ap (λ (s : Shape). length (pieces_of s)) (sym (message_one schema places buffers msg.type_no msg.place u t own feet su.message st.message).0)

-- ONE PIECE AFTER ANOTHER

piece_at_index : (pieces : List (List ℕ)) (i : ℕ) (piece : List ℕ) → slice_get pieces i ≡ Some piece → drop i pieces ≡ piece ∷ drop (suc i) pieces
piece_at_index [] zero piece found = absurd cc
piece_at_index [] (suc i) piece found = absurd cc
piece_at_index (first ∷ rest) zero piece found = ap (λ p. p ∷ rest) (same_Some first piece found)
piece_at_index (first ∷ rest) (suc i) piece found = piece_at_index rest i piece found

pub drop_all : (pieces : List (List ℕ)) → drop (length pieces) pieces ≡ []
drop_all [] = refl
drop_all (piece ∷ pieces) = drop_all pieces

-- what is left counts one less
pub piece_left : (bytes : ℕ → ℕ) (pieces : List (List ℕ)) (i next : ℕ) → next ≡ suc i → (piece : List ℕ) → slice_get pieces i ≡ Some piece → pieces_count bytes (drop i pieces) ≡ bytes (length piece) + pieces_count bytes (drop next pieces)
piece_left bytes pieces i next after piece found = ap (pieces_count bytes) (piece_at_index pieces i piece found) ∙ ap (λ n. bytes (length piece) + pieces_count bytes (drop n pieces)) (sym after)

-- the message stands with so many pieces more, and what is left of them gives what all did at the start
pub record PiecedTo (schema : Schema) (places : Places) (buffers : Buffers) (places' : Places) (buffers' : Buffers) (msg : MsgRef) (pieces : List (List ℕ)) (i : ℕ) (t : Shape) (feet : List Foot) : Type 0 where
  pub shape : Shape
  pub stands : NowStands schema places buffers places' buffers' msg shape feet
  pub goes : pieces_into (drop i pieces) shape ≡ pieces_into pieces t
  pub count : length (pieces_of shape) ≡ length (pieces_of t) + i

module _ (schema : Schema) (msg : MsgRef) where
  pub pieced_none : (places : Places) (buffers : Buffers) (pieces : List (List ℕ)) (t : Shape) (feet : List Foot) → Stands schema places buffers msg t feet → PiecedTo schema places buffers places buffers msg pieces 0 t feet
  pieced_none places buffers pieces t feet st = record { shape = t; stands = stays schema places buffers msg t feet st; goes = refl; count = omega arith }

  pub pieced_more : (p0 p1 p2 : Places) (b0 b1 b2 : Buffers) (pieces : List (List ℕ)) (i next : ℕ) → next ≡ suc i → (piece : List ℕ) (t : Shape) (feet : List Foot) → ((foot : Foot) → IsSome (foot_bytes p0 b0 foot) → IsSome (foot_bytes p1 b1 foot))
      → (l : PiecedTo schema p0 b0 p1 b1 msg pieces i t feet) → slice_get pieces i ≡ Some piece → NowStands schema p1 b1 p2 b2 msg (with_piece piece l.shape) l.stands.now → PiecedTo schema p0 b0 p2 b2 msg pieces next t feet
  pieced_more p0 p1 p2 b0 b1 b2 pieces i next after piece t feet still l is put = subst (λ n. PiecedTo schema p0 b0 p2 b2 msg pieces n t feet) (sym after) (record {
    shape = with_piece piece l.shape;
    stands = then_stands schema p0 p1 p2 b0 b1 b2 msg l.shape _ feet still l.stands put;
    goes = sym (ap (λ ps. pieces_into ps l.shape) (piece_at_index pieces i piece is)) ∙ l.goes;
    count = omega (arith, length-append (unknown_held l.shape) (piece ∷ []), l.count);
  })

  pub pieced_all : (p0 p1 : Places) (b0 b1 : Buffers) (pieces : List (List ℕ)) (i : ℕ) (t : Shape) (feet : List Foot) → drop i pieces ≡ [] → PiecedTo schema p0 b0 p1 b1 msg pieces i t feet → NowStands schema p0 b0 p1 b1 msg (pieces_into pieces t) feet
  pieced_all p0 p1 b0 b1 pieces i t feet none l = subst (λ u. NowStands schema p0 b0 p1 b1 msg u feet) (sym (ap (λ ps. pieces_into ps l.shape) none) ∙ l.goes) l.stands
