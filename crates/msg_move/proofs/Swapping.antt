-- Records whose bytes are exchanged.
use Rattle.std.proofs.Common.{◌≡◌, ◌+◌, ◌≤◌, ℕ, List, ◌∷◌, ◌++◌, Some, length, take, drop, take_at, drop_at, drop-drop, append-nil, sym, ap, ◌∙◌, subst, ⊎_elim, arith}
use Rattle.std.proofs.lemmas.List.{take-append-drop, length-take-le, length-drop, drop_all, take_all}
use Rattle.std.proofs.Math.Seq.{take-append-add}
use Rattle.std.proofs.lemmas.Option.{same_Some}
use Rattle.std.specs.FinMap as map
use Rattle.arena_mem.specs.declared.place.Place.{Place}
use Rattle.arena_mem.specs.Places.{Places, Buffers, splice}
use Rattle.pb_schema.specs.declared.schema.Schema.{Schema}
use Rattle.pb_schema.specs.Tree.{Shape, Message}
use Rattle.msg_layout.specs.Slots.{array_slot}
use Rattle.msg_layout.specs.Layout.{layout_of}
use Rattle.dyn_message.specs.declared.msg_ref.MsgRef.{MsgRef}
use Rattle.dyn_message.specs.Feet.{Foot, InPlace, InBuffer, times, IsAmong, Separate, SameAt}
use Rattle.dyn_message.specs.Slots.{part}
use Rattle.dyn_message.specs.Stands.{MessageStands, Stands}
use Rattle.dyn_message.proofs.Counting.{times_first, among_or}
use Rattle.dyn_message.proofs.Opening.{record_is}
use Rattle.dyn_message.proofs.SameBytes.{split_each, array_same, pieces_same, fields_same}
use Rattle.msg_move.specs.Swapped.{front_of, with_part, with_record, AreSwapped}

-- BYTES

take_then : (at n : ℕ) (c : List ℕ) → at ≤ length c → take (at + n) c ≡ take at c ++ take n (drop at c)
take_then at n c within =
    let size : length (take at c) ≡ at = length-take-le at c within in
    ap (take (at + n)) (sym (take-append-drop at c))
    ∙ ap (λ k. take (k + n) (take at c ++ drop at c)) (sym size)
    ∙ take-append-add (take at c) (drop at c) n

-- a piece more is exchanged
pub piece_more : (at : ℕ) (b c : List ℕ) → at + 8 ≤ length b → at + 8 ≤ length c → with_part at (front_of at b c) (front_of at c b) ≡ front_of (at + 8) b c
piece_more at b c b_fits c_fits =
    let b_front : length (take at b) ≡ at = length-take-le at b (omega (arith, b_fits)) in
    let c_front : length (take at c) ≡ at = length-take-le at c (omega (arith, c_fits)) in
    let piece : part at 8 (front_of at c b) ≡ take 8 (drop at c) = ap (take 8) (drop_at (take at b) (drop at c) at b_front) in
    let size : length (take 8 (drop at c)) ≡ 8 = length-take-le 8 (drop at c) (omega (arith, c_fits, length-drop at c)) in
    ap (λ s. splice at s (front_of at b c)) piece
    ∙ ap (λ k. take at (front_of at b c) ++ take 8 (drop at c) ++ drop (at + k) (front_of at b c)) size
    ∙ ap (λ s. s ++ take 8 (drop at c) ++ drop (at + 8) (front_of at b c)) (take_at (take at c) (drop at b) at c_front)
    ∙ ap (λ s. take at c ++ take 8 (drop at c) ++ s) (sym (drop-drop 8 at (front_of at b c)) ∙ ap (drop 8) (drop_at (take at c) (drop at b) at c_front) ∙ drop-drop 8 at b)
    ∙ ap (λ s. s ++ drop (at + 8) b) (sym (take_then at 8 c (omega (arith, c_fits))))

-- all is exchanged
pub front_all : (at : ℕ) (b c : List ℕ) → length b ≤ at → length c ≤ at → front_of at b c ≡ c
front_all at b c b_all c_all =
    ap (λ s. take at c ++ s) (drop_all at b b_all) ∙ append-nil (take at c) ∙ take_all at c c_all

-- MESSAGES

-- a message's record at another place
moved : (schema : Schema) (places places' : Places) (buffers buffers' : Buffers) (type_no : ℕ) (from to : Place) (t : Shape) (feet : List Foot) (bytes : List ℕ)
    → MessageStands schema places buffers type_no from t feet → to.len ≡ (layout_of schema type_no).size
    → map.get places from ≡ Some bytes → map.get places' to ≡ Some bytes
    → SameAt places buffers places' buffers' (drop 1 feet)
    → MessageStands schema places' buffers' type_no to t (with_record to feet)
moved schema places places' buffers buffers' type_no from to (Message fields pieces) feet bytes m len was now same =
    let is : m.bytes ≡ bytes = same_Some m.bytes bytes (sym m.there ∙ was) in
    let behind : drop 1 feet ≡ m.behind = ap (drop 1) m.feet_are in
    let same_behind : SameAt places buffers places' buffers' m.behind = subst (SameAt places buffers places' buffers') behind same in
    record {
      type = m.type;
      len = len;
      bytes = m.bytes;
      there = now ∙ ap Some (sym is);
      size = m.size;
      behind = m.behind;
      feet_are = ap (λ (b : List Foot). InPlace to ∷ b) behind;
      holds = split_each m.behind m.holds
          (λ own few unknown. array_same schema places places' buffers buffers' array_slot (length pieces) (part (layout_of schema type_no).unknown array_slot m.bytes) own (λ foot among. same_behind foot (omega (arith, among, few foot)))
          (λ elements more same_own stand. pieces_same schema places places' buffers buffers' elements pieces more same_own stand) unknown)
          (λ rest few stand. fields_same schema places places' buffers buffers' m.bytes (layout_of schema type_no).entries fields rest (λ foot among. same_behind foot (omega (arith, among, few foot))) stand);
    }

-- a message stands on its record and on what is behind it
pub record Front (place : Place) (feet : List Foot) : Type 0 where
  pub are : (foot : Foot) → times foot feet ≡ times foot (with_record place feet)

pub front : (schema : Schema) (places : Places) (buffers : Buffers) (msg : MsgRef) (t : Shape) (feet : List Foot) → Stands schema places buffers msg t feet → Front msg.place feet
front schema places buffers msg (Message _ _) feet st =
    let m = st.message in
    let behind : drop 1 feet ≡ m.behind = ap (drop 1) m.feet_are in
    record { are = λ foot. ap (times foot) (m.feet_are ∙ ap (λ (b : List Foot). InPlace msg.place ∷ b) (sym behind)) }

pub record_among : (schema : Schema) (places : Places) (buffers : Buffers) (msg : MsgRef) (t : Shape) (feet : List Foot) → Stands schema places buffers msg t feet → IsAmong (InPlace msg.place) feet
record_among schema places buffers msg t feet st =
    omega (arith, (front schema places buffers msg t feet st).are (InPlace msg.place), times_first (InPlace msg.place) (drop 1 feet))

-- the two have each foot once together
together : (feet own : List Foot) → ((foot : Foot) → times foot feet ≤ 1) → ((foot : Foot) → times foot own ≤ 1) → Separate feet own → (foot : Foot) → times foot feet + times foot own ≤ 1
together feet own once once' separate foot = ⊎_elim
    (λ among. omega (arith, once foot, separate foot among))
    (λ none. omega (arith, none, once' foot))
    (among_or foot feet)

-- all that a message stands on but its record keeps its bytes, where its record and another one's are written
behind_same : (schema : Schema) (places places' : Places) (buffers buffers' : Buffers) (msg : MsgRef) (other : Place) (t : Shape) (feet : List Foot)
    → ((q : Place) → (q ≡ msg.place → ⊥) → (q ≡ other → ⊥) → map.get places' q ≡ map.get places q) → buffers' ≡ buffers
    → Stands schema places buffers msg t feet → times (InPlace other) feet ≡ 0
    → SameAt places buffers places' buffers' (drop 1 feet)
behind_same schema places places' buffers buffers' msg other t feet others same st apart (InPlace q) among =
    let are = (front schema places buffers msg t feet st).are in
    others q
    (λ e. twice (subst (λ p. IsAmong (InPlace p) (drop 1 feet)) e among) (are (InPlace msg.place)) (times_first (InPlace msg.place) (drop 1 feet)) (st.once (InPlace msg.place)))
    (λ e. none (subst (λ p. IsAmong (InPlace p) (drop 1 feet)) e among) (are (InPlace other)))
  where
    twice : 1 ≤ times (InPlace msg.place) (drop 1 feet) → times (InPlace msg.place) feet ≡ times (InPlace msg.place) (with_record msg.place feet)
        → times (InPlace msg.place) (with_record msg.place feet) ≡ 1 + times (InPlace msg.place) (drop 1 feet) → times (InPlace msg.place) feet ≤ 1 → ⊥
    twice some whole first once = omega (arith, some, whole, first, once)

    none : 1 ≤ times (InPlace other) (drop 1 feet) → times (InPlace other) feet ≡ times (InPlace other) (with_record msg.place feet) → ⊥
    none some whole = omega (arith, some, whole, apart)
behind_same schema places places' buffers buffers' msg other t feet others same st apart (InBuffer b) among = ap (λ m. map.get m b) same

module _ (schema : Schema) (places places' : Places) (buffers buffers' : Buffers) (one two : MsgRef) (one_type : two.type_no ≡ one.type_no) where
  pub apart_records : (t u : Shape) (feet own : List Foot) → Stands schema places buffers one t feet → Stands schema places buffers two u own → Separate feet own → one.place ≡ two.place → ⊥
  apart_records t u feet own st st' separate same =
      none (record_among schema places buffers two u own st') (subst (λ p. times (InPlace p) own ≡ 0) same (separate (InPlace one.place) (record_among schema places buffers one t feet st)))
    where
      none : 1 ≤ times (InPlace two.place) own → times (InPlace two.place) own ≡ 0 → ⊥
      none some is = omega (arith, some, is)

  -- two messages stand on each other's feet once their records are exchanged
  pub records_swapped : (t u : Shape) (feet own : List Foot) → Stands schema places buffers one t feet → Stands schema places buffers two u own → Separate feet own
      → ((b c : List ℕ) → map.get places one.place ≡ Some b → map.get places two.place ≡ Some c → map.get places' one.place ≡ Some c)
      → ((b c : List ℕ) → map.get places one.place ≡ Some b → map.get places two.place ≡ Some c → map.get places' two.place ≡ Some b)
      → ((q : Place) → (q ≡ one.place → ⊥) → (q ≡ two.place → ⊥) → map.get places' q ≡ map.get places q) → buffers' ≡ buffers
      → AreSwapped schema places' buffers' one two t feet u own
  records_swapped t u feet own st st' separate first second others same =
      let a = record_is schema places buffers one t feet st in
      let b = record_is schema places buffers two u own st' in
      let all = together feet own st.once st'.once separate in
      let are = (front schema places buffers one t feet st).are in
      let are' = (front schema places buffers two u own st').are in
      let now : (foot : Foot) → times foot (with_record one.place own) + times foot (with_record two.place feet) ≤ 1 = λ foot. omega (arith, all foot, are foot, are' foot) in
      record {
        first = record {
          message = moved schema places places' buffers buffers' one.type_no two.place one.place u own b.bytes
              (subst (λ n. MessageStands schema places buffers n two.place u own) one_type st'.message) a.len b.there (first a.bytes b.bytes a.there b.there)
              (behind_same schema places places' buffers buffers' two one.place u own (λ q not_two not_one. others q not_one not_two) same st' (omega (arith, all (InPlace one.place), record_among schema places buffers one t feet st)));
          once = λ foot. omega (arith, now foot);
        };
        second = record {
          message = subst (λ n. MessageStands schema places' buffers' n two.place t (with_record two.place feet)) (sym one_type)
              (moved schema places places' buffers buffers' one.type_no one.place two.place t feet a.bytes st.message (b.len ∙ ap (λ n. (layout_of schema n).size) one_type) a.there (second a.bytes b.bytes a.there b.there)
              (behind_same schema places places' buffers buffers' one two.place t feet others same st (omega (arith, all (InPlace two.place), record_among schema places buffers two u own st'))));
          once = λ foot. omega (arith, now foot);
        };
        separate = λ foot among. omega (arith, among, now foot);
      }
