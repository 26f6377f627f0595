-- The unknown array of a message gets one piece more.
use Rattle.std.proofs.Common.{◌≡◌, ◌+◌, ◌*◌, ◌≤◌, ◌<◌, ℕ, zero, suc, Bool, cond, length, take, drop, List, [], ◌∷◌, ◌++◌, None, Some, refl, sym, ap, ◌∙◌, subst, inl, inr, ⊎_elim, length-append, drop-drop, arith}
use Rattle.std.specs.Prelude.{IsSome, unwrap_or, slice_get}
use Rattle.std.specs.Option.{option_map}
use Rattle.std.specs.List.{AllByRecursion}
use Rattle.std.proofs.lemmas.Bool.{cases_Bool}
use Rattle.std.proofs.lemmas.Option.{none-some, same_Some}
use Rattle.std.specs.FinMap as map
use Rattle.arena_mem.specs.declared.place.Place.{Place}
use Rattle.arena_mem.specs.Places.{Places, Buffers, IsLive, round8, splice, bytes_at}
use Rattle.pb_schema.specs.declared.schema.Schema.{Schema}
use Rattle.pb_schema.specs.Lawful.{Lawful}
use Rattle.pb_schema.specs.Meter.{rooms}
use Rattle.pb_schema.specs.Tree.{Shape, Message, HeldListWith, NoFields, FieldAnd}
use Rattle.msg_layout.specs.declared.entry.Entry.{Entry}
use Rattle.msg_layout.specs.Slots.{array_slot}
use Rattle.msg_layout.specs.Layout.{Layout, layout_of}
use Rattle.msg_layout.specs.Sound.{IsSound, FitsIn}
use Rattle.dyn_message.specs.declared.msg_ref.MsgRef.{MsgRef}
use Rattle.dyn_message.specs.Feet.{Foot, InPlace, InBuffer, same_foot, times, IsAmong, AreThere, Once, SameAt, foot_bytes}
use Rattle.dyn_message.specs.Slots.{part, word, place_in, slot_in, told_in}
use Rattle.dyn_message.specs.Strings.{HoldsBytes}
use Rattle.dyn_message.specs.Arrays.{HoldsArray, NoElements, Elements, IsLeastRoom, most_elements}
use Rattle.dyn_message.specs.Stands.{IsPieceIn, PiecesStand, HeldStands, FieldsStand, Stands}
use Rattle.dyn_message.specs.Rooms.{IsAppended, MayGrow, list_slot}
use Rattle.dyn_message.specs.Unknown.{pieces_of, with_piece}
use Rattle.dyn_message.proofs.Counting.{times_join, times_first, times_parts}
use Rattle.dyn_message.proofs.Entries.{all_fit}
use Rattle.dyn_message.proofs.SameBytes.{bytes_same, pieces_same, fields_same}
use Rattle.dyn_message.proofs.There.{message_there}
use Rattle.dyn_message.proofs.Parts.{part_here, part_beside, splice_length}
use Rattle.dyn_message.proofs.Rewrites.{told_same, slot_same, before_mark}
use Rattle.dyn_message.proofs.Messages.{sound_of, once_after, some_value}
use Rattle.dyn_message.proofs.RoomLaws.{mul_le}
use Rattle.dyn_message.proofs.ElementLaws.{pieces_push}
use Rattle.dyn_message.proofs.Growing.{slot_read, elements_of}
use Rattle.dyn_message.proofs.Appending.{Placing, old_place, fresh_place, Appended, count_is, may_grow}

-- fields stand by their slots and marks alone
abbrev Kept : List ℕ → List ℕ → Entry → Type 0
Kept bytes bytes' entry = (told_in entry bytes' ≡ told_in entry bytes) × (slot_in entry bytes' ≡ slot_in entry bytes)

fields_kept : (schema : Schema) (places : Places) (buffers : Buffers) (bytes bytes' : List ℕ) (entries : List Entry) (held : HeldListWith (List (List ℕ))) (feet : List Foot) → AllByRecursion (Kept bytes bytes') entries → FieldsStand schema places buffers bytes entries held feet → FieldsStand schema places buffers bytes' entries held feet
fields_kept schema places buffers bytes bytes' [] NoFields feet all h = h
fields_kept schema places buffers bytes bytes' [] (FieldAnd held others) feet all h = h
fields_kept schema places buffers bytes bytes' (entry ∷ entries) NoFields feet all h = h
fields_kept schema places buffers bytes bytes' (entry ∷ entries) (FieldAnd held others) feet all h = record {
  own = h.own;
  rest = h.rest;
  are = h.are;
  first = subst (λ told. HeldStands schema places buffers entry.field told (slot_in entry bytes') held h.own) (sym all.0.0) (subst (λ slot. HeldStands schema places buffers entry.field (told_in entry bytes) slot held h.own) (sym all.0.1) h.first);
  second = fields_kept schema places buffers bytes bytes' entries others h.rest all.1 h.second;
}

-- a write to the unknown slot keeps all fields
all_kept : (layout : Layout) (x bytes : List ℕ) → IsSound layout → length x ≡ array_slot → length bytes ≡ layout.size → (entries : List Entry) → AllByRecursion (FitsIn layout) entries → AllByRecursion (Kept bytes (splice layout.unknown x bytes)) entries
all_kept layout x bytes sound long full [] fit = tt
all_kept layout x bytes sound long full (entry ∷ entries) fit =
    let in_it : layout.unknown + length x ≤ length bytes = omega (arith, long, full, sound.unknown) in (
      (
        told_same layout.unknown x bytes in_it entry (before_mark layout.unknown layout.unknown (length x) entry.mark (omega arith) fit.0.mark),
        slot_same layout.unknown x bytes in_it entry (inr (omega (arith, long, fit.0.behind))),
      ),
      all_kept layout x bytes sound long full entries fit.1,
    )

module _ (schema : Schema) (lawful : Lawful schema) (places places' : Places) (buffers : Buffers) (msg : MsgRef) (piece element : List ℕ) (own : List Foot) (long : length element ≡ array_slot) where
  abbrev at : ℕ
  at = (layout_of schema msg.type_no).unknown

  module _ (a : IsAppended places places' msg.place (layout_of schema msg.type_no).unknown element) where
    size_is : a.count * length element ≡ a.count * array_slot
    size_is = ap (λ n. a.count * n) long

    element_fits : a.count * length element + length element ≤ length a.room.bytes
    element_fits = omega (arith, a.room.len, a.room.room, mul_le (a.count + 1) (rooms a.room.doublings) (length element) a.room.enough)

    bytes' : List ℕ
    bytes' = splice (a.count * length element) element a.room.bytes

    array_now : (a.array ≡ msg.place → ⊥) → map.get places' a.array ≡ Some bytes'
    unfolding bytes'
    array_now apart = a.told_else a.array apart ∙ a.put ∙ ap (option_map (splice (a.count * length element) element)) a.room.there

    same_else : (foot : Foot) → IsSome (foot_bytes places buffers foot) → (foot ≡ InPlace a.array → ⊥) → (foot ≡ InPlace msg.place → ⊥) → foot_bytes places' buffers foot ≡ foot_bytes places buffers foot
    same_else (InBuffer b) there apart beside = refl
    same_else (InPlace q) there apart beside =
        let was = some_value (map.get places q) there in
        a.told_else q (λ e. beside (ap InPlace e)) ∙ a.put_else q (λ e. apart (ap InPlace e)) ∙ a.keeps q was.0 was.1 ∙ sym was.1

    pieces_now : (pieces : List (List ℕ)) (was : List ℕ) (behind : List Foot) → length pieces ≡ a.count → a.count < most_elements → (a.array ≡ msg.place → ⊥)
        → take (a.count * length element) a.room.bytes ≡ take (a.count * length element) was
        → PiecesStand places' buffers was pieces behind → IsPieceIn places' buffers element piece own
        → HoldsArray (λ elements more. PiecesStand places' buffers elements (pieces ++ piece ∷ []) more) places' array_slot (length (pieces ++ piece ∷ [])) a.slot (InPlace (place_in a.slot) ∷ (behind ++ own))
    unfolding bytes'
    pieces_now pieces was behind as_many few apart front stand new =
        let more : length (pieces ++ piece ∷ []) ≡ length pieces + 1 = length-append pieces (piece ∷ []) in
        let counts : length pieces * array_slot ≡ a.count * length element = ap (λ n. n * array_slot) as_many ∙ sym size_is in
        Elements (record {
          form = a.slot_form;
          counted = omega (arith, a.slot_count, more, as_many);
          some = omega (arith, more);
          most = omega (arith, more, as_many, few);
          doublings = a.room.doublings;
          enough = omega (arith, more, as_many, a.room.enough);
          least = subst (λ n. IsLeastRoom a.room.doublings n) {x = a.count + 1} {y = length (pieces ++ piece ∷ [])} (omega (arith, more, as_many)) a.room.least;
          room = ap (λ (p : Place). p.len) a.slot_place ∙ a.room.room ∙ ap (λ n. round8 (rooms a.room.doublings * n)) long;
          bytes = bytes';
          there = ap (map.get places') a.slot_place ∙ array_now apart;
          len = splice_length (a.count * length element) element a.room.bytes element_fits ∙ a.room.len ∙ ap (λ (p : Place). p.len) (sym a.slot_place);
          behind = behind ++ own;
          feet_are = refl;
          elements = pieces_push places' buffers was bytes' element pieces piece behind own
              (ap (λ n. take n bytes') counts ∙ part_beside (a.count * length element) element a.room.bytes element_fits 0 (a.count * length element) (inl (omega arith)) ∙ front ∙ ap (λ n. take n was) (sym counts))
              (ap (λ n. part n array_slot bytes') counts ∙ part_here (a.count * length element) element a.room.bytes element_fits array_slot (sym long))
              stand new;
        })

    module _ (fields : HeldListWith (List (List ℕ))) (pieces : List (List ℕ)) (feet : List Foot) (st : Stands schema places buffers msg (Message fields pieces) feet) (few : length pieces < most_elements)
        (new : IsPieceIn places buffers element piece own) (own_once : Once own) (own_there : AreThere places buffers own) (own_apart : (foot : Foot) → IsAmong foot own → times foot feet ≡ 0) where
      counted : (foot : Foot) → times foot feet ≡ times foot (InPlace msg.place ∷ []) + times foot st.message.holds.own + times foot st.message.holds.rest
      counted foot = omega (arith, ap (times foot) st.message.feet_are, times_join foot (InPlace msg.place ∷ []) st.message.behind, times_parts foot st.message.behind st.message.holds.own st.message.holds.rest st.message.holds.are)

      there : AreThere places buffers feet
      there = message_there schema places buffers msg.type_no msg.place (Message fields pieces) feet st.message

      own_within : (foot : Foot) → times foot st.message.holds.own ≤ times foot feet
      own_within foot = omega (arith, counted foot)

      slot_was : list_slot places msg.place (layout_of schema msg.type_no).unknown ≡ part (layout_of schema msg.type_no).unknown array_slot st.message.bytes
      slot_was = slot_read places msg.place (layout_of schema msg.type_no).unknown st.message.bytes st.message.there

      as_many : length pieces ≡ a.count
      as_many = sym (count_is places array_slot (length pieces) (part (layout_of schema msg.type_no).unknown array_slot st.message.bytes) st.message.holds.own st.message.holds.first) ∙ sym (a.room.counted ∙ ap (word 4) slot_was)

      no_record : (foot : Foot) → 1 ≤ times foot st.message.holds.own + times foot st.message.holds.rest → foot ≡ InPlace msg.place → ⊥
      no_record foot among is = omega (arith, among, counted foot, st.once foot, ap (λ g. times g (InPlace msg.place ∷ [])) is, times_first (InPlace msg.place) [])

      module _ (behind : List Foot) (placing : Placing places feet st.message.holds.own behind own a.array) where
        among_array : (foot : Foot) → foot ≡ InPlace a.array → IsAmong foot (InPlace a.array ∷ [])
        among_array foot is = omega (arith, ap (λ g. times g (InPlace a.array ∷ [])) is, times_first (InPlace a.array) [])

        array_apart : a.array ≡ msg.place → ⊥
        array_apart is = omega (
          arith,
          placing.covered (InPlace a.array) (among_array (InPlace a.array) refl),
          counted (InPlace a.array),
          ap (λ p. times (InPlace a.array) (InPlace p ∷ [])) (sym is),
          times_first (InPlace a.array) [],
        )

        behind_same : SameAt places buffers places' buffers behind
        behind_same foot among = same_else foot
            (there foot (omega (arith, among, placing.within foot, own_within foot)))
            (λ is. omega (arith, among, placing.apart foot (among_array foot is)))
            (no_record foot (omega (arith, among, placing.within foot)))

        new_same : SameAt places buffers places' buffers own
        new_same foot among = same_else foot
            (own_there foot among)
            (λ is. omega (arith, among, placing.new_apart foot (among_array foot is)))
            (λ is. omega (arith, own_apart foot among, counted foot, ap (λ g. times g (InPlace msg.place ∷ [])) is, times_first (InPlace msg.place) []))

        rest_same : SameAt places buffers places' buffers st.message.holds.rest
        rest_same foot among = same_else foot
            (there foot (omega (arith, among, counted foot)))
            (λ is. omega (arith, among, counted foot, placing.covered foot (among_array foot is)))
            (no_record foot (omega (arith, among)))

        abbrev list_feet : List Foot
        list_feet = InPlace (place_in a.slot) ∷ (behind ++ own)

        list_counted : (foot : Foot) → times foot list_feet ≡ times foot (InPlace a.array ∷ []) + times foot behind + times foot own
        list_counted foot = omega (
          arith,
          ap (λ p. times foot (InPlace p ∷ (behind ++ own))) a.slot_place,
          times_join foot (InPlace a.array ∷ []) (behind ++ own),
          times_join foot behind own,
        )

        at_most_one : (foot : Foot) → times foot (InPlace a.array ∷ []) ≤ 1
        at_most_one foot = ⊎_elim
            (λ same. omega (arith, ap (λ (b : Bool). cond b (suc zero) zero) same))
            (λ differs. omega (arith, ap (λ (b : Bool). cond b (suc zero) zero) differs))
            (cases_Bool (same_foot foot (InPlace a.array)))

        list_once : Once list_feet
        list_once foot = by_array (times foot (InPlace a.array ∷ [])) refl
          where
            by_own : times foot (InPlace a.array ∷ []) ≡ 0 → (n : ℕ) → n ≡ times foot own → times foot list_feet ≤ 1
            by_own none zero is = omega (arith, none, is, list_counted foot, placing.within foot, own_within foot, st.once foot)
            by_own none (suc n) is = omega (arith, none, list_counted foot, placing.within foot, own_within foot, own_apart foot (omega (arith, is)), own_once foot)

            by_array : (n : ℕ) → n ≡ times foot (InPlace a.array ∷ []) → times foot list_feet ≤ 1
            by_array zero is = by_own (sym is) (times foot own) refl
            by_array (suc n) is = let among : IsAmong foot (InPlace a.array ∷ []) = omega (arith, is) in omega (arith, list_counted foot, placing.apart foot among, placing.new_apart foot among, at_most_one foot)

        list_covered : (foot : Foot) → IsAmong foot list_feet → times foot feet ≤ times foot st.message.holds.own
        list_covered foot among = by_array (times foot (InPlace a.array ∷ [])) refl
          where
            by_own : times foot (InPlace a.array ∷ []) ≡ 0 → (n : ℕ) → n ≡ times foot own → times foot feet ≤ times foot st.message.holds.own
            by_own none zero is = omega (arith, among, none, is, list_counted foot, placing.within foot, st.once foot)
            by_own none (suc n) is = omega (arith, own_apart foot (omega (arith, is)))

            by_array : (n : ℕ) → n ≡ times foot (InPlace a.array ∷ []) → times foot feet ≤ times foot st.message.holds.own
            by_array zero is = by_own (sym is) (times foot own) refl
            by_array (suc n) is = placing.covered foot (omega (arith, is))

        close_pieces : HoldsArray (λ elements more. PiecesStand places' buffers elements (pieces ++ piece ∷ []) more) places' array_slot (length (pieces ++ piece ∷ [])) a.slot list_feet
            → Appended schema places places' buffers msg (with_piece piece (Message fields pieces)) feet own a.array
        close_pieces holds =
            let m = st.message in
            let layout = layout_of schema msg.type_no in
            let sound = sound_of schema lawful msg.type_no m.type in
            let in_it : layout.unknown + length a.slot ≤ length m.bytes = omega (arith, a.slot_long, m.size, sound.unknown) in
            let bytes'' = splice layout.unknown a.slot m.bytes in
            let now = InPlace msg.place ∷ (list_feet ++ m.holds.rest) in
            let now_counted : (foot : Foot) → times foot now + times foot m.holds.own ≤ times foot feet + times foot list_feet = λ foot. omega (arith, counted foot, times_join foot (InPlace msg.place ∷ []) (list_feet ++ m.holds.rest), times_join foot list_feet m.holds.rest) in
            record {
              now = now;
              stands = record {
                message = record {
                  type = m.type;
                  len = m.len;
                  bytes = bytes'';
                  there = a.told ∙ ap (option_map (splice layout.unknown a.slot)) (a.put_else msg.place (λ e. array_apart (sym e)) ∙ a.keeps msg.place m.bytes m.there);
                  size = splice_length layout.unknown a.slot m.bytes in_it ∙ m.size;
                  behind = list_feet ++ m.holds.rest;
                  feet_are = refl;
                  holds = record {
                    own = list_feet;
                    rest = m.holds.rest;
                    are = refl;
                    first = subst (λ s. HoldsArray (λ elements more. PiecesStand places' buffers elements (pieces ++ piece ∷ []) more) places' array_slot (length (pieces ++ piece ∷ [])) s list_feet) (sym (part_here layout.unknown a.slot m.bytes in_it array_slot (sym a.slot_long))) holds;
                    second = fields_kept schema places' buffers m.bytes bytes'' layout.entries fields m.holds.rest (all_kept layout a.slot m.bytes sound a.slot_long m.size layout.entries (all_fit layout sound))
                        (fields_same schema places places' buffers buffers m.bytes layout.entries fields m.holds.rest rest_same m.holds.second);
                  };
                };
                once = once_after feet m.holds.own list_feet now st.once list_once own_within list_covered now_counted;
              };
              few = λ foot. omega (arith, now_counted foot, list_counted foot, placing.within foot);
              from = placing.from;
              apart = array_apart;
              keeps = λ foot was outside is. same_else foot (subst IsSome (sym is) refl)
                  (λ e. ⊎_elim
                  (λ among. omega (arith, outside, among, ap (λ g. times g feet) e))
                  (λ none. none-some was (sym none ∙ ap (foot_bytes places buffers) (sym e) ∙ is))
                  placing.from)
                  (λ e. omega (arith, outside, ap (λ g. times g feet) e, counted (InPlace msg.place), times_first (InPlace msg.place) []))
                  ∙ is;
            }

        piece_same : IsPieceIn places' buffers element piece own
        piece_same = record { some = new.some; short = new.short; whole = new.whole; holds = bytes_same schema places places' buffers buffers element piece own new_same new.holds }

      append_to : HoldsArray (λ elements more. PiecesStand places buffers elements pieces more) places array_slot (length pieces) (part (layout_of schema msg.type_no).unknown array_slot st.message.bytes) st.message.holds.own
          → Appended schema places places' buffers msg (with_piece piece (Message fields pieces)) feet own a.array
      append_to (NoElements none zeros are) =
          let fresh : map.get places a.array ≡ None = ⊎_elim (λ (old : (a.array ≡ place_in (list_slot places msg.place (layout_of schema msg.type_no).unknown)) × (1 ≤ a.count)). absurd (omega (arith, old.1, as_many, none))) (λ fresh. fresh) a.room.from in
          let placing = fresh_place places buffers feet st.message.holds.own [] own a.array st.once there own_there own_within own_apart (λ foot. omega arith) fresh in
          let empty : a.count * length element ≡ 0 = ap (λ n. n * length element) (sym as_many ∙ none) ∙ omega arith in
          close_pieces [] placing (pieces_now pieces [] [] as_many (omega (arith, few, as_many)) (array_apart [] placing)
          (ap (λ n. take n a.room.bytes) empty ∙ sym (ap (λ n. take n []) empty))
          (no_pieces pieces none)
          (piece_same [] placing))
        where
          no_pieces : (pieces : List (List ℕ)) → length pieces ≡ 0 → PiecesStand places' buffers [] pieces []
          no_pieces [] none = refl
          no_pieces (first ∷ pieces) none = absurd (omega (arith, none))
      append_to (Elements b) =
          let placing : Placing places feet st.message.holds.own b.behind own a.array = ⊎_elim
          (λ (old : (a.array ≡ place_in (list_slot places msg.place (layout_of schema msg.type_no).unknown)) × (1 ≤ a.count)). old_place places buffers feet st.message.holds.own b.behind own a.array st.once there own_there own_within own_apart (b.feet_are ∙ ap (λ p. InPlace p ∷ b.behind) (ap place_in (sym slot_was) ∙ sym old.0)))
          (λ fresh. fresh_place places buffers feet st.message.holds.own b.behind own a.array st.once there own_there own_within own_apart (λ foot. omega (arith, ap (times foot) b.feet_are)) fresh)
          a.room.from in
          close_pieces b.behind placing (pieces_now pieces b.bytes b.behind as_many (omega (arith, few, as_many)) (array_apart b.behind placing)
          (a.room.front ∙ ap (λ s. take (a.count * length element) (bytes_at places (place_in s))) slot_was ∙ ap (λ o. take (a.count * length element) (unwrap_or o [])) b.there)
          (pieces_same schema places places' buffers buffers b.bytes pieces b.behind (behind_same b.behind placing) b.elements)
          (piece_same b.behind placing))

  -- the message with one piece more
  pub piece_appended : (a : IsAppended places places' msg.place (layout_of schema msg.type_no).unknown element) (t : Shape) (feet : List Foot) → Stands schema places buffers msg t feet → length (pieces_of t) < most_elements
      → IsPieceIn places buffers element piece own → Once own → AreThere places buffers own → ((foot : Foot) → IsAmong foot own → times foot feet ≡ 0) → Appended schema places places' buffers msg (with_piece piece t) feet own a.array
  piece_appended a (Message fields pieces) feet st few new own_once own_there own_apart = append_to a fields pieces feet st few new own_once own_there own_apart st.message.holds.first

  pub pieces_counted : (a : IsAppended places places' msg.place (layout_of schema msg.type_no).unknown element) (t : Shape) (feet : List Foot) → Stands schema places buffers msg t feet → length (pieces_of t) ≡ word 4 (list_slot places msg.place (layout_of schema msg.type_no).unknown)
  pieces_counted a (Message fields pieces) feet st =
      sym (count_is places array_slot (length pieces) (part (layout_of schema msg.type_no).unknown array_slot st.message.bytes) st.message.holds.own st.message.holds.first)
      ∙ ap (word 4) (sym (slot_read places msg.place (layout_of schema msg.type_no).unknown st.message.bytes st.message.there))

-- the unknown array, opened
pub record IsUnknown (schema : Schema) (places : Places) (buffers : Buffers) (type_no : ℕ) (bytes : List ℕ) (t : Shape) : Type 0 where
  pub own : List Foot
  pub holds : HoldsArray (λ elements more. PiecesStand places buffers elements (pieces_of t) more) places array_slot (length (pieces_of t)) (part (layout_of schema type_no).unknown array_slot bytes) own

pub open_unknown : (schema : Schema) (places : Places) (buffers : Buffers) (msg : MsgRef) (bytes : List ℕ) (t : Shape) (feet : List Foot) → Stands schema places buffers msg t feet → map.get places msg.place ≡ Some bytes → IsUnknown schema places buffers msg.type_no bytes t
open_unknown schema places buffers msg bytes (Message fields pieces) feet st there =
    let m = st.message in
    let same : m.bytes ≡ bytes = same_Some m.bytes bytes (sym m.there ∙ there) in
    record {
      own = m.holds.own;
      holds = subst (λ b. HoldsArray (λ elements more. PiecesStand places buffers elements pieces more) places array_slot (length pieces) (part (layout_of schema msg.type_no).unknown array_slot b) m.holds.own) same m.holds.first;
    }

pub unknown_may_grow : (schema : Schema) (places : Places) (buffers : Buffers) (msg : MsgRef) (size : ℕ) → size ≡ array_slot → (t : Shape) (feet : List Foot) → Stands schema places buffers msg t feet → length (pieces_of t) < most_elements → MayGrow places size (list_slot places msg.place (layout_of schema msg.type_no).unknown)
unknown_may_grow schema places buffers msg size size_is (Message fields pieces) feet st few =
    let m = st.message in
    subst (λ n. MayGrow places n (list_slot places msg.place (layout_of schema msg.type_no).unknown)) (sym size_is)
    (subst (MayGrow places array_slot) (sym (slot_read places msg.place (layout_of schema msg.type_no).unknown m.bytes m.there))
    (may_grow places array_slot (length pieces) (part (layout_of schema msg.type_no).unknown array_slot m.bytes) m.holds.own m.holds.first few))

-- a piece of those that stand
pub piece_at : (places : Places) (buffers : Buffers) (bytes : List ℕ) (pieces : List (List ℕ)) (feet : List Foot) (index : ℕ) → PiecesStand places buffers bytes pieces feet → index < length pieces
    → (piece : List ℕ) × (own : List Foot) × (slice_get pieces index ≡ Some piece) × HoldsBytes places buffers (part (index * array_slot) array_slot bytes) piece own
piece_at places buffers bytes [] feet index stand less = absurd (omega (arith, less))
piece_at places buffers bytes (first ∷ pieces) feet zero stand less = (first, stand.own, refl, stand.first.holds)
piece_at places buffers bytes (first ∷ pieces) feet (suc index) stand less =
    let more = piece_at places buffers (drop array_slot bytes) pieces stand.rest index stand.second (omega (arith, less)) in
    let at : part (index * array_slot) array_slot (drop array_slot bytes) ≡ part (suc index * array_slot) array_slot bytes = ap (take array_slot) (drop-drop (index * array_slot) array_slot bytes ∙ ap (λ n. drop n bytes) {x = array_slot + index * array_slot} {y = suc index * array_slot} (omega arith)) in
    (more.0, more.1, more.2, subst (λ s. HoldsBytes places buffers s more.0 more.1) at more.3)

-- a piece by its index
pub record PieceIs (schema : Schema) (places : Places) (buffers : Buffers) (msg : MsgRef) (index : ℕ) (array : Place) (t : Shape) : Type 0 where
  pub live : IsLive places array
  pub small : index < most_elements
  pub within : index * 24 + 24 ≤ array.len
  pub piece : List ℕ
  pub own : List Foot
  pub is : slice_get (pieces_of t) index ≡ Some piece
  pub holds : (elements : List ℕ) → map.get places array ≡ Some elements → HoldsBytes places buffers (part (index * 24) 24 elements) piece own

pub piece_is : (schema : Schema) (places : Places) (buffers : Buffers) (msg : MsgRef) (bytes : List ℕ) → map.get places msg.place ≡ Some bytes → (index : ℕ) (array : Place) → array ≡ place_in (part (layout_of schema msg.type_no).unknown array_slot bytes)
    → (t : Shape) (feet : List Foot) → Stands schema places buffers msg t feet → index < length (pieces_of t) → PieceIs schema places buffers msg index array t
piece_is schema places buffers msg bytes there index array array_is t feet st less =
    let o = open_unknown schema places buffers msg bytes t feet st there in
    let b = elements_of places array_slot (length (pieces_of t)) (part (layout_of schema msg.type_no).unknown array_slot bytes) o.own o.holds (λ none. omega (arith, less, none)) in
    let v = piece_at places buffers b.bytes (pieces_of t) b.behind index b.elements less in
    record {
      live = subst (IsLive places) (sym array_is) (subst IsSome (sym b.there) refl);
      small = omega (arith, less, b.most);
      within = omega (arith, ap (λ (p : Place). p.len) array_is, b.room, mul_le (index + 1) (rooms b.doublings) 24 (omega (arith, less, b.enough)));
      piece = v.0;
      own = v.1;
      is = v.2;
      holds = λ elements found. subst (λ s. HoldsBytes places buffers (part (index * 24) 24 s) v.0 v.1) (same_Some b.bytes elements (sym b.there ∙ ap (map.get places) (sym array_is) ∙ found)) v.3;
    }
