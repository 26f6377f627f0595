-- The place of a list's elements, and how the list gets room for one more.
use Rattle.std.proofs.Common.{◌≡◌, ◌+◌, ◌*◌, ◌^◌, ◌≤◌, ℕ, suc, true, false, List, [], None, Some, length, take, replicate, refl, sym, ap, ◌∙◌, subst, inl, inr, arith, length-take-le}
use Rattle.std.specs.Prelude.{⊤, IsSome, unwrap_or}
use Rattle.std.specs.Option.{option_map}
use Rattle.std.proofs.lemmas.List.{length-replicate}
use Rattle.std.specs.FinMap as map
use Rattle.arena_mem.specs.declared.place.Place.{Place}
use Rattle.arena_mem.specs.Places.{Places, IsLive, IsPlaceable, round8, splice, bytes_at, KeepsRest}
use Rattle.pb_schema.specs.Meter.{rooms, array_bytes}
use Rattle.msg_layout.specs.Slots.{array_slot}
use Rattle.dyn_message.specs.Feet.{Foot}
use Rattle.dyn_message.specs.Slots.{part, word, place_in}
use Rattle.dyn_message.specs.Arrays.{IsArray, HoldsArray, NoElements, Elements}
use Rattle.dyn_message.specs.Rooms.{IsRoom, MayGrow, list_slot, is_full}
use Rattle.dyn_message.proofs.Parts.{part_here, splice_length}
use Rattle.dyn_message.proofs.RoomLaws.{room_doubles, full_is, not_full, next_cost, no_cost, still_least, half_of_most, mul_le}

pub slot_read : (places : Places) (p : Place) (at : ℕ) (bytes : List ℕ) → map.get places p ≡ Some bytes → list_slot places p at ≡ part at array_slot bytes
slot_read places p at bytes there = ap (λ o. part at array_slot (unwrap_or o [])) there

pub elements_of : {E : List ℕ → List Foot → Type 0} (places : Places) (size count : ℕ) (slot : List ℕ) (feet : List Foot) → HoldsArray E places size count slot feet → (count ≡ 0 → ⊥) → IsArray E places size count slot feet
elements_of places size count slot feet (NoElements none zeros are) some = absurd (some none)
elements_of places size count slot feet (Elements a) some = a

round_up : (n : ℕ) → n ≤ round8 n
round_up n = omega arith

module _ (places : Places) (size : ℕ) (slot : List ℕ) (may : MayGrow places size slot) (count : ℕ) (array : Place) (count_is : count ≡ word 4 slot) (array_is : array ≡ place_in slot) (size_some : 1 ≤ size) where
  abbrev Array : Type 0
  Array = IsArray (λ bytes behind. ⊤) places size count slot may.feet

  pub array_of : (count ≡ 0 → ⊥) → Array
  array_of some = elements_of places size count slot may.feet (subst (λ n. HoldsArray (λ bytes behind. ⊤) places size n slot may.feet) (sym count_is) may.holds) some

  len_is : (a : Array) → array.len ≡ round8 (rooms a.doublings * size)
  len_is a = ap (λ (p : Place). p.len) array_is ∙ a.room

  pub count_full : (some : count ≡ 0 → ⊥) → is_full array.len count size ≡ true → count ≡ rooms (array_of some).doublings
  count_full some full = let a = array_of some in full_is array.len count size a.doublings size_some a.enough a.least (len_is a) full

  pub next_placeable : (count ≡ 0 → ⊥) → size ≤ 24 → is_full array.len count size ≡ true → IsPlaceable (2 * count * size)
  next_placeable some most full =
      let a = array_of some in
      let half = half_of_most a.doublings (omega (arith, may.few, count_is, count_full some full)) in
      let count_few : count ≤ 2 ^ 25 = omega (arith, half, count_full some full) in
      let by_size = mul_le (2 * count) (2 ^ 26) size (omega (arith, count_few)) in
      let by_most = mul_le size 24 (2 ^ 26) most in
      let least = mul_le 1 (2 * count) size (omega (arith, a.some)) in
      record { some = omega (arith, size_some, least); most = omega (arith, by_size, by_most) }

  pub array_there : (some : count ≡ 0 → ⊥) → map.get places array ≡ Some (array_of some).bytes
  array_there some = ap (map.get places) array_is ∙ (array_of some).there

  pub array_live : (count ≡ 0 → ⊥) → IsLive places array
  array_live some = subst IsSome (sym (array_there some)) refl

  pub array_fits : (count ≡ 0 → ⊥) → count * size ≤ array.len
  array_fits some = let a = array_of some in omega (arith, len_is a, mul_le count (rooms a.doublings) size a.enough, round_up (rooms a.doublings * size))

  -- the first room
  pub first_made : (new : Places) (p : Place) → count ≡ 0 → map.get new p ≡ Some (replicate p.len 0) → p.len ≡ round8 (4 * size) → map.get places p ≡ None → IsRoom places new size slot 0 p
  first_made new p none zeros len fresh = record {
    counted = sym none ∙ count_is;
    bytes = replicate p.len 0;
    there = zeros;
    len = length-replicate p.len 0;
    doublings = 0;
    enough = omega arith;
    least = tt;
    room = len;
    front = let none : 0 * size ≡ 0 = omega arith in ap (λ n. take n (replicate p.len 0)) none ∙ sym (ap (λ n. take n (bytes_at places (place_in slot))) none);
    from = inr fresh;
  }

  -- the next room
  pub next_made : (mid new : Places) (p : Place) → (some : count ≡ 0 → ⊥) → is_full array.len count size ≡ true → map.get mid p ≡ Some (replicate p.len 0) → p.len ≡ round8 (2 * count * size) → map.get places p ≡ None
      → KeepsRest places mid → map.get new p ≡ option_map (splice 0 (take (count * size) (bytes_at mid array))) (map.get mid p) → IsRoom places new size slot count p
  next_made mid new p some full zeros len fresh rest copied =
      let a = array_of some in
      let full_count = count_full some full in
      let array_mid = rest array a.bytes (array_there some) in
      let text = take (count * size) a.bytes in
      let text_is : take (count * size) (bytes_at mid array) ≡ text = ap (λ o. take (count * size) (unwrap_or o [])) array_mid in
      let old_is : take (count * size) (bytes_at places (place_in slot)) ≡ text = ap (λ o. take (count * size) (unwrap_or o [])) a.there in
      let text_length : length text ≡ count * size = length-take-le (count * size) a.bytes (omega (arith, array_fits some, a.len, ap (λ (q : Place). q.len) array_is)) in
      let within : count * size ≤ p.len = omega (arith, len, round_up (2 * count * size), mul_le count (2 * count) size (omega arith)) in
      let zeros_length : length (replicate p.len 0) ≡ p.len = length-replicate p.len 0 in
      let fits : 0 + length text ≤ length (replicate p.len 0) = omega (arith, within, text_length, zeros_length) in
      record {
        counted = count_is;
        bytes = splice 0 text (replicate p.len 0);
        there = copied ∙ ap (option_map (splice 0 (take (count * size) (bytes_at mid array)))) zeros ∙ ap (λ x. Some (splice 0 x (replicate p.len 0))) text_is;
        len = splice_length 0 text (replicate p.len 0) fits ∙ zeros_length;
        doublings = suc a.doublings;
        enough = omega (arith, full_count, room_doubles a.doublings, a.some);
        least = omega (arith, full_count);
        room = len ∙ ap (λ n. round8 (n * size)) (ap (λ n. 2 * n) full_count ∙ sym (room_doubles a.doublings));
        front = part_here 0 text (replicate p.len 0) fits (count * size) (sym text_length) ∙ sym old_is;
        from = inr fresh;
      }

  -- the room that there is
  pub room_stays : (some : count ≡ 0 → ⊥) → is_full array.len count size ≡ false → IsRoom places places size slot count array
  room_stays some full =
      let a = array_of some in
      record {
        counted = count_is;
        bytes = a.bytes;
        there = array_there some;
        len = a.len ∙ ap (λ (q : Place). q.len) (sym array_is);
        doublings = a.doublings;
        enough = not_full array.len count size a.doublings a.enough (len_is a) full;
        least = still_least a.doublings count a.least;
        room = len_is a;
        front = ap (λ o. take (count * size) (unwrap_or o [])) (sym a.there);
        from = inl (array_is, a.some);
      }

  pub next_space : (some : count ≡ 0 → ⊥) → is_full array.len count size ≡ true → array_bytes size count (count + 1) ≡ round8 (2 * count * size)
  next_space some full = let a = array_of some in next_cost size a.doublings count a.some (count_full some full)

  pub same_space : (some : count ≡ 0 → ⊥) → is_full array.len count size ≡ false → array_bytes size count (count + 1) ≡ 0
  same_space some full = let a = array_of some in no_cost size a.doublings count a.some (not_full array.len count size a.doublings a.enough (len_is a) full) a.least

-- one more fits
pub room_fits : (old new : Places) (size : ℕ) (slot : List ℕ) (count : ℕ) (array : Place) → IsRoom old new size slot count array → count * size + size ≤ array.len
room_fits old new size slot count array r = omega (arith, r.room, mul_le (count + 1) (rooms r.doublings) size r.enough, round_up (rooms r.doublings * size))
