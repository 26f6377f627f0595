-- Byte strings in a memory, by their slots.
use Rattle.std.proofs.Common.{◌≡◌, ◌≢◌, ◌^◌, ◌+◌, ◌≤◌, ◌<◌, ℕ, Bool, true, false, not, eqb, length, take, replicate, List, [], ◌∷◌, Option, None, Some, true≢false, refl, sym, ap, ap₂, ◌∙◌, subst, arith}
use Rattle.std.specs.Option.{option_map}
use Rattle.std.proofs.lemmas.Bool.{ne_eqb}
use Rattle.std.proofs.lemmas.List.{length-replicate}
use Rattle.std.proofs.lemmas.Option.{same_Some}
use Rattle.std.specs.FinMap as map
use Rattle.arena_mem.specs.declared.place.Place.{Place}
use Rattle.arena_mem.specs.declared.place.Buffer.{Buffer}
use Rattle.arena_mem.specs.Places.{Places, Buffers, round8, splice}
use Rattle.pb_schema.specs.declared.kind.Card.{Card}
use Rattle.pb_schema.specs.declared.kind.Card.TheVariants as cards
use Rattle.pb_schema.specs.declared.kind.FieldType.{FieldType}
use Rattle.pb_schema.specs.declared.schema.Schema.{Schema}
use Rattle.pb_schema.specs.Kinds.{ValueType, Scalar, Characters, Octets, Nested, value_type_of, slot_of}
use Rattle.pb_schema.specs.Fitted.{IsStringOf}
use Rattle.pb_schema.specs.Tree.{HeldWith, Nothing, One, Many, Number, Bytes, Sub}
use Rattle.msg_layout.specs.Slots.{slot_bytes, is_message}
use Rattle.dyn_message.specs.Feet.{Foot, InPlace, InBuffer, foot_bytes}
use Rattle.dyn_message.specs.Slots.{word, place_in, buffer_in, IsZero, set_by, MayBeSet, MayBeUnset}
use Rattle.dyn_message.specs.Strings.{IsShort, IsLong, HoldsBytes, NoBytes, ShortBytes, LongBytes, IsKeptAnew}
use Rattle.dyn_message.specs.Stands.{IsSingle, IsLink, HoldsNumber, MayHold, HeldStands}
use Rattle.dyn_message.specs.Fields.{IsBytesType, bytes_held}
use Rattle.dyn_message.proofs.Counting.{once_one, one_is}
use Rattle.dyn_message.proofs.Parts.{part_here}
use Rattle.dyn_message.proofs.Words.{zero_form}
use Rattle.dyn_message.proofs.Messages.{SetsAll}
use Rattle.dyn_message.proofs.Opening.{both, set_by_mark, single_slot}

-- READ

pub form_of_zeros : (slot : List ℕ) → IsZero 24 slot → word 5 slot ≡ 0
form_of_zeros slot zeros = ap (word 5) zeros ∙ zero_form

module _ (places : Places) (buffers : Buffers) (slot bytes : List ℕ) (feet : List Foot) where
  held_short : HoldsBytes places buffers slot bytes feet → word 5 slot ≡ 1 → IsShort places slot bytes
  held_short (NoBytes none zeros are) form = absurd (omega (arith, form, form_of_zeros slot zeros))
  held_short (ShortBytes short are) form = short
  held_short (LongBytes long are) form = absurd (omega (arith, form, long.form))

  held_long : HoldsBytes places buffers slot bytes feet → word 5 slot ≡ 2 → IsLong buffers slot bytes
  held_long (NoBytes none zeros are) form = absurd (omega (arith, form, form_of_zeros slot zeros))
  held_long (ShortBytes short are) form = absurd (omega (arith, form, short.form))
  held_long (LongBytes long are) form = long

  pub held_none : HoldsBytes places buffers slot bytes feet → word 5 slot ≢ 1 → word 5 slot ≢ 2 → bytes ≡ []
  held_none (NoBytes none zeros are) one two = none
  held_none (ShortBytes short are) one two = absurd (one short.form)
  held_none (LongBytes long are) one two = absurd (two long.form)

  pub short_live : HoldsBytes places buffers slot bytes feet → word 5 slot ≡ 1 → (was : List ℕ) × (map.get places (place_in slot) ≡ Some was)
  short_live holds form = let short = held_short holds form in (short.was, short.there)

  pub long_kept : HoldsBytes places buffers slot bytes feet → word 5 slot ≡ 2 → map.get buffers (buffer_in slot) ≡ Some bytes
  long_kept holds form = (held_long holds form).there

  pub short_read : HoldsBytes places buffers slot bytes feet → word 5 slot ≡ 1 → (p : Place) (n : ℕ) (now : List ℕ) → p ≡ place_in slot → n ≡ word 4 slot → map.get places p ≡ Some now → take n now ≡ bytes
  short_read holds form p n now p_is n_is found =
      let short = held_short holds form in
      let same : now ≡ short.was = same_Some now short.was (sym found ∙ ap (map.get places) p_is ∙ short.there) in
      ap₂ take (n_is ∙ short.count) same ∙ short.front

  pub short_bound : HoldsBytes places buffers slot bytes feet → word 5 slot ≡ 1 → (p : Place) (n : ℕ) (now : List ℕ) → p ≡ place_in slot → n ≡ word 4 slot → map.get places p ≡ Some now → n ≡ length (take n now)
  short_bound holds form p n now p_is n_is found = n_is ∙ (held_short holds form).count ∙ sym (ap length (short_read holds form p n now p_is n_is found))

-- MADE

pub short_made : (places mid places' : Places) (buffers buffers' : Buffers) (p : Place) (slot bytes : List ℕ) (count : ℕ) → map.get places p ≡ None → p.len ≡ round8 count → map.get mid p ≡ Some (replicate p.len 0)
    → map.get places' p ≡ option_map (splice 0 bytes) (map.get mid p) → count ≡ length bytes → 1 ≤ length bytes → length bytes ≤ 15
    → place_in slot ≡ p → word 4 slot ≡ count → word 5 slot ≡ 1 → IsKeptAnew places buffers places' buffers' slot bytes
short_made places mid places' buffers buffers' p slot bytes count fresh len zeros here counts some few names count_is form_is =
    let fits : 0 + length bytes ≤ length (replicate {A = ℕ} p.len 0) = omega (arith, length-replicate {A = ℕ} p.len 0, len, counts) in
    record {
      feet = InPlace (place_in slot) ∷ [];
      holds = ShortBytes (record {
        form = form_is;
        count = count_is ∙ counts;
        some = some;
        few = few;
        room = ap (λ (q : Place). q.len) names ∙ len ∙ ap round8 counts;
        was = splice 0 bytes (replicate p.len 0);
        there = ap (map.get places') names ∙ here ∙ ap (option_map (splice 0 bytes)) zeros;
        front = part_here 0 bytes (replicate p.len 0) fits (length bytes) refl;
      }) refl;
      fresh = λ foot among. ap (foot_bytes places buffers) (one_is (InPlace (place_in slot)) foot among) ∙ ap (map.get places) names ∙ fresh;
      once = once_one (InPlace (place_in slot));
    }

pub long_made : (places places' : Places) (buffers buffers' : Buffers) (b : Buffer) (slot bytes : List ℕ) (count : ℕ) → map.get buffers b ≡ None → map.get buffers' b ≡ Some bytes → count ≡ length bytes → 16 ≤ length bytes
    → buffer_in slot ≡ b → word 3 slot ≡ 0 → word 4 slot ≡ count → word 5 slot ≡ 2 → IsKeptAnew places buffers places' buffers' slot bytes
long_made places places' buffers buffers' b slot bytes count fresh value counts many names zero_is count_is form_is = record {
  feet = InBuffer (buffer_in slot) ∷ [];
  holds = LongBytes (record { form = form_is; zero = zero_is; count = count_is ∙ counts; many = many; there = ap (map.get buffers') names ∙ value }) refl;
  fresh = λ foot among. ap (foot_bytes places buffers) (one_is (InBuffer (buffer_in slot)) foot among) ∙ ap (map.get buffers) names ∙ fresh;
  once = once_one (InBuffer (buffer_in slot));
}

-- A FIELD

pub bytes_slot : (field : FieldType) → IsSingle field.card → IsBytesType (value_type_of field.kind) → slot_bytes field ≡ 24
bytes_slot field single type = single_slot field single ∙ by_type (value_type_of field.kind) type
  where
    by_type : (t : ValueType) → IsBytesType t → slot_of t ≡ 24
    by_type (Scalar coding) h = absurd h
    by_type Characters h = refl
    by_type Octets h = refl
    by_type (Nested type_no) h = absurd h

pub bytes_plain : (type : ValueType) → IsBytesType type → is_message type ≡ false
bytes_plain (Scalar coding) h = refl
bytes_plain Characters h = refl
bytes_plain Octets h = refl
bytes_plain (Nested type_no) h = absurd h

pub string_bytes_type : (type : ValueType) (s : List ℕ) → IsStringOf type s → IsBytesType type
string_bytes_type (Scalar coding) s h = h
string_bytes_type Characters s h = tt
string_bytes_type Octets s h = tt
string_bytes_type (Nested type_no) s h = h

no_number : (type : ValueType) (slot : List ℕ) (p : ℕ) → IsBytesType type → HoldsNumber type slot p → ⊥
no_number (Scalar coding) slot p bytes h = bytes
no_number Characters slot p bytes h = h
no_number Octets slot p bytes h = h
no_number (Nested type_no) slot p bytes h = h

no_link : (P : ℕ → Type 0) (type : ValueType) → IsBytesType type → IsLink P type → ⊥
no_link P (Scalar coding) bytes h = h
no_link P Characters bytes h = h
no_link P Octets bytes h = h
no_link P (Nested type_no) bytes h = bytes

pub record BytesThere (places : Places) (buffers : Buffers) (slot : List ℕ) (held : HeldWith (List (List ℕ))) (own : List Foot) : Type 0 where
  pub bytes : List ℕ
  pub held_is : held ≡ One (Bytes bytes)
  pub holds : HoldsBytes places buffers slot bytes own

module _ (schema : Schema) (places : Places) (buffers : Buffers) (field : FieldType) (told : Option Bool) (slot : List ℕ) (own : List Foot) (single : IsSingle field.card) (type : IsBytesType (value_type_of field.kind)) (n : ℕ) (is : n ≡ word 5 slot) where
  pub bytes_there : (held : HeldWith (List (List ℕ))) → HeldStands schema places buffers field told slot held own → set_by told (not (eqb n 0)) ≡ true → BytesThere places buffers slot held own
  bytes_there Nothing h set = absurd (true≢false (sym set ∙ by_told told h.1))
    where
      by_told : (t : Option Bool) → MayBeUnset t → set_by t (not (eqb n 0)) ≡ false
      by_told None unset = ap (λ k. not (eqb k 0)) (is ∙ form_of_zeros slot (h.2 ∙ ap (λ k. replicate k 0) (bytes_slot field single type)))
      by_told (Some t) unset = unset
  bytes_there (One (Number p)) h set = absurd (no_number (value_type_of field.kind) slot p type h.2.0)
  bytes_there (One (Bytes s)) h set = record { bytes = s; held_is = refl; holds = h.2.holds }
  bytes_there (One (Sub t)) h set = absurd (no_link _ (value_type_of field.kind) type h.2)
  bytes_there (Many elements) h set = absurd (both field.card single h.0)

  pub bytes_none : (held : HeldWith (List (List ℕ))) → HeldStands schema places buffers field told slot held own → (told ≡ None → field.card ≡ cards.Implicit) → set_by told (not (eqb n 0)) ≡ false → held ≡ Nothing
  bytes_none Nothing h implicit unset = refl
  bytes_none (One (Number p)) h implicit unset = absurd (no_number (value_type_of field.kind) slot p type h.2.0)
  bytes_none (One (Bytes s)) h implicit unset =
      absurd (true≢false (sym (set_by_mark told (not (eqb n 0)) h.1 (λ untold. ap not (ne_eqb n 0 (λ e. some_form s (subst (λ c. MayHold {U = List (List ℕ)} c (Bytes s)) (implicit untold) h.0) h.2.holds (sym is ∙ e))))) ∙ unset))
    where
      some_form : (s : List ℕ) → 1 ≤ length s → HoldsBytes places buffers slot s own → word 5 slot ≡ 0 → ⊥
      some_form s some (NoBytes none zeros are) form = omega (arith, some, ap length none)
      some_form s some (ShortBytes short are) form = omega (arith, form, short.form)
      some_form s some (LongBytes long are) form = omega (arith, form, long.form)
  bytes_none (One (Sub t)) h implicit unset = absurd (no_link _ (value_type_of field.kind) type h.2)
  bytes_none (Many elements) h implicit unset = absurd (both field.card single h.0)

may_be_unset : (told : Option Bool) → told ≡ None → MayBeUnset told
may_be_unset told none = subst MayBeUnset (sym none) tt

pub bytes_stand : (schema : Schema) (places : Places) (buffers : Buffers) (field : FieldType) (slot s : List ℕ) (told : Option Bool) (feet : List Foot) → IsSingle field.card → IsStringOf (value_type_of field.kind) s → length s < 2 ^ 31
    → HoldsBytes places buffers slot s feet → MayBeSet told → (field.card ≡ cards.Implicit → told ≡ None) → HeldStands schema places buffers field told slot (bytes_held field.card s) feet
bytes_stand schema places buffers field slot s told feet single type short holds set implicit = by_card field.card refl s type short holds
  where
    one : (card : Card) (q : List ℕ) → field.card ≡ card → IsStringOf (value_type_of field.kind) q → length q < 2 ^ 31 → HoldsBytes places buffers slot q feet → MayHold {U = List (List ℕ)} card (Bytes q)
        → HeldStands schema places buffers field told slot (One (Bytes q)) feet
    one card q is type short holds may = (subst (λ c. MayHold {U = List (List ℕ)} c (Bytes q)) (sym is) may, set, record { kind = type; short = short; holds = holds })

    nothing : field.card ≡ cards.Implicit → IsStringOf (value_type_of field.kind) [] → HoldsBytes places buffers slot [] feet → HeldStands schema places buffers field told slot Nothing feet
    nothing is type (NoBytes none zeros are) = (single, may_be_unset told (implicit is), zeros ∙ ap (λ k. replicate k 0) (sym (bytes_slot field single (string_bytes_type (value_type_of field.kind) [] type))), are)
    nothing is type (ShortBytes held are) = absurd (omega (arith, held.some))
    nothing is type (LongBytes held are) = absurd (omega (arith, held.many))

    by_card : (card : Card) → field.card ≡ card → (q : List ℕ) → IsStringOf (value_type_of field.kind) q → length q < 2 ^ 31 → HoldsBytes places buffers slot q feet → HeldStands schema places buffers field told slot (bytes_held card q) feet
    by_card cards.Implicit is [] type short holds = nothing is type holds
    by_card cards.Implicit is (b ∷ q) type short holds = one cards.Implicit (b ∷ q) is type short holds (omega arith)
    by_card cards.Explicit is q type short holds = one cards.Explicit q is type short holds tt
    by_card (cards.Member oneof) is q type short holds = one (cards.Member oneof) q is type short holds tt
    by_card (cards.Repeated packed) is q type short holds = absurd (subst IsSingle is single)

pub bytes_set : (card : Card) (s : List ℕ) → IsSingle card → SetsAll {U = List (List ℕ)} card (bytes_held card s)
bytes_set cards.Implicit [] single = refl
bytes_set cards.Implicit (b ∷ s) single = tt
bytes_set cards.Explicit s single = tt
bytes_set (cards.Member oneof) s single = tt
bytes_set (cards.Repeated packed) s single = absurd single
