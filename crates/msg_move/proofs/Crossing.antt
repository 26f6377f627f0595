-- A message beside a fresh copy of another one.
use Rattle.std.proofs.Common.{◌≡◌, ◌≤◌, ℕ, zero, suc, List, [], ◌∷◌, Option, None, Some, MatchOption, drop, refl, sym, ap, subst, ◌∙◌, inl, inr, ⊎_elim, arith}
use Rattle.std.proofs.lemmas.Option.{none-some}
use Rattle.arena_mem.specs.declared.place.Place.{Place}
use Rattle.arena_mem.specs.Places.{Places, Buffers}
use Rattle.pb_schema.specs.declared.schema.Schema.{Schema}
use Rattle.pb_schema.specs.HeldAt.{held_at, with_held}
use Rattle.pb_schema.specs.Tree.{HeldWith, Nothing, One, Many, Sub, Shape}
use Rattle.dyn_message.specs.declared.msg_ref.MsgRef.{MsgRef}
use Rattle.dyn_message.specs.Changes.{Changes, NowStands}
use Rattle.dyn_message.specs.Feet.{Foot, InPlace, IsAmong, OldOrFresh, Separate, foot_bytes, times}
use Rattle.dyn_message.specs.Links.{IsLinked, IsUnlinked}
use Rattle.dyn_message.specs.Stands.{Stands}
use Rattle.dyn_message.proofs.Counting.{among_or, none_of, not_one, one_is}
use Rattle.dyn_message.proofs.Messages.{some_value}
use Rattle.dyn_message.proofs.There.{message_there}
use Rattle.msg_move.specs.Swapped.{AreSwapped, with_record}
use Rattle.msg_move.proofs.Swapping.{front, record_among}

-- a foot of a fresh list wasn't there
fresh_is : (places : Places) (buffers : Buffers) (now : List Foot) → OldOrFresh places buffers [] now → (foot : Foot) → IsAmong foot now → foot_bytes places buffers foot ≡ None
fresh_is places buffers now fresh foot among = ⊎_elim (λ old. absurd (omega (arith, old))) (λ none. none) (fresh foot among)

module _ (schema : Schema) (places : Places) (buffers : Buffers) (msg : MsgRef) (t : Shape) (feet now : List Foot) (st : Stands schema places buffers msg t feet) (fresh : OldOrFresh places buffers [] now) where
  -- what stands on fresh feet shares none with a message from before
  pub fresh_beside : Separate now feet
  fresh_beside foot among = none_of foot feet (λ in_feet.
      let here = some_value (foot_bytes places buffers foot) (message_there schema places buffers msg.type_no msg.place t feet st.message foot in_feet) in
      none-some here.0 (sym (fresh_is places buffers now fresh foot among) ∙ here.1))

  pub beside_fresh : Separate feet now
  beside_fresh foot among = none_of foot now (λ in_now. omega (arith, among, fresh_beside foot in_now))

  -- a message to which a fresh one was linked
  pub linked_now : (places' : Places) (buffers' : Buffers) (field : ℕ) (child : MsgRef) (w : Shape) → IsLinked schema places' buffers' msg w feet now field child → NowStands schema places buffers places' buffers' msg w feet
  linked_now places' buffers' field child w l = record {
    now = l.parent.now;
    stands = l.parent.stands;
    from = λ foot among. ⊎_elim (λ old. inl old)
        (λ other. inr (fresh_is places buffers now fresh foot (omega (arith, among, other, l.parent.count foot))))
        (among_or foot feet);
  }

  -- a message that changed places with a fresh one
  pub swapped_now : (mid places' : Places) (mid_buffers buffers' : Buffers) (copy : MsgRef) (u : Shape) → Stands schema mid mid_buffers copy u now → AreSwapped schema places' buffers' msg copy t feet u now → NowStands schema places buffers places' buffers' msg u feet
  swapped_now mid places' mid_buffers buffers' copy u st' s = record {
    now = with_record msg.place now;
    stands = s.first;
    from = λ foot among. ⊎_elim
        (λ behind. inr (fresh_is places buffers now fresh foot (within foot behind ((front schema mid mid_buffers copy u now st').are foot))))
        (λ none. inl (subst (λ f. IsAmong f feet) (sym (one_is (InPlace msg.place) foot (first foot among none))) (record_among schema places buffers msg t feet st)))
        (among_or foot (drop 1 now));
  }
    where
      within : (foot : Foot) → IsAmong foot (drop 1 now) → times foot now ≡ times foot (with_record copy.place now) → IsAmong foot now
      within foot behind whole = omega (arith, behind, whole)

      first : (foot : Foot) → IsAmong foot (with_record msg.place now) → times foot (drop 1 now) ≡ 0 → IsAmong foot (InPlace msg.place ∷ [])
      first foot among none = omega (arith, among, none)

-- the record of a fresh copy wasn't there
pub fresh_record : (schema : Schema) (places mid : Places) (buffers mid_buffers : Buffers) (copy : MsgRef) (u : Shape) → (n : NowStands schema places buffers mid mid_buffers copy u []) → foot_bytes places buffers (InPlace copy.place) ≡ None
fresh_record schema places mid buffers mid_buffers copy u n =
    fresh_is places buffers n.now n.from (InPlace copy.place) (record_among schema mid mid_buffers copy u n.now n.stands)

-- a growth, and then a change of a record that was there and of one that wasn't
module _ {S K : Type 0} (key : S → K) (places : S → Places) (buffers : S → Buffers) (blocks : S → ℕ → ℕ) where
  pub changes_beside : (p a : ℕ) (one other : Place) (old mid new : S) → Changes key places buffers blocks p a [] old mid → Changes key places buffers blocks 0 0 (InPlace one ∷ InPlace other ∷ []) mid new
      → foot_bytes (places old) (buffers old) (InPlace other) ≡ None → Changes key places buffers blocks p a (InPlace one ∷ []) old new
  changes_beside p a one other old mid new c d fresh = record {
    key = d.key ∙ c.key;
    others = λ foot was outside is. d.others foot was
        (omega (arith, outside, not_one (InPlace other) foot (λ e. none-some was (sym fresh ∙ (ap (foot_bytes (places old) (buffers old)) (sym e) ∙ is)))))
        (c.others foot was refl is);
    still_there = λ foot some. d.still_there foot (c.still_there foot some);
    no_fewer_places = omega (arith, c.no_fewer_places, d.no_fewer_places);
    few_places = omega (arith, c.few_places, d.few_places);
    no_fewer_buffers = omega (arith, c.no_fewer_buffers, d.no_fewer_buffers);
    few_buffers = omega (arith, c.few_buffers, d.few_buffers);
    no_fewer_blocks = λ region. omega (arith, c.no_fewer_blocks region, d.no_fewer_blocks region);
    few_blocks = λ region. omega (arith, c.few_blocks region, d.few_blocks region);
  }

-- a message whose field was set, and isn't any more
pub record IsWithout (schema : Schema) (places' : Places) (buffers' : Buffers) (msg : MsgRef) (t : Shape) (feet : List Foot) (number : ℕ) : Type 0 where
  pub rest : List Foot
  pub stands : Stands schema places' buffers' msg (with_held schema msg.type_no number Nothing t) rest
  pub within : (foot : Foot) → times foot rest ≤ times foot feet

abbrev held_kind : HeldWith (List (List ℕ)) → ℕ
held_kind Nothing = 0
held_kind (One _) = 1
held_kind (Many _) = 2

not_both : (held : HeldWith (List (List ℕ))) (tree : Shape) → held ≡ Nothing → held ≡ One (Sub tree) → ⊥
not_both held tree none one = differ (ap held_kind (sym none ∙ one))
  where
    differ : zero ≡ suc zero → ⊥
    differ e = omega (arith, e)

pub taken_away : (schema : Schema) (places places' : Places) (buffers buffers' : Buffers) (msg : MsgRef) (t : Shape) (feet : List Foot) (number : ℕ) (r : Option MsgRef) (tree : Shape) → held_at schema msg.type_no number t ≡ One (Sub tree)
    → MatchOption r ((held_at schema msg.type_no number t ≡ Nothing) × NowStands schema places buffers places' buffers' msg t feet) (λ child. IsUnlinked schema places' buffers' msg t feet number child)
    → IsWithout schema places' buffers' msg t feet number
taken_away schema places places' buffers buffers' msg t feet number None tree held m = absurd (not_both (held_at schema msg.type_no number t) tree m.0 held)
taken_away schema places places' buffers buffers' msg t feet number (Some child) tree held m = record {
  rest = m.parent.now;
  stands = m.parent.stands;
  within = λ foot. omega (arith, m.parent.count foot);
}
