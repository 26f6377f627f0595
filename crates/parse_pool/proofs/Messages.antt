-- Messages that are made in a part of an arena, one after the other.
use Rattle.std.proofs.Common.{◌≡◌, ◌+◌, ◌≤◌, ℕ, List, [], ◌∷◌, None, Some, refl, sym, subst, ◌∙◌, inr, ⊎_elim, arith}
use Rattle.std.specs.Prelude.{IsSome}
use Rattle.std.specs.FinMap as map
use Rattle.std.proofs.lemmas.Option.{none-some}
use Rattle.arena_mem.specs.declared.place.Place.{Place}
use Rattle.arena_mem.specs.Places.{Places, Buffers}
use Rattle.arena_mem.specs.Grows.{Grows}
use Rattle.pb_schema.specs.declared.schema.Schema.{Schema}
use Rattle.pb_schema.specs.Tree.{Shape}
use Rattle.dyn_message.specs.declared.msg_ref.MsgRef.{MsgRef}
use Rattle.dyn_message.specs.Feet.{Foot, InPlace, IsAmong, KeepsOthers, Separate, foot_bytes}
use Rattle.dyn_message.specs.Stands.{Stands}
use Rattle.dyn_message.specs.Changes.{Changes, NowStands}
use Rattle.dyn_message.proofs.Counting.{not_one, one_is, none_of}
use Rattle.dyn_message.proofs.Messages.{some_value}
use Rattle.dyn_message.proofs.Changing.{grown, changes_join, fresh_before}
use Rattle.dyn_message.proofs.SameBytes.{message_same}
use Rattle.dyn_message.proofs.There.{message_there}
use Rattle.dyn_message.proofs.OneShape.{message_one}

module _ {S K : Type 0} (key : S → K) (places : S → Places) (buffers : S → Buffers) (blocks : S → ℕ → ℕ) where
  -- a record is placed, and then it and what is new are changed: so what was there before isn't
  pub made_and_parsed : (p a : ℕ) (place : Place) (old mid new : S) → Grows key places buffers blocks 1 0 old mid → map.get (places old) place ≡ None → Changes key places buffers blocks p a (InPlace place ∷ []) mid new → Changes key places buffers blocks (p + 1) (a + 1) [] old new
  made_and_parsed p a place old mid new grows fresh changes =
      let both = changes_join key places buffers blocks 1 p 0 a (InPlace place ∷ []) old mid new (grown key places buffers blocks 1 0 (InPlace place ∷ []) old mid grows) changes in record {
        key = both.key;
        others = λ foot was outside is. both.others foot was (not_one (InPlace place) foot (λ same. none-some was (sym fresh ∙ subst (λ f. foot_bytes (places old) (buffers old) f ≡ Some was) same is))) is;
        still_there = both.still_there;
        no_fewer_places = both.no_fewer_places;
        few_places = omega (arith, both.few_places);
        no_fewer_buffers = both.no_fewer_buffers;
        few_buffers = omega (arith, both.few_buffers);
        no_fewer_blocks = both.no_fewer_blocks;
        few_blocks = λ region. omega (arith, both.few_blocks region);
      }

  -- more at most
  pub within_more : (p q a b : ℕ) (old new : S) → Changes key places buffers blocks p a [] old new → p ≤ q → a ≤ b → Changes key places buffers blocks q b [] old new
  within_more p q a b old new c few_p few_a = record {
    key = c.key;
    others = c.others;
    still_there = c.still_there;
    no_fewer_places = c.no_fewer_places;
    few_places = omega (arith, c.few_places, few_p);
    no_fewer_buffers = c.no_fewer_buffers;
    few_buffers = omega (arith, c.few_buffers, few_a);
    no_fewer_blocks = c.no_fewer_blocks;
    few_blocks = λ region. omega (arith, c.few_blocks region, few_p);
  }

-- what stands on a new record, and else on what is fresh since that was placed, stands on what is fresh
pub fresh_stands : (schema : Schema) (places mid places' : Places) (buffers between buffers' : Buffers) (msg : MsgRef) (t : Shape) → map.get places msg.place ≡ None
    → ((foot : Foot) → IsSome (foot_bytes places buffers foot) → IsSome (foot_bytes mid between foot))
    → NowStands schema mid between places' buffers' msg t (InPlace msg.place ∷ []) → NowStands schema places buffers places' buffers' msg t []
fresh_stands schema places mid places' buffers between buffers' msg t fresh still n = record {
  now = n.now;
  stands = n.stands;
  from = λ foot among. inr (⊎_elim
      (λ own. subst (λ f. foot_bytes places buffers f ≡ None) (sym (one_is (InPlace msg.place) foot own)) fresh)
      (λ none. fresh_before places mid buffers between foot (still foot) none)
      (n.from foot among));
}

-- a message that stands still does where all that was there keeps its bytes
pub stands_on : (schema : Schema) (places places' : Places) (buffers buffers' : Buffers) (msg : MsgRef) (t : Shape) (feet : List Foot) → KeepsOthers places buffers places' buffers' [] → Stands schema places buffers msg t feet → Stands schema places' buffers' msg t feet
stands_on schema places places' buffers buffers' msg t feet keeps st = record {
  message = message_same schema places places' buffers buffers' msg.type_no msg.place t feet
      (λ foot among.
      let was = some_value (foot_bytes places buffers foot) (message_there schema places buffers msg.type_no msg.place t feet st.message foot among) in
      keeps foot was.0 refl was.1 ∙ sym was.1)
      st.message;
  once = st.once;
}

-- two messages that stand on separate feet do, whatever is said of what they stand for
pub feet_separate : (schema : Schema) (places : Places) (buffers : Buffers) (one other : MsgRef) (t u : Shape) (feet others : List Foot)
    → Stands schema places buffers one t feet → Stands schema places buffers other u others → Separate feet others
    → (t' u' : Shape) (feet' others' : List Foot) → Stands schema places buffers one t' feet' → Stands schema places buffers other u' others' → Separate feet' others'
feet_separate schema places buffers one other t u feet others st su apart t' u' feet' others' st' su' =
    subst (λ f. Separate f others') (sym (message_one schema places buffers one.type_no one.place t' t feet' feet st'.message st.message).1)
    (subst (λ o. Separate feet o) (sym (message_one schema places buffers other.type_no other.place u' u others' others su'.message su.message).1) apart)

-- what stands on feet that are there shares none with what is fresh
pub fresh_separate : (schema : Schema) (places : Places) (buffers : Buffers) (msg : MsgRef) (t : Shape) (feet now : List Foot)
    → Stands schema places buffers msg t feet → ((foot : Foot) → IsAmong foot now → foot_bytes places buffers foot ≡ None) → Separate feet now
fresh_separate schema places buffers msg t feet now st fresh foot among =
    none_of foot now (λ there.
    let was = some_value (foot_bytes places buffers foot) (message_there schema places buffers msg.type_no msg.place t feet st.message foot among) in
    none-some was.0 (sym (fresh foot there) ∙ was.1))
