-- An arena and a region that it adopts are one memory.
use Rattle.std.proofs.Common.{◌≡◌, ◌+◌, ◌<◌, ◌≤◌, ℕ, List, [], ◌∷◌, Option, None, Some, length, map, refl, sym, ap, subst, ◌∙◌, inl, inr, ⊎_elim, arith}
use Rattle.std.proofs.lemmas.Option.{none-some}
use Rattle.std.specs.Prelude.{IsSome, OnOk}
use Rattle.std.proofs.Common.{Result, Ok, Err}
use Rattle.std.specs.FinMap as fin
use Rattle.std.proofs.lemmas.List.{length-map}
use Rattle.std.proofs.lemmas.List.Sums.{sum_by-append, sum_by_push}
use Rattle.arena_mem.specs.declared.place.Place.{Place}
use Rattle.arena_mem.specs.declared.place.Buffer.{Buffer}
use Rattle.arena_mem.specs.Places.{Places, Buffers, IsLive, IsKept}
use Rattle.serial_arena.specs.Serial.{SerialState, IsSerial, span_of, places_of, buffers_of, blocks_of, used_of}
use Rattle.serial_arena.proofs.Names.{live_at, blocks_here}
use Rattle.arena_list.specs.declared.entry.Entry.{Entry}
use Rattle.arena_list.proofs.Words.Lists.{at_more}
use Rattle.ts_arena.specs.Arena.{ArenaState, registered_of}
use Rattle.ts_arena.specs.Places.{IsPartOf}
use Rattle.ts_arena.specs.Parts.{owner_at}
use Rattle.ts_arena.specs.Sole.{IsEntered, KeepsAllElse, Owns, all_blocks, arena_places, arena_buffers, arena_blocks}
use Rattle.ts_arena.proofs.Spots.{at_behind}
use Rattle.ts_arena.proofs.Whole.{place_named, buffer_named}
use Rattle.pb_schema.specs.declared.schema.Schema.{Schema}
use Rattle.pb_schema.specs.HeldAt.{with_held}
use Rattle.pb_schema.specs.Tree.{One, Sub, Shape}
use Rattle.dyn_message.specs.declared.msg_ref.MsgRef.{MsgRef}
use Rattle.dyn_message.specs.Feet.{Foot, InPlace, InBuffer, KeepsOthers, Separate, foot_bytes, times}
use Rattle.dyn_message.specs.Links.{IsLinked}
use Rattle.dyn_message.specs.Stands.{Stands}
use Rattle.dyn_message.proofs.Counting.{none_of, not_one}
use Rattle.dyn_message.proofs.Messages.{some_value}
use Rattle.dyn_message.proofs.Opening.{record_is}
use Rattle.dyn_message.proofs.SameBytes.{message_same}
use Rattle.dyn_message.proofs.There.{message_there}
use Rattle.msg_move.specs.Adopted.{AreJoined, IsUsedBy, with_region}

-- where an arena finds what is live or kept
pub record Lookups (a : ArenaState) : Type 0 where
  pub places : (s : SerialState) (p : Place) → IsPartOf a s → p.region ≡ s.region → fin.get (arena_places a) p ≡ fin.get (places_of s) p
  pub buffers : (s : SerialState) (b : Buffer) → IsPartOf a s → b.region ≡ s.region → fin.get (arena_buffers a) b ≡ fin.get (buffers_of s) b
  pub blocks : (s : SerialState) → IsPartOf a s → arena_blocks a s.region ≡ blocks_of s s.region
  pub live : (p : Place) → IsLive (arena_places a) p → (s : SerialState) × IsPartOf a s × (s.region ≡ p.region)
  pub kept : (b : Buffer) → IsKept (arena_buffers a) b → (s : SerialState) × IsPartOf a s × (s.region ≡ b.region)

pub on_ok : {T E X Y : Type 0} (r : Result T E) → (X → Y) → OnOk r X → OnOk r Y
on_ok (Ok x) f h = f h
on_ok (Err e) f h = h

-- a region with a live place has a block
block_there : (s : SerialState) (p : Place) → IsSerial s → IsLive (places_of s) p → 1 ≤ blocks_of s s.region
block_there s p serial live =
    let was = some_value (fin.get (places_of s) p) live in
    let at = live_at s p was.0 was.1 in
    let within = serial.laid.within at.0 (omega (arith, at.1, length-map s.placements span_of)) in
    omega (arith, within.block, blocks_here s)

module _ (a : ArenaState) (s : SerialState) where
  part_stays : (x : SerialState) → IsPartOf a x → IsPartOf (with_region a s) x
  part_stays x is = ⊎_elim (λ o. inl o) (λ o. inr (o.0, at_more a.adopted (s ∷ []) o.0 x o.1)) is

  last_part : IsPartOf (with_region a s) s
  last_part = inr (length a.adopted + 0, at_behind a.adopted (s ∷ []) 0)

  blocks_sum : (r : ℕ) → arena_blocks (with_region a s) r ≡ arena_blocks a r + blocks_of s r
  unfolding all_blocks
  blocks_sum r =
      let f : SerialState → ℕ = λ x. blocks_of x r in
      let own : List SerialState = map (λ (e : Entry SerialState). e.part) a.owners in
      omega (arith, sum_by-append f own (a.adopted), sum_by-append f own (with_region a s).adopted, sum_by_push f a.adopted s)

  module _ (old : Lookups a) (new : Lookups (with_region a s)) (some : 1 ≤ blocks_of s s.region) where
    -- no part of the arena has the region's number
    no_part : (x : SerialState) → IsPartOf a x → x.region ≡ s.region → ⊥
    no_part x is same =
        let before = old.blocks x is in
        let after = new.blocks x (part_stays x is) in
        let last = new.blocks s last_part in
        omega (arith, before, after, last, blocks_sum s.region, some, ap (arena_blocks a) same, ap (arena_blocks (with_region a s)) same)

    kept : KeepsOthers (arena_places a) (arena_buffers a) (arena_places (with_region a s)) (arena_buffers (with_region a s)) []
    kept (InPlace p) was outside is =
        let part = old.live p (subst IsSome (sym is) refl) in
        new.places part.0 p (part_stays part.0 part.1) (sym part.2) ∙ sym (old.places part.0 p part.1 (sym part.2)) ∙ is
    kept (InBuffer b) was outside is =
        let part = old.kept b (subst IsSome (sym is) refl) in
        new.buffers part.0 b (part_stays part.0 part.1) (sym part.2) ∙ sym (old.buffers part.0 b part.1 (sym part.2)) ∙ is

    region_kept : KeepsOthers (places_of s) (buffers_of s) (arena_places (with_region a s)) (arena_buffers (with_region a s)) []
    region_kept (InPlace p) was outside is = new.places s p last_part (place_named s p was is) ∙ is
    region_kept (InBuffer b) was outside is = new.buffers s b last_part (buffer_named s b was is) ∙ is

    none_there : {A : Type 0} (o : Option A) → (IsSome o → ⊥) → o ≡ None
    none_there None not_some = refl
    none_there (Some x) not_some = absurd (not_some refl)

    apart : (foot : Foot) → IsSome (foot_bytes (places_of s) (buffers_of s) foot) → foot_bytes (arena_places a) (arena_buffers a) foot ≡ None
    apart (InPlace p) there = none_there (fin.get (arena_places a) p) (λ live.
        let part = old.live p live in
        let was = some_value (fin.get (places_of s) p) there in
        no_part part.0 part.1 (part.2 ∙ place_named s p was.0 was.1))
    apart (InBuffer b) there = none_there (fin.get (arena_buffers a) b) (λ live.
        let part = old.kept b live in
        let was = some_value (fin.get (buffers_of s) b) there in
        no_part part.0 part.1 (part.2 ∙ buffer_named s b was.0 was.1))

    joined_here : AreJoined a s (with_region a s)
    joined_here = record {
      kept = kept;
      region_kept = region_kept;
      apart = apart;
      space = omega (arith, sum_by_push used_of a.adopted s);
      registered = omega (arith, sum_by_push registered_of a.adopted s);
    }

pub joined : (a after : ArenaState) (s : SerialState) (p : Place) → after ≡ with_region a s → IsSerial s → IsLive (places_of s) p → Lookups a → Lookups after → AreJoined a s after
joined a after s p is serial live old new = subst (AreJoined a s) (sym is) (joined_here a s old (subst Lookups is new) (block_there s p serial live))

-- a link between two states of a memory
abbrev pub Links : Schema → MsgRef → ℕ → MsgRef → Places → Buffers → Places → Buffers → Type 0
Links schema msg field child places buffers places' buffers' =
    (t : Shape) (feet : List Foot) (u : Shape) (own : List Foot)
    → Stands schema places buffers msg t feet
    → Stands schema places buffers child u own → Separate own feet
    → IsLinked schema places' buffers' msg (with_held schema msg.type_no field (One (Sub u)) t) feet own field child

-- an owner is entered as the arena is, and has afterwards what it left
pub linked_alone : (schema : Schema) (msg : MsgRef) (field : ℕ) (child : MsgRef) (before start : ArenaState) (caller at : ℕ) → IsEntered before caller start at → Owns before.owners caller
    → (places places' : Places) (buffers buffers' : Buffers) → places' ≡ places → buffers' ≡ buffers
    → Links schema msg field child (arena_places start) (arena_buffers start) places buffers → Links schema msg field child (arena_places before) (arena_buffers before) places' buffers'
linked_alone schema msg field child before start caller at entered owner places places' buffers buffers' places_are buffers_are links =
    subst (λ (a : ArenaState). Links schema msg field child (arena_places a) (arena_buffers a) places' buffers') (entered.same owner)
    (subst (λ (p : Places). Links schema msg field child (arena_places start) (arena_buffers start) p buffers') (sym places_are)
    (subst (λ (b : Buffers). Links schema msg field child (arena_places start) (arena_buffers start) places b) (sym buffers_are) links))

pub used_alone : (before start last now : ArenaState) (caller at : ℕ) → IsEntered before caller start at → Owns before.owners caller → last ≡ now → KeepsAllElse at start now → IsUsedBy caller before last
used_alone before start last now caller at entered owner is keeps =
    let same = entered.same owner in
    record {
      at = at;
      there = subst (λ (a : ArenaState). at < length a.owners) same entered.there;
      own = subst (λ (a : ArenaState). (owner_at a.owners at).caller ≡ caller) same entered.own;
      keeps = subst (λ (a : ArenaState). KeepsAllElse at a last) same (subst (λ (a : ArenaState). KeepsAllElse at start a) (sym is) keeps);
    }

-- a message stands where all that was there keeps its bytes
pub stays : (schema : Schema) (places places' : Places) (buffers buffers' : Buffers) (msg : MsgRef) (t : Shape) (feet : List Foot) → KeepsOthers places buffers places' buffers' [] → Stands schema places buffers msg t feet → Stands schema places' buffers' msg t feet
stays schema places places' buffers buffers' msg t feet keeps st = record {
  message = message_same schema places places' buffers buffers' msg.type_no msg.place t feet
      (λ foot among.
      let was = some_value (foot_bytes places buffers foot) (message_there schema places buffers msg.type_no msg.place t feet st.message foot among) in
      keeps foot was.0 refl was.1 ∙ sym was.1)
      st.message;
  once = st.once;
}

-- a message of the region shares no foot with one of the arena
pub separate_there : (schema : Schema) (a after : ArenaState) (s : SerialState) → AreJoined a s after → (msg child : MsgRef) (t u : Shape) (feet own : List Foot)
    → Stands schema (arena_places a) (arena_buffers a) msg t feet → Stands schema (places_of s) (buffers_of s) child u own → Separate own feet
separate_there schema a after s joined msg child t u feet own st st' foot among = none_of foot feet (λ in_feet.
    let here = some_value (foot_bytes (arena_places a) (arena_buffers a) foot) (message_there schema (arena_places a) (arena_buffers a) msg.type_no msg.place t feet st.message foot in_feet) in
    none-some here.0 (sym (joined.apart foot (message_there schema (places_of s) (buffers_of s) child.type_no child.place u own st'.message foot among)) ∙ here.1))

-- nothing of the region is the record of a message of the arena
pub not_record : (schema : Schema) (a after : ArenaState) (s : SerialState) → AreJoined a s after → (msg : MsgRef) (t : Shape) (feet : List Foot)
    → Stands schema (arena_places a) (arena_buffers a) msg t feet → (foot : Foot) (was : List ℕ) → foot_bytes (places_of s) (buffers_of s) foot ≡ Some was → times foot (InPlace msg.place ∷ []) ≡ 0
not_record schema a after s joined msg t feet st foot was is = not_one (InPlace msg.place) foot (λ e.
    let own = record_is schema (arena_places a) (arena_buffers a) msg t feet st in
    none-some own.bytes (sym (joined.apart foot (subst IsSome (sym is) refl)) ∙ (ap (foot_bytes (arena_places a) (arena_buffers a)) e ∙ own.there)))
