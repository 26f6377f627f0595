-- What a sole use doesn't change.
use Rattle.std.proofs.Common.{◌≡◌, ◌≢◌, ℕ, zero, suc, ◌<◌, ◌≤◌, List, [], ◌∷◌, length, map, get_or, set, refl, sym, ap, ◌∙◌, ◌⊎◌, inl, inr, arith}
use Rattle.std.proofs.Math.ListN.{get_or-eq_default}
use Rattle.std.proofs.lemmas.Bool.{cases_lt}
use mathlib.Core.Option.{some, some-injective}
use lib.ListN.{get_elem?}
use Rattle.arena_list.specs.Rule.Founded.{node_of}
use Rattle.arena_list.proofs.Words.Few.{at_map, len_map}
use Rattle.arena_list.proofs.Words.Lists.{at_replaced}
use Rattle.std.proofs.lemmas.List.{get_or-set_same, get_or-set_other}
use mathlib.Core.Logic.{dite}
use native.Mathlib.Decide.{ℕ_discrete}
use Rattle.arena_mem.specs.declared.place.Place.{Place}
use Rattle.serial_arena.specs.Serial.{SerialState, Placement, with_bytes, rewritten}
use Rattle.arena_list.specs.declared.entry.Entry.{Entry}
use Rattle.ts_arena.specs.declared.spot.Spot.{Spot}
use Rattle.ts_arena.specs.declared.spot.Spot.TheVariants.{Owner, Adopted}
use Rattle.ts_arena.specs.Arena.{ArenaState}
use Rattle.ts_arena.specs.Sharing.{Owners}
use Rattle.ts_arena.specs.Parts.{no_part, no_owner, owner_at, owner_with, IsSpot, part_at, with_part}
use Rattle.ts_arena.specs.Sole.{unwritten, emptied, unwritten_owner, emptied_owner, frame_of, KeepsAllElse}
use Rattle.ts_arena.proofs.Spots.{or_at, get_map, set_twice, map_set, map_set_same, unwritten_bytes}

-- the frame, with these owners
abbrev frame_with : ℕ → ArenaState → Owners → ArenaState
frame_with at a es = record a { owners = set (map unwritten_owner es) at (emptied_owner (owner_at es at)); adopted = map unwritten a.adopted }

-- the caller's own part doesn't count
own_changed : (es : Owners) (at : ℕ) (t : SerialState) → at < length es → emptied t ≡ emptied (owner_at es at).part
    → set (map unwritten_owner (owner_with es at t)) at (emptied_owner (owner_at (owner_with es at t) at)) ≡ set (map unwritten_owner es) at (emptied_owner (owner_at es at))
own_changed es at t h same = let e : Entry SerialState = record (owner_at es at) { part = t } in
    (λ i. set (map_set unwritten_owner es at e i) at (emptied_owner (get_or-set_same es at e no_owner h i)))
    ∙ set_twice (map unwritten_owner es) at (unwritten_owner e) (emptied_owner e)
    ∙ ap (λ (s : SerialState). set (map unwritten_owner es) at (record (owner_at es at) { part = s })) same

pub frame_own : (at : ℕ) (a : ArenaState) (t : SerialState) → at < length a.owners → emptied t ≡ emptied (part_at a (Owner at)) → frame_of at (with_part a (Owner at) t) ≡ frame_of at a
unfolding frame_of
frame_own at a t h same = ap (λ (es : Owners). record a { owners = es; adopted = map unwritten a.adopted }) (own_changed a.owners at t h same)

-- a change that a function doesn't show, at any place
under_set : {A B : Type 0} (f : A → B) (l : List A) (k at : ℕ) (y d : A) → k < length l → f y ≡ f (get_or l k d) → f (get_or (set l k y) at d) ≡ f (get_or l at d)
under_set f l k at y d h same = dite (ℕ_discrete at k)
    (λ e. ap (λ n. f (get_or (set l k y) n d)) e ∙ ap f (get_or-set_same l k y d h) ∙ same ∙ ap (λ n. f (get_or l n d)) (sym e))
    (λ other. ap f (get_or-set_other l k at y d other))

pub frame_kept : (at : ℕ) (a : ArenaState) (q : Spot) (t : SerialState) → IsSpot a q → unwritten t ≡ unwritten (part_at a q) → emptied t ≡ emptied (part_at a q) → frame_of at (with_part a q t) ≡ frame_of at a
unfolding frame_of
frame_kept at a (Owner k) t h same less = let e : Entry SerialState = record (owner_at a.owners k) { part = t } in
    (λ i. record a {
      owners = set (map_set_same unwritten_owner a.owners k e no_owner (ap (λ (s : SerialState). record (owner_at a.owners k) { part = s }) same) i) at
          (under_set emptied_owner a.owners k at e no_owner h (ap (λ (s : SerialState). record (owner_at a.owners k) { part = s }) less) i);
      adopted = map unwritten a.adopted;
    })
frame_kept at a (Adopted k) t h same less = ap (λ (ss : List SerialState). record a { owners = set (map unwritten_owner a.owners) at (emptied_owner (owner_at a.owners at)); adopted = ss }) (map_set_same unwritten a.adopted k t no_part same)

pub frame_written : (at : ℕ) (a : ArenaState) (q : Spot) (p : Place) (start : ℕ) (bytes : List ℕ) → IsSpot a q → frame_of at (with_part a q (with_bytes (part_at a q) p start bytes)) ≡ frame_of at a
frame_written at a q p start bytes h = let s = part_at a q in
    frame_kept at a q (with_bytes s p start bytes) h (ap (λ (xs : List Placement). record s { placements = xs }) (unwritten_bytes s.placements (rewritten s.region p start bytes) (λ x. refl))) refl

-- ---- what a frame tells
module _ {A : Type 0} where
  at_other : (l : List A) (k i : ℕ) (b : A) → i ≢ k → get_elem? (set l k b) i ≡ get_elem? l i
  at_other [] k i b other = refl
  at_other (x ∷ xs) zero zero b other = absurd (other refl)
  at_other (x ∷ xs) zero (suc i) b other = refl
  at_other (x ∷ xs) (suc k) zero b other = refl
  at_other (x ∷ xs) (suc k) (suc i) b other = at_other xs k i b (λ e. other (ap suc e))

  map_same : {B C : Type 0} (f : B → C) (g : A → C) (h : A → B) → ((x : A) → f (h x) ≡ g x) → (l : List A) → map f (map h l) ≡ map g l
  map_same f g h same [] = refl
  map_same f g h same (x ∷ xs) = (λ i. same x i ∷ map_same f g h same xs i)

-- who owns which slot is seen in a frame
frame_nodes : (es : Owners) (at : ℕ) → map node_of (set (map unwritten_owner es) at (emptied_owner (owner_at es at))) ≡ map node_of es
frame_nodes es at = in_range_or_not (cases_lt at (length es)) where
  in_range_or_not : (at < length es) ⊎ (length es ≤ at) → map node_of (set (map unwritten_owner es) at (emptied_owner (owner_at es at))) ≡ map node_of es
  in_range_or_not t = map_set_same node_of (map unwritten_owner es) at (emptied_owner (owner_at es at)) no_owner (nodes_at t) ∙ map_same node_of node_of unwritten_owner (λ x. refl) es where
    nodes_at : (at < length es) ⊎ (length es ≤ at) → node_of (emptied_owner (owner_at es at)) ≡ node_of (get_or (map unwritten_owner es) at no_owner)
    nodes_at (inl h) = ap node_of (sym (get_map unwritten_owner es at no_owner no_owner h))
    nodes_at (inr h) = ap node_of (get_or-eq_default es no_owner h) ∙ ap node_of (sym (get_or-eq_default (map unwritten_owner es) no_owner (let l = len_map unwritten_owner es in omega arith)))

module _ (at : ℕ) (a b : ArenaState) (same : frame_of at b ≡ frame_of at a) where
  frames : frame_with at b b.owners ≡ frame_with at a a.owners
  unfolding frame_of
  frames = same

  frame_owner : (k : ℕ) (d e : Entry SerialState) → k ≢ at → get_elem? a.owners k ≡ some d → get_elem? b.owners k ≡ some e → unwritten_owner e ≡ unwritten_owner d
  frame_owner k d e other at_d at_e = some-injective (unwritten_owner e) (unwritten_owner d)
      (sym (at_other (map unwritten_owner b.owners) at k (emptied_owner (owner_at b.owners at)) other ∙ at_map unwritten_owner b.owners k e at_e)
      ∙ ap (λ (x : ArenaState). get_elem? x.owners k) frames
      ∙ at_other (map unwritten_owner a.owners) at k (emptied_owner (owner_at a.owners at)) other ∙ at_map unwritten_owner a.owners k d at_d)

  frame_mine : (d e : Entry SerialState) → get_elem? a.owners at ≡ some d → get_elem? b.owners at ≡ some e → emptied_owner e ≡ emptied_owner d
  frame_mine d e at_d at_e = some-injective (emptied_owner e) (emptied_owner d)
      (ap (λ (x : Entry SerialState). some (emptied_owner x)) (sym (or_at b.owners at e no_owner at_e))
      ∙ sym (at_replaced (map unwritten_owner b.owners) at (unwritten_owner e) (emptied_owner (owner_at b.owners at)) (at_map unwritten_owner b.owners at e at_e))
      ∙ ap (λ (x : ArenaState). get_elem? x.owners at) frames
      ∙ at_replaced (map unwritten_owner a.owners) at (unwritten_owner d) (emptied_owner (owner_at a.owners at)) (at_map unwritten_owner a.owners at d at_d)
      ∙ ap (λ (x : Entry SerialState). some (emptied_owner x)) (or_at a.owners at d no_owner at_d))

  pub frame_tells : KeepsAllElse at a b
  frame_tells = record {
    life_is = ap (λ (x : ArenaState). x.life) frames;
    policy_is = ap (λ (x : ArenaState). x.policy) frames;
    nodes = sym (frame_nodes b.owners at) ∙ ap (λ (x : ArenaState). map node_of x.owners) frames ∙ frame_nodes a.owners at;
    others = λ k d e other at_d at_e. ap (λ (x : Entry SerialState). x.part) (frame_owner k d e other at_d at_e);
    own = λ d e at_d at_e. ap (λ (x : Entry SerialState). x.part) (frame_mine d e at_d at_e);
    adopted = ap (λ (x : ArenaState). x.adopted) frames;
  }
