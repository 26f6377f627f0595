-- One seat steps: what the others know and hold stays as it was.
use Rattle.std.proofs.Common.{◌≡◌, ℕ, ◌<◌, ◌≤◌, ◌≢◌, ◌⊎◌, List, [], ◌∷◌, length, set, sym, refl, ap, subst, ◌∙◌, inl, inr, ⊎_elim, arith, Option}
use Rattle.std.specs.Prelude.{slice_index}
use mathlib.Core.Option as maybe
use mathlib.Core.Option.{some, none, some-injective, some-ne-none}
use mathlib.Core.Logic.{dite}
use native.Mathlib.Decide.{ℕ_discrete}
use lib.ListN.{get_elem?}
use Rattle.atomic_table.specs.Table.{State}
use Rattle.atomic_table.proofs.Lists.{at_set, set_else}
use Rattle.arena_list.specs.declared.entry.Entry.{Entry}
use Rattle.arena_list.specs.declared.for_clauses.founding.Founding.{Founding}
use Rattle.arena_list.specs.declared.for_clauses.view.Node.{Node}
use Rattle.arena_list.specs.declared.for_clauses.view.Hold.{Hold}
use Rattle.arena_list.specs.declared.for_clauses.view.Hold.TheVariants.{Vacant, Filling, Moving, Away, Rests}
use Rattle.arena_list.specs.declared.for_clauses.view.Hand.{Hand}
use Rattle.arena_list.specs.declared.for_clauses.view.View.{View}
use Rattle.arena_list.specs.Words.Nodes.{node, Begins}
use Rattle.arena_list.specs.Words.Core.{Core, Standing, IsListed, CallersDiffer, slot_count}
use Rattle.arena_list.specs.Words.Written.{Show, node_at, value_at, value_count}
use Rattle.arena_list.specs.Rule.Founded.{Meter}
use Rattle.arena_list.specs.Rule.Holds.{Holds, HoldsAt, IsHand, Knows, IsWard, Stands, hand_count}
use Rattle.arena_list.proofs.Words.Lists.{at_only, at_one, at_replaced, total-set, begins_on}

abbrev pub Homes : Type 0 → Type 0
Homes V = List (maybe.Option (Option V))

-- what a step of the hand h leaves of the core, of the words and of the values at home
pub record Moves {V : Type 0} (c : Core) (holder : ℕ → maybe.Option ℕ) (words : List ℕ) (homes : Homes V) (h : Hand V) (c' : Core) (words' : List ℕ) (homes' : Homes V) : Type 0 where
  pub grows : Begins c.joined c'.joined
  pub adds : (i : ℕ) (n : Node) → get_elem? c'.joined i ≡ some n → (get_elem? c.joined i ≡ some n) ⊎ (n ≡ node h.slot h.who)
  pub callers : CallersDiffer c'.joined
  pub standing : (slot : ℕ) → slot ≢ h.slot → c'.standing slot ≡ c.standing slot
  pub used : (c.standing h.slot).used ≤ (c'.standing h.slot).used
  pub nodes : (slot : ℕ) → slot < slot_count → slot ≢ h.slot → slice_index words' (node_at slot) ≡ slice_index words (node_at slot)
  pub homes_same : (place : ℕ) → place ≢ value_at h.slot → get_elem? homes' place ≡ get_elem? homes place
  pub show : Show c' words'
  pub slots : length homes' ≡ value_count

module _ {V : Type 0} (m : Meter V) (life : ℕ) where
  hold_moves : (c c' : Core) (hs hs' : Homes V) (g : Hand V) (x : Hold V) → c'.standing g.slot ≡ c.standing g.slot → get_elem? hs' (value_at g.slot) ≡ get_elem? hs (value_at g.slot) → HoldsAt m life c hs g x → HoldsAt m life c' hs' g x
  hold_moves c c' hs hs' g Vacant s t x = (s ∙ x.0, t ∙ x.1)
  hold_moves c c' hs hs' g Filling s t x = s ∙ x
  hold_moves c c' hs hs' g (Moving used) s t x = (s ∙ x.0, x.1)
  hold_moves c c' hs hs' g (Away used) s t x = (s ∙ x.0, t ∙ x.1, x.2)
  hold_moves c c' hs hs' g (Rests part) s t x = (s ∙ x.0, t ∙ x.1, x.2)

  module _ (c : Core) (holder : ℕ → maybe.Option ℕ) (place : ℕ → maybe.Option (ℕ × ℕ)) (words : List ℕ) (homes : Homes V) (h : Hand V) (c' : Core) (words' : List ℕ) (homes' : Homes V) (step : Moves c holder words homes h c' words' homes') where
    -- another hand's facts stay
    pub hand_moves : (j i : ℕ) (g : Hand V) → g.slot ≢ h.slot → g.who ≢ h.who → IsHand m life c words homes holder place j i g → IsHand m life c' words' homes' holder place j i g
    hand_moves j i g slot who o = record {
      here = o.here;
      slot = o.slot;
      held = o.held;
      linked = λ e. let l = o.linked e in (l.0, step.grows.same l.0 _ l.1);
      spare = λ e i n at. ⊎_elim (λ t. o.spare e i n t) (λ t. λ is. who (sym is ∙ ap (λ (n : Node). n.caller) t)) (step.adds i n at);
      noted = λ p e. step.nodes g.slot o.slot slot ∙ o.noted p e;
      hold = hold_moves c c' homes homes' g g.hold (step.standing g.slot slot) (step.homes_same (value_at g.slot) (λ e. slot (omega arith))) o.hold;
    }

    pub knows_moves : (v : View V) → Knows c v → Knows c' v
    knows_moves v o = record {
      seen = begins_on o.seen step.grows;
      pasts = λ i nodes e. begins_on (o.pasts i nodes e) step.grows;
      room = o.room;
      sizes = λ slot. dite (ℕ_discrete slot h.slot)
          (λ e. let a : slice_index v.sizes h.slot ≤ (c.standing h.slot).used = o.sizes h.slot in let b = step.used in
          subst (λ (s : ℕ). slice_index v.sizes s ≤ (c'.standing s).used) (sym e) (omega arith))
          (λ ne. subst (λ (s : Standing). slice_index v.sizes slot ≤ s.used) (sym (step.standing slot ne)) (o.sizes slot));
    }

    pub ward_moves : (e : Entry V) → e.slot ≢ h.slot → IsWard m life c homes holder place e → IsWard m life c' homes' holder place e
    ward_moves e slot o = record {
      slot = o.slot;
      held = o.held;
      no_seat = o.no_seat;
      standing = step.standing e.slot slot ∙ o.standing;
      fits = o.fits;
      elsewhere = step.homes_same (value_at e.slot) (λ t. slot (omega arith)) ∙ o.elsewhere;
      linked = (o.linked.0, step.grows.same o.linked.0 _ o.linked.1);
    }

-- a list of one hand has that one
only_hand : {V : Type 0} (hs : List (Hand V)) (h g : Hand V) (i : ℕ) → hs ≡ h ∷ [] → get_elem? hs i ≡ some g → (i ≡ 0) × (h ≡ g)
only_hand hs h g i is e = at_only h g i (subst (λ l. get_elem? l i ≡ some g) is e)

has_hand : {V : Type 0} (hs : List (Hand V)) (h : Hand V) → hs ≡ h ∷ [] → get_elem? hs 0 ≡ some h
has_hand hs h is = ap (λ l. get_elem? l 0) is

module _ {V : Type 0} (m : Meter V) (k : Founding V) (s : State (Option V) (View V)) (r : Holds m k s) where
  c : Core
  c = r.core

  -- a slot is one caller's, and a caller stands in one place
  pub slot_tells : (j i j' i' : ℕ) (g h : Hand V) → IsHand m k.life r.core s.words s.homes r.holder r.place j i g → IsHand m k.life r.core s.words s.homes r.holder r.place j' i' h → g.slot ≡ h.slot → g.who ≡ h.who
  slot_tells j i j' i' g h a b e = some-injective _ _ (sym a.held ∙ ap r.holder e ∙ b.held)

  pub who_tells : (j i j' i' : ℕ) (g h : Hand V) → IsHand m k.life r.core s.words s.homes r.holder r.place j i g → IsHand m k.life r.core s.words s.homes r.holder r.place j' i' h → g.who ≡ h.who → (j ≡ j') × (i ≡ i')
  who_tells j i j' i' g h a b e = let p : (j, i) ≡ (j', i') = some-injective _ _ (sym a.here ∙ ap r.place e ∙ b.here) in (ap (λ (z : ℕ × ℕ). z.0) p, ap (λ (z : ℕ × ℕ). z.1) p)

  module _ (id : ℕ) (v w : View V) (h h' : Hand V) (at : get_elem? s.views id ≡ some v) (one : v.hands ≡ h ∷ []) (one' : w.hands ≡ h' ∷ []) where
    -- whoever stood in a view still does
    still : h'.slot ≡ h.slot → h'.who ≡ h.who → (slot who : ℕ) → Stands s.views slot who → Stands (set s.views id w) slot who
    still slots whos slot who x = let j = x.0 in let i = x.1 in let u = x.2 in let g = x.3 in dite (ℕ_discrete j id)
        (λ e. let same : u ≡ v = at_one s.views j u v x.4 (ap (get_elem? s.views) e ∙ at) in
        let only = only_hand v.hands h g i one (ap (λ (u : View V). get_elem? u.hands i) (sym same) ∙ x.5) in
        (id, 0, w, h', at_replaced s.views id v w at, has_hand w.hands h' one', slots ∙ ap (λ (g : Hand V). g.slot) only.1 ∙ x.6, whos ∙ ap (λ (g : Hand V). g.who) only.1 ∙ x.7))
        (λ ne. (j, i, u, g, set_else s.views id j w ne ∙ x.4, x.5, x.6, x.7))

    pub moved : w.base ≡ v.base → h'.slot ≡ h.slot → h'.who ≡ h.who → (c' : Core) (words' : List ℕ) (homes' : Homes V) → Moves r.core r.holder s.words s.homes h c' words' homes'
        → IsHand m k.life c' words' homes' r.holder r.place id 0 h' → Knows c' w → Holds m k record { words = words'; homes = homes'; views = set s.views id w }
    moved bases slots whos c' words' homes' step new knows =
        let own = (r.hands id 0 v h at (has_hand v.hands h one)) in let mine = own.1 in record {
          core = c';
          holder = r.holder;
          place = r.place;
          show = step.show;
          slots = step.slots;
          listed = λ i n e. ⊎_elim (λ t. r.listed i n t) (λ t. subst (λ (n : Node). IsListed r.holder n) (sym t) record { slot = mine.slot; held = mine.held }) (step.adds i n e);
          callers = step.callers;
          started = begins_on r.started step.grows;
          hands = λ j i u g in_views in_hands. ⊎_elim
              (λ t. let here : get_elem? w.hands i ≡ some g = ap (λ (u : View V). get_elem? u.hands i) t.1 ∙ in_hands in let only = only_hand w.hands h' g i one' here in
              let places : (id, 0, h') ≡ (j, i, g) = (λ x. (sym t.0 x, sym only.0 x, only.1 x)) in
              (ap (λ (u : View V). u.base) (sym t.1) ∙ bases ∙ own.0, subst (λ (z : ℕ × ℕ × Hand V). IsHand m k.life c' words' homes' r.holder r.place z.0 z.1 z.2) places new))
              (λ t. let old = r.hands j i u g t.1 in_hands in
              let other : g.who ≢ h.who = λ e. t.0 ((who_tells j i id 0 g h old.1 mine e).0) in
              let apart : g.slot ≢ h.slot = λ e. other (slot_tells j i id 0 g h old.1 mine e) in
              (old.0, hand_moves m k.life r.core r.holder r.place s.words s.homes h c' words' homes' step j i g apart other old.1))
              (at_set s.views id j w u in_views);
          known = λ j u in_views. ⊎_elim
              (λ t. subst (λ (u : View V). Knows c' u) t.1 knows)
              (λ t. knows_moves m k.life r.core r.holder r.place s.words s.homes h c' words' homes' step u (r.known j u t.1))
              (at_set s.views id j w u in_views);
          wards = λ i e there. let old = r.wards i e there in
              let apart : e.slot ≢ h.slot = λ same. let who : e.caller ≡ h.who = some-injective _ _ (sym old.held ∙ ap r.holder same ∙ mine.held) in
              some-ne-none _ (sym mine.here ∙ ap r.place (sym who) ∙ old.no_seat) in
              ward_moves m k.life r.core r.holder r.place s.words s.homes h c' words' homes' step e apart old;
          traced = λ slot who e. ⊎_elim (λ t. inl (still slots whos slot who t)) (λ t. inr t) (r.traced slot who e);
          idle = λ place small free. step.homes_same place (λ same. some-ne-none _ (sym mine.held ∙ free h.slot same)) ∙ r.idle place small free;
          stand = λ i who e. let x = r.stand i who e in (x.0, still slots whos x.0 who x.1);
          counted = let t = total-set hand_count s.views id v w at in let a : length v.hands ≡ 1 = ap length one in let b : length w.hands ≡ 1 = ap length one' in let e = r.counted in omega arith;
        }

    pub moved_core : (bases : w.base ≡ v.base) (slots : h'.slot ≡ h.slot) (whos : h'.who ≡ h.who) (c' : Core) (words' : List ℕ) (homes' : Homes V) (step : Moves r.core r.holder s.words s.homes h c' words' homes')
        (new : IsHand m k.life c' words' homes' r.holder r.place id 0 h') (knows : Knows c' w) → (moved bases slots whos c' words' homes' step new knows).core ≡ c'
    unfolding moved
    moved_core bases slots whos c' words' homes' step new knows = refl
