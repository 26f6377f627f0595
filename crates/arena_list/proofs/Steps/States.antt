-- The steps on the state of a slot keep the rule: a value is taken, given or claimed, and a used sum is read.
use Rattle.std.proofs.Common.{◌≡◌, ℕ, ◌+◌, ◌*◌, ◌/◌, ◌<◌, ◌≤◌, ◌≢◌, Bool, true, false, eqb, List, [], ◌∷◌, length, get_or, set, sym, refl, ap, subst, cond, ◌∙◌, inl, arith, Option, Some, None, length-set, eq-eqb, ne_eqb}
use Rattle.std.specs.Prelude.{slice_index}
use Rattle.std.proofs.lemmas.List.{set-get_or, get_or-set_same, get_or-set_other}
use mathlib.Core.Option as maybe
use mathlib.Core.Option.{some, none}
use mathlib.Core.Logic.{dite}
use native.Mathlib.Decide.{ℕ_discrete}
use lib.ListN.{get_elem?}
use Rattle.atomic_table.specs.Table.{State, step, keeps, takes, gives, stepped, Allows}
use Rattle.atomic_table.specs.Table.{rest as rest_of_slots}
use Rattle.atomic_table.proofs.Lists.{set_else, set_here}
use Rattle.arena_list.specs.declared.for_clauses.founding.Founding.{Founding}
use Rattle.arena_list.specs.declared.for_clauses.view.Node.{Node}
use Rattle.arena_list.specs.declared.for_clauses.view.Hold.{Hold}
use Rattle.arena_list.specs.declared.for_clauses.view.Hold.TheVariants.{Vacant, Filling, Moving, Away, Rests}
use Rattle.arena_list.specs.declared.for_clauses.view.Hand.{Hand}
use Rattle.arena_list.specs.declared.for_clauses.view.View.{View}
use Rattle.arena_list.specs.Words.Nodes.{Begins}
use Rattle.arena_list.specs.Words.Core.{Core, Standing, core, rests, away, slot_count}
use Rattle.arena_list.specs.Words.Written.{Show, node_at, state_at, state_word, bit, value_at, value_count}
use Rattle.arena_list.specs.Rule.Views.{hand}
use Rattle.arena_list.specs.Rule.Founded.{Meter, Fits}
use Rattle.arena_list.specs.Rule.Holds.{Holds, HoldsAt, IsHand, Knows}
use Rattle.arena_list.specs.Steps.After.{held, settled, sized, used_now, with_seat, IsOut}
use Rattle.arena_list.specs.Steps.Tales.{Sat, took, emptied, claimed, gave, saw_size}
use Rattle.arena_list.specs.Steps.Events.{Event, take, give, Makes, OthersStand}
use Rattle.arena_list.specs.Steps.Moments.{Moment, SeenTake, SeenGive, SeenSize}
use Rattle.arena_list.proofs.Words.Lists.{begins_itself}
use Rattle.arena_list.proofs.Rule.Moved.{Homes, Moves, moved, moved_core}
use Rattle.arena_list.proofs.Steps.Keeps.{hands_are, own_hand, seen_size, reviewed, loaded}

-- a function with another value at one number
upd : {A : Type 0} → (ℕ → A) → ℕ → A → ℕ → A
upd f k a j = cond (eqb j k) a (f j)

upd_here : {A : Type 0} (f : ℕ → A) (k j : ℕ) (a : A) → j ≡ k → upd f k a j ≡ a
unfolding upd
upd_here f k j a e = ap (λ (b : Bool). cond b a (f j)) (eq-eqb j k e)

upd_else : {A : Type 0} (f : ℕ → A) (k j : ℕ) (a : A) → j ≢ k → upd f k a j ≡ f j
unfolding upd
upd_else f k j a ne = ap (λ (b : Bool). cond b a (f j)) (ne_eqb j k ne)

rests_one : {V : Type 0} (x y : V) → (◌≡◌ {A = Hold V} (Rests x) (Rests y)) → x ≡ y
rests_one x y e = cc

moving_one : {V : Type 0} (x y : ℕ) → (◌≡◌ {A = Hold V} (Moving x) (Moving y)) → x ≡ y
moving_one x y e = cc

module _ {V : Type 0} where
  -- the slot is with the seat
  abbrev pub IsWithSeat : Hold V → Type 0
  IsWithSeat Vacant = ⊥
  IsWithSeat Filling = Unit {0}
  IsWithSeat (Moving used) = Unit {0}
  IsWithSeat (Away used) = ⊥
  IsWithSeat (Rests part) = ⊥

module _ {V : Type 0} (m : Meter V) (k : Founding V) where
  abbrev St : Type 0
  St = State (Option V) (View V)

  module _ (s : St) (r : Holds m k s) (id : ℕ) (v : View V) (at : get_elem? s.views id ≡ some v) (alone : length v.hands ≡ 1) where
    abbrev h : Hand V
    h = hand v

    own : IsHand m k.life r.core s.words s.homes r.holder r.place id 0 h
    own = (own_hand m k s r id v at alone).1

    wide : state_at h.slot < length s.words
    wide = let a = r.show.wide in let b = own.slot in omega arith

    -- the core after a step on the state of the own slot
    after : Standing → Core
    after x = core r.core.joined (upd r.core.standing h.slot x)

    state_shows : (x : Standing) (new : ℕ) → new ≡ state_word x → Show (after x) (set s.words (state_at h.slot) new)
    unfolding after
    state_shows x new is = record {
      wide = length-set s.words (state_at h.slot) new ∙ r.show.wide;
      head = get_or-set_other s.words (state_at h.slot) 0 new 0 (λ t. omega arith) ∙ r.show.head;
      nodes = λ i n e. let small = (r.listed i n e).slot in get_or-set_other s.words (state_at h.slot) (node_at n.slot) new 0 (λ t. omega arith) ∙ r.show.nodes i n e;
      states = λ slot low. dite (ℕ_discrete slot h.slot)
          (λ e. ap (λ (z : ℕ). get_or (set s.words (state_at h.slot) new) (state_at z) 0) e ∙ get_or-set_same s.words (state_at h.slot) new 0 wide ∙ is ∙ ap state_word (sym (upd_here r.core.standing h.slot slot x e)))
          (λ ne. get_or-set_other s.words (state_at h.slot) (state_at slot) new 0 (λ t. ne (omega arith)) ∙ r.show.states slot low ∙ ap state_word (sym (upd_else r.core.standing h.slot slot x ne)));
    }

    restated : (x : Standing) (new : ℕ) (hs : Homes V) → new ≡ state_word x → (r.core.standing h.slot).used ≤ x.used → length hs ≡ value_count → ((place : ℕ) → place ≢ value_at h.slot → get_elem? hs place ≡ get_elem? s.homes place)
        → Moves r.core r.holder s.words s.homes h (after x) (set s.words (state_at h.slot) new) hs
    unfolding after
    restated x new hs is more slots same = record {
      grows = begins_itself r.core.joined;
      adds = λ i n e. inl e;
      callers = r.callers;
      standing = λ slot ne. upd_else r.core.standing h.slot slot x ne;
      used = subst (λ (y : Standing). (r.core.standing h.slot).used ≤ y.used) (sym (upd_here r.core.standing h.slot h.slot x refl)) more;
      nodes = λ slot low ne. get_or-set_other s.words (state_at h.slot) (node_at slot) new 0 (λ t. omega arith);
      homes_same = same;
      show = state_shows x new is;
      slots = slots;
    }

    standing_after : (x : Standing) → (after x).standing h.slot ≡ x
    unfolding after
    standing_after x = upd_here r.core.standing h.slot h.slot x refl

    joined_after : (x : Standing) → (after x).joined ≡ r.core.joined
    unfolding after
    joined_after x = refl

    -- the own hand with another hold, under the core after the step
    rehold : (x : Standing) (new : ℕ) (hs : Homes V) (hold : Hold V) → HoldsAt m k.life (after x) hs (record h { hold = hold }) hold
        → IsHand m k.life (after x) (set s.words (state_at h.slot) new) hs r.holder r.place id 0 (record h { hold = hold })
    unfolding after
    rehold x new hs hold is = record {
      here = own.here;
      slot = own.slot;
      held = own.held;
      linked = own.linked;
      spare = own.spare;
      noted = λ p e. let small = own.slot in get_or-set_other s.words (state_at h.slot) (node_at h.slot) new 0 (λ t. omega arith) ∙ own.noted p e;
      hold = is;
    }

    -- what the seat saw stays at most what is shown
    knows_after : (x : Standing) (w : View V) → (r.core.standing h.slot).used ≤ x.used → w.seen ≡ v.seen → w.pasts ≡ v.pasts → length w.sizes ≡ slot_count → ((slot : ℕ) → slot ≢ h.slot → slice_index w.sizes slot ≡ slice_index v.sizes slot) → slice_index w.sizes h.slot ≤ x.used → Knows (after x) w
    unfolding after
    knows_after x w more seen pasts room others here = let knows = r.known id v at in record {
      seen = subst (λ (l : List Node). Begins l r.core.joined) (sym seen) knows.seen;
      pasts = λ i nodes e. knows.pasts i nodes (ap (λ (l : List (List Node)). get_elem? l i) (sym pasts) ∙ e);
      room = room;
      sizes = λ slot. dite (ℕ_discrete slot h.slot)
          (λ e. subst (λ (y : Standing). slice_index w.sizes slot ≤ y.used) (sym (upd_here r.core.standing h.slot slot x e)) (subst (λ (z : ℕ). slice_index w.sizes z ≤ x.used) (sym e) here))
          (λ ne. subst (λ (y : Standing). slice_index w.sizes slot ≤ y.used) (sym (upd_else r.core.standing h.slot slot x ne)) (let a = knows.sizes slot in let b = others slot ne in omega arith));
    }

    -- the used sum that the own slot shows
    shows_used : (hold : Hold V) → HoldsAt m k.life r.core s.homes h hold → (r.core.standing h.slot).used ≡ used_now m hold
    shows_used Vacant x = ap (λ (y : Standing). y.used) x.0
    shows_used Filling x = ap (λ (y : Standing). y.used) x
    shows_used (Moving used) x = ap (λ (y : Standing). y.used) x.0
    shows_used (Away used) x = ap (λ (y : Standing). y.used) x.0
    shows_used (Rests part) x = ap (λ (y : Standing). y.used) x.0

    -- the rule after a step on the state of the own slot
    stood : (x : Standing) (new : ℕ) (hs : Homes V) (hold : Hold V) (w : View V) → w.hands ≡ record h { hold = hold } ∷ [] → w.base ≡ v.base
        → Moves r.core r.holder s.words s.homes h (after x) (set s.words (state_at h.slot) new) hs → IsHand m k.life (after x) (set s.words (state_at h.slot) new) hs r.holder r.place id 0 (record h { hold = hold }) → Knows (after x) w
        → Holds m k record { words = set s.words (state_at h.slot) new; homes = hs; views = set s.views id w }
    stood x new hs hold w one bases moves hand_is knows = moved m k s r id v w h (record h { hold = hold }) at (hands_are v.hands alone) one bases refl refl (after x) (set s.words (state_at h.slot) new) hs moves hand_is knows

    stood_core : (x : Standing) (new : ℕ) (hs : Homes V) (hold : Hold V) (w : View V) (one : w.hands ≡ record h { hold = hold } ∷ []) (bases : w.base ≡ v.base)
        (moves : Moves r.core r.holder s.words s.homes h (after x) (set s.words (state_at h.slot) new) hs) (hand_is : IsHand m k.life (after x) (set s.words (state_at h.slot) new) hs r.holder r.place id 0 (record h { hold = hold })) (knows : Knows (after x) w)
        → (stood x new hs hold w one bases moves hand_is knows).core ≡ after x
    unfolding stood
    stood_core x new hs hold w one bases moves hand_is knows = moved_core m k s r id v w h (record h { hold = hold }) at (hands_are v.hands alone) one bases refl refl (after x) (set s.words (state_at h.slot) new) hs moves hand_is knows

    -- its moment
    standing_moment : (e : Event) (x : Standing) (new : ℕ) (hs : Homes V) (hold : Hold V) (w : View V) → w.hands ≡ record h { hold = hold } ∷ [] → w.base ≡ v.base
        → Moves r.core r.holder s.words s.homes h (after x) (set s.words (state_at h.slot) new) hs → IsHand m k.life (after x) (set s.words (state_at h.slot) new) hs r.holder r.place id 0 (record h { hold = hold }) → Knows (after x) w
        → Makes e r.core (after x) → Moment m k e v w
    standing_moment e x new hs hold w one bases moves hand_is knows makes = record {
      before = s;
      after = record { words = set s.words (state_at h.slot) new; homes = hs; views = set s.views id w };
      id = id;
      rule = r;
      rule_after = stood x new hs hold w one bases moves hand_is knows;
      stands = at;
      alone = refl;
      makes = subst (λ (c : Core). Makes e r.core c) (sym (stood_core x new hs hold w one bases moves hand_is knows)) makes;
    }

    others_after : (x : Standing) → OthersStand h.slot r.core (after x)
    unfolding after
    others_after x other ne = upd_else r.core.standing h.slot other x ne

    makes_take : (used : ℕ) → r.core.standing h.slot ≡ rests used → Makes (take h.slot) r.core (after (away used))
    makes_take used is = (joined_after (away used), others_after (away used), ap (λ (y : Standing). y.home) is, standing_after (away used) ∙ ap away (ap (λ (y : Standing). y.used) (sym is)))

    makes_give : (was used : ℕ) → r.core.standing h.slot ≡ away was → was ≤ used → Makes (give h.slot used) r.core (after (rests used))
    makes_give was used is more = (joined_after (rests used), others_after (rests used), ap (λ (y : Standing). y.home) is, (let e = ap (λ (y : Standing). y.used) is in omega arith), standing_after (rests used))

  away_now : (c : Core) (hs : Homes V) (h : Hand V) (x : Hold V) → IsWithSeat x → HoldsAt m k.life c hs h x → c.standing h.slot ≡ away (used_now m x)
  away_now c hs h Vacant w x = absurd w
  away_now c hs h Filling w x = x
  away_now c hs h (Moving used) w x = x.0
  away_now c hs h (Away used) w x = absurd w
  away_now c hs h (Rests part) w x = absurd w

  pub takes_slot : (slots id new : ℕ) (me : Sat V) (part : V) → length me.0.hands ≡ 1 → (hand me.0).linked ≡ true → (hand me.0).hold ≡ Rests part → new ≡ 2 * m.used part
      → Allows (Holds m k) slots id me (state_at (hand me.0).slot) (λ _. new) (took m (step slots (state_at (hand me.0).slot) new 0 none) me)
  unfolding standing_moment
  takes_slot slots id new me part alone linked rests_there is s r _ at _ = let v = me.0 in let h = hand v in let o = own s r id v at alone in let hold = subst (λ (x : Hold V). HoldsAt m k.life r.core s.homes h x) rests_there o.hold in
      let x = away (m.used part) in let out : Hold V = Moving (m.used part) in let w = held v out in let hs = set s.homes (value_at h.slot) none in let knows = r.known id v at in
      let more : (r.core.standing h.slot).used ≤ m.used part = (let e = ap (λ (y : Standing). y.used) hold.0 in omega arith) in
      let moves = restated s r id v at alone x new hs (is ∙ (let z : 2 * m.used part ≡ 2 * m.used part + 0 = omega arith in z)) more (length-set s.homes (value_at h.slot) none ∙ r.slots) (λ place ne. set_else s.homes (value_at h.slot) place none ne) in
      let hand_is = rehold s r id v at alone x new hs out (standing_after s r id v at alone x, linked) in
      let knows_it = knows_after s r id v at alone x w more refl refl knows.room (λ slot ne. refl) (let a = knows.sizes h.slot in omega arith) in
      let seen : SeenTake m v.base v (m.used part) = subst (λ (z : Founding V). SeenTake m z v (m.used part)) (sym (own_hand m k s r id v at alone).0)
      record { moment = standing_moment s r id v at alone (take h.slot) x new hs out w refl refl moves hand_is knows_it (makes_take s r id v at alone (m.used part) hold.0); used_is = ap (λ (y : Standing). y.used) hold.0 } in (
        w,
        takes (value_at h.slot) (Some part),
        hold.1,
        stood s r id v at alone x new hs out w refl refl moves hand_is knows_it,
        λ other there. let same : part ≡ other = rests_one part other (sym rests_there ∙ there) in (ap (λ (p : V). (held v (Moving (m.used p)), (value_at h.slot, Some p) ∷ me.1)) same, subst (λ (p : V). SeenTake m v.base v (m.used p)) same seen),
      )

  -- an empty slot at home
  empty_at : (c : Core) (hs : Homes V) (h : Hand V) (x : Hold V) → IsOut x → HoldsAt m k.life c hs h x → (c.standing h.slot ≡ away (used_now m x)) × (get_elem? hs (value_at h.slot) ≡ some (some None))
  empty_at c hs h Vacant out x = x
  empty_at c hs h Filling out x = absurd out
  empty_at c hs h (Moving used) out x = absurd out
  empty_at c hs h (Away used) out x = (x.0, x.1)
  empty_at c hs h (Rests part) out x = absurd out

  -- which goes with the seat
  with_seat_at : (c : Core) (hs hs' : Homes V) (h : Hand V) (x y : Hold V) → IsOut x → HoldsAt m k.life c hs h x → HoldsAt m k.life c hs' (record h { hold = y }) (with_seat x)
  with_seat_at c hs hs' h Vacant y out x = x.0
  with_seat_at c hs hs' h Filling y out x = absurd out
  with_seat_at c hs hs' h (Moving used) y out x = absurd out
  with_seat_at c hs hs' h (Away used) y out x = (x.0, x.2)
  with_seat_at c hs hs' h (Rests part) y out x = absurd out

  -- a step that changes no word, and the own slot alone
  module _ (s : St) (r : Holds m k s) (id : ℕ) (v : View V) (at : get_elem? s.views id ≡ some v) (alone : length v.hands ≡ 1) where
    reheld : (x : Hold V) (h' : maybe.Option (Option V)) → HoldsAt m k.life r.core (set s.homes (value_at (hand v).slot) h') (record (hand v) { hold = x }) x
        → Holds m k record { words = set s.words (state_at (hand v).slot) (get_or s.words (state_at (hand v).slot) 0); homes = set s.homes (value_at (hand v).slot) h'; views = set s.views id (held v x) }
    reheld x h' is = let h = hand v in let o = own s r id v at alone in let w = held v x in let hs = set s.homes (value_at h.slot) h' in let knows = r.known id v at in
        subst (λ (ws : List ℕ). Holds m k record { words = ws; homes = hs; views = set s.views id w }) (sym (set-get_or s.words (state_at h.slot) 0))
        (moved m k s r id v w h (record h { hold = x }) at (hands_are v.hands alone) refl refl refl refl r.core s.words hs
        record {
          grows = begins_itself r.core.joined;
          adds = λ i n e. inl e;
          callers = r.callers;
          standing = λ slot ne. refl;
          used = omega arith;
          nodes = λ slot small ne. refl;
          homes_same = λ place ne. set_else s.homes (value_at h.slot) place h' ne;
          show = r.show;
          slots = length-set s.homes (value_at h.slot) h' ∙ r.slots;
        }
        record { here = o.here; slot = o.slot; held = o.held; linked = o.linked; spare = o.spare; noted = o.noted; hold = is }
        record { seen = knows.seen; room = knows.room; pasts = knows.pasts; sizes = knows.sizes })

  pub claims : (slots id : ℕ) (me : Sat V) → length me.0.hands ≡ 1 → IsOut (hand me.0).hold
      → Allows (Holds m k) slots id me (state_at (hand me.0).slot) (λ n. n) (claimed m (step slots (state_at (hand me.0).slot) 0 0 none) me)
  claims slots id me alone out s r _ at _ = let v = me.0 in let h = hand v in let o = own s r id v at alone in let hold = empty_at r.core s.homes h h.hold out o.hold in (
    held v (with_seat h.hold),
    takes (value_at h.slot) None,
    hold.1,
    reheld s r id v at alone (with_seat h.hold) none (with_seat_at r.core s.homes (set s.homes (value_at h.slot) none) h h.hold (with_seat h.hold) out o.hold),
    refl,
  )

  pub empties : (slots id used : ℕ) (me : Sat V) (out : List (ℕ × Option V)) → length me.0.hands ≡ 1 → (hand me.0).linked ≡ true → (hand me.0).hold ≡ Moving used → me.1 ≡ (value_at (hand me.0).slot, None) ∷ out
      → Allows (Holds m k) slots id me (state_at (hand me.0).slot) (λ n. n) (emptied (step slots (state_at (hand me.0).slot) 0 0 none) me)
  empties slots id used me out alone linked filling has s r _ at _ = let v = me.0 in let h = hand v in let o = own s r id v at alone in let hold = subst (λ (x : Hold V). HoldsAt m k.life r.core s.homes h x) filling o.hold in
      let within : value_at h.slot < length s.homes = (let a = r.slots in let b = o.slot in omega arith) in (
        held v (Away used),
        gives,
        tt,
        subst (λ (c : List (ℕ × Option V)). Holds m k (stepped s (state_at h.slot) (get_or s.words (state_at h.slot) 0) id c (held v (Away used)) gives)) (sym has)
            (reheld s r id v at alone (Away used) (some None) (hold.0, set_here s.homes (value_at h.slot) (some None) within, linked)),
        λ other rest is there. let same : ((value_at h.slot, None) ∷ out) ≡ ((value_at h.slot, None) ∷ rest) = sym has ∙ there in let q : out ≡ rest = cc in let p : used ≡ other = moving_one used other (sym filling ∙ is) in
            subst (λ (c : List (ℕ × Option V)). ◌≡◌ {A = Sat V} (held v (Away used), rest_of_slots c) (held v (Away other), rest)) (sym has) (λ i. (held v (Away (p i)), q i)),
      )

  pub gives_slot : (slots id new : ℕ) (me : Sat V) (part : V) (out : List (ℕ × Option V)) → length me.0.hands ≡ 1 → me.1 ≡ (value_at (hand me.0).slot, Some part) ∷ out → IsWithSeat (hand me.0).hold → used_now m (hand me.0).hold ≤ m.used part
      → Fits m k.life (hand me.0).who part → new ≡ 2 * m.used part + 1
      → Allows (Holds m k) slots id me (state_at (hand me.0).slot) (λ _. new) (λ _. gave m (step slots (state_at (hand me.0).slot) new 0 none) me new)
  gives_slot slots id new me part out alone has with more fits is s r _ at _ = let v = me.0 in let h = hand v in let o = own s r id v at alone in
      let x = rests (m.used part) in let w = settled m v part in let hs = set s.homes (value_at h.slot) (some (Some part)) in let knows = r.known id v at in
      let was = away_now r.core s.homes h h.hold with o.hold in let grown : (r.core.standing h.slot).used ≤ m.used part = (let e = ap (λ (y : Standing). y.used) was in omega arith) in
      let within : value_at h.slot < length s.homes = (let a = r.slots in let b = o.slot in omega arith) in
      let room : h.slot < length v.sizes = (let a = knows.room in let b = o.slot in omega arith) in
      let moves = restated s r id v at alone x new hs is grown (length-set s.homes (value_at h.slot) (some (Some part)) ∙ r.slots) (λ place ne. set_else s.homes (value_at h.slot) place (some (Some part)) ne) in
      let hand_is = rehold s r id v at alone x new hs (Rests part) (standing_after s r id v at alone x, set_here s.homes (value_at h.slot) (some (Some part)) within, fits) in
      let knows_it = knows_after s r id v at alone x w grown refl refl (length-set v.sizes h.slot (m.used part) ∙ knows.room) (λ slot ne. get_or-set_other v.sizes h.slot slot (m.used part) 0 ne) (let e = get_or-set_same v.sizes h.slot (m.used part) 0 room in omega arith) in
      let seen : SeenGive m v.base v part = subst (λ (z : Founding V). SeenGive m z v part) (sym (own_hand m k s r id v at alone).0)
      record { moment = standing_moment s r id v at alone (give h.slot (m.used part)) x new hs (Rests part) w refl refl moves hand_is knows_it (makes_give s r id v at alone (used_now m h.hold) (m.used part) was more) } in (
        w,
        gives,
        tt,
        subst (λ (c : List (ℕ × Option V)). Holds m k (stepped s (state_at h.slot) new id c w gives)) (sym has) (stood s r id v at alone x new hs (Rests part) w refl refl moves hand_is knows_it),
        λ other rest there. let same : ((value_at h.slot, Some part) ∷ out) ≡ ((value_at h.slot, Some other) ∷ rest) = sym has ∙ there in let heads : ◌≡◌ {A = ℕ × Option V} (value_at h.slot, Some part) (value_at h.slot, Some other) = cc in let inner : Some part ≡ Some other = ap (λ (z : ℕ × Option V). z.1) heads in let p : part ≡ other = cc in let q : out ≡ rest = cc in (
          subst (λ (c : List (ℕ × Option V)). ◌≡◌ {A = Sat V} (w, rest_of_slots c) (settled m v other, rest)) (sym has) (λ i. (settled m v (p i), q i)),
          let seen = knows.sizes h.slot in let e = ap m.used p in omega arith,
          subst (λ (z : V). SeenGive m v.base v z) p seen,
        ),
      )

  pub sizes_up : (slots id slot : ℕ) (me : Sat V) → length me.0.hands ≡ 1 → slot < slot_count
      → Allows (Holds m k) slots id me (state_at slot) (λ n. n) (saw_size m (step slots (state_at slot) 0 0 none) me)
  sizes_up slots id slot me alone low s r _ at _ = let v = me.0 in let h = hand v in let o = own s r id v at alone in let word : ℕ = get_or s.words (state_at slot) 0 in
      let w = sized v slot (word / 2) in let knows = r.known id v at in let state = r.show.states slot low in let found : word / 2 ≡ (r.core.standing slot).used = half word (r.core.standing slot) state in
      let room : slot < length v.sizes = (let a = knows.room in omega arith) in
      let sized_knows : Knows r.core w = record {
        seen = knows.seen;
        pasts = knows.pasts;
        room = length-set v.sizes slot (word / 2) ∙ knows.room;
        sizes = λ j. dite (ℕ_discrete j slot)
            (λ e. subst (λ (z : ℕ). slice_index (set v.sizes slot (word / 2)) z ≤ (r.core.standing z).used) (sym e) (let t = get_or-set_same v.sizes slot (word / 2) 0 room in omega arith))
            (λ ne. let t = get_or-set_other v.sizes slot j (word / 2) 0 ne in let a = knows.sizes j in omega arith);
      } in (
        w,
        keeps,
        tt,
        loaded m k s (state_at slot) id w (reviewed m k s r id v at alone w refl refl sized_knows),
        λ other is. let same : slot ≡ other = omega arith in (
          ap (λ (z : ℕ). (sized v z (word / 2), me.1)) same,
          (let a = knows.sizes slot in subst (λ (z : ℕ). slice_index v.sizes z ≤ word / 2) same (omega arith)),
          subst (λ (z : ℕ). slice_index (set v.sizes z (word / 2)) z ≡ word / 2) same (get_or-set_same v.sizes slot (word / 2) 0 room),
          λ mine. found ∙ ap (λ (z : ℕ). (r.core.standing z).used) (same ∙ mine) ∙ shows_used s r id v at alone h.hold o.hold,
          subst (λ (z : ℕ). SeenSize m v.base v z (word / 2)) same (seen_size m k s r id v at alone slot (word / 2) found sized_knows),
        ),
      ) where
        half : (n : ℕ) (x : Standing) → n ≡ state_word x → n / 2 ≡ x.used
        half n x e = half_of n x.used x.home e where
          half_of : (n u : ℕ) (b : Bool) → n ≡ 2 * u + bit b → n / 2 ≡ u
          half_of n u true e = omega arith
          half_of n u false e = omega arith
