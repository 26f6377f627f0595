-- Each kind of step keeps the rule, and tells its seat what it should.
use Rattle.std.proofs.Common.{◌≡◌, ℕ, ◌<◌, ◌≢◌, true, false, List, [], ◌∷◌, length, get_or, set, sym, refl, ap, subst, ◌∙◌, inl, arith, Option, Some, length-set}
use Rattle.std.proofs.lemmas.List.{set-get_or, get_or-set_same, get_or-set_other}
use mathlib.Core.Option.{some, none, some-injective}
use lib.ListN.{get_elem?}
use Rattle.atomic_table.specs.Table.{State, step, keeps, Allows}
use Rattle.arena_list.specs.declared.for_clauses.founding.Founding.{Founding}
use Rattle.arena_list.specs.declared.for_clauses.view.Node.{Node}
use Rattle.arena_list.specs.declared.for_clauses.view.Hold.{Hold}
use Rattle.arena_list.specs.declared.for_clauses.view.Hold.TheVariants.{Vacant, Filling, Moving, Away, Rests}
use Rattle.arena_list.specs.declared.for_clauses.view.Hand.{Hand}
use Rattle.arena_list.specs.declared.for_clauses.view.View.{View}
use Rattle.arena_list.specs.Words.Nodes.{node_word}
use Rattle.arena_list.specs.Words.Core.{Core, slot_count}
use Rattle.arena_list.specs.Words.Written.{node_at, state_at, value_at}
use Rattle.arena_list.specs.Rule.Views.{hand, first_hand}
use Rattle.arena_list.specs.Rule.Founded.{Meter, Fits}
use Rattle.arena_list.specs.Rule.Holds.{Holds, HoldsAt, IsHand, Knows}
use Rattle.arena_list.specs.Steps.Events.{Event, look, size, Makes, StandAsBefore}
use Rattle.arena_list.specs.Steps.Moments.{Moment, SeenList, SeenSize}
use Rattle.arena_list.specs.Steps.After.{counted, looked, noted, next_link, sized}
use Rattle.arena_list.specs.Steps.Tales.{Sat, Sees, saw_head, saw_node, stored_node}
use Rattle.arena_list.proofs.Words.Lists.{at_below, begins_itself}
use Rattle.arena_list.proofs.Words.Few.{few_nodes, fewer_nodes}
use Rattle.arena_list.proofs.Words.Links.{before_begins}
use Rattle.arena_list.proofs.Rule.Moved.{Homes, Moves, moved, moved_core}

pub hands_are : {V : Type 0} (hs : List (Hand V)) → length hs ≡ 1 → hs ≡ first_hand hs ∷ []
hands_are [] e = absurd (omega arith)
hands_are (h ∷ []) e = refl
hands_are (h ∷ g ∷ hs) e = absurd (omega arith)

module _ {V : Type 0} (m : Meter V) (k : Founding V) where
  abbrev St : Type 0
  St = State (Option V) (View V)

  -- ---- what the stepping seat knows at that moment
  module _ (s : St) (r : Holds m k s) (id : ℕ) (v : View V) (at : get_elem? s.views id ≡ some v) (alone : length v.hands ≡ 1) where
    pub own_hand : (v.base ≡ k) × IsHand m k.life r.core s.words s.homes r.holder r.place id 0 (hand v)
    own_hand = r.hands id 0 v (hand v) at (ap (λ l. get_elem? l 0) (hands_are v.hands alone))

    pub stays : Moves r.core r.holder s.words s.homes (hand v) r.core s.words s.homes
    stays = record {
      grows = begins_itself r.core.joined;
      adds = λ i n e. inl e;
      callers = r.callers;
      standing = λ slot ne. refl;
      used = omega arith;
      nodes = λ slot small ne. refl;
      homes_same = λ slot ne. refl;
      show = r.show;
      slots = r.slots;
    }

    pub sees : Sees (hand v) r.core.joined
    sees = let own = own_hand.1 in record {
      linked = own.linked;
      spare = own.spare;
      callers = r.callers;
      slots = λ i j n o a b same. r.callers i j n o a b (some-injective _ _ (sym (r.listed i n a).held ∙ ap r.holder same ∙ (r.listed j o b).held));
      small = λ i n e. (r.listed i n e).slot;
      few = few_nodes r.holder r.core.joined r.listed r.callers;
      fewer = λ e. fewer_nodes r.holder r.core.joined (hand v).slot (hand v).who r.listed record { slot = own.slot; held = own.held } r.callers (own.spare e);
    }

    -- a step that changes no word leaves the rule, with another view of the same hand
    pub reviewed : (w : View V) → w.hands ≡ v.hands → w.base ≡ v.base → Knows r.core w → Holds m k record { words = s.words; homes = s.homes; views = set s.views id w }
    reviewed w hands bases knows = let one = hands_are v.hands alone in
        moved m k s r id v w (hand v) (hand v) at one (hands ∙ one) bases refl refl r.core s.words s.homes stays own_hand.1 knows

    reviewed_core : (w : View V) (hands : w.hands ≡ v.hands) (bases : w.base ≡ v.base) (knows : Knows r.core w) → (reviewed w hands bases knows).core ≡ r.core
    unfolding reviewed
    reviewed_core w hands bases knows = let one = hands_are v.hands alone in moved_core m k s r id v w (hand v) (hand v) at one (hands ∙ one) bases refl refl r.core s.words s.homes stays own_hand.1 knows

    -- the moment of a step that leaves the core
    looking : (e : Event) (w : View V) (hands : w.hands ≡ v.hands) (bases : w.base ≡ v.base) (knows : Knows r.core w) → ((d : Core) → (d.joined ≡ r.core.joined) × StandAsBefore r.core d → Makes e r.core d) → Moment m k e v w
    looking e w hands bases knows made = let same = reviewed_core w hands bases knows in record {
      before = s;
      after = record { words = s.words; homes = s.homes; views = set s.views id w };
      id = id;
      rule = r;
      rule_after = reviewed w hands bases knows;
      stands = at;
      alone = refl;
      makes = made (reviewed w hands bases knows).core (ap (λ (c : Core). c.joined) same, λ slot. ap (λ (c : Core). c.standing slot) same);
    }

    looked_knows : Knows r.core (looked v r.core.joined)
    looked_knows = let knows = r.known id v at in record { seen = begins_itself r.core.joined; room = knows.room; pasts = knows.pasts; sizes = knows.sizes }

    -- with the list and the sums that it shows
    pub seen_list : SeenList m v.base v r.core.joined
    unfolding looking
    seen_list = subst (λ (z : Founding V). SeenList m z v r.core.joined) (sym own_hand.0) record { moment = looking look (looked v r.core.joined) refl refl looked_knows (λ d is. is); nodes_are = refl }

    pub seen_size : (slot used : ℕ) → used ≡ (r.core.standing slot).used → Knows r.core (sized v slot used) → SeenSize m v.base v slot used
    unfolding looking
    seen_size slot used is knows = subst (λ (z : Founding V). SeenSize m z v slot used) (sym own_hand.0) record { moment = looking (size slot) (sized v slot used) refl refl knows (λ d is. is); used_is = sym is }

  -- a load leaves the words
  pub loaded : (s : St) (i id : ℕ) (w : View V) → Holds m k record { words = s.words; homes = s.homes; views = set s.views id w } → Holds m k record { words = set s.words i (get_or s.words i 0); homes = s.homes; views = set s.views id w }
  loaded s i id w h = subst (λ (ws : List ℕ). Holds m k record { words = ws; homes = s.homes; views = set s.views id w }) (sym (set-get_or s.words i 0)) h

  pub looks : (slots id : ℕ) (me : Sat V) → length me.0.hands ≡ 1 → Allows (Holds m k) slots id me 0 (λ n. n) (saw_head m (step slots 0 0 0 none) me)
  looks slots id me alone s r _ at _ = let v = me.0 in let w = looked v r.core.joined in let knows = r.known id v at in (
    w,
    keeps,
    tt,
    loaded s 0 id w (reviewed s r id v at alone w refl refl record { seen = begins_itself r.core.joined; room = knows.room; pasts = knows.pasts; sizes = knows.sizes }),
    (refl, r.show.head, knows.seen, sees s r id v at alone, seen_list s r id v at alone),
  )

  pub reads : (slots id word : ℕ) (me : Sat V) → length me.0.hands ≡ 1 → Allows (Holds m k) slots id me word (λ n. n) (saw_node (step slots word 0 0 none) me)
  reads slots id word me alone s r _ at _ = let v = me.0 in let w = counted v in let knows = r.known id v at in (
    w,
    keeps,
    tt,
    loaded s word id w (reviewed s r id v at alone w refl refl record { seen = knows.seen; room = knows.room; pasts = knows.pasts; sizes = knows.sizes }),
    (refl, λ i n e is. let there = knows.seen.same i n e in ap (λ (z : ℕ). get_or s.words z 0) is ∙ r.show.nodes i n there ∙ ap (node_word n.caller) (before_begins knows.seen i (let b = at_below v.seen i n e in omega arith))),
  )

  -- ---- a spare is noted
  module _ (s : St) (r : Holds m k s) (id : ℕ) (v : View V) (at : get_elem? s.views id ≡ some v) (alone : length v.hands ≡ 1) where
    -- a slot of the list isn't a spare
    pub apart : (hand v).linked ≡ false → (i : ℕ) (n : Node) → get_elem? r.core.joined i ≡ some n → n.slot ≢ (hand v).slot
    apart spare i n e same = let own = (own_hand s r id v at alone).1 in
        own.spare spare i n e (some-injective _ _ (sym (r.listed i n e).held ∙ ap r.holder same ∙ own.held))

    noting : (hand v).linked ≡ false → (new : ℕ) → Moves r.core r.holder s.words s.homes (hand v) r.core (set s.words (node_at (hand v).slot) new) s.homes
    noting spare new = let own = (own_hand s r id v at alone).1 in let small : (hand v).slot < slot_count = own.slot in record {
      grows = begins_itself r.core.joined;
      adds = λ i n e. inl e;
      callers = r.callers;
      standing = λ slot ne. refl;
      used = omega arith;
      nodes = λ slot low ne. get_or-set_other s.words (node_at (hand v).slot) (node_at slot) new 0 (λ e. ne (omega arith));
      homes_same = λ slot ne. refl;
      show = record {
        wide = length-set s.words (node_at (hand v).slot) new ∙ r.show.wide;
        head = get_or-set_other s.words (node_at (hand v).slot) 0 new 0 (λ e. omega arith) ∙ r.show.head;
        nodes = λ i n e. let other = apart spare i n e in get_or-set_other s.words (node_at (hand v).slot) (node_at n.slot) new 0 (λ e. other (omega arith)) ∙ r.show.nodes i n e;
        states = λ slot low. get_or-set_other s.words (node_at (hand v).slot) (state_at slot) new 0 (λ e. omega arith) ∙ r.show.states slot low;
      };
      slots = r.slots;
    }

  pub hold_as : (c : Core) (hs : Homes V) (h g : Hand V) (x : Hold V) → g.slot ≡ h.slot → g.who ≡ h.who → (h.linked ≡ true → g.linked ≡ true) → HoldsAt m k.life c hs h x → HoldsAt m k.life c hs g x
  hold_as c hs h g Vacant s w l x = (ap c.standing s ∙ x.0, ap (λ (slot : ℕ). get_elem? hs (value_at slot)) s ∙ x.1)
  hold_as c hs h g Filling s w l x = ap c.standing s ∙ x
  hold_as c hs h g (Moving used) s w l x = (ap c.standing s ∙ x.0, l x.1)
  hold_as c hs h g (Away used) s w l x = (ap c.standing s ∙ x.0, ap (λ (slot : ℕ). get_elem? hs (value_at slot)) s ∙ x.1, l x.2)
  hold_as c hs h g (Rests part) s w l x = (ap c.standing s ∙ x.0, ap (λ (slot : ℕ). get_elem? hs (value_at slot)) s ∙ x.1, subst (λ (who : ℕ). Fits m k.life who part) (sym w) x.2)

  pub notes : (slots id new : ℕ) (me : Sat V) → length me.0.hands ≡ 1 → (hand me.0).linked ≡ false → new ≡ node_word (hand me.0).who (next_link me.0)
      → Allows (Holds m k) slots id me (node_at (hand me.0).slot) (λ _. new) (λ _. stored_node (step slots (node_at (hand me.0).slot) new 0 none) me new)
  notes slots id new me alone spare is s r _ at _ = let v = me.0 in let h = hand v in let own = (own_hand s r id v at alone).1 in let w = noted v in let knows = r.known id v at in
      let h' : Hand V = record h { noted = Some (next_link v) } in let word = node_at h.slot in let ws = set s.words word new in (
        w,
        keeps,
        tt,
        moved m k s r id v w h h' at (hands_are v.hands alone) refl refl refl refl r.core ws s.homes (noting s r id v at alone spare new)
            record {
              here = own.here;
              slot = own.slot;
              held = own.held;
              linked = own.linked;
              spare = own.spare;
              noted = λ p e. let there : word < length s.words = (let wide = r.show.wide in let small = own.slot in omega arith) in get_or-set_same s.words word new 0 there ∙ is ∙ ap (node_word h.who) (let same : next_link v ≡ p = cc in same);
              hold = hold_as r.core s.homes h h' h.hold refl refl (λ e. e) own.hold;
            }
            record { seen = knows.seen; room = knows.room; pasts = knows.pasts; sizes = knows.sizes },
        refl,
      )
