-- A compare and exchange on the head keeps the rule: it appends the seat's node, or shows a longer list.
use Rattle.std.proofs.Common.{◌≡◌, ℕ, ◌<◌, ◌≢◌, Bool, true, false, eqb, List, [], ◌∷◌, ◌++◌, length, get_or, set, sym, refl, ap, subst, ◌∙◌, inl, inr, ⊎_elim, arith, Option, Some, None, length-set, eq-eqb, ne_eqb}
use Rattle.std.specs.Prelude.{slice_index}
use Rattle.std.proofs.lemmas.List.{get_or-set_same, get_or-set_other}
use mathlib.Core.Option.{some, none, some-injective}
use mathlib.Core.Logic.{dite}
use native.Mathlib.Decide.{ℕ_discrete}
use prog.Atomic.{either}
use lib.ListN.{get_elem?}
use Rattle.atomic_table.specs.Table.{State, step, keeps, stepped, Allows}
use Rattle.arena_list.specs.declared.for_clauses.founding.Founding.{Founding}
use Rattle.arena_list.specs.declared.for_clauses.view.Node.{Node}
use Rattle.arena_list.specs.declared.for_clauses.view.Hold.{Hold}
use Rattle.arena_list.specs.declared.for_clauses.view.Hold.TheVariants.{Vacant, Filling, Moving, Away, Rests}
use Rattle.arena_list.specs.declared.for_clauses.view.Hand.{Hand}
use Rattle.arena_list.specs.declared.for_clauses.view.View.{View}
use Rattle.arena_list.specs.Words.Nodes.{before, head_of, node_word, Begins}
use Rattle.arena_list.specs.Words.Core.{Core, core, IsListed}
use Rattle.arena_list.specs.Words.Written.{Show, node_at, state_at}
use Rattle.arena_list.specs.Rule.Views.{hand}
use Rattle.arena_list.specs.Rule.Founded.{Meter}
use Rattle.arena_list.specs.Rule.Holds.{Holds, HoldsAt, IsHand}
use Rattle.arena_list.specs.Steps.Moments.{SeenJoin}
use Rattle.arena_list.specs.Steps.After.{looked, joined, next_link, own_node}
use Rattle.arena_list.specs.Steps.Tales.{Sat, Sees, tried_link}
use Rattle.arena_list.proofs.Words.Lists.{at_end, at_below, begins_itself, begins_on, begins_more}
use Rattle.arena_list.proofs.Words.Few.{few_nodes, listed_more, callers_more}
use Rattle.arena_list.proofs.Words.Links.{before_begins, one_head, begins_whole}
use Rattle.arena_list.proofs.Rule.Moved.{Moves, moved, moved_core}
use Rattle.arena_list.proofs.Steps.Keeps.{hands_are, own_hand, sees, seen_list, reviewed, loaded, hold_as}
use Rattle.atomic_table.proofs.Lists.{at_last}
use Rattle.std.proofs.lemmas.Bool.{false≢true}
use Rattle.std.proofs.lemmas.Option.{none-some}

module _ {V : Type 0} (m : Meter V) (k : Founding V) where
  abbrev St : Type 0
  St = State (Option V) (View V)

  module _ (s : St) (r : Holds m k s) (id : ℕ) (v : View V) (at : get_elem? s.views id ≡ some v) (alone : length v.hands ≡ 1) (spare : (hand v).linked ≡ false) (same : v.seen ≡ r.core.joined) (ready : (hand v).noted ≡ Some (next_link v)) where
    abbrev J : List Node
    J = r.core.joined

    abbrev h : Hand V
    h = hand v

    own : IsHand m k.life r.core s.words s.homes r.holder r.place id 0 h
    own = (own_hand m k s r id v at alone).1

    abbrev more : List Node
    more = J ++ own_node v ∷ []

    mine : IsListed r.holder (own_node v)
    mine = record { slot = own.slot; held = own.held }

    abbrev linked_hand : Hand V
    linked_hand = record h { linked = true; noted = None }

    link_shows : (new : ℕ) → new ≡ head_of (v.seen ++ own_node v ∷ []) → Show (core more r.core.standing) (set s.words 0 new)
    link_shows new is = record {
      wide = length-set s.words 0 new ∙ r.show.wide;
      head = (let wide = r.show.wide in get_or-set_same s.words 0 new 0 (omega arith)) ∙ is ∙ ap (λ (l : List Node). head_of (l ++ own_node v ∷ [])) same;
      nodes = λ i n e. get_or-set_other s.words 0 (node_at n.slot) new 0 (λ t. omega arith) ∙ ⊎_elim
          (λ t. r.show.nodes i n t ∙ ap (node_word n.caller) (sym (before_begins (begins_more J (own_node v ∷ [])) i (let b = at_below J i n t in omega arith))))
          (λ t. let note = own.noted (next_link v) ready in
          let last : next_link v ≡ before more i = (λ x. before (same x) (length (same x))) ∙ sym (before_begins (begins_more J (own_node v ∷ [])) (length J) (omega arith)) ∙ ap (before more) (sym t.0) in
          subst (λ (n : Node). slice_index s.words (node_at n.slot) ≡ node_word n.caller (before more i)) t.1 (note ∙ ap (node_word h.who) last))
          (at_end J (own_node v) n i e);
      states = λ slot low. get_or-set_other s.words 0 (state_at slot) new 0 (λ t. omega arith) ∙ r.show.states slot low;
    }

    linking : (new : ℕ) → new ≡ head_of (v.seen ++ own_node v ∷ []) → Moves r.core r.holder s.words s.homes h (core more r.core.standing) (set s.words 0 new) s.homes
    linking new is = record {
      grows = begins_more J (own_node v ∷ []);
      adds = λ i n e. ⊎_elim (λ t. inl t) (λ t. inr (sym t.1)) (at_end J (own_node v) n i e);
      callers = callers_more r.holder J h.slot h.who r.callers (own.spare spare);
      standing = λ slot ne. refl;
      used = omega arith;
      nodes = λ slot low ne. get_or-set_other s.words 0 (node_at slot) new 0 (λ t. omega arith);
      homes_same = λ slot ne. refl;
      show = link_shows new is;
      slots = r.slots;
    }

    appended : v.seen ++ own_node v ∷ [] ≡ more
    appended = ap (λ (l : List Node). l ++ own_node v ∷ []) same

    pub linked_holds : (new : ℕ) → new ≡ head_of (v.seen ++ own_node v ∷ []) → Holds m k record { words = set s.words 0 new; homes = s.homes; views = set s.views id (joined v) }
    linked_holds new is = let knows = r.known id v at in moved m k s r id v (joined v) h linked_hand at (hands_are v.hands alone) refl refl refl refl (core more r.core.standing) (set s.words 0 new) s.homes (linking new is)
        record {
          here = own.here;
          slot = own.slot;
          held = own.held;
          linked = λ e. (length J, at_last J (own_node v) (length J) refl);
          spare = λ e. absurd (false≢true (sym e));
          noted = λ p e. absurd (none-some p e);
          hold = hold_as m k (core more r.core.standing) s.homes h linked_hand h.hold refl refl (λ e. refl) (hold_in h.hold own.hold);
        }
        record { seen = subst (λ (l : List Node). Begins l more) (sym appended) (begins_itself more); room = knows.room; pasts = λ i nodes e. begins_on (knows.pasts i nodes e) (begins_more J (own_node v ∷ [])); sizes = knows.sizes } where
          hold_in : (x : Hold V) → HoldsAt m k.life r.core s.homes h x → HoldsAt m k.life (core more r.core.standing) s.homes h x
          hold_in Vacant x = x
          hold_in Filling x = x
          hold_in (Moving used) x = x
          hold_in (Away used) x = x
          hold_in (Rests part) x = x

    linked_core : (new : ℕ) (is : new ≡ head_of (v.seen ++ own_node v ∷ [])) → (linked_holds new is).core ≡ core more r.core.standing
    unfolding linked_holds
    linked_core new is = moved_core m k s r id v (joined v) h linked_hand at (hands_are v.hands alone) refl refl refl refl _ _ _ _ _ _

    pub seen_join : (new : ℕ) → new ≡ head_of (v.seen ++ own_node v ∷ []) → SeenJoin m v.base v
    seen_join new is = let after = linked_core new is in subst (λ (z : Founding V). SeenJoin m z v) (sym (own_hand m k s r id v at alone).0) record {
      moment = record {
        before = s;
        after = record { words = set s.words 0 new; homes = s.homes; views = set s.views id (joined v) };
        id = id;
        rule = r;
        rule_after = linked_holds new is;
        stands = at;
        alone = refl;
        makes = (ap (λ (c : Core). c.joined) after, λ slot. ap (λ (c : Core). c.standing slot) after);
      };
      nodes_are = sym same;
    }

    pub linked_sees : Sees linked_hand (v.seen ++ own_node v ∷ [])
    linked_sees = subst (λ (l : List Node). Sees linked_hand l) (sym appended) record {
      linked = λ e. (length J, at_last J (own_node v) (length J) refl);
      spare = λ e. absurd (false≢true (sym e));
      callers = callers_more r.holder J h.slot h.who r.callers (own.spare spare);
      slots = λ i j n o a b same. callers_more r.holder J h.slot h.who r.callers (own.spare spare) i j n o a b
          (some-injective _ _ (sym (listed_more r.holder J h.slot h.who r.listed mine i n a).held ∙ ap r.holder same ∙ (listed_more r.holder J h.slot h.who r.listed mine j o b).held));
      small = λ i n e. (listed_more r.holder J h.slot h.who r.listed mine i n e).slot;
      few = few_nodes r.holder more (listed_more r.holder J h.slot h.who r.listed mine) (callers_more r.holder J h.slot h.who r.callers (own.spare spare));
      fewer = λ e. absurd (false≢true (sym e));
    }

  pub links : (slots id old new : ℕ) (me : Sat V) → length me.0.hands ≡ 1 → (hand me.0).linked ≡ false → (hand me.0).noted ≡ Some (next_link me.0)
      → old ≡ head_of me.0.seen → new ≡ head_of (me.0.seen ++ own_node me.0 ∷ [])
      → Allows (Holds m k) slots id me 0 (λ n. either (eqb n old) new n) (tried_link m (step slots 0 old new none) me)
  links slots id old new me alone spare ready is_old is_new s r _ at _ = let v = me.0 in let n : ℕ = get_or s.words 0 0 in let knows = r.known id v at in
      dite (ℕ_discrete n old)
      (λ hit. let same : v.seen ≡ r.core.joined = one_head v.seen r.core.joined knows.seen (λ i n e. (r.listed i n e).slot) (sym is_old ∙ sym hit ∙ r.show.head) in (
        joined v,
        keeps,
        tt,
        subst (λ (b : Bool). Holds m k (stepped s 0 (either b new n) id me.1 (joined v) keeps)) (sym (eq-eqb n old hit)) (linked_holds s r id v at alone spare same ready new is_new),
        ((λ _. (refl, linked_sees s r id v at alone spare same ready, seen_join s r id v at alone spare same ready new is_new)), λ not. absurd (not hit)),
      ))
      (λ miss. let w = looked v r.core.joined in (
        w,
        keeps,
        tt,
        subst (λ (b : Bool). Holds m k (stepped s 0 (either b new n) id me.1 w keeps)) (sym (ne_eqb n old miss))
            (loaded m k s 0 id w (reviewed m k s r id v at alone w refl refl record { seen = begins_itself r.core.joined; room = knows.room; pasts = knows.pasts; sizes = knows.sizes })),
        ((λ hit. absurd (miss hit)), λ _. ((refl, r.show.head, knows.seen, sees m k s r id v at alone, seen_list m k s r id v at alone), longer_by s r id v at miss is_old)),
      )) where
        longer_by : (s : St) (r : Holds m k s) (id : ℕ) (v : View V) → get_elem? s.views id ≡ some v → get_or s.words 0 0 ≢ old → old ≡ head_of v.seen → length v.seen < length r.core.joined
        longer_by s r id v at miss is = let knows = r.known id v at in let b = knows.seen.short in dite (ℕ_discrete (length v.seen) (length r.core.joined))
            (λ e. absurd (miss (r.show.head ∙ ap head_of (sym (begins_whole v.seen r.core.joined knows.seen e)) ∙ sym is)))
            (λ ne. omega arith)
