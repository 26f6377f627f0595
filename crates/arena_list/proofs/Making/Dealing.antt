-- The seats of a list that is made, one after another.
use Rattle.std.proofs.Common.{◌≡◌, ℕ, zero, suc, ◌+◌, ◌<◌, ◌≤◌, Bool, true, false, List, [], ◌∷◌, ◌++◌, map, length, get_or, take, drop, sym, refl, ap, subst, ◌∙◌, arith, ⊎_elim}
use Rattle.std.proofs.lemmas.Bool.{false≢true}
use Rattle.std.proofs.lemmas.List.{length-append}
use mathlib.Core.Option.{some, some-injective, some-ne-none}
use lib.ListN.{get_elem?}
use base.Stored.{Coded}
use Rattle.atomic_table.specs.Seated.{TableId}
use Rattle.atomic_table.proofs.Lists.{drop_at}
use Rattle.arena_list.specs.declared.entry.Entry.{Entry}
use Rattle.arena_list.specs.declared.for_clauses.founding.Founding.{Founding}
use Rattle.arena_list.specs.declared.list.ListSeat.{ListSeat}
use Rattle.arena_list.specs.declared.for_clauses.view.Hold.TheVariants.{Vacant}
use Rattle.arena_list.specs.declared.for_clauses.view.Hold.{Hold}
use Rattle.arena_list.specs.declared.for_clauses.view.Hand.{Hand}
use Rattle.arena_list.specs.declared.for_clauses.view.View.{View}
use Rattle.arena_list.specs.Words.Core.{slot_count}
use Rattle.arena_list.specs.Words.Nodes.{node, before, head_of, HasNode, LacksNode}
use Rattle.arena_list.specs.Rule.Views.{hand, first_hand}
use Rattle.arena_list.specs.Rule.Founded.{Meter, AreFit, node_of, hand_for, first_view}
use Rattle.arena_list.specs.Steps.After.{used_now}
use Rattle.arena_list.specs.Steps.Tales.{Sat, IsSeated, dealt, undealt, rest_of}
use Rattle.arena_list.specs.Making.Made.{AreSeats, view_with, claimed_view}
use Rattle.arena_list.specs.Calls.Seats.{view}
use Rattle.arena_list.proofs.Words.Lists.{at_below, at_end}
use Rattle.arena_list.proofs.Words.Few.{len_map, at_map}
use Rattle.arena_list.proofs.Rule.Opening.{entry_for}
use Rattle.arena_list.proofs.Making.FirstWords.{all_few, linked_before, linked_small}
use Rattle.arena_list.proofs.Steps.Seats.{at_behind}

pub at_zero : (l : List ℕ) (i : ℕ) → i < length l → get_elem? l i ≡ some (get_or l i 0)
at_zero [] i h = absurd (omega arith)
at_zero (x ∷ xs) zero h = refl
at_zero (x ∷ xs) (suc i) h = at_zero xs i (omega arith)

pub take_whole : (l : List ℕ) (i : ℕ) → length l ≤ i → take i l ≡ l
take_whole [] zero h = refl
take_whole [] (suc i) h = refl
take_whole (x ∷ xs) zero h = absurd (omega arith)
take_whole (x ∷ xs) (suc i) h = ap (λ (l : List ℕ). x ∷ l) (take_whole xs i (omega arith))

module _ {V : Type 0} (k : Founding V) where
  -- the view that is left to the first seat when the first i callers have theirs
  abbrev pub remaining : ℕ → View V
  remaining i = record (first_view k) { hands = map (hand_for k) (drop i k.callers.items) }

  module _ (i c : ℕ) (at : get_elem? k.callers.items i ≡ some c) where
    pub remaining_is : (remaining i).hands ≡ hand_for k c ∷ map (hand_for k) (drop (i + 1) k.callers.items)
    remaining_is = ap (map (hand_for k)) (drop_at k.callers.items i c at) ∙ ap (λ (n : ℕ). hand_for k c ∷ map (hand_for k) (drop n k.callers.items)) (let z : suc i ≡ i + 1 = omega arith in z)

    pub remaining_next : undealt (remaining i) ≡ remaining (i + 1)
    remaining_next = ap (λ (hs : List (Hand V)). record (first_view k) { hands = rest_of hs }) remaining_is

    pub remaining_first : dealt (remaining i) ≡ record (first_view k) { hands = hand_for k c ∷ [] }
    remaining_first = ap (λ (hs : List (Hand V)). record (first_view k) { hands = first_hand hs ∷ [] }) remaining_is

    pub remaining_some : 0 < length (remaining i).hands
    remaining_some = let l = ap length remaining_is in omega arith

module _ {V : Type 0} (m : Meter V) (k : Founding V) (fit : AreFit m k.life k.linked.items k.spare.items k.callers.items) (i c : ℕ) (at : get_elem? k.callers.items i ≡ some c) where
  pub hand_who : (hand_for k c).who ≡ c
  hand_who = ⊎_elim (λ t. ap (λ (h : Hand V). h.who) t.4 ∙ t.3) (λ t. ap (λ (h : Hand V). h.who) t.4 ∙ t.3) (entry_for m k fit i c at)

  pub hand_vacant : (hand_for k c).hold ≡ Vacant
  hand_vacant = ⊎_elim (λ t. ap (λ (h : Hand V). h.hold) t.4) (λ t. ap (λ (h : Hand V). h.hold) t.4) (entry_for m k fit i c at)

  hand_small : (hand_for k c).slot < slot_count
  hand_small = ⊎_elim (λ t. subst (λ (h : Hand V). h.slot < slot_count) (sym t.4) (linked_small m k.life k.linked.items k.spare.items k.callers.items fit t.0 t.1 t.2))
      (λ t. subst (λ (h : Hand V). h.slot < slot_count) (sym t.4) (fit.small (length k.linked.items + t.0) t.1 (at_behind k.linked.items k.spare.items t.0 t.1 t.2)))
      (entry_for m k fit i c at)

  hand_fewer : (hand_for k c).linked ≡ false → length k.linked.items < slot_count
  hand_fewer is = ⊎_elim (λ t. absurd (false≢true (sym is ∙ ap (λ (h : Hand V). h.linked) t.4)))
      (λ t. let a = all_few m k.life k.linked.items k.spare.items k.callers.items fit in let b = at_below k.spare.items t.0 t.1 t.2 in omega arith)
      (entry_for m k fit i c at)

  -- the node of a linked entry's caller
  hand_seen : (slot : ℕ) → slot ≡ (hand_for k c).slot → (hand_for k c).linked ≡ true → HasNode (map node_of k.linked.items) slot c
  hand_seen slot slot_is is = ⊎_elim
      (λ t. (t.0, at_map node_of k.linked.items t.0 t.1 t.2 ∙ (λ i. some (node ((sym (slot_is ∙ ap (λ (h : Hand V). h.slot) t.4)) i) (t.3 i)))))
      (λ t. absurd (false≢true (sym (ap (λ (h : Hand V). h.linked) t.4) ∙ is)))
      (entry_for m k fit i c at)

  -- the seat that was just split off
  pub seated_new : (slot head : ℕ) (linked : Bool) (me : Sat V) → me ≡ (dealt (remaining k i), []) → slot ≡ (hand_for k c).slot → linked ≡ (hand_for k c).linked → head ≡ head_of (map node_of k.linked.items) → IsSeated m c slot linked 0 head me
  seated_new slot head linked me is slot_is linked_is head_is = let v : View V = record (first_view k) { hands = hand_for k c ∷ [] } in
      let all : me ≡ (v, []) = is ∙ (λ x. (remaining_first k i c at x, [])) in let back = sym all in
      let few = all_few m k.life k.linked.items k.spare.items k.callers.items fit in let long = len_map node_of k.linked.items in record {
        one = ap (λ (x : Sat V). length x.0.hands) all;
        caller_is = sym hand_who ∙ ap (λ (x : Sat V). (hand x.0).who) back;
        slot_is = slot_is ∙ ap (λ (x : Sat V). (hand x.0).slot) back;
        linked_is = linked_is ∙ ap (λ (x : Sat V). (hand x.0).linked) back;
        used_is = ap (used_now m) (sym hand_vacant) ∙ ap (λ (x : Sat V). used_now m (hand x.0).hold) back;
        head_is = head_is ∙ ap (λ (x : Sat V). head_of x.0.seen) back;
        slot_small = subst (λ (n : ℕ). n < slot_count) (sym slot_is) hand_small;
        used_small = omega arith;
        link_small = subst (λ (x : Sat V). before x.0.seen (length x.0.seen) ≤ slot_count) back (linked_before m k.life k.linked.items k.spare.items k.callers.items fit (length (map node_of k.linked.items)));
        own = λ e. subst (λ (x : Sat V). ¬ LacksNode x.0.seen slot c) back (λ none. let has = hand_seen slot slot_is (sym linked_is ∙ e) in none has.0 has.1);
        few = subst (λ (x : Sat V). length x.0.seen ≤ slot_count) back (omega arith);
        fewer = λ e. subst (λ (x : Sat V). length x.0.seen < slot_count) back (let f = hand_fewer (sym linked_is ∙ e) in omega arith);
        free = ap (λ (x : Sat V). x.1) all;
      }

  -- its slot isn't filled
  pub new_view : (v : View V) → v ≡ dealt (remaining k i) → v ≡ claimed_view k c
  new_view v is = is ∙ remaining_first k i c at ∙ ap (λ (x : Hold V). record (first_view k) { hands = record (hand_for k c) { hold = x } ∷ [] }) hand_vacant

take_more : (l : List ℕ) (i c : ℕ) → get_elem? l i ≡ some c → take (i + 1) l ≡ take i l ++ c ∷ []
take_more l i c e = ap (λ (n : ℕ). take n l) (let z : i + 1 ≡ suc i = omega arith in z) ∙ more l i c e where
  more : (l : List ℕ) (i c : ℕ) → get_elem? l i ≡ some c → take (suc i) l ≡ take i l ++ c ∷ []
  more [] i c e = absurd (some-ne-none c (sym e))
  more (x ∷ xs) zero c e = ap (λ (y : ℕ). y ∷ []) (some-injective x c e)
  more (x ∷ xs) (suc i) c e = ap (λ (l : List ℕ). x ∷ l) (more xs i c e)

-- one seat more
module _ {V : Type 0} (cd : Coded V) (m : Meter V) (k : Founding V) (table : TableId) (callers : List ℕ) (done : List (Entry V)) where
  pub seats_none : AreSeats cd m k table (take 0 callers) done []
  seats_none = record { count = refl; each = λ i who s a b. absurd (some-ne-none s (sym b)) }

  pub seats_more : (i c : ℕ) (seats : List ListSeat) (s : ListSeat) → get_elem? callers i ≡ some c → AreSeats cd m k table (take i callers) done seats → s.badge.table_id ≡ table → view s ≡ view_with cd m k done c
      → AreSeats cd m k table (take (i + 1) callers) done (seats ++ s ∷ [])
  seats_more i c seats s at o of is = subst (λ (l : List ℕ). AreSeats cd m k table l done (seats ++ s ∷ [])) (sym (take_more callers i c at)) record {
    count = length-append seats (s ∷ []) ∙ ap (λ (n : ℕ). n + 1) o.count ∙ sym (length-append (take i callers) (c ∷ []));
    each = λ j who t a b. ⊎_elim
        (λ p. ⊎_elim (λ q. o.each j who t p q) (λ q. absurd (let l = at_below (take i callers) j who p in let e = o.count in let z : j ≡ length seats = q.0 in omega arith)) (at_end seats s t j b))
        (λ p. ⊎_elim (λ q. absurd (let l = at_below seats j t q in let e = o.count in let z : j ≡ length (take i callers) = p.0 in omega arith))
        (λ q. (ap (λ (x : ListSeat). x.badge.table_id) (sym q.1) ∙ of, ap (λ (x : ListSeat). view x) (sym q.1) ∙ is ∙ ap (view_with cd m k done) p.1)) (at_end seats s t j b))
        (at_end (take i callers) c who j a);
  }
