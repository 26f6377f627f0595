-- The lists that the tests make, and their seats.
use Rattle.std.proofs.Common.{◌≡◌, ℕ, ◌+◌, ◌*◌, ◌<◌, ◌≤◌, false, not, List, [], ◌∷◌, ◌++◌, length, map, sym, refl, ap, subst, ◌∙◌, arith, ⊎_elim}
use Rattle.std.proofs.lemmas.Bool.{cases_Bool}
use Rattle.std.proofs.lemmas.List.{length-append, length-map}
use Rattle.std.specs.Prelude.{All}
use mathlib.Core.Option.{some, some-ne-none}
use lib.ListN.{get_elem?}
use base.Stored.{Coded}
use Rattle.arena_list.specs.declared.entry.Entry.{Entry}
use Rattle.arena_list.specs.declared.list.ListSeat.{ListSeat}
use Rattle.arena_list.specs.declared.list.ArenaList.{ArenaList}
use Rattle.arena_list.specs.declared.for_clauses.mark.Mark.{Mark}
use Rattle.arena_list.specs.declared.for_clauses.view.Hand.{Hand}
use Rattle.arena_list.specs.Words.Core.{slot_count}
use Rattle.arena_list.specs.Rule.Founded.{Meter, Differ, AreFit, Fits, has, slot, caller}
use Rattle.arena_list.specs.Making.Made.{AreFirst}
use Rattle.arena_list.specs.Rule.Views.{first_hand, HasSeenOwn}
use Rattle.arena_list.specs.Marks.OfParts.{marks}
use Rattle.arena_list.specs.Calls.Seats.{view, callers_of, SameList, IsHome}
use Rattle.arena_list.specs.Closing.Closed.{AreAll}
use Rattle.arena_list.proofs.Words.Few.{or_at, at_mapped}
use Rattle.arena_list.proofs.Words.Lists.{at_below, at_there, at_end, same_elements, all_kept}
use Rattle.arena_list.proofs.Steps.Seats.{at_append}
use Rattle.arena_list.proofs.Rule.Opening.{has_at}
use Rattle.arena_list.proofs.Calls.SeatFacts.{seen_own}

-- spare entries for callers 4, 7, 10 and on, in slots 0, 1, 2 and on
pub record AreSpares {V : Type 0} (m : Meter V) (spare : List (Entry V)) (callers : List ℕ) (n : ℕ) : Type 0 where
  pub count : length spare ≡ n
  pub seats : length callers ≡ n
  pub entry : (k : ℕ) (e : Entry V) → get_elem? spare k ≡ some e → (e.slot ≡ k) × (e.caller ≡ 4 + 3 * k) × Fits m 5 e.caller e.part
  pub caller : (k c : ℕ) → get_elem? callers k ≡ some c → c ≡ 4 + 3 * k

module _ {V : Type 0} (m : Meter V) where
  pub no_spares : AreSpares m [] [] 0
  no_spares = record { count = refl; seats = refl; entry = λ k e is. absurd (some-ne-none e (sym is)); caller = λ k c is. absurd (some-ne-none c (sym is)) }

  pub spares_more : (spare spare' : List (Entry V)) (callers callers' : List ℕ) (n : ℕ) (e : Entry V) → AreSpares m spare callers n → spare' ≡ spare ++ e ∷ [] → callers' ≡ callers ++ e.caller ∷ []
      → e.slot ≡ n → e.caller ≡ 4 + 3 * n → Fits m 5 e.caller e.part → AreSpares m spare' callers' (n + 1)
  spares_more spare spare' callers callers' n e o p q at whose fits = record {
    count = (let l = ap length p ∙ length-append spare (e ∷ []) in let c = o.count in omega arith);
    seats = (let l = ap length q ∙ length-append callers (e.caller ∷ []) in let c = o.seats in omega arith);
    entry = λ k x is. ⊎_elim (λ t. o.entry k x t)
        (λ t. let k_is : k ≡ n = t.0 ∙ o.count in subst (λ (y : Entry V). (y.slot ≡ k) × (y.caller ≡ 4 + 3 * k) × Fits m 5 y.caller y.part) t.1 (at ∙ sym k_is, whose ∙ ap (λ (z : ℕ). 4 + 3 * z) (sym k_is), fits))
        (at_end spare e x k (ap (λ (l : List (Entry V)). get_elem? l k) (sym p) ∙ is));
    caller = λ k c is. ⊎_elim (λ t. o.caller k c t)
        (λ t. let k_is : k ≡ n = t.0 ∙ o.seats in sym t.1 ∙ whose ∙ ap (λ (z : ℕ). 4 + 3 * z) (sym k_is))
        (at_end callers e.caller c k (ap (λ (l : List ℕ). get_elem? l k) (sym q) ∙ is));
  }

-- beside them at most one linked entry, whose caller is 99 and has no seat
pub record IsBeside {V : Type 0} (m : Meter V) (linked : List (Entry V)) (n : ℕ) : Type 0 where
  pub one : length linked ≤ 1
  pub entry : (k : ℕ) (e : Entry V) → get_elem? linked k ≡ some e → (n ≤ e.slot) × (e.slot < slot_count) × (e.caller ≡ 99) × Fits m 5 e.caller e.part

module _ {V : Type 0} (m : Meter V) (n : ℕ) where
  pub none_beside : (linked : List (Entry V)) → linked ≡ [] → IsBeside m linked n
  none_beside linked is = subst (λ (l : List (Entry V)). IsBeside m l n) (sym is) (record { one = omega arith; entry = λ k e at. absurd (some-ne-none e (sym at)) })

  pub one_beside : (linked : List (Entry V)) (e : Entry V) → linked ≡ e ∷ [] → n ≤ e.slot → e.slot < slot_count → e.caller ≡ 99 → Fits m 5 e.caller e.part → IsBeside m linked n
  one_beside linked e is low small whose fits = subst (λ (l : List (Entry V)). IsBeside m l n) (sym is) (record {
    one = omega arith;
    entry = λ k x at. ⊎_elim (λ t. absurd (some-ne-none x (sym t))) (λ t. subst (λ (y : Entry V). (n ≤ y.slot) × (y.slot < slot_count) × (y.caller ≡ 99) × Fits m 5 y.caller y.part) t.1 (low, small, whose, fits)) (at_end [] e x k at);
  })

module _ {V : Type 0} (m : Meter V) (linked spare : List (Entry V)) (callers : List ℕ) (n : ℕ) (o : AreSpares m spare callers n) (b : IsBeside m linked n) (some_one : 0 < n) (few : n ≤ slot_count) where
  same_linked : (i j : ℕ) (x y : Entry V) → get_elem? linked i ≡ some x → get_elem? linked j ≡ some y → i ≡ j
  same_linked i j x y p q = let one = b.one in let k = at_below linked i x p in let l = at_below linked j y q in omega arith

  no_linked : (k c : ℕ) → get_elem? callers k ≡ some c → has (map caller linked) c ≡ false
  no_linked k c at = ⊎_elim
      (λ t. let p = has_at (map caller linked) c t in let e = at_mapped caller linked p.0 c p.1 in let l = (b.entry p.0 e.0 e.1).2 in let w = e.2 in let mine = o.caller k c at in absurd (omega arith))
      (λ f. f) (cases_Bool (has (map caller linked) c))

  slots_differ : Differ (map slot (linked ++ spare))
  slots_differ i j x p q = let a = at_mapped slot (linked ++ spare) i x p in let c = at_mapped slot (linked ++ spare) j x q in
      let l : a.0.slot ≡ c.0.slot = a.2 ∙ sym c.2 in ⊎_elim
      (λ s. ⊎_elim (λ t. same_linked i j a.0 c.0 s t)
      (λ t. let low = (b.entry i a.0 s).0 in let high = at_below spare t.0 c.0 t.2 in let at = (o.entry t.0 c.0 t.2).0 in let z = o.count in absurd (omega arith)) (at_append linked spare j c.0 c.1))
      (λ s. ⊎_elim (λ t. let low = (b.entry j c.0 t).0 in let high = at_below spare s.0 a.0 s.2 in let at = (o.entry s.0 a.0 s.2).0 in let z = o.count in absurd (omega arith))
      (λ t. let x = (o.entry s.0 a.0 s.2).0 in let y = (o.entry t.0 c.0 t.2).0 in let u = s.1 in let v = t.1 in omega arith) (at_append linked spare j c.0 c.1))
      (at_append linked spare i a.0 a.1)

  pub are_fit : AreFit m 5 linked spare callers
  are_fit = record {
    slots = slots_differ;
    small = λ i e at. ⊎_elim (λ s. (b.entry i e s).1) (λ s. let x = (o.entry s.0 e s.2).0 in let y = at_below spare s.0 e s.2 in let z = o.count in omega arith) (at_append linked spare i e at);
    linked_once = λ i j x p q. let a = at_mapped caller linked i x p in let c = at_mapped caller linked j x q in same_linked i j a.0 c.0 a.1 c.1;
    callers_once = λ i j x p q. let a = o.caller i x p in let c = o.caller j x q in omega arith;
    some_caller = (let c = o.seats in omega arith);
    spares = same_elements (map caller spare) callers (length-map spare caller ∙ o.count ∙ sym o.seats)
        (λ k c at. let e = at_mapped caller spare k c at in let there = at_there callers k (let l = at_below spare k e.0 e.1 in let x = o.count in let y = o.seats in omega arith) in
        let is : there.0 ≡ c = o.caller k there.0 there.1 ∙ sym (o.entry k e.0 e.1).1 ∙ e.2 in there.1 ∙ ap (λ (z : ℕ). some z) is)
        ∙ sym (all_kept (λ (c : ℕ). not (has (map caller linked) c)) callers (λ k c at. ap not (no_linked k c at)));
    parts = λ i e at. ⊎_elim (λ s. (b.entry i e s).3) (λ s. (o.entry s.0 e s.2).2) (at_append linked spare i e at);
  }

-- each seat has seen its own node
own_of : (s : ListSeat) → HasSeenOwn (view s)
own_of s = seen_own marks s.seated

module _ {V : Type 0} (cd : Coded V) (m : Meter V) (linked spare : List (Entry V)) (callers : List ℕ) (list : ArenaList V) (seats : List ListSeat) (first : AreFirst cd m list linked spare callers seats) where
  is_home : (i c : ℕ) (s : ListSeat) → get_elem? callers i ≡ some c → get_elem? seats i ≡ some s → IsHome cd m list s
  is_home i c s a b = let r = first.each i c s a b in (r.of_list, r.rests, r.base_is, r.seen_own)

  -- each seat that `make` gives has its value at home
  pub all_home : All (IsHome cd m list) seats
  all_home k d low = let s = at_there seats k low in let c = at_there callers k (let n = first.count in omega arith) in
      subst (IsHome cd m list) (sym (or_at seats k d s.0 s.1)) (is_home k c.0 s.0 c.1 s.1)

module _ {V : Type 0} (cd : Coded V) (m : Meter V) (list : ArenaList V) (s t : ListSeat) (same : SameList s t) (is : (view t).hands ≡ (view s).hands) (based : (view t).base ≡ (view s).base) where
  -- a call that leaves the hands
  pub home_kept : IsHome cd m list s → IsHome cd m list t
  home_kept o = (same ∙ o.0, (o.1.0, ap (λ (h : List (Hand Mark)). (first_hand h).hold) is ∙ o.1.1, subst (λ (w : ℕ). Fits marks list.table.shared.key.life w o.1.0) (ap (λ (h : List (Hand Mark)). (first_hand h).who) (sym is)) o.1.2), based ∙ o.2, own_of t)

module _ {V : Type 0} (cd : Coded V) (m : Meter V) where
  -- what `close` asks
  pub all_back : (list : ArenaList V) (seats : List ListSeat) → length (callers_of list) ≤ length seats → All (IsHome cd m list) seats → AreAll list seats
  all_back list seats enough home = record {
    enough = enough;
    each = λ k s at. let h : IsHome cd m list s = subst (IsHome cd m list) (or_at seats k s s at) (home k s (at_below seats k s at)) in (h.0, (h.1.0, h.1.1));
  }

  -- the same of what a refusal hands back
  pub home_as : (list list' : ArenaList V) (seats seats' : List ListSeat) → list' ≡ list → seats' ≡ seats → All (IsHome cd m list) seats → All (IsHome cd m list') seats'
  home_as list list' seats seats' p q home = subst (λ (z : ArenaList V × List ListSeat). All (IsHome cd m z.0) z.1) (λ i. (sym p i, sym q i)) home
