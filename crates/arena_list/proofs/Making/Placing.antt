-- An entry's value goes to its caller's seat.
use Rattle.std.proofs.Common.{◌≡◌, ℕ, ◌<◌, ◌≤◌, ◌≢◌, Bool, true, false, cond, List, ◌∷◌, length, set, sym, refl, ap, subst, ◌∙◌, arith, ⊎_elim, Option, Some, None, eq-eqb, ne_eqb, length-set}
use Rattle.std.proofs.lemmas.Bool.{cases_Bool}
use mathlib.Core.Option.{some, some-injective}
use mathlib.Core.Logic.{dite}
use native.Mathlib.Decide.{ℕ_discrete}
use lib.ListN.{get_elem?}
use base.Stored.{Coded}
use Rattle.atomic_table.specs.Seated.{TableId}
use Rattle.atomic_table.proofs.Lists.{at_set}
use Rattle.arena_list.specs.declared.entry.Entry.{Entry}
use Rattle.arena_list.specs.declared.for_clauses.founding.Founding.{Founding}
use Rattle.arena_list.specs.declared.list.ListSeat.{ListSeat}
use Rattle.arena_list.specs.declared.for_clauses.mark.Mark.{Mark}
use Rattle.arena_list.specs.declared.for_clauses.view.View.{View}
use Rattle.arena_list.specs.Rule.Views.{who, out}
use Rattle.arena_list.specs.Rule.Founded.{Meter, AreFit, has, entry_of}
use Rattle.arena_list.specs.Steps.After.{IsOut, used_now, settled}
use Rattle.arena_list.specs.Making.Made.{AreSeats, Places, claimed_view, given}
use Rattle.arena_list.specs.Marks.OfParts.{marks, mark, marked_founding}
use Rattle.arena_list.specs.Calls.Seats.{view}
use Rattle.arena_list.proofs.Words.Lists.{at_below, at_there, at_one}
use Rattle.arena_list.proofs.Rule.Opening.{has_at, at_has}
use Rattle.arena_list.proofs.Making.Dealing.{hand_who}
use Rattle.arena_list.proofs.Marks.Marked.{fit_marked}

module _ {V : Type 0} (cd : Coded V) (m : Meter V) (k : Founding V) (table : TableId) (fit : AreFit m k.life k.linked.items k.spare.items k.callers.items) (done : List (Entry V)) (seats : List ListSeat) (o : AreSeats cd m k table k.callers.items done seats) where
  abbrev callers : List ℕ
  callers = k.callers.items

  abbrev seen_key : Founding Mark
  seen_key = marked_founding cd m k

  seen_fit : AreFit marks seen_key.life seen_key.linked.items seen_key.spare.items seen_key.callers.items
  seen_fit = fit_marked cd m k.life k.linked.items k.spare.items k.callers.items fit

  given_who : (v : View Mark) (e : Option (Entry V)) → who (given cd m v e) ≡ who v
  given_who v None = refl
  given_who v (Some e) = refl

  -- the seat at a place is that place's caller's
  seat_who : (i c : ℕ) (s : ListSeat) → get_elem? callers i ≡ some c → get_elem? seats i ≡ some s → who (view s) ≡ c
  seat_who i c s a b = ap who (o.each i c s a b).1 ∙ given_who (claimed_view seen_key c) (entry_of done c) ∙ hand_who marks seen_key seen_fit i c a

  caller_there : (i : ℕ) → i < length seats → (c : ℕ) × (get_elem? callers i ≡ some c)
  caller_there i low = at_there callers i (let n = o.count in omega arith)

  module _ (e : Entry V) where
    -- no seat is the caller's
    pub none_seats : ((i : ℕ) (s : ListSeat) → i < length seats → get_elem? seats i ≡ some s → who (view s) ≢ e.caller) → has callers e.caller ≡ false
    none_seats none_there = ⊎_elim
        (λ t. let p = has_at callers e.caller t in let s = at_there seats p.0 (let b = at_below callers p.0 e.caller p.1 in let n = o.count in omega arith) in
        absurd (none_there p.0 s.0 (at_below seats p.0 s.0 s.1) s.1 (seat_who p.0 e.caller s.0 p.1 s.1)))
        (λ f. f) (cases_Bool (has callers e.caller))

    pub places_none : ((i : ℕ) (s : ListSeat) → i < length seats → get_elem? seats i ≡ some s → who (view s) ≢ e.caller) → Places cd m callers e seats seats
    places_none none_there = record {
      count = refl;
      each = λ i c s t a b d. let same : s ≡ t = at_one seats i s t b d in (
        ap (λ (x : ListSeat). x.badge.table_id) (sym same),
        (λ own. absurd (none_there i s (at_below seats i s b) b (seat_who i c s a b ∙ own))),
        λ other. ap (λ (x : ListSeat). view x) (sym same),
      );
    }

    module _ (at : ℕ) (s : ListSeat) (low : at < length seats) (there : get_elem? seats at ≡ some s) (own : who (view s) ≡ e.caller) where
      own_there : get_elem? callers at ≡ some e.caller
      own_there = let c = caller_there at low in c.1 ∙ ap (λ (z : ℕ). some z) (sym (seat_who at c.0 s c.1 there) ∙ own)

      pub has_own : has callers e.caller ≡ true
      has_own = at_has callers at e.caller own_there

      pub own_table : s.badge.table_id ≡ table
      own_table = (o.each at e.caller s own_there there).0

      -- its slot isn't filled yet
      pub not_filled : entry_of done e.caller ≡ None → view s ≡ claimed_view seen_key e.caller
      not_filled none_yet = (o.each at e.caller s own_there there).1 ∙ ap (given cd m (claimed_view seen_key e.caller)) none_yet

      pub own_out : entry_of done e.caller ≡ None → IsOut (out (view s))
      own_out none_yet = subst (λ (v : View Mark). IsOut (out v)) (sym (not_filled none_yet)) tt

      pub own_more : entry_of done e.caller ≡ None → used_now marks (out (view s)) ≤ m.used e.part
      own_more none_yet = subst (λ (v : View Mark). used_now marks (out v) ≤ m.used e.part) (sym (not_filled none_yet)) (omega arith)

      pub places_own : (t : ListSeat) → t.badge.table_id ≡ s.badge.table_id → view t ≡ settled marks (view s) (mark cd m e.part) → Places cd m callers e seats (set seats at t)
      places_own t of is = record {
        count = length-set seats at t;
        each = λ i c x y a b d. ⊎_elim
            (λ p. let same : s ≡ x = at_one seats at s x there (ap (get_elem? seats) (sym p.0) ∙ b) in
            let one : c ≡ e.caller = some-injective c e.caller (sym a ∙ ap (get_elem? callers) p.0 ∙ own_there) in (
              ap (λ (z : ListSeat). z.badge.table_id) (sym p.1) ∙ of ∙ ap (λ (z : ListSeat). z.badge.table_id) same,
              (λ mine. ap (λ (z : ListSeat). view z) (sym p.1) ∙ is ∙ ap (λ (z : ListSeat). settled marks (view z) (mark cd m e.part)) same),
              λ other. absurd (other one),
            ))
            (λ p. let same : x ≡ y = at_one seats i x y b p.1 in (
              ap (λ (z : ListSeat). z.badge.table_id) (sym same),
              (λ mine. absurd (p.0 (fit.callers_once i at e.caller (a ∙ ap (λ (z : ℕ). some z) mine) own_there))),
              λ other. ap (λ (z : ListSeat). view z) (sym same),
            ))
            (at_set seats at i t y d);
      }

    -- one entry more is given
    pub seats_given : (new : List ListSeat) → entry_of done e.caller ≡ None → Places cd m callers e seats new → AreSeats cd m k table callers (e ∷ done) new
    seats_given new none_yet p = record {
      count = p.count ∙ o.count;
      each = λ i c t a d. let s = at_there seats i (let b = at_below callers i c a in let n = o.count in omega arith) in let q = p.each i c s.0 t a s.1 d in let old = o.each i c s.0 a s.1 in (
        q.0 ∙ old.0,
        dite (ℕ_discrete e.caller c)
            (λ (mine : e.caller ≡ c). q.1 (sym mine) ∙ ap (λ (v : View Mark). settled marks v (mark cd m e.part)) (old.1 ∙ ap (given cd m (claimed_view seen_key c)) (ap (entry_of done) (sym mine) ∙ none_yet))
            ∙ ap (λ (b : Bool). given cd m (claimed_view seen_key c) (cond b (Some e) (entry_of done c))) (sym (eq-eqb e.caller c mine)))
            (λ (other : e.caller ≢ c). q.2 (λ z. other (sym z)) ∙ old.1 ∙ ap (λ (b : Bool). given cd m (claimed_view seen_key c) (cond b (Some e) (entry_of done c))) (sym (ne_eqb e.caller c other))),
      );
    }
