-- A list that was just made is what `make` says.
use Rattle.std.proofs.Common.{◌≡◌, ℕ, suc, ◌+◌, Bool, true, false, not, cond, List, [], ◌∷◌, ◌++◌, length, map, reverse, sym, refl, ap, subst, ◌∙◌, arith, ⊎_elim, Some}
use Rattle.std.specs.Prelude.{filter}
use Rattle.std.proofs.lemmas.List.{reverse-reverse}
use mathlib.Core.Option.{some}
use lib.ListN.{get_elem?}
use base.Stored.{Coded}
use Rattle.arena_list.specs.declared.entry.Entry.{Entry}
use Rattle.arena_list.specs.declared.for_clauses.founding.Founding.{Founding}
use Rattle.arena_list.specs.declared.list.ListSeat.{ListSeat}
use Rattle.arena_list.specs.declared.list.ArenaList.{ArenaList}
use Rattle.arena_list.specs.Rule.Founded.{Meter, AreFit, IsLaid, Fits, Differ, has, slot, caller, others_of, entry_of, hand_from, fresh}
use Rattle.arena_list.proofs.Words.Lists.{at_more, at_below}
use Rattle.arena_list.proofs.Steps.Seats.{at_behind}
use Rattle.arena_list.proofs.Words.Few.{at_map, at_mapped}
use Rattle.arena_list.proofs.Rule.Opening.{entry_for, entry_at, filter_tells, differ_tail, differ_cons}
use Rattle.arena_list.proofs.Calls.Searches.{entry_first, entry_absent, hand_linked, hand_spare}
use Rattle.arena_list.proofs.Making.Filling.{all_once}
use Rattle.arena_list.specs.Marks.OfParts.{marks, mark, marked_entry, marked_founding}
use Rattle.arena_list.proofs.Calls.SeatFacts.{seen_own}
use Rattle.arena_list.specs.Making.Made.{AreSeats, IsFirst, AreFirst, view_with, given, claimed_view}
use Rattle.arena_list.specs.declared.for_clauses.mark.Mark.{Mark}
use Rattle.arena_list.specs.declared.for_clauses.view.Hand.{Hand}
use Rattle.arena_list.specs.declared.for_clauses.view.Hold.TheVariants.{Rests}
use Rattle.arena_list.specs.declared.for_clauses.view.View.{View}
use Rattle.arena_list.specs.Rule.Views.{mine, spare, out, when, unless}
use Rattle.arena_list.specs.Rule.Views.{who as who_of}
use Rattle.arena_list.specs.Calls.Seats.{view, IsSeatOf, IsAmong}
use Rattle.arena_list.specs.Steps.After.{settled}
use Rattle.arena_list.proofs.Making.Dealing.{hand_who}
use Rattle.arena_list.proofs.Marks.Marked.{fits_marked, fit_marked, nodes_marked}

module _ {V : Type 0} (m : Meter V) (life : ℕ) (l l' s s' : List (Entry V)) (c c' : List ℕ) where
  pub fit_as : l' ≡ l → s' ≡ s → c' ≡ c → AreFit m life l s c → AreFit m life l' s' c'
  fit_as p q r f = subst (λ (z : List (Entry V) × List (Entry V) × List ℕ). AreFit m life z.0 z.1 z.2) (λ i. (sym p i, sym q i, sym r i)) f

module _ {V : Type 0} (m : Meter V) (l l' : List (Entry V)) (c c' words : List ℕ) where
  pub laid_as : l' ≡ l → c' ≡ c → IsLaid m l c words → IsLaid m l' c' words
  laid_as p q f = subst (λ (z : List (Entry V) × List ℕ). IsLaid m z.0 z.1 words) (λ i. (sym p i, sym q i)) f

module _ {V : Type 0} where
  pub none_yet : (before others spare : List (Entry V)) (callers : List ℕ) → before ≡ [] → others ≡ before ++ reverse (others_of spare callers) → others_of spare callers ≡ [] → others ≡ []
  none_yet before others spare callers p q r = q ∙ (λ i. p i ++ reverse (r i))

  pub in_order : (before others linked linked' : List (Entry V)) (callers : List ℕ) → before ≡ [] → others ≡ before ++ reverse (others_of linked callers) → linked' ≡ linked → reverse others ≡ others_of linked' callers
  in_order before others linked linked' callers p q r = ap reverse q ∙ (λ i. reverse (p i ++ reverse (others_of linked callers))) ∙ reverse-reverse (others_of linked callers) ∙ ap (λ (l : List (Entry V)). others_of l callers) (sym r)

-- the entries of callers without a seat lie in slots that differ
slots_cond : {V : Type 0} (b : Bool) (x : Entry V) (ys : List (Entry V)) → Differ (map slot ys) → ((i : ℕ) → ¬ (get_elem? (map slot ys) i ≡ some x.slot)) → Differ (map slot (cond b (x ∷ ys) ys))
slots_cond true x ys d new = differ_cons x.slot (map slot ys) d new
slots_cond false x ys d new = d

slots_of_filter : {V : Type 0} (test : Entry V → Bool) (l : List (Entry V)) → Differ (map slot l) → Differ (map slot (filter test l))
slots_of_filter test [] d = d
slots_of_filter test (x ∷ xs) d = slots_cond (test x) x (filter test xs) (slots_of_filter test xs (differ_tail x.slot (map slot xs) d))
    (λ i e. let p = at_mapped slot (filter test xs) i x.slot e in let q = filter_tells test xs i p.0 p.1 in
    let z = d 0 (suc q.0) x.slot refl (at_map slot xs q.0 p.0 q.1 ∙ ap (λ (n : ℕ). some n) p.2) in omega arith)

pub others_apart : {V : Type 0} (m : Meter V) (life : ℕ) (linked linked' spare : List (Entry V)) (callers : List ℕ) → AreFit m life linked spare callers → linked' ≡ linked → (others : List (Entry V)) → others ≡ others_of linked' callers → Differ (map slot others)
others_apart m life linked linked' spare callers fit same others is = subst (λ (l : List (Entry _)). Differ (map slot l)) (sym (is ∙ ap (λ (l : List (Entry _)). others_of l callers) same))
    (slots_of_filter (λ e. not (has callers e.caller)) linked (λ i j x a b. fit.slots i j x (in_all i x a) (in_all j x b))) where
      in_all : (i x : ℕ) → get_elem? (map slot linked) i ≡ some x → get_elem? (map slot (linked ++ spare)) i ≡ some x
      in_all i x a = let p = at_mapped slot linked i x a in at_map slot (linked ++ spare) i p.0 (at_more linked spare i p.0 p.1) ∙ ap (λ (n : ℕ). some n) p.2

-- a caller's entry is found among all
entry_there : {V : Type 0} (m : Meter V) (life : ℕ) (linked spare : List (Entry V)) (callers : List ℕ) (fit : AreFit m life linked spare callers) (i : ℕ) (e : Entry V) → get_elem? (linked ++ spare) i ≡ some e → entry_of (linked ++ spare) e.caller ≡ Some e
entry_there m life linked spare callers fit i e at = entry_first (linked ++ spare) e.caller i e
    (λ k x low there. λ same. let one = all_once m life linked spare callers fit k i x e there at same in omega arith) at refl

-- and among those of its kind
module _ {V : Type 0} (m : Meter V) (life : ℕ) (linked spare : List (Entry V)) (callers : List ℕ) (fit : AreFit m life linked spare callers) where
  linked_hand : (e : Entry V) → IsAmong linked e → hand_from linked spare e.caller ≡ fresh true e
  linked_hand e t = hand_linked linked spare e.caller e (entry_first linked e.caller t.0 e
      (λ k x low there. λ same. let one = fit.linked_once k t.0 e.caller (at_map caller linked k x there ∙ ap (λ (n : ℕ). some n) same) (at_map caller linked t.0 e t.1) in omega arith) t.1 refl)

  spare_hand : (e : Entry V) → IsAmong spare e → hand_from linked spare e.caller ≡ fresh false e
  spare_hand e t = hand_spare linked spare e.caller e
      (entry_absent linked e.caller (λ k x there. λ same. let low = at_below linked k x there in
      let one = all_once m life linked spare callers fit k (length linked + t.0) x e (at_more linked spare k x there) (at_behind linked spare t.0 e t.1) same in omega arith))
      (entry_first spare e.caller t.0 e
      (λ k x low there. λ same. let one = all_once m life linked spare callers fit (length linked + k) (length linked + t.0) x e (at_behind linked spare k x there) (at_behind linked spare t.0 e t.1) same in omega arith) t.1 refl)

module _ {V : Type 0} (cd : Coded V) (m : Meter V) (list : ArenaList V) (fit : AreFit m list.table.shared.key.life list.table.shared.key.linked.items list.table.shared.key.spare.items list.table.shared.key.callers.items) where
  abbrev key : Founding V
  key = list.table.shared.key

  abbrev linked : List (Entry V)
  linked = key.linked.items

  abbrev spares : List (Entry V)
  spares = key.spare.items

  abbrev me : Entry V → Entry Mark
  me = marked_entry cd m

  abbrev seen_key : Founding Mark
  seen_key = marked_founding cd m key

  seen_fit : AreFit marks seen_key.life seen_key.linked.items seen_key.spare.items seen_key.callers.items
  seen_fit = fit_marked cd m key.life linked spares key.callers.items fit

  own_entry : (i who : ℕ) → get_elem? key.callers.items i ≡ some who → (e : Entry V) × (entry_of (linked ++ spares) who ≡ Some e)
  own_entry i who at = ⊎_elim
      (λ t. (t.1, ap (entry_of (linked ++ spares)) (sym t.3) ∙ entry_there m key.life linked spares key.callers.items fit t.0 t.1 (at_more linked spares t.0 t.1 t.2)))
      (λ t. (t.1, ap (entry_of (linked ++ spares)) (sym t.3) ∙ entry_there m key.life linked spares key.callers.items fit (length linked + t.0) t.1 (at_behind linked spares t.0 t.1 t.2)))
      (entry_for m key fit i who at)

  same_entry : (who : ℕ) (a b : Entry V) → entry_of (linked ++ spares) who ≡ Some a → IsAmong (linked ++ spares) b → b.caller ≡ who → a ≡ b
  same_entry who a b is t own = let other = ap (entry_of (linked ++ spares)) (sym own) ∙ entry_there m key.life linked spares key.callers.items fit t.0 b t.1 in let one : Some a ≡ Some b = sym is ∙ other in cc

  -- the seat of a caller whose entry was given
  is_first : (i who : ℕ) (s : ListSeat) (e : Entry V) → get_elem? key.callers.items i ≡ some who → IsSeatOf list s → entry_of (linked ++ spares) who ≡ Some e
      → view s ≡ settled marks (claimed_view seen_key who) (mark cd m e.part) → IsFirst cd m list linked spares who s
  is_first i who s e at of is view_is = let p = entry_at (linked ++ spares) who e is in
      let whose : who_of (view s) ≡ who = ap who_of view_is ∙ hand_who marks seen_key seen_fit i who at in record {
        of_list = of;
        who_is = whose;
        entry = (e, (p.0, p.1), p.2);
        own = λ j x a own. let h = ap (hand_from seen_key.linked.items seen_key.spare.items) (sym own) ∙ linked_hand marks seen_key.life seen_key.linked.items seen_key.spare.items seen_key.callers.items seen_fit (me x) (j, at_map me linked j x a) in
            ap mine view_is ∙ ap (λ (y : Hand Mark). when y.linked y.slot) h;
        beside = λ j x a own. let h = ap (hand_from seen_key.linked.items seen_key.spare.items) (sym own) ∙ spare_hand marks seen_key.life seen_key.linked.items seen_key.spare.items seen_key.callers.items seen_fit (me x) (j, at_map me spares j x a) in
            ap spare view_is ∙ ap (λ (y : Hand Mark). unless y.linked y.slot) h;
        own_value = λ j x a own. ap out view_is ∙ ap (λ (y : Entry V). Rests (mark cd m y.part)) (same_entry who e x is (j, at_more linked spares j x a) own);
        beside_value = λ j x a own. ap out view_is ∙ ap (λ (y : Entry V). Rests (mark cd m y.part)) (same_entry who e x is (length linked + j, at_behind linked spares j x a) own);
        rests = (mark cd m e.part, ap out view_is, subst (λ (w : ℕ). Fits marks key.life w (mark cd m e.part)) (p.2 ∙ sym whose) (fits_marked cd m key.life e.caller e.part (fit.parts p.0 e p.1)));
        no_step = ap (λ (v : View Mark). v.list_steps) view_is;
        seen_is = ap (λ (v : View Mark). v.seen) view_is ∙ nodes_marked cd m linked;
        seen_own = seen_own marks s.seated;
        base_is = ap (λ (v : View Mark). v.base) view_is;
        opening = (e, is, view_is);
      }

  module _ (linked' spares' : List (Entry V)) (callers : List ℕ) (done : List (Entry V)) (seats : List ListSeat) where
    pub are_first : linked ≡ linked' → spares ≡ spares' → key.callers.items ≡ callers → done ≡ linked ++ spares → AreSeats cd m key list.table.shared.table_id key.callers.items done seats → AreFirst cd m list linked' spares' callers seats
    are_first l p c q o = record {
      count = o.count ∙ ap length c;
      each = λ i who s a b. let at = ap (λ (l : List ℕ). get_elem? l i) c ∙ a in let t = o.each i who s at b in let e = own_entry i who at in
          subst (λ (z : List (Entry V) × List (Entry V)). IsFirst cd m list z.0 z.1 who s) (λ i. (l i, p i))
          (is_first i who s e.0 at t.0 e.1 (t.1 ∙ ap (λ (l : List (Entry V)). view_with cd m key l who) q ∙ ap (given cd m (claimed_view seen_key who)) e.1));
    }
