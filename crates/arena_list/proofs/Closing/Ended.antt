-- What a closed list gives: its values, from the marks that its seats know of them.
use Rattle.std.proofs.Common.{◌≡◌, ◌≢◌, ℕ, zero, suc, ◌+◌, ◌≤◌, List, [], ◌∷◌, ◌++◌, map, length, reverse, sym, refl, ap, subst, ◌∙◌, inl, inr, ⊎_elim, arith, Option, Some, None}
use Rattle.std.proofs.lemmas.List.{map-append}
use mathlib.Core.Option as maybe
use mathlib.Core.Option.{some, some-injective, some-ne-none}
use lib.ListN.{get_elem?}
use base.Stored.{Coded}
use Rattle.atomic_table.specs.Table.{Final, Seen}
use Rattle.arena_list.specs.declared.entry.Entry.{Entry}
use Rattle.arena_list.specs.declared.for_clauses.founding.Founding.{Founding}
use Rattle.arena_list.specs.declared.list.ListSeat.{ListSeat}
use Rattle.arena_list.specs.declared.for_clauses.mark.Mark.{Mark}
use Rattle.arena_list.specs.declared.for_clauses.view.Node.{Node}
use Rattle.arena_list.specs.declared.for_clauses.view.View.{View}
use Rattle.arena_list.specs.Words.Core.{slot_count}
use Rattle.arena_list.specs.Words.Written.{value_at, value_count}
use Rattle.arena_list.specs.Words.Nodes.{before, head_of, node_word, Begins}
use Rattle.arena_list.specs.declared.for_clauses.view.Hand.{Hand}
use Rattle.arena_list.specs.declared.for_clauses.view.Hold.TheVariants.{Rests}
use Rattle.arena_list.specs.Rule.Views.{who, shown}
use Rattle.arena_list.specs.Rule.Founded.{Meter, Fits, Differ, node_of, others_of}
use Rattle.arena_list.specs.Calls.Seats.{view, IsAmong}
use Rattle.arena_list.specs.Marks.OfParts.{marks, mark, marked, marked_entry, marked_founding, HoldsSeen}
use Rattle.arena_list.specs.Closing.Closed.{HasTold, AreAtMost, used_sum, AreLinked, AreSpares, AreApart, entry, spares_of, slots_of, hand_of, Rested}
use Rattle.arena_list.specs.Closing.Collected.{place_of, AreIn, AreStored, Fills, Empties}
use Rattle.arena_list.proofs.Words.Few.{at_map, at_mapped, len_map}
use Rattle.arena_list.proofs.Marks.Marked.{map_after, slots_marked, callers_marked, nodes_marked, others_marked, final_seen}
use Rattle.arena_list.proofs.Closing.Ending.{Ends, ends, none_between, count, slots_are, spare_from, spare_there}
use Rattle.arena_list.proofs.Closing.Ending.{others_vacant as marks_vacant}
use Rattle.arena_list.proofs.Marks.Badges.{some_one}
use Rattle.arena_list.proofs.Calls.SeatFacts.{mine_tells, mine_is, spare_tells, spare_is}

mapped : {A B : Type 0} → (A → B) → maybe.Option A → maybe.Option B
mapped f maybe.none = maybe.none
mapped f (maybe.some x) = maybe.some (f x)

at_map_is : {A B : Type 0} (f : A → B) (l : List A) (k : ℕ) → get_elem? (map f l) k ≡ mapped f (get_elem? l k)
unfolding mapped
at_map_is f [] k = refl
at_map_is f (x ∷ xs) zero = refl
at_map_is f (x ∷ xs) (suc k) = at_map_is f xs k

module _ {V : Type 0} (c : Coded V) (m : Meter V) where
  abbrev f : Option V → Option Mark
  f = marked c m

  abbrev me : Entry V → Entry Mark
  me = marked_entry c m

  -- no two values have one mark
  pub one_part : (x y : V) → mark c m x ≡ mark c m y → x ≡ y
  one_part x y e = c.inj x y (ap (λ (p : Mark). p.code) e)

  one_entry : (a b : Entry V) → me a ≡ me b → a ≡ b
  one_entry a b e = λ i. entry (ap (λ (x : Entry Mark). x.slot) e i) (ap (λ (x : Entry Mark). x.caller) e i) (one_part a.part b.part (ap (λ (x : Entry Mark). x.part) e) i)

  pub some_value : (x : Option V) (p : Mark) → f x ≡ Some p → (y : V) × (x ≡ Some y) × (mark c m y ≡ p)
  some_value None p e = absurd cc
  some_value (Some y) p e = (y, refl, some_one (mark c m y) p e)

  pub no_value : (x : Option V) → f x ≡ None → x ≡ None
  no_value None e = refl
  no_value (Some y) e = absurd cc

  -- the part in a slot, from its mark
  part_there : (parts : List (Option V)) (i : ℕ) (y : V) → get_elem? (map f parts) i ≡ some (Some (mark c m y)) → get_elem? parts i ≡ some (Some y)
  part_there parts i y e = let p = at_mapped f parts i (Some (mark c m y)) e in let v = some_value p.0 (mark c m y) p.2 in p.1 ∙ ap (λ (x : Option V). some x) (v.1 ∙ ap (λ (z : V). Some z) (one_part v.0 y v.2))

  none_there : (parts : List (Option V)) (i : ℕ) → get_elem? (map f parts) i ≡ some None → get_elem? parts i ≡ some None
  none_there parts i e = let p = at_mapped f parts i None e in p.1 ∙ ap (λ (x : Option V). some x) (no_value p.0 p.2)

  among_marked : (es : List (Entry V)) (e : Entry V) → IsAmong es e → IsAmong (map me es) (me e)
  among_marked es e t = (t.0, at_map me es t.0 e t.1)

  among_back : (es : List (Entry V)) (e : Entry V) → IsAmong (map me es) (me e) → IsAmong es e
  among_back es e t = let p = at_mapped me es t.0 (me e) t.1 in (t.0, p.1 ∙ ap (λ (x : Entry V). some x) (one_entry p.0 e p.2))

  -- entries whose marks these are
  pub pulled_entries : (parts : List (Option V)) (es : List (Entry Mark)) → ((i : ℕ) (e : Entry Mark) → get_elem? es i ≡ some e → get_elem? (map f parts) e.slot ≡ some (Some e.part)) → (rs : List (Entry V)) × (map me rs ≡ es)
  pulled_entries parts [] there = ([], refl)
  pulled_entries parts (e ∷ es) there = let p = at_mapped f parts e.slot (Some e.part) (there 0 e refl) in let y = some_value p.0 e.part p.2 in let r = pulled_entries parts es (λ i. there (suc i)) in
      (entry e.slot e.caller y.0 ∷ r.0, (λ i. entry e.slot e.caller (y.2 i) ∷ r.1 i))

  fills_marked : (old new : List (Option V)) (es : List (Entry V)) → Fills old new es → Fills (map f old) (map f new) (map me es)
  fills_marked old new es o = record {
    here = λ i e at. let p = at_mapped me es i e at in subst (λ (x : Entry Mark). get_elem? (map f new) x.slot ≡ some (Some x.part)) p.2 (at_map f new p.0.slot (Some p.0.part) (o.here i p.0 p.1));
    only = λ k x at. let p = at_mapped f new k x at in ⊎_elim (λ t. inl (at_map f old k p.0 t ∙ ap (λ (z : Option Mark). some z) p.2)) (λ t. inr (t.0, me t.1, at_map me es t.0 t.1 t.2, t.3)) (o.only k p.0 p.1);
    rest = λ k none. at_map_is f new k ∙ ap (mapped f) (o.rest k (λ i e at. none i (me e) (at_map me es i e at))) ∙ sym (at_map_is f old k);
  }

  empties_marked : (old new : List (Option V)) (es : List (Entry V)) → Empties old new es → Empties (map f old) (map f new) (map me es)
  empties_marked old new es o = record {
    gone = λ i e at. let p = at_mapped me es i e at in subst (λ (x : Entry Mark). get_elem? (map f new) x.slot ≡ some None) p.2 (at_map f new p.0.slot None (o.gone i p.0 p.1));
    only = λ k x at. let p = at_mapped f new k x at in ⊎_elim (λ t. inl (sym p.2 ∙ ap f t)) (λ t. inr (at_map f old k p.0 t ∙ ap (λ (z : Option Mark). some z) p.2)) (o.only k p.0 p.1);
    rest = λ k none. at_map_is f new k ∙ ap (mapped f) (o.rest k (λ i e at. none i (me e) (at_map me es i e at))) ∙ sym (at_map_is f old k);
  }

  in_back : (parts : List (Option V)) (es : List (Entry V)) → AreIn (map f parts) (map me es) → AreIn parts es
  in_back parts es o = record {
    apart = subst Differ (slots_marked c m es) o.apart;
    there = λ i e at. part_there parts e.slot e.part (o.there i (me e) (at_map me es i e at));
  }

  stored_back : (words : List ℕ) (parts : List (Option V)) (es : List (Entry V)) → AreStored words (map f parts) (map me es) → AreStored words parts es
  stored_back words parts es o = record {
    head = o.head ∙ ap head_of (nodes_marked c m es);
    nodes = λ k e at. o.nodes k (me e) (at_map me es k e at) ∙ ap (λ (ns : List Node). node_word e.caller (before ns k)) (nodes_marked c m es);
    small = λ k e at. o.small k (me e) (at_map me es k e at);
    few = (let l = len_map me es in let a = o.few in omega arith);
    values = in_back parts es o.values;
  }

  used_marked : (es : List (Entry V)) → used_sum marks (map me es) ≡ used_sum m es
  used_marked [] = refl
  used_marked (e ∷ es) = ap (λ (n : ℕ). m.used e.part + n) (used_marked es)

  fits_back : (life who : ℕ) (part : V) → Fits marks life who (mark c m part) → Fits m life who part
  fits_back life who part o = record { owner = o.owner; life_is = o.life_is; used = o.used }

  apart_back : (life : ℕ) (es : List (Entry V)) → AreApart marks life (map me es) → AreApart m life es
  apart_back life es o = record {
    slots = subst Differ (slots_marked c m es) o.slots;
    callers = subst Differ (callers_marked c m es) o.callers;
    small = λ i e at. o.small i (me e) (at_map me es i e at);
    parts = λ i e at. fits_back life e.caller e.part (o.parts i (me e) (at_map me es i e at));
  }

  pub places_marked : (es : List (Entry V)) → map place_of (map me es) ≡ map place_of es
  places_marked es = map_after me place_of place_of (λ e. refl) es

-- the entries that the words of a closed list write down, where `filled` has the values of its slots and those of the others, and what is left when the entries have theirs
pub record Ended {V : Type 0} (c : Coded V) (m : Meter V) (k : Founding V) (v : View Mark) (seats : List ListSeat) (words : List ℕ) (filled : List (Option V)) : Type 0 where
  pub entries : List (Entry V)
  pub stored : (words' : List ℕ) → words' ≡ words → AreStored words' filled entries
  pub count : length seats ≡ length k.callers.items
  pub linked : ((i : ℕ) (t : ListSeat) → get_elem? seats i ≡ some t → HasTold v (view t).seen) → AreLinked c m (others_of k.linked.items k.callers.items) k.linked.items seats entries
  pub used : ((i : ℕ) (t : ListSeat) → get_elem? seats i ≡ some t → HasTold v (view t).seen) → ((i : ℕ) (t : ListSeat) → get_elem? seats i ≡ some t → AreAtMost (view t).sizes v.sizes)
      → (i : ℕ) (t : ListSeat) → get_elem? seats i ≡ some t → shown (view t) ≤ used_sum m entries
  pub apart : (spare : List (Entry V)) → map (marked_entry c m) spare ≡ spares_of (map hand_of seats) → AreApart m k.life (entries ++ spare)
  -- the spare entries, with the values that are left when those of the list are out
  pub spares : (rest : List (Option V)) → Empties filled rest entries → (spare : List (Entry V)) × (map (marked_entry c m) spare ≡ spares_of (map hand_of seats)) × (slots_of seats ≡ map place_of spare) × AreIn rest spare
  pub spares_are : (spare : List (Entry V)) → map (marked_entry c m) spare ≡ spares_of (map hand_of seats) → AreSpares c m seats spare
  pub none_left : (rest left : List (Option V)) (spare : List (Entry V)) → Empties filled rest entries → map (marked_entry c m) spare ≡ spares_of (map hand_of seats) → Empties rest left spare → (i : ℕ) (x : Option V) → get_elem? left i ≡ some x → x ≡ None

-- between the values of the slots there is none
pub between_empty : {V : Type 0} (c : Coded V) (m : Meter V) (k : Founding V) (id : ℕ) (v : View Mark) (words : List ℕ) (slots : List (Option V)) → Final (Seen (HoldsSeen c m k) id v) words slots → length slots ≡ value_count
    → (place : ℕ) (x : Option V) → get_elem? slots place ≡ some x → ((slot : ℕ) → place ≢ value_at slot) → x ≡ None
between_empty c m k id v words slots final long place x there off = no_value c m x
    (none_between marks (marked_founding c m k) id v words (map (f c m) slots) (final_seen c m k id v words slots final) (len_map (f c m) slots ∙ long) place (f c m x) (at_map (f c m) slots place x there) off)

module _ {V : Type 0} (c : Coded V) (m : Meter V) (k : Founding V) (id : ℕ) (v : View Mark) (words : List ℕ) (slots parts : List (Option V)) (seats : List ListSeat) (final : Final (Seen (HoldsSeen c m k) id v) words slots)
    (taken : (i : ℕ) (x : Option V) → get_elem? parts i ≡ some x → get_elem? slots (value_at i) ≡ some x) (long : length parts ≡ slot_count)
    (hands : v.hands ≡ reverse (map hand_of seats)) (enough : length k.callers.items ≤ length seats) (rested : (i : ℕ) (t : ListSeat) → get_elem? seats i ≡ some t → Rested t) where
  abbrev key : Founding Mark
  key = marked_founding c m k

  taken_marked : (i : ℕ) (x : Option Mark) → get_elem? (map (f c m) parts) i ≡ some x → get_elem? (map (f c m) slots) (value_at i) ≡ some x
  taken_marked i x at = let p = at_mapped (f c m) parts i x at in at_map (f c m) slots (value_at i) p.0 (taken i p.0 p.1) ∙ ap (λ (z : Option Mark). some z) p.2

  module _ (entries : List (Entry V)) (is : entries ≡ others_of k.linked.items k.callers.items) where
    is_marked : map (me c m) entries ≡ others_of key.linked.items key.callers.items
    is_marked = ap (map (me c m)) is ∙ sym (others_marked c m k.linked.items k.callers.items)

    -- the slots of other callers' entries are empty
    pub others_vacant : (j : ℕ) (e : Entry V) → get_elem? entries j ≡ some e → get_elem? parts e.slot ≡ some None
    others_vacant j e at = none_there c m parts e.slot
        (marks_vacant marks key id v words (map (f c m) slots) (map (f c m) parts) seats (final_seen c m k id v words slots final) taken_marked (len_map (f c m) parts ∙ long) hands enough rested (map (me c m) entries) is_marked j (me c m e) (at_map (me c m) entries j e at))

    module _ (filled : List (Option V)) (fills : Fills parts filled entries) where
      of_marks : Ends marks key v seats words (map (f c m) filled)
      of_marks = ends marks key id v words (map (f c m) slots) (map (f c m) parts) seats (final_seen c m k id v words slots final) taken_marked (len_map (f c m) parts ∙ long) hands enough rested (map (f c m) filled) (map (me c m) entries) is_marked (fills_marked c m parts filled entries fills)

      all_pulled : (rs : List (Entry V)) × (map (me c m) rs ≡ of_marks.entries)
      all_pulled = pulled_entries c m filled of_marks.entries (of_marks.stored words refl).values.there

      all_entries : List (Entry V)
      all_entries = all_pulled.0

      entries_are : map (me c m) all_entries ≡ of_marks.entries
      unfolding all_entries
      entries_are = all_pulled.1

      emptied_marked : (rest : List (Option V)) → Empties filled rest all_entries → Empties (map (f c m) filled) (map (f c m) rest) of_marks.entries
      emptied_marked rest o = subst (λ (es : List (Entry Mark)). Empties (map (f c m) filled) (map (f c m) rest) es) entries_are (empties_marked c m filled rest all_entries o)

      others_are : others_of key.linked.items key.callers.items ≡ map (me c m) (others_of k.linked.items k.callers.items)
      others_are = others_marked c m k.linked.items k.callers.items

      -- an entry that stands among the marks
      found : (e : Entry Mark) → IsAmong of_marks.entries e → (a : Entry V) × IsAmong all_entries a × (me c m a ≡ e)
      found e t = let p = at_mapped (me c m) all_entries t.0 e (ap (λ (es : List (Entry Mark)). get_elem? es t.0) entries_are ∙ t.1) in (p.0, (t.0, p.1), p.2)

      linked_are : ((i : ℕ) (t : ListSeat) → get_elem? seats i ≡ some t → HasTold v (view t).seen) → AreLinked c m (others_of k.linked.items k.callers.items) k.linked.items seats all_entries
      linked_are told = let l = of_marks.linked told in let there = sym entries_are in record {
        known = λ e t. ⊎_elim (λ x. let own = x.4 in inl (x.0, x.1, x.2, record { slot_is = mine_is (view x.1) e.slot x.3 own.0; caller_is = sym own.1; value = own.2 }))
            (λ x. inr (among_back c m (others_of k.linked.items k.callers.items) e (subst (λ (es : List (Entry Mark)). IsAmong es (me c m e)) others_are x)))
            (l.known (me c m e) (subst (λ (es : List (Entry Mark)). IsAmong es (me c m e)) entries_are (among_marked c m all_entries e t)));
        joined = λ i s slot at own. let o = mine_tells (view s) slot own in let r = rested i s at in
            let f = found (entry slot (who (view s)) r.0) (l.joined (entry slot (who (view s)) r.0) (i, s, at, o.0, (sym o.1, refl, r.1))) in
            (f.0, f.1, record { slot_is = own ∙ ap (λ (e : Entry Mark). Some e.slot) (sym f.2); caller_is = ap (λ (e : Entry Mark). e.caller) (sym f.2); value = r.1 ∙ ap (λ (e : Entry Mark). Rests e.part) (sym f.2) });
        valued = λ i s slot part at own value. let o = mine_tells (view s) slot own in among_back c m all_entries (entry slot (who (view s)) part)
            (subst (λ (es : List (Entry Mark)). IsAmong es (entry slot (who (view s)) (mark c m part))) there (l.joined (entry slot (who (view s)) (mark c m part)) (i, s, at, o.0, (sym o.1, refl, value))));
        wards_are = λ e t. among_back c m all_entries e (subst (λ (es : List (Entry Mark)). IsAmong es (me c m e)) there (l.wards_are (me c m e) (subst (λ (es : List (Entry Mark)). IsAmong es (me c m e)) (sym others_are) (among_marked c m (others_of k.linked.items k.callers.items) e t))));
        seen = λ i t a. subst (Begins (view t).seen) (ap (map node_of) there ∙ nodes_marked c m all_entries) (l.seen i t a);
        founded = subst (λ (x : List Node × List Node). Begins x.0 x.1) (λ i. (nodes_marked c m k.linked.items i, (ap (map node_of) there ∙ nodes_marked c m all_entries) i)) l.founded;
      }

      spares_are : (es : List (Entry V)) → map (me c m) es ≡ spares_of (map hand_of seats) → AreSpares c m seats es
      spares_are es is = record {
        known = λ e t. let p = spare_from (map hand_of seats) (me c m e) (subst (λ (l : List (Entry Mark)). IsAmong l (me c m e)) is (among_marked c m es e t)) in let s = at_mapped hand_of seats p.0 p.1 p.2 in let own = p.4 in (
          p.0,
          s.0,
          s.1,
          record {
            slot_is = spare_is (view s.0) e.slot (ap (λ (h : Hand Mark). h.linked) s.2 ∙ p.3) (own.0 ∙ ap (λ (h : Hand Mark). h.slot) (sym s.2));
            caller_is = ap (λ (h : Hand Mark). h.who) s.2 ∙ sym own.1;
            value = ap (λ (h : Hand Mark). h.hold) s.2 ∙ own.2;
          },
        );
        there = λ i s slot at own. let o = spare_tells (view s) slot own in let r = rested i s at in let t = spare_there (map hand_of seats) i (hand_of s) r.0 (at_map hand_of seats i s at) o.0 r.1 in
            let p = at_mapped (me c m) es t.0 (entry (hand_of s).slot (hand_of s).who r.0) (ap (λ (l : List (Entry Mark)). get_elem? l t.0) is ∙ t.1) in
            (p.0, (t.0, p.1), record { slot_is = own ∙ ap Some (sym o.1) ∙ ap (λ (e : Entry Mark). Some e.slot) (sym p.2); caller_is = ap (λ (e : Entry Mark). e.caller) (sym p.2); value = r.1 ∙ ap (λ (e : Entry Mark). Rests e.part) (sym p.2) });
        order = is;
      }

      spare_pulled : (rest : List (Option V)) → Empties filled rest all_entries → (spare : List (Entry V)) × (map (me c m) spare ≡ spares_of (map hand_of seats)) × (slots_of seats ≡ map place_of spare) × AreIn rest spare
      spare_pulled rest o = let own = of_marks.spares (map (f c m) rest) (emptied_marked rest o) in let p = pulled_entries c m rest (spares_of (map hand_of seats)) own.there in (
        p.0,
        p.1,
        slots_are seats rested ∙ ap (map place_of) (sym p.1) ∙ places_marked c m p.0,
        in_back c m rest p.0 (subst (λ (es : List (Entry Mark)). AreIn (map (f c m) rest) es) (sym p.1) own),
      )

      pub ended : Ended c m k v seats words filled
      ended = record {
        entries = all_entries;
        stored = λ words' same. stored_back c m words' filled all_entries (subst (λ (es : List (Entry Mark)). AreStored words' (map (f c m) filled) es) (sym entries_are) (of_marks.stored words' same));
        count = count marks key id v words (map (f c m) slots) (map (f c m) parts) seats (final_seen c m k id v words slots final) taken_marked (len_map (f c m) parts ∙ long) hands enough rested;
        linked = linked_are;
        spares_are = spares_are;
        used = λ told sizes i t a. (let low = of_marks.used told sizes i t a in let same = ap (used_sum marks) (sym entries_are) ∙ used_marked c m all_entries in omega arith);
        apart = λ spare is'. apart_back c m k.life (all_entries ++ spare) (subst (λ (es : List (Entry Mark)). AreApart marks k.life es) ((λ i. sym entries_are i ++ sym is' i) ∙ sym (map-append (me c m) all_entries spare)) of_marks.apart);
        spares = spare_pulled;
        none_left = λ rest left spare o is' gone i x at. no_value c m x (of_marks.none_left (map (f c m) rest) (map (f c m) left) (emptied_marked rest o)
            (subst (λ (es : List (Entry Mark)). Empties (map (f c m) rest) (map (f c m) left) es) is' (empties_marked c m rest left spare gone)) i (f c m x) (at_map (f c m) left i x at));
      }
