-- What stands in the slots of a list that is closed, and the entries that come of it.
use Rattle.std.proofs.Common.{◌≡◌, ◌≢◌, ◌⊎◌, ℕ, zero, suc, ◌+◌, ◌-◌, ◌<◌, ◌≤◌, Bool, true, false, cond, List, [], ◌∷◌, ◌++◌, map, length, reverse, sym, refl, ap, subst, ◌∙◌, inl, inr, ⊎_elim, arith, Option, Some, None}
use Rattle.std.proofs.lemmas.Bool.{cases_Bool}
use Rattle.std.proofs.lemmas.List.{length-reverse, reverse-append, reverse-reverse}
use Rattle.std.specs.Prelude.{slice_index}
use mathlib.Core.Option as maybe
use mathlib.Core.Option.{some, none, some-injective, some-ne-none}
use lib.ListN.{get_elem?}
use Rattle.atomic_table.specs.Table.{State, Final, Seen}
use Rattle.arena_list.specs.declared.entry.Entry.{Entry}
use Rattle.arena_list.specs.declared.for_clauses.founding.Founding.{Founding}
use Rattle.arena_list.specs.declared.list.ListSeat.{ListSeat}
use Rattle.arena_list.specs.declared.for_clauses.view.Node.{Node}
use Rattle.arena_list.specs.declared.for_clauses.view.Hold.{Hold}
use Rattle.arena_list.specs.declared.for_clauses.view.Hold.TheVariants.{Vacant, Filling, Moving, Away, Rests}
use Rattle.arena_list.specs.declared.for_clauses.view.Hand.{Hand}
use Rattle.arena_list.specs.declared.for_clauses.mark.Mark.{Mark}
use Rattle.arena_list.specs.declared.for_clauses.view.View.{View}
use Rattle.arena_list.specs.Words.Nodes.{node, before, head_of, node_word, slot_of, Begins}
use Rattle.arena_list.specs.Words.Core.{Standing, slot_count}
use Rattle.arena_list.specs.Words.Written.{value_at, value_count}
use Rattle.arena_list.specs.Rule.Views.{out, shown, sum_seen}
use Rattle.arena_list.specs.Rule.Founded.{Meter, Fits, Differ, slot, caller, node_of, others_of}
use Rattle.arena_list.specs.Rule.Holds.{Holds, HoldsAt, IsHand, hand_count}
use Rattle.arena_list.specs.Calls.Seats.{view, IsAmong}
use Rattle.arena_list.specs.Closing.Closed.{HasTold, AreAtMost, used_sum, AreApart, entry, own_entry, spares_of, slots_of, hand_of, Rested}
use Rattle.arena_list.specs.Closing.Collected.{place_of, AreIn, AreStored, Fills, Empties}
use Rattle.arena_list.proofs.Words.Lists.{at_below, at_there, at_one, at_more, total-one}
use Rattle.arena_list.proofs.Words.Few.{at_map, at_mapped, len_map, slots_differ, few_nodes}
use Rattle.arena_list.proofs.Calls.Sums.{sum_begins}
use Rattle.arena_list.proofs.Rule.Opening.{differ_cons}
use Rattle.arena_list.proofs.Rule.Moved.{slot_tells, who_tells}
use Rattle.arena_list.proofs.Steps.Seats.{at_append, at_behind, at_end_of}
use Rattle.arena_list.proofs.Closing.Collecting.{once}
use Rattle.arena_list.proofs.Closing.OneView.{stands_here, node_of_hand, hand_value}

module _ {A : Type 0} where
  -- a list from its end on
  pub at_reverse : (l : List A) (k : ℕ) (a : A) → get_elem? l k ≡ some a → get_elem? (reverse l) (length l - 1 - k) ≡ some a
  at_reverse [] k a e = absurd (some-ne-none a (sym e))
  at_reverse (x ∷ xs) zero a e = ap (λ (l : List A). get_elem? l (suc (length xs) - 1 - 0)) (reverse-append (x ∷ []) xs)
      ∙ ap (get_elem? (reverse xs ++ x ∷ [])) (let r = length-reverse xs in let z : suc (length xs) - 1 - 0 ≡ length (reverse xs) = omega arith in z) ∙ at_end_of (reverse xs) x ∙ e
  at_reverse (x ∷ xs) (suc k) a e = ap (λ (l : List A). get_elem? l (suc (length xs) - 1 - suc k)) (reverse-append (x ∷ []) xs)
      ∙ ap (get_elem? (reverse xs ++ x ∷ [])) (let low = at_below xs k a e in let z : suc (length xs) - 1 - suc k ≡ length xs - 1 - k = omega arith in z) ∙ at_more (reverse xs) (x ∷ []) (length xs - 1 - k) a (at_reverse xs k a e)

-- the entry is the hand's: its slot, its caller, and the value that rests there
abbrev pub IsOwn : Hand Mark → Entry Mark → Type 0
IsOwn h e = (e.slot ≡ h.slot) × (e.caller ≡ h.who) × (h.hold ≡ Rests e.part)

-- the entry is that of a seat whose slot is in the list
abbrev pub IsListedHand : List ListSeat → Entry Mark → Type 0
IsListedHand seats e = (k : ℕ) × (s : ListSeat) × (get_elem? seats k ≡ some s) × ((hand_of s).linked ≡ true) × IsOwn (hand_of s) e

-- what the contract of closing says of the linked entries, of their marks
pub record AreCollected (wards begun : List (Entry Mark)) (seats : List ListSeat) (es : List (Entry Mark)) : Type 0 where
  pub known : (e : Entry Mark) → IsAmong es e → IsListedHand seats e ⊎ IsAmong wards e
  pub joined : (e : Entry Mark) → IsListedHand seats e → IsAmong es e
  pub wards_are : (e : Entry Mark) → IsAmong wards e → IsAmong es e
  pub seen : (k : ℕ) (s : ListSeat) → get_elem? seats k ≡ some s → Begins (view s).seen (map node_of es)
  pub founded : Begins (map node_of begun) (map node_of es)

-- ---- spare entries, hand by hand
module _ where
  own_is : (h : Hand Mark) (part : Mark) → h.hold ≡ Rests part → own_entry h ≡ entry h.slot h.who part ∷ []
  own_is h part e = ap (λ (x : Hold Mark). own_entry (record h { hold = x })) e

  spares_cons : (b : Bool) (own rest : List (Entry Mark)) (i : ℕ) (e : Entry Mark) → get_elem? (cond b rest (own ++ rest)) i ≡ some e → IsAmong rest e ⊎ ((b ≡ false) × IsAmong own e)
  spares_cons true own rest i e at = inl (i, at)
  spares_cons false own rest i e at = ⊎_elim (λ t. inr (refl, (i, t))) (λ t. inl (t.0, t.2)) (at_append own rest i e at)

  own_among : (h : Hand Mark) (e : Entry Mark) → IsAmong (own_entry h) e → IsOwn h e
  own_among h e t = by h.hold t.0 refl t.1 where
    by : (x : Hold Mark) (i : ℕ) → h.hold ≡ x → get_elem? (own_entry (record h { hold = x })) i ≡ some e → IsOwn h e
    by Vacant i is at = absurd (some-ne-none e (sym at))
    by Filling i is at = absurd (some-ne-none e (sym at))
    by (Moving used) i is at = absurd (some-ne-none e (sym at))
    by (Away used) i is at = absurd (some-ne-none e (sym at))
    by (Rests part) zero is at = let same = some-injective (entry h.slot h.who part) e at in (ap (λ (x : Entry Mark). x.slot) (sym same), ap (λ (x : Entry Mark). x.caller) (sym same), is ∙ ap (λ (x : Entry Mark). Rests x.part) same)
    by (Rests part) (suc i) is at = absurd (some-ne-none e (sym at))

  -- a spare entry is some hand's
  pub spare_from : (hs : List (Hand Mark)) (e : Entry Mark) → IsAmong (spares_of hs) e → (j : ℕ) × (h : Hand Mark) × (get_elem? hs j ≡ some h) × (h.linked ≡ false) × IsOwn h e
  spare_from [] e t = absurd (some-ne-none e (sym t.1))
  spare_from (h ∷ hs) e t = ⊎_elim
      (λ p. let r = spare_from hs e p in (suc r.0, r.1, r.2, r.3, r.4))
      (λ p. (0, h, refl, p.0, own_among h e p.1))
      (spares_cons h.linked (own_entry h) (spares_of hs) t.0 e t.1)

  among_more : (b : Bool) (own rest : List (Entry Mark)) (e : Entry Mark) → IsAmong rest e → IsAmong (cond b rest (own ++ rest)) e
  among_more true own rest e t = t
  among_more false own rest e t = (length own + t.0, at_behind own rest t.0 e t.1)

  -- and each hand that isn't linked has one
  pub spare_there : (hs : List (Hand Mark)) (j : ℕ) (h : Hand Mark) (part : Mark) → get_elem? hs j ≡ some h → h.linked ≡ false → h.hold ≡ Rests part → IsAmong (spares_of hs) (entry h.slot h.who part)
  spare_there [] j h part at spare is = absurd (some-ne-none h (sym at))
  spare_there (g ∷ hs) zero h part at spare is = let same = some-injective g h at in
      let list : spares_of (g ∷ hs) ≡ own_entry h ++ spares_of hs = ap (λ (x : Hand Mark). cond x.linked (spares_of hs) (own_entry x ++ spares_of hs)) same ∙ ap (λ (b : Bool). cond b (spares_of hs) (own_entry h ++ spares_of hs)) spare in
      (0, ap (λ (l : List (Entry Mark)). get_elem? l 0) (list ∙ ap (λ (l : List (Entry Mark)). l ++ spares_of hs) (own_is h part is)))
  spare_there (g ∷ hs) (suc j) h part at spare is = among_more g.linked (own_entry g) (spares_of hs) (entry h.slot h.who part) (spare_there hs j h part at spare is)

  abbrev pub HaveSlots : List (Hand Mark) → Type 0
  HaveSlots hs = (i j : ℕ) (h k : Hand Mark) → get_elem? hs i ≡ some h → get_elem? hs j ≡ some k → h.slot ≡ k.slot → i ≡ j

  spares_cons_apart : (b : Bool) (h : Hand Mark) (hs : List (Hand Mark)) → ((e f : Entry Mark) → IsAmong (own_entry h) e → IsAmong (spares_of hs) f → e.slot ≢ f.slot) → Differ (map slot (spares_of hs)) → Differ (map slot (cond b (spares_of hs) (own_entry h ++ spares_of hs)))
  spares_cons_apart true h hs other d = d
  spares_cons_apart false h hs other d = by h.hold refl where
    by : (x : Hold Mark) → h.hold ≡ x → Differ (map slot (own_entry (record h { hold = x }) ++ spares_of hs))
    by Vacant is = d
    by Filling is = d
    by (Moving used) is = d
    by (Away used) is = d
    by (Rests part) is = more where
      new : (i : ℕ) → ¬ (get_elem? (map slot (spares_of hs)) i ≡ some h.slot)
      new i at = let p = at_mapped slot (spares_of hs) i h.slot at in other (entry h.slot h.who part) p.0 (0, ap (λ (l : List (Entry Mark)). get_elem? l 0) (own_is h part is)) (i, p.1) (sym p.2)

      more : Differ (h.slot ∷ map slot (spares_of hs))
      more = differ_cons h.slot (map slot (spares_of hs)) d new

  -- spare entries lie apart where the hands do
  pub spares_apart : (hs : List (Hand Mark)) → HaveSlots hs → Differ (map slot (spares_of hs))
  spares_apart [] a = λ i j x p q. absurd (some-ne-none x (sym p))
  spares_apart (h ∷ hs) a = spares_cons_apart h.linked h hs
      (λ e f p q. λ same. let own = own_among h e p in let r = spare_from hs f q in let z = a 0 (suc r.0) h r.1 refl r.2 (sym own.0 ∙ same ∙ r.4.0) in omega arith)
      (spares_apart hs (λ i j x y p q same. let z = a (suc i) (suc j) x y p q same in omega arith))

  -- entries for nodes whose values are there
  pub collected : (parts : List (Option Mark)) (nodes : List Node) → ((i : ℕ) (n : Node) → get_elem? nodes i ≡ some n → (part : Mark) × (get_elem? parts n.slot ≡ some (Some part)))
      → (es : List (Entry Mark)) × (map node_of es ≡ nodes) × ((i : ℕ) (e : Entry Mark) → get_elem? es i ≡ some e → get_elem? parts e.slot ≡ some (Some e.part))
  collected parts [] there = ([], refl, λ i e at. absurd (some-ne-none e (sym at)))
  collected parts (n ∷ ns) there = let p = there 0 n refl in let r = collected parts ns (λ i. there (suc i)) in
      (entry n.slot n.caller p.0 ∷ r.0, (λ i. n ∷ r.1 i), first n p.0 p.1 r.0 r.2) where
        first : (n : Node) (part : Mark) → get_elem? parts n.slot ≡ some (Some part) → (es : List (Entry Mark)) → ((i : ℕ) (e : Entry Mark) → get_elem? es i ≡ some e → get_elem? parts e.slot ≡ some (Some e.part))
            → (i : ℕ) (e : Entry Mark) → get_elem? (entry n.slot n.caller part ∷ es) i ≡ some e → get_elem? parts e.slot ≡ some (Some e.part)
        first n part is es all zero e at = subst (λ (x : Entry Mark). get_elem? parts x.slot ≡ some (Some x.part)) (some-injective (entry n.slot n.caller part) e at) is
        first n part is es all (suc i) e at = all i e at

-- what was seen of slots is at most what their entries use
sum_within : (m : Meter Mark) (sizes : List ℕ) (es : List (Entry Mark)) → ((i : ℕ) (e : Entry Mark) → get_elem? es i ≡ some e → slice_index sizes e.slot ≤ m.used e.part) → sum_seen sizes (map node_of es) ≤ used_sum m es
sum_within m sizes [] h = omega arith
sum_within m sizes (e ∷ es) h = let here = h 0 e refl in let rest = sum_within m sizes es (λ i. h (suc i)) in omega arith

module _ where
  -- as many slots are noted as there are seats at most
  pub slots_within : (seats : List ListSeat) → length (slots_of seats) ≤ length seats
  slots_within [] = omega arith
  slots_within (s ∷ ss) = by s.linked (slots_of ss) (slots_within ss) where
    by : (b : Bool) (slots : List (ℕ × ℕ)) → length slots ≤ length ss → length (cond b slots ((s.slot, s.caller) ∷ slots)) ≤ suc (length ss)
    by true slots low = omega arith
    by false slots low = omega arith

  -- the slots that were noted are those of the spare entries
  pub slots_are : (seats : List ListSeat) → ((k : ℕ) (s : ListSeat) → get_elem? seats k ≡ some s → Rested s) → slots_of seats ≡ map place_of (spares_of (map hand_of seats))
  slots_are [] rested = refl
  slots_are (s ∷ ss) rested = by s (rested 0 s refl) (spares_of (map hand_of ss)) (slots_of ss) (slots_are ss (λ k. rested (suc k))) where
    by : (s : ListSeat) → Rested s → (es : List (Entry Mark)) (slots : List (ℕ × ℕ)) → slots ≡ map place_of es → cond s.linked slots ((s.slot, s.caller) ∷ slots) ≡ map place_of (cond (hand_of s).linked es (own_entry (hand_of s) ++ es))
    by s r es slots is = (λ i. cond (s.seated.linked_is i) (is i) ((s.seated.slot_is i, s.seated.caller_is i) ∷ is i)) ∙ cases (hand_of s).linked where
      cases : (b : Bool) → cond b (map place_of es) (((hand_of s).slot, (hand_of s).who) ∷ map place_of es) ≡ map place_of (cond b es (own_entry (hand_of s) ++ es))
      cases true = refl
      cases false = ap (λ (l : List (Entry Mark)). map place_of (l ++ es)) (sym (own_is (hand_of s) r.0 r.1))

module _ (m : Meter Mark) (k : Founding Mark) (s : State (Option Mark) (View Mark)) (r : Holds m k s) (id : ℕ) (v : View Mark) (at : get_elem? s.views id ≡ some v)
    (seats : List ListSeat) (hands : v.hands ≡ reverse (map hand_of seats)) (count : length seats ≡ length k.callers.items) (rested : (i : ℕ) (t : ListSeat) → get_elem? seats i ≡ some t → Rested t) where
  abbrev others : List (Entry Mark)
  others = others_of k.linked.items k.callers.items

  abbrev spares : List (Entry Mark)
  spares = spares_of (map hand_of seats)

  all_here : length v.hands ≡ length k.callers.items
  all_here = ap length hands ∙ length-reverse (map hand_of seats) ∙ len_map hand_of seats ∙ count

  -- each seat's hand is here, and each hand is a seat's
  hand_at : (i : ℕ) (t : ListSeat) → get_elem? seats i ≡ some t → get_elem? v.hands (length seats - 1 - i) ≡ some (hand_of t)
  hand_at i t a = ap (λ (l : List (Hand Mark)). get_elem? l (length seats - 1 - i)) hands ∙ ap (get_elem? (reverse (map hand_of seats))) (let l = len_map hand_of seats in let z : length seats - 1 - i ≡ length (map hand_of seats) - 1 - i = omega arith in z)
      ∙ at_reverse (map hand_of seats) i (hand_of t) (at_map hand_of seats i t a)

  seat_at : (j : ℕ) (h : Hand Mark) → get_elem? v.hands j ≡ some h → (i : ℕ) × (t : ListSeat) × (get_elem? seats i ≡ some t) × (hand_of t ≡ h)
  seat_at j h a = let i : ℕ = length (reverse (map hand_of seats)) - 1 - j in
      let back : get_elem? (map hand_of seats) i ≡ some h = ap (λ (l : List (Hand Mark)). get_elem? l i) (sym (reverse-reverse (map hand_of seats))) ∙ at_reverse (reverse (map hand_of seats)) j h (ap (λ (l : List (Hand Mark)). get_elem? l j) (sym hands) ∙ a) in
      let p = at_mapped hand_of seats i h back in (i, p.0, p.1, p.2)

  is_hand : (i : ℕ) (t : ListSeat) → get_elem? seats i ≡ some t → IsHand m k.life r.core s.words s.homes r.holder r.place id (length seats - 1 - i) (hand_of t)
  is_hand i t a = (r.hands id (length seats - 1 - i) v (hand_of t) at (hand_at i t a)).1

  seats_apart : HaveSlots (map hand_of seats)
  seats_apart i j h l a b same = let p = at_mapped hand_of seats i h a in let q = at_mapped hand_of seats j l b in
      let one : (hand_of p.0).slot ≡ (hand_of q.0).slot = ap (λ (h : Hand Mark). h.slot) p.2 ∙ same ∙ ap (λ (h : Hand Mark). h.slot) (sym q.2) in
      let x = is_hand i p.0 p.1 in let y = is_hand j q.0 q.1 in
      let places = who_tells m k s r id (length seats - 1 - i) id (length seats - 1 - j) (hand_of p.0) (hand_of q.0) x y (slot_tells m k s r id (length seats - 1 - i) id (length seats - 1 - j) (hand_of p.0) (hand_of q.0) x y one) in
      let is = places.1 in let low = at_below seats i p.0 p.1 in let under = at_below seats j q.0 q.1 in omega arith

  -- no other entry lies in a seat's slot
  hand_apart : (i : ℕ) (t : ListSeat) → get_elem? seats i ≡ some t → (j : ℕ) (e : Entry Mark) → get_elem? others j ≡ some e → e.slot ≢ (hand_of t).slot
  hand_apart i t a j e b = λ same. let own = is_hand i t a in let ward = r.wards j e b in let who : e.caller ≡ (hand_of t).who = some-injective _ _ (sym ward.held ∙ ap r.holder same ∙ own.held) in
      some-ne-none _ (sym own.here ∙ ap r.place (sym who) ∙ ward.no_seat)

  -- a slot of a node is its caller's alone
  node_apart : (i : ℕ) (n : Node) → get_elem? r.core.joined i ≡ some n → (j : ℕ) (t : ListSeat) → get_elem? seats j ≡ some t → (hand_of t).linked ≡ false → n.slot ≢ (hand_of t).slot
  node_apart i n a j t b spare = λ same. let own = is_hand j t b in own.spare spare i n a (some-injective _ _ (sym (r.listed i n a).held ∙ ap r.holder same ∙ own.held))

  -- ---- the values as they were at home, then with those of the others, without those of the list, and without the spare ones
  module _ (homes with_others : List (Option Mark)) (kept : (i : ℕ) (y : Option Mark) → get_elem? s.homes (value_at i) ≡ some (some y) → get_elem? homes i ≡ some y) (filled : Fills homes with_others others) where
    pub seat_value : (i : ℕ) (t : ListSeat) (part : Mark) → get_elem? seats i ≡ some t → out (view t) ≡ Rests part → get_elem? with_others (hand_of t).slot ≡ some (Some part)
    seat_value i t part a is = filled.rest (hand_of t).slot (hand_apart i t a) ∙ kept (hand_of t).slot (Some part) (hand_value m k s r id v at all_here (length seats - 1 - i) (hand_of t) part (hand_at i t a) is)

    linked_hand : (i : ℕ) (n : Node) → get_elem? r.core.joined i ≡ some n → (j : ℕ) (t : ListSeat) → get_elem? seats j ≡ some t → (hand_of t).who ≡ n.caller → (hand_of t).linked ≡ true
    linked_hand i n a j t b same = ⊎_elim (λ t. t) (λ f. absurd ((is_hand j t b).spare f i n a (sym same))) (cases_Bool (hand_of t).linked)

    -- a node is that of a seat, or of another's entry
    pub node_tells : (i : ℕ) (n : Node) (part : Mark) → get_elem? r.core.joined i ≡ some n → get_elem? with_others n.slot ≡ some (Some part) → IsListedHand seats (entry n.slot n.caller part) ⊎ IsAmong others (entry n.slot n.caller part)
    node_tells i n part a there = ⊎_elim
        (λ x. let t = seat_at x.0 x.1 x.2 in let rest = rested t.0 t.1 t.2 in
        let slot_is : (hand_of t.1).slot ≡ n.slot = ap (λ (h : Hand Mark). h.slot) t.3 ∙ x.3 in let who_is : (hand_of t.1).who ≡ n.caller = ap (λ (h : Hand Mark). h.who) t.3 ∙ x.4 in
        let value = seat_value t.0 t.1 rest.0 t.2 rest.1 in
        let one : Some rest.0 ≡ Some part = at_one with_others n.slot (Some rest.0) (Some part) (ap (get_elem? with_others) (sym slot_is) ∙ value) there in let part_is : rest.0 ≡ part = cc in
        inl (t.0, t.1, t.2, linked_hand i n a t.0 t.1 t.2 who_is, (sym slot_is, sym who_is, rest.1 ∙ ap (λ (p : Mark). Rests p) part_is)))
        (λ x. let e = x.1 in let value = filled.here x.0 e x.2 in
        let one : Some e.part ≡ Some part = at_one with_others n.slot (Some e.part) (Some part) (ap (get_elem? with_others) (sym x.3) ∙ value) there in let part_is : e.part ≡ part = cc in
        inr (x.0, x.2 ∙ (λ y. some (entry (x.3 y) (x.4 y) (part_is y)))))
        (node_of_hand m k s r id v at all_here i n a)

    node_value : (i : ℕ) (n : Node) → get_elem? r.core.joined i ≡ some n → (part : Mark) × (get_elem? with_others n.slot ≡ some (Some part))
    node_value i n a = ⊎_elim
        (λ x. let t = seat_at x.0 x.1 x.2 in let rest = rested t.0 t.1 t.2 in (rest.0, ap (get_elem? with_others) (sym x.3 ∙ ap (λ (h : Hand Mark). h.slot) (sym t.3)) ∙ seat_value t.0 t.1 rest.0 t.2 rest.1))
        (λ x. (x.1.part, ap (get_elem? with_others) (sym x.3) ∙ filled.here x.0 x.1 x.2))
        (node_of_hand m k s r id v at all_here i n a)

    all_linked : (es : List (Entry Mark)) × (map node_of es ≡ r.core.joined) × ((i : ℕ) (e : Entry Mark) → get_elem? es i ≡ some e → get_elem? with_others e.slot ≡ some (Some e.part))
    all_linked = collected with_others r.core.joined node_value

    -- the entries that the list's words write down
    pub linked_entries : List (Entry Mark)
    linked_entries = all_linked.0

    pub nodes_are : map node_of linked_entries ≡ r.core.joined
    unfolding linked_entries
    nodes_are = all_linked.1

    values_there : (i : ℕ) (e : Entry Mark) → get_elem? linked_entries i ≡ some e → get_elem? with_others e.slot ≡ some (Some e.part)
    unfolding linked_entries
    values_there = all_linked.2

    joined_at : (i : ℕ) (e : Entry Mark) → get_elem? linked_entries i ≡ some e → get_elem? r.core.joined i ≡ some (node_of e)
    joined_at i e a = ap (λ (l : List Node). get_elem? l i) (sym nodes_are) ∙ at_map node_of linked_entries i e a

    entry_of_node : (i : ℕ) (n : Node) → get_elem? r.core.joined i ≡ some n → (e : Entry Mark) × (get_elem? linked_entries i ≡ some e) × (node_of e ≡ n)
    entry_of_node i n a = at_mapped node_of linked_entries i n (ap (λ (l : List Node). get_elem? l i) nodes_are ∙ a)

    slots_once : Differ (map slot linked_entries)
    slots_once i j x a b = let p = at_mapped slot linked_entries i x a in let q = at_mapped slot linked_entries j x b in
        slots_differ r.holder r.core.joined r.listed r.callers i j x (at_map slot_of r.core.joined i (node_of p.0) (joined_at i p.0 p.1) ∙ ap (λ (n : ℕ). some n) p.2) (at_map slot_of r.core.joined j (node_of q.0) (joined_at j q.0 q.1) ∙ ap (λ (n : ℕ). some n) q.2)

    callers_once : Differ (map caller linked_entries)
    callers_once i j x a b = let p = at_mapped caller linked_entries i x a in let q = at_mapped caller linked_entries j x b in r.callers i j (node_of p.0) (node_of q.0) (joined_at i p.0 p.1) (joined_at j q.0 q.1) (p.2 ∙ sym q.2)

    -- these are what the words write down
    pub are_stored : (words : List ℕ) → s.words ≡ words → AreStored words with_others linked_entries
    are_stored words is = subst (λ (w : List ℕ). AreStored w with_others linked_entries) is record {
      head = r.show.head ∙ ap head_of (sym nodes_are);
      nodes = λ i e a. r.show.nodes i (node_of e) (joined_at i e a) ∙ ap (λ (l : List Node). node_word e.caller (before l i)) (sym nodes_are);
      small = λ i e a. (r.listed i (node_of e) (joined_at i e a)).slot;
      few = (let f = few_nodes r.holder r.core.joined r.listed r.callers in let l = len_map node_of linked_entries in let n = ap length nodes_are in omega arith);
      values = record { apart = slots_once; there = values_there };
    }

    -- ---- what closing answers
    seen_begins : ((i : ℕ) (t : ListSeat) → get_elem? seats i ≡ some t → HasTold v (view t).seen) → (i : ℕ) (t : ListSeat) → get_elem? seats i ≡ some t → Begins (view t).seen (map node_of linked_entries)
    seen_begins told i t a = subst (Begins (view t).seen) (sym nodes_are) (⊎_elim
        (λ p. subst (λ (l : List Node). Begins l r.core.joined) p (r.known id v at).seen)
        (λ p. (r.known id v at).pasts p.0 (view t).seen p.1) (told i t a))

    pub are_linked : (told : (i : ℕ) (t : ListSeat) → get_elem? seats i ≡ some t → HasTold v (view t).seen) → AreCollected others k.linked.items seats linked_entries
    are_linked told = record {
      known = λ e t. node_tells t.0 (node_of e) e.part (joined_at t.0 e t.1) (values_there t.0 e t.1);
      joined = λ e t. let hand = t.4 in let own = (is_hand t.0 t.1 t.2).linked t.3 in let f = entry_of_node own.0 (node (hand_of t.1).slot (hand_of t.1).who) own.1 in
          among_as own.0 f.0 e f.1 (ap (λ (n : Node). n.slot) f.2 ∙ sym hand.0) (ap (λ (n : Node). n.caller) f.2 ∙ sym hand.1) (ap (get_elem? with_others) hand.0 ∙ seat_value t.0 t.1 e.part t.2 hand.2);
      wards_are = λ e t. let ward = r.wards t.0 e t.1 in let f = entry_of_node ward.linked.0 (node e.slot e.caller) ward.linked.1 in
          among_as ward.linked.0 f.0 e f.1 (ap (λ (n : Node). n.slot) f.2) (ap (λ (n : Node). n.caller) f.2) (filled.here t.0 e t.1);
      seen = seen_begins told;
      founded = subst (Begins (map node_of k.linked.items)) (sym nodes_are) r.started;
    } where
      among_as : (i : ℕ) (f e : Entry Mark) → get_elem? linked_entries i ≡ some f → f.slot ≡ e.slot → f.caller ≡ e.caller → get_elem? with_others e.slot ≡ some (Some e.part) → IsAmong linked_entries e
      among_as i f e a slot_is caller_is there = let one : Some f.part ≡ Some e.part = at_one with_others e.slot (Some f.part) (Some e.part) (ap (get_elem? with_others) (sym slot_is) ∙ values_there i f a) there in let part_is : f.part ≡ e.part = cc in
          (i, a ∙ (λ x. some (entry (slot_is x) (caller_is x) (part_is x))))

    -- ---- what the entries use
    used_now : (i : ℕ) (e : Entry Mark) → get_elem? linked_entries i ≡ some e → (r.core.standing e.slot).used ≡ m.used e.part
    used_now i e a = ⊎_elim
        (λ t. let own = t.4 in ap (λ (n : ℕ). (r.core.standing n).used) own.0 ∙ ap (λ (x : Standing). x.used) (subst (λ (x : Hold Mark). HoldsAt m k.life r.core s.homes (hand_of t.1) x) own.2 (is_hand t.0 t.1 t.2).hold).0)
        (λ t. ap (λ (x : Standing). x.used) (r.wards t.0 e t.1).standing)
        (node_tells i (node_of e) e.part (joined_at i e a) (values_there i e a))

    pub are_used : ((i : ℕ) (t : ListSeat) → get_elem? seats i ≡ some t → HasTold v (view t).seen) → ((i : ℕ) (t : ListSeat) → get_elem? seats i ≡ some t → AreAtMost (view t).sizes v.sizes)
        → (i : ℕ) (t : ListSeat) → get_elem? seats i ≡ some t → shown (view t) ≤ used_sum m linked_entries
    are_used told sizes i t a = let knows = r.known id v at in
        let begun = sum_begins (view t).sizes (view t).sizes (view t).seen (map node_of linked_entries) (seen_begins told i t a) (λ slot. omega arith) in
        let all = sum_within m (view t).sizes linked_entries (λ j e b. let low : e.slot < length v.sizes = (let l = (r.listed j (node_of e) (joined_at j e b)).slot in let n = knows.room in omega arith) in
        let p = sizes i t a e.slot low in let q = knows.sizes e.slot in let u = used_now j e b in omega arith) in omega arith

    -- ---- all entries, those of the list first
    spare_seat : (i : ℕ) (e : Entry Mark) → get_elem? spares i ≡ some e → (j : ℕ) × (t : ListSeat) × (get_elem? seats j ≡ some t) × ((hand_of t).linked ≡ false) × IsOwn (hand_of t) e
    spare_seat i e a = let t = spare_from (map hand_of seats) e (i, a) in let p = at_mapped hand_of seats t.0 t.1 t.2 in
        (t.0, p.0, p.1, ap (λ (h : Hand Mark). h.linked) p.2 ∙ t.3, subst (λ (h : Hand Mark). IsOwn h e) (sym p.2) t.4)

    own_fits : (i : ℕ) (t : ListSeat) (e : Entry Mark) → get_elem? seats i ≡ some t → IsOwn (hand_of t) e → Fits m k.life e.caller e.part
    own_fits i t e a own = subst (λ (who : ℕ). Fits m k.life who e.part) (sym own.1) (subst (λ (x : Hold Mark). HoldsAt m k.life r.core s.homes (hand_of t) x) own.2 (is_hand i t a).hold).2

    -- a slot is one of 64 and its caller's, and its part fits
    IsSound : Entry Mark → Type 0
    IsSound e = (e.slot < slot_count) × (r.holder e.slot ≡ some e.caller) × Fits m k.life e.caller e.part

    linked_sound : (i : ℕ) (e : Entry Mark) → get_elem? linked_entries i ≡ some e → IsSound e
    unfolding IsSound
    linked_sound i e a = let n = joined_at i e a in let l = r.listed i (node_of e) n in (
      l.slot,
      l.held,
      ⊎_elim
          (λ t. own_fits t.0 t.1 e t.2 t.4) (λ t. (r.wards t.0 e t.1).fits) (node_tells i (node_of e) e.part n (values_there i e a)),
    )

    spare_sound : (i : ℕ) (e : Entry Mark) → get_elem? spares i ≡ some e → IsSound e
    unfolding IsSound
    spare_sound i e a = let t = spare_seat i e a in let own = is_hand t.0 t.1 t.2 in let is = t.4 in
        (subst (λ (n : ℕ). n < slot_count) (sym is.0) own.slot, ap r.holder is.0 ∙ own.held ∙ ap (λ (n : ℕ). some n) (sym is.1), own_fits t.0 t.1 e t.2 t.4)

    all_sound : (i : ℕ) (e : Entry Mark) → get_elem? (linked_entries ++ spares) i ≡ some e → IsSound e
    all_sound i e a = ⊎_elim (λ t. linked_sound i e t) (λ t. spare_sound t.0 e t.2) (at_append linked_entries spares i e a)

    -- a caller's node is of no spare entry
    linked_other : (i j : ℕ) (e f : Entry Mark) → get_elem? linked_entries i ≡ some e → get_elem? spares j ≡ some f → e.caller ≢ f.caller
    linked_other i j e f a b = λ same. let t = spare_seat j f b in let is = t.4 in (is_hand t.0 t.1 t.2).spare t.3 i (node_of e) (joined_at i e a) (same ∙ is.1)

    spare_once : (i j : ℕ) (e f : Entry Mark) → get_elem? spares i ≡ some e → get_elem? spares j ≡ some f → e.caller ≡ f.caller → i ≡ j
    spare_once i j e f a b same = let t = spare_seat i e a in let u = spare_seat j f b in let is = t.4 in let also = u.4 in
        let places = who_tells m k s r id (length seats - 1 - t.0) id (length seats - 1 - u.0) (hand_of t.1) (hand_of u.1) (is_hand t.0 t.1 t.2) (is_hand u.0 u.1 u.2) (sym is.1 ∙ same ∙ also.1) in
        let at_same : t.0 ≡ u.0 = (let p = places.1 in let x = at_below seats t.0 t.1 t.2 in let y = at_below seats u.0 u.1 u.2 in omega arith) in
        let one : t.1 ≡ u.1 = at_one seats t.0 t.1 u.1 t.2 (ap (get_elem? seats) at_same ∙ u.2) in
        once spares (spares_apart (map hand_of seats) seats_apart) i j e f a b (is.0 ∙ ap (λ (x : ListSeat). (hand_of x).slot) one ∙ sym also.0)

    caller_once : (i j : ℕ) (e f : Entry Mark) → get_elem? (linked_entries ++ spares) i ≡ some e → get_elem? (linked_entries ++ spares) j ≡ some f → e.caller ≡ f.caller → i ≡ j
    caller_once i j e f a b same = ⊎_elim
        (λ x. ⊎_elim (λ y. callers_once i j f.caller (at_map caller linked_entries i e x ∙ ap (λ (n : ℕ). some n) same) (at_map caller linked_entries j f y)) (λ y. absurd (linked_other i y.0 e f x y.2 same)) (at_append linked_entries spares j f b))
        (λ x. ⊎_elim (λ y. absurd (linked_other j x.0 f e y x.2 (sym same))) (λ y. x.1 ∙ ap (λ (n : ℕ). length linked_entries + n) (spare_once x.0 y.0 e f x.2 y.2 same) ∙ sym y.1) (at_append linked_entries spares j f b))
        (at_append linked_entries spares i e a)

    pub are_apart : AreApart m k.life (linked_entries ++ spares)
    unfolding IsSound
    are_apart = record {
      slots = λ i j x a b. let p = at_mapped slot (linked_entries ++ spares) i x a in let q = at_mapped slot (linked_entries ++ spares) j x b in
          let same : p.0.caller ≡ q.0.caller = some-injective _ _ (sym (all_sound i p.0 p.1).1 ∙ ap r.holder (p.2 ∙ sym q.2) ∙ (all_sound j q.0 q.1).1) in caller_once i j p.0 q.0 p.1 q.1 same;
      callers = λ i j x a b. let p = at_mapped caller (linked_entries ++ spares) i x a in let q = at_mapped caller (linked_entries ++ spares) j x b in caller_once i j p.0 q.0 p.1 q.1 (p.2 ∙ sym q.2);
      small = λ i e a. (all_sound i e a).0;
      parts = λ i e a. (all_sound i e a).2;
    }

    -- ---- the spare entries
    module _ (without_linked : List (Option Mark)) (emptied : Empties with_others without_linked linked_entries) where
      pub spares_in : AreIn without_linked spares
      spares_in = record {
        apart = spares_apart (map hand_of seats) seats_apart;
        there = λ i e a. let t = spare_seat i e a in let own = t.4 in
            emptied.rest e.slot (λ j f b. λ same. node_apart j (node_of f) (joined_at j f b) t.0 t.1 t.2 t.3 (same ∙ own.0)) ∙ ap (get_elem? with_others) own.0 ∙ seat_value t.0 t.1 e.part t.2 own.2;
      }

      module _ (left : List (Option Mark)) (gone : Empties without_linked left spares) where
        node_empty : (j : ℕ) (n : Node) → get_elem? r.core.joined j ≡ some n → (i : ℕ) → n.slot ≡ i → (x : Option Mark) → get_elem? left i ≡ some x → x ≡ None
        node_empty j n a i is x b = let e = entry_of_node j n a in let empty : get_elem? without_linked i ≡ some None = ap (get_elem? without_linked) (sym is ∙ ap (λ (n : Node). n.slot) (sym e.2)) ∙ emptied.gone j e.0 e.1 in
            ⊎_elim (λ t. t) (λ t. at_one without_linked i x None t empty) (gone.only i x b)

        held_empty : (i who : ℕ) → r.holder i ≡ some who → (x : Option Mark) → get_elem? left i ≡ some x → x ≡ None
        held_empty i who held x b = ⊎_elim
            (λ st. let h = stands_here m k s r id v at all_here i who st in let t = seat_at h.0 h.1 h.2 in let own = is_hand t.0 t.1 t.2 in let slot_is : (hand_of t.1).slot ≡ i = ap (λ (h : Hand Mark). h.slot) t.3 ∙ h.3 in ⊎_elim
            (λ y. let n = own.linked y in node_empty n.0 (node (hand_of t.1).slot (hand_of t.1).who) n.1 i slot_is x b)
            (λ f. let rest = rested t.0 t.1 t.2 in let there = spare_there (map hand_of seats) t.0 (hand_of t.1) rest.0 (at_map hand_of seats t.0 t.1 t.2) f rest.1 in
            at_one left i x None b (ap (get_elem? left) (sym slot_is) ∙ gone.gone there.0 (entry (hand_of t.1).slot (hand_of t.1).who rest.0) there.1))
            (cases_Bool (hand_of t.1).linked))
            (λ o. let ward = r.wards o.0 o.1 o.2 in node_empty ward.linked.0 (node o.1.slot o.1.caller) ward.linked.1 i o.3 x b)
            (r.traced i who held)

        cases_maybe : (o : maybe.Option ℕ) → (o ≡ none) ⊎ ((who : ℕ) × (o ≡ some who))
        cases_maybe none = inl refl
        cases_maybe (some who) = inr (who, refl)

        -- no value is left
        pub none_left : length homes ≡ slot_count → (i : ℕ) (x : Option Mark) → get_elem? left i ≡ some x → x ≡ None
        none_left long i x b = ⊎_elim
            (λ free. ⊎_elim (λ t. t) (λ t. ⊎_elim (λ t. t)
            (λ t. ⊎_elim (λ h. at_one homes i x None h (kept i None (r.idle (value_at i) (let l = at_below homes i x h in omega arith) (λ slot same. ap r.holder (let e : slot ≡ i = omega arith in e) ∙ free))))
            (λ o. absurd (some-ne-none _ (sym (r.wards o.0 o.1 o.2).held ∙ ap r.holder o.3 ∙ free))) (filled.only i x t)) (emptied.only i x t)) (gone.only i x b))
            (λ h. held_empty i h.0 h.1 x b)
            (cases_maybe (r.holder i))

-- ---- what a closed table comes to
-- the entries that its words write down, where `filled` has the values of its slots and those of the others, and what is left when the entries have theirs
pub record Ends (m : Meter Mark) (k : Founding Mark) (v : View Mark) (seats : List ListSeat) (words : List ℕ) (filled : List (Option Mark)) : Type 0 where
  pub entries : List (Entry Mark)
  pub stored : (words' : List ℕ) → words' ≡ words → AreStored words' filled entries
  pub linked : ((i : ℕ) (t : ListSeat) → get_elem? seats i ≡ some t → HasTold v (view t).seen) → AreCollected (others_of k.linked.items k.callers.items) k.linked.items seats entries
  pub used : ((i : ℕ) (t : ListSeat) → get_elem? seats i ≡ some t → HasTold v (view t).seen) → ((i : ℕ) (t : ListSeat) → get_elem? seats i ≡ some t → AreAtMost (view t).sizes v.sizes)
      → (i : ℕ) (t : ListSeat) → get_elem? seats i ≡ some t → shown (view t) ≤ used_sum m entries
  pub apart : AreApart m k.life (entries ++ spares_of (map hand_of seats))
  pub spares : (rest : List (Option Mark)) → Empties filled rest entries → AreIn rest (spares_of (map hand_of seats))
  pub none_left : (rest left : List (Option Mark)) → Empties filled rest entries → Empties rest left (spares_of (map hand_of seats)) → (i : ℕ) (x : Option Mark) → get_elem? left i ≡ some x → x ≡ None

-- between the values of the slots there is none
pub none_between : (m : Meter Mark) (k : Founding Mark) (id : ℕ) (v : View Mark) (words : List ℕ) (slots : List (Option Mark)) → Final (Seen (Holds m k) id v) words slots → length slots ≡ value_count
    → (place : ℕ) (x : Option Mark) → get_elem? slots place ≡ some x → ((slot : ℕ) → place ≢ value_at slot) → x ≡ None
none_between m k id v words slots final long place x there off = let empty = final.1.0.idle place (let l = at_below slots place x there in omega arith) (λ slot same. absurd (off slot same)) in
    at_one slots place x None there (final.4 place None empty)

-- these words, and parts that are the values of the slots
module _ (m : Meter Mark) (k : Founding Mark) (id : ℕ) (v : View Mark) (words : List ℕ) (slots parts : List (Option Mark)) (seats : List ListSeat) (final : Final (Seen (Holds m k) id v) words slots)
    (taken : (i : ℕ) (x : Option Mark) → get_elem? parts i ≡ some x → get_elem? slots (value_at i) ≡ some x) (long : length parts ≡ slot_count)
    (hands : v.hands ≡ reverse (map hand_of seats)) (enough : length k.callers.items ≤ length seats) (rested : (i : ℕ) (t : ListSeat) → get_elem? seats i ≡ some t → Rested t) where
  abbrev state : State (Option Mark) (View Mark)
  state = final.0

  abbrev rule : Holds m k state
  rule = final.1.0

  -- no more hands than callers stand in all views, so as many seats are all
  pub count : length seats ≡ length k.callers.items
  count = let all = ap length hands ∙ length-reverse (map hand_of seats) ∙ len_map hand_of seats in let one = total-one hand_count state.views id v final.1.1 in let c = rule.counted in omega arith

  kept : (i : ℕ) (y : Option Mark) → get_elem? state.homes (value_at i) ≡ some (some y) → get_elem? parts i ≡ some y
  kept i y e = let t = at_there parts i (let a = at_below state.homes (value_at i) (some y) e in let b = rule.slots in omega arith) in
      t.1 ∙ ap (λ (x : Option Mark). some x) (at_one slots (value_at i) t.0 y (taken i t.0 t.1) (final.4 (value_at i) y e))

  -- the slots of other callers' entries are empty
  pub others_vacant : (entries : List (Entry Mark)) → entries ≡ others_of k.linked.items k.callers.items → (j : ℕ) (e : Entry Mark) → get_elem? entries j ≡ some e → get_elem? parts e.slot ≡ some None
  others_vacant entries is j e a = kept e.slot None (rule.wards j e (ap (λ (l : List (Entry Mark)). get_elem? l j) (sym is) ∙ a)).elsewhere

  module _ (filled : List (Option Mark)) (entries : List (Entry Mark)) (is : entries ≡ others_of k.linked.items k.callers.items) (fills : Fills parts filled entries) where
    fills' : Fills parts filled (others_of k.linked.items k.callers.items)
    fills' = subst (Fills parts filled) is fills

    pub ends : Ends m k v seats words filled
    ends = let at = final.1.1 in record {
      entries = linked_entries m k state rule id v at seats hands count rested parts filled kept fills';
      stored = λ words' same. are_stored m k state rule id v at seats hands count rested parts filled kept fills' words' (final.2 ∙ sym same);
      linked = are_linked m k state rule id v at seats hands count rested parts filled kept fills';
      used = are_used m k state rule id v at seats hands count rested parts filled kept fills';
      apart = are_apart m k state rule id v at seats hands count rested parts filled kept fills';
      spares = spares_in m k state rule id v at seats hands count rested parts filled kept fills';
      none_left = λ rest left emptied gone. none_left m k state rule id v at seats hands count rested parts filled kept fills' rest emptied left gone long;
    }
