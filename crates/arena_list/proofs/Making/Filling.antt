-- The slots are filled, one entry after another, from the last on.
use Rattle.std.proofs.Common.{◌≡◌, ℕ, suc, ◌+◌, ◌≤◌, ◌≢◌, Bool, true, false, not, cond, List, [], ◌∷◌, ◌++◌, map, length, reverse, sym, refl, ap, subst, ◌∙◌, arith, ⊎_elim, None}
use Rattle.std.proofs.lemmas.Bool.{false≢true}
use Rattle.std.proofs.lemmas.List.{length-append, append_assoc, append-nil, reverse-append}
use mathlib.Core.Option.{some}
use lib.ListN.{get_elem?}
use base.Stored.{Coded}
use Rattle.atomic_table.specs.Seated.{TableId}
use Rattle.arena_list.specs.declared.entry.Entry.{Entry}
use Rattle.arena_list.specs.declared.for_clauses.founding.Founding.{Founding}
use Rattle.arena_list.specs.declared.list.ListSeat.{ListSeat}
use Rattle.arena_list.specs.Rule.Founded.{Meter, AreFit, Fits, Differ, has, caller, entry_of, others_of, without}
use Rattle.arena_list.specs.Making.Made.{AreSeats}
use Rattle.arena_list.proofs.Words.Few.{at_map}
use Rattle.arena_list.proofs.Steps.Seats.{at_append, at_behind}
use Rattle.arena_list.proofs.Rule.Opening.{at_has, filter_tells, differ_filter}
use Rattle.arena_list.proofs.Calls.Searches.{entry_absent}

not_yes : (b : Bool) → not b ≡ true → b ≡ false
not_yes true e = absurd (false≢true e)
not_yes false e = refl

module _ {V : Type 0} (m : Meter V) (life : ℕ) (linked spare : List (Entry V)) (callers : List ℕ) (fit : AreFit m life linked spare callers) where
  abbrev all : List (Entry V)
  all = linked ++ spare

  -- a spare entry's caller has no linked one
  spare_apart : (i j : ℕ) (a b : Entry V) → get_elem? linked i ≡ some a → get_elem? spare j ≡ some b → a.caller ≢ b.caller
  spare_apart i j a b p q = λ same. let there : get_elem? (without linked callers) j ≡ some b.caller = ap (λ l. get_elem? l j) (sym fit.spares) ∙ at_map caller spare j b q in
      let t = filter_tells (λ (c : ℕ). not (has (map caller linked) c)) callers j b.caller there in
      false≢true (sym (not_yes _ t.2) ∙ at_has (map caller linked) i b.caller (at_map caller linked i a p ∙ ap (λ (z : ℕ). some z) same))

  spare_once : Differ (map caller spare)
  spare_once = subst Differ (sym fit.spares) (differ_filter (λ (c : ℕ). not (has (map caller linked) c)) callers fit.callers_once)

  -- no two entries are one caller's
  pub all_once : (i j : ℕ) (a b : Entry V) → get_elem? all i ≡ some a → get_elem? all j ≡ some b → a.caller ≡ b.caller → i ≡ j
  all_once i j a b p q same = ⊎_elim
      (λ x. ⊎_elim (λ y. fit.linked_once i j b.caller (at_map caller linked i a x ∙ ap (λ (z : ℕ). some z) same) (at_map caller linked j b y)) (λ y. absurd (spare_apart i y.0 a b x y.2 same)) (at_append linked spare j b q))
      (λ x. ⊎_elim (λ y. absurd (spare_apart j x.0 b a y x.2 (sym same)))
      (λ y. let z : x.0 ≡ y.0 = spare_once x.0 y.0 b.caller (at_map caller spare x.0 a x.2 ∙ ap (λ (z : ℕ). some z) same) (at_map caller spare y.0 b y.2) in x.1 ∙ ap (λ (n : ℕ). length linked + n) z ∙ sym y.1) (at_append linked spare j b q))
      (at_append linked spare i a p)

  module _ (front todo gone earlier : List (Entry V)) (e : Entry V) (is : front ++ ((todo ++ e ∷ []) ++ (gone ++ earlier)) ≡ all) where
    regrouped : (front ++ todo) ++ (e ∷ (gone ++ earlier)) ≡ all
    regrouped = append_assoc front todo (e ∷ (gone ++ earlier)) ∙ ap (λ (l : List (Entry V)). front ++ l) (sym (append_assoc todo (e ∷ []) (gone ++ earlier))) ∙ is

    pub at_all : get_elem? all (length (front ++ todo)) ≡ some e
    at_all = ap (λ (l : List (Entry V)). get_elem? l (length (front ++ todo))) (sym regrouped) ∙ head_at (front ++ todo) e (gone ++ earlier) where
      head_at : (l : List (Entry V)) (x : Entry V) (r : List (Entry V)) → get_elem? (l ++ x ∷ r) (length l) ≡ some x
      head_at [] x r = refl
      head_at (y ∷ ys) x r = head_at ys x r

    -- nothing was given to its caller yet
    pub not_given : entry_of (gone ++ earlier) e.caller ≡ None
    not_given = entry_absent (gone ++ earlier) e.caller (λ j x at. λ same.
        let there : get_elem? all (length (front ++ todo) + suc j) ≡ some x = ap (λ (l : List (Entry V)). get_elem? l (length (front ++ todo) + suc j)) (sym regrouped) ∙ at_behind (front ++ todo) (e ∷ (gone ++ earlier)) (suc j) x at in
        let one = all_once (length (front ++ todo) + suc j) (length (front ++ todo)) x e there at_all same in omega arith)

  -- every spare entry's caller has a seat
  pub no_other_spare : (entries : List (Entry V)) → ((i : ℕ) (e : Entry V) → get_elem? entries i ≡ some e → has callers e.caller ≡ true) → others_of entries callers ≡ []
  no_other_spare [] h = refl
  no_other_spare (x ∷ xs) h = ap (λ (b : Bool). cond (not b) (x ∷ others_of xs callers) (others_of xs callers)) (h 0 x refl) ∙ no_other_spare xs (λ i e at. h (suc i) e at)

  pub spare_seated : (i : ℕ) (e : Entry V) → get_elem? spare i ≡ some e → has callers e.caller ≡ true
  spare_seated j b q = let there : get_elem? (without linked callers) j ≡ some b.caller = ap (λ l. get_elem? l j) (sym fit.spares) ∙ at_map caller spare j b q in
      let t = filter_tells (λ (c : ℕ). not (has (map caller linked) c)) callers j b.caller there in at_has callers t.0 b.caller t.1

-- the others, the last first
module _ {V : Type 0} (callers : List ℕ) (before gone : List (Entry V)) (e : Entry V) where
  pub others_same : has callers e.caller ≡ true → before ++ reverse (others_of gone callers) ≡ before ++ reverse (others_of (e ∷ gone) callers)
  others_same t = ap (λ (b : Bool). before ++ reverse (cond (not b) (e ∷ others_of gone callers) (others_of gone callers))) (sym t)

  pub others_more : has callers e.caller ≡ false → (before ++ reverse (others_of gone callers)) ++ e ∷ [] ≡ before ++ reverse (others_of (e ∷ gone) callers)
  others_more f = append_assoc before (reverse (others_of gone callers)) (e ∷ []) ∙ ap (λ (l : List (Entry V)). before ++ l) (sym (reverse-append (e ∷ []) (others_of gone callers)))
      ∙ ap (λ (b : Bool). before ++ reverse (cond (not b) (e ∷ others_of gone callers) (others_of gone callers))) (sym f)

-- what is filled of the entries `start`, from the last on
pub record IsFilling {V : Type 0} (cd : Coded V) (m : Meter V) (k : Founding V) (table : TableId) (start todo earlier others_before others : List (Entry V)) (room : ℕ) (seats : List ListSeat) : Type 0 where
  pub gone : List (Entry V)
  pub split : start ≡ todo ++ gone
  pub seats_are : AreSeats cd m k table k.callers.items (gone ++ earlier) seats
  pub others_are : others ≡ others_before ++ reverse (others_of gone k.callers.items)
  pub fits : length others + length todo ≤ room

module _ {V : Type 0} (cd : Coded V) (m : Meter V) (k : Founding V) (table : TableId) (start earlier others_before : List (Entry V)) where
  pub fill_starts : (room : ℕ) (seats : List ListSeat) → AreSeats cd m k table k.callers.items earlier seats → length others_before + length start ≤ room → IsFilling cd m k table start start earlier others_before others_before room seats
  fill_starts room seats o fits = record { gone = []; split = sym (append-nil start); seats_are = o; others_are = sym (append-nil others_before); fits = fits }

  pub fill_ends : (others : List (Entry V)) (todo : List (Entry V)) (room : ℕ) (seats : List ListSeat) → todo ≡ [] → IsFilling cd m k table start todo earlier others_before others room seats
      → AreSeats cd m k table k.callers.items (start ++ earlier) seats × (others ≡ others_before ++ reverse (others_of start k.callers.items))
  fill_ends others todo room seats none_left o = let all : start ≡ o.gone = o.split ∙ ap (λ (l : List (Entry V)). l ++ o.gone) none_left in
      (subst (λ (l : List (Entry V)). AreSeats cd m k table k.callers.items (l ++ earlier) seats) (sym all) o.seats_are, o.others_are ∙ ap (λ (l : List (Entry V)). others_before ++ reverse (others_of l k.callers.items)) (sym all))

  module _ (fit : AreFit m k.life k.linked.items k.spare.items k.callers.items) (front : List (Entry V)) (whole : front ++ (start ++ earlier) ≡ k.linked.items ++ k.spare.items) (others todo rest : List (Entry V)) (e : Entry V) (room : ℕ) (seats : List ListSeat)
      (o : IsFilling cd m k table start todo earlier others_before others room seats) (pop : todo ≡ rest ++ e ∷ []) where
    piece : front ++ ((rest ++ e ∷ []) ++ (o.gone ++ earlier)) ≡ k.linked.items ++ k.spare.items
    piece = ap (λ (l : List (Entry V)). front ++ l) (append_assoc' (rest ++ e ∷ []) o.gone earlier ∙ ap (λ (l : List (Entry V)). l ++ earlier) (ap (λ (l : List (Entry V)). l ++ o.gone) (sym pop) ∙ sym o.split)) ∙ whole where
      append_assoc' : (a b c : List (Entry V)) → a ++ (b ++ c) ≡ (a ++ b) ++ c
      append_assoc' a b c = sym (append_assoc a b c)

    pub next_fits : Fits m k.life e.caller e.part
    next_fits = fit.parts (length (front ++ rest)) e (at_all m k.life k.linked.items k.spare.items k.callers.items fit front rest o.gone earlier e piece)

    pub next_not_given : entry_of (o.gone ++ earlier) e.caller ≡ None
    next_not_given = not_given m k.life k.linked.items k.spare.items k.callers.items fit front rest o.gone earlier e piece

    next_split : start ≡ rest ++ (e ∷ o.gone)
    next_split = o.split ∙ ap (λ (l : List (Entry V)). l ++ o.gone) pop ∙ append_assoc rest (e ∷ []) o.gone

    next_room : length rest + 1 ≡ length todo
    next_room = sym (ap length pop ∙ length-append rest (e ∷ []))

    pub fill_same : (new : List ListSeat) → AreSeats cd m k table k.callers.items (e ∷ (o.gone ++ earlier)) new → has k.callers.items e.caller ≡ true → IsFilling cd m k table start rest earlier others_before others room new
    fill_same new a h = record { gone = e ∷ o.gone; split = next_split; seats_are = a; others_are = o.others_are ∙ others_same k.callers.items others_before o.gone e h; fits = (let f = o.fits in let n = next_room in omega arith) }

    pub fill_other : (new : List ListSeat) (others' : List (Entry V)) → AreSeats cd m k table k.callers.items (e ∷ (o.gone ++ earlier)) new → has k.callers.items e.caller ≡ false → others' ≡ others ++ e ∷ [] → IsFilling cd m k table start rest earlier others_before others' room new
    fill_other new others' a h more = record {
      gone = e ∷ o.gone;
      split = next_split;
      seats_are = a;
      others_are = more ∙ ap (λ (l : List (Entry V)). l ++ e ∷ []) o.others_are ∙ others_more k.callers.items others_before o.gone e h;
      fits = (let f = o.fits in let n = next_room in let l = ap length more ∙ length-append others (e ∷ []) in omega arith);
    }

pub no_items : {A : Type 0} (l : List A) → length l ≡ 0 → l ≡ []
no_items [] e = refl
no_items (x ∷ xs) e = absurd (omega arith)

module _ {V : Type 0} (cd : Coded V) (m : Meter V) (k : Founding V) (table : TableId) (start todo earlier others_before others : List (Entry V)) (seats : List ListSeat) where
  pub fill_wider : (room room' : ℕ) → room ≤ room' → IsFilling cd m k table start todo earlier others_before others room seats → IsFilling cd m k table start todo earlier others_before others room' seats
  fill_wider room room' more o = record { gone = o.gone; split = o.split; seats_are = o.seats_are; others_are = o.others_are; fits = (let f = o.fits in omega arith) }
