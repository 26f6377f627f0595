-- The rule holds of a list that was just made.
use Rattle.std.proofs.Common.{◌≡◌, ℕ, zero, suc, ◌+◌, ◌*◌, ◌/◌, ◌%◌, ◌<◌, ◌≢◌, ◌⊎◌, Bool, true, false, not, ◌||◌, eqb, cond, List, [], ◌∷◌, ◌++◌, map, length, sym, refl, ap, subst, ◌∙◌, inl, inr, ⊎_elim, arith, Option, Some, None, eq-eqb, ne_eqb}
use Rattle.std.specs.Prelude.{slice_index, replicate, filter}
use Rattle.std.specs.Option.{option_map}
use Rattle.std.proofs.lemmas.Bool.{cases_Bool, eqb-true, false≢true}
use Rattle.std.proofs.lemmas.Option.{none-some}
use mathlib.Core.Option as maybe
use mathlib.Core.Option.{some, none, some-injective, some-ne-none}
use lib.ListN.{get_elem?}
use Rattle.atomic_table.specs.Table.{opening}
use Rattle.arena_list.specs.declared.entry.Entry.{Entry}
use Rattle.arena_list.specs.declared.for_clauses.founding.Founding.{Founding}
use Rattle.arena_list.specs.declared.for_clauses.view.Node.{Node}
use Rattle.arena_list.specs.declared.for_clauses.view.Hand.{Hand}
use Rattle.arena_list.specs.declared.for_clauses.view.View.{View}
use Rattle.arena_list.specs.Words.Nodes.{before, node_word}
use Rattle.arena_list.specs.Words.Core.{Core, Standing, core, rests, away, IsListed, slot_count}
use Rattle.arena_list.specs.Words.Written.{node_at, state_at, state_word, bit, value_at, value_count}
use Rattle.arena_list.specs.Rule.Founded.{Meter, AreFit, IsLaid, Differ, has, slot, caller, node_of, entry_of, others_of, without, fresh, or_else, hand_for, first_view}
use Rattle.arena_list.specs.Rule.Holds.{Holds, IsHand, Knows, Stands, IsOther}
use Rattle.arena_list.proofs.Words.Lists.{at_only, at_one, at_more, begins_itself}
use Rattle.arena_list.proofs.Words.Few.{at_mapped, at_map, len_map}
use Rattle.arena_list.proofs.Steps.Seats.{at_append, at_behind}
use Rattle.arena_list.proofs.Steps.Joining.{zeros}

-- ---- filters, read by `get_elem?`
module _ {A : Type 0} (test : A → Bool) where
  from_tail : (b : Bool) (x y : A) (ys : List A) (j : ℕ) → get_elem? ys j ≡ some y → (i : ℕ) × (get_elem? (cond b (x ∷ ys) ys) i ≡ some y)
  from_tail true x y ys j e = (suc j, e)
  from_tail false x y ys j e = (j, e)

  pub filter_keeps : (xs : List A) (i : ℕ) (x : A) → get_elem? xs i ≡ some x → test x ≡ true → (j : ℕ) × (get_elem? (filter test xs) j ≡ some x)
  filter_keeps [] i x e t = absurd (some-ne-none x (sym e))
  filter_keeps (y ∷ ys) zero x e t = let same : y ≡ x = some-injective y x e in (0, ap (λ (b : Bool). get_elem? (cond b (y ∷ filter test ys) (filter test ys)) 0) (ap test same ∙ t) ∙ e)
  filter_keeps (y ∷ ys) (suc i) x e t = let r = filter_keeps ys i x e t in from_tail (test y) y x (filter test ys) r.0 r.1

  from_cond : (b : Bool) (x y : A) (ys : List A) (j : ℕ) → get_elem? (cond b (x ∷ ys) ys) j ≡ some y → ((b ≡ true) × (x ≡ y)) ⊎ ((i : ℕ) × (get_elem? ys i ≡ some y))
  from_cond true x y ys zero e = inl (refl, some-injective x y e)
  from_cond true x y ys (suc j) e = inr (j, e)
  from_cond false x y ys j e = inr (j, e)

  pub filter_tells : (xs : List A) (j : ℕ) (x : A) → get_elem? (filter test xs) j ≡ some x → (i : ℕ) × (get_elem? xs i ≡ some x) × (test x ≡ true)
  filter_tells [] j x e = absurd (some-ne-none x (sym e))
  filter_tells (y ∷ ys) j x e = ⊎_elim (λ t. (0, ap (λ (z : A). some z) t.1, ap test (sym t.1) ∙ t.0)) (λ t. let r = filter_tells ys t.0 x t.1 in (suc r.0, r.1, r.2)) (from_cond (test y) y x (filter test ys) j e)

pub differ_tail : (x : ℕ) (xs : List ℕ) → Differ (x ∷ xs) → Differ xs
differ_tail x xs d i j y a b = let s = d (suc i) (suc j) y a b in omega arith

pub differ_cons : (x : ℕ) (xs : List ℕ) → Differ xs → ((i : ℕ) → ¬ (get_elem? xs i ≡ some x)) → Differ (x ∷ xs)
differ_cons x xs d new zero zero y a b = refl
differ_cons x xs d new zero (suc j) y a b = absurd (new j (b ∙ sym a))
differ_cons x xs d new (suc i) zero y a b = absurd (new i (a ∙ sym b))
differ_cons x xs d new (suc i) (suc j) y a b = ap suc (d i j y a b)

differ_cond : (b : Bool) (x : ℕ) (ys : List ℕ) → Differ ys → ((i : ℕ) → ¬ (get_elem? ys i ≡ some x)) → Differ (cond b (x ∷ ys) ys)
differ_cond true x ys d new = differ_cons x ys d new
differ_cond false x ys d new = d

pub differ_filter : (test : ℕ → Bool) (xs : List ℕ) → Differ xs → Differ (filter test xs)
differ_filter test [] d = d
differ_filter test (x ∷ xs) d = differ_cond (test x) x (filter test xs) (differ_filter test xs (differ_tail x xs d))
    (λ i e. let r = filter_tells test xs i x e in let z = d 0 (suc r.0) x refl r.1 in omega arith)

-- ---- a number stands in a list
or_tells : (b c : Bool) → (b || c) ≡ true → (b ≡ true) ⊎ (c ≡ true)
or_tells true c e = inl refl
or_tells false c e = inr e

or_right : (b c : Bool) → c ≡ true → (b || c) ≡ true
or_right true c e = refl
or_right false c e = e

pub has_at : (xs : List ℕ) (x : ℕ) → has xs x ≡ true → (i : ℕ) × (get_elem? xs i ≡ some x)
has_at [] x e = absurd (false≢true e)
has_at (y ∷ ys) x e = ⊎_elim (λ t. (0, ap (λ (z : ℕ). some z) (eqb-true y x t))) (λ t. let r = has_at ys x t in (suc r.0, r.1)) (or_tells (eqb y x) (has ys x) e)

pub at_has : (xs : List ℕ) (i x : ℕ) → get_elem? xs i ≡ some x → has xs x ≡ true
at_has [] i x e = absurd (some-ne-none x (sym e))
at_has (y ∷ ys) zero x e = ap (λ (b : Bool). b || has ys x) (eq-eqb y x (some-injective y x e))
at_has (y ∷ ys) (suc i) x e = or_right (eqb y x) (has ys x) (at_has ys i x e)

-- ---- entries by caller and by slot
module _ {V : Type 0} where
  pub entry_at : (es : List (Entry V)) (who : ℕ) (e : Entry V) → entry_of es who ≡ Some e → (i : ℕ) × (get_elem? es i ≡ some e) × (e.caller ≡ who)
  entry_at [] who e is = absurd (none-some e is)
  entry_at (x ∷ xs) who e is = ⊎_elim
      (λ t. let same : Some x ≡ Some e = ap (λ (b : Bool). cond b (Some x) (entry_of xs who)) (sym t) ∙ is in let p : x ≡ e = cc in (0, ap (λ (z : Entry V). some z) p, ap (λ (z : Entry V). z.caller) (sym p) ∙ eqb-true x.caller who t))
      (λ f. let r = entry_at xs who e (ap (λ (b : Bool). cond b (Some x) (entry_of xs who)) (sym f) ∙ is) in (suc r.0, r.1, r.2))
      (cases_Bool (eqb x.caller who))

  pub entry_none : (es : List (Entry V)) (who : ℕ) → entry_of es who ≡ None → (i : ℕ) (e : Entry V) → get_elem? es i ≡ some e → e.caller ≢ who
  entry_none [] who is i e at = absurd (some-ne-none e (sym at))
  entry_none (x ∷ xs) who is zero e at = λ same. let c : x.caller ≡ who = ap (λ (z : Entry V). z.caller) (some-injective x e at) ∙ same in
      none-some x (sym is ∙ ap (λ (b : Bool). cond b (Some x) (entry_of xs who)) (eq-eqb x.caller who c))
  entry_none (x ∷ xs) who is (suc i) e at = ⊎_elim
      (λ t. absurd (none-some x (sym is ∙ ap (λ (b : Bool). cond b (Some x) (entry_of xs who)) t)))
      (λ f. entry_none xs who (ap (λ (b : Bool). cond b (Some x) (entry_of xs who)) (sym f) ∙ is) i e at)
      (cases_Bool (eqb x.caller who))

  cases_entry : (o : Option (Entry V)) → (o ≡ None) ⊎ ((e : Entry V) × (o ≡ Some e))
  cases_entry None = inl refl
  cases_entry (Some e) = inr (e, refl)

  held_by : List (Entry V) → ℕ → maybe.Option ℕ
  held_by [] s = none
  held_by (e ∷ es) s = cond (eqb e.slot s) (some e.caller) (held_by es s)

  held_at : (es : List (Entry V)) → Differ (map slot es) → (i : ℕ) (e : Entry V) → get_elem? es i ≡ some e → held_by es e.slot ≡ some e.caller
  unfolding held_by
  held_at [] d i e at = absurd (some-ne-none e (sym at))
  held_at (x ∷ xs) d zero e at = let same = some-injective x e at in ap (λ (b : Bool). cond b (some x.caller) (held_by xs e.slot)) (eq-eqb x.slot e.slot (ap slot same)) ∙ ap (λ (z : Entry V). some z.caller) same
  held_at (x ∷ xs) d (suc i) e at = ap (λ (b : Bool). cond b (some x.caller) (held_by xs e.slot)) (ne_eqb x.slot e.slot (λ same. let z = d 0 (suc i) e.slot (ap (λ (z : ℕ). some z) same) (at_map slot xs i e at) in omega arith))
      ∙ held_at xs (differ_tail x.slot (map slot xs) d) i e at

  held_tells : (es : List (Entry V)) (s who : ℕ) → held_by es s ≡ some who → (i : ℕ) × (e : Entry V) × (get_elem? es i ≡ some e) × (e.slot ≡ s) × (e.caller ≡ who)
  unfolding held_by
  held_tells [] s who is = absurd (some-ne-none who (sym is))
  held_tells (x ∷ xs) s who is = ⊎_elim
      (λ t. (0, x, refl, eqb-true x.slot s t, some-injective _ _ (ap (λ (b : Bool). cond b (some x.caller) (held_by xs s)) (sym t) ∙ is)))
      (λ f. let r = held_tells xs s who (ap (λ (b : Bool). cond b (some x.caller) (held_by xs s)) (sym f) ∙ is) in (suc r.0, r.1, r.2, r.3, r.4))
      (cases_Bool (eqb x.slot s))

placed : ℕ → List ℕ → ℕ → maybe.Option (ℕ × ℕ)
placed n [] x = none
placed n (y ∷ ys) x = cond (eqb y x) (some (0, n)) (placed (suc n) ys x)

placed_at : (n : ℕ) (xs : List ℕ) → Differ xs → (i x : ℕ) → get_elem? xs i ≡ some x → placed n xs x ≡ some (0, n + i)
unfolding placed
placed_at n [] d i x e = absurd (some-ne-none x (sym e))
placed_at n (y ∷ ys) d zero x e = ap (λ (b : Bool). cond b (some (0, n)) (placed (suc n) ys x)) (eq-eqb y x (some-injective y x e)) ∙ ap (λ (z : ℕ). some (0, z)) (let q : n ≡ n + 0 = omega arith in q)
placed_at n (y ∷ ys) d (suc i) x e = ap (λ (b : Bool). cond b (some (0, n)) (placed (suc n) ys x)) (ne_eqb y x (λ same. let z = d 0 (suc i) x (ap (λ (z : ℕ). some z) same) e in omega arith))
    ∙ placed_at (suc n) ys (differ_tail y ys d) i x e ∙ ap (λ (z : ℕ). some (0, z)) (let q : suc n + i ≡ n + suc i = omega arith in q)

placed_none : (n : ℕ) (xs : List ℕ) (x : ℕ) → has xs x ≡ false → placed n xs x ≡ none
unfolding placed
placed_none n [] x e = refl
placed_none n (y ∷ ys) x e = ap (λ (b : Bool). cond b (some (0, n)) (placed (suc n) ys x)) (or_left (eqb y x) (has ys x) e) ∙ placed_none (suc n) ys x (or_rest (eqb y x) (has ys x) e) where
  or_left : (b c : Bool) → (b || c) ≡ false → b ≡ false
  or_left true c e = absurd (false≢true (sym e))
  or_left false c e = refl

  or_rest : (b c : Bool) → (b || c) ≡ false → c ≡ false
  or_rest true c e = absurd (false≢true (sym e))
  or_rest false c e = e

not_true : (b : Bool) → not b ≡ true → b ≡ false
not_true true e = absurd (false≢true e)
not_true false e = refl

-- ---- how a slot stands, by its word
standing_of : ℕ → Standing
standing_of w = record { used = w / 2; home = eqb (w % 2) 1 }

word_back : (w : ℕ) → w ≡ state_word (standing_of w)
unfolding standing_of
word_back w = ⊎_elim (λ t. let odd = eqb-true (w % 2) 1 t in (let q : w ≡ 2 * (w / 2) + 1 = omega arith in q) ∙ ap (λ (b : Bool). 2 * (w / 2) + bit b) (sym t)) (λ f. let even : ¬ (w % 2 ≡ 1) = (λ e. false≢true (sym f ∙ eq-eqb (w % 2) 1 e)) in (let q : w ≡ 2 * (w / 2) + 0 = omega arith in q) ∙ ap (λ (b : Bool). 2 * (w / 2) + bit b) (sym f)) (cases_Bool (eqb (w % 2) 1))

zero_stands : standing_of 0 ≡ away 0
unfolding standing_of
zero_stands = refl

odd_stands : (u w : ℕ) → w ≡ 2 * u + 1 → standing_of w ≡ rests u
unfolding standing_of
odd_stands u w e = let a : w / 2 ≡ u = omega arith in let b : w % 2 ≡ 1 = omega arith in (λ i. record { used = a i; home = eq-eqb (w % 2) 1 b i })

abbrev nothing : (V : Type 0) → Option V
nothing V = None

nones : {V : Type 0} (n s : ℕ) → s < n → get_elem? (replicate n (nothing V)) s ≡ some (nothing V)
nones zero s h = absurd (omega arith)
nones (suc n) zero h = refl
nones (suc n) (suc s) h = nones n s (omega arith)

module _ {V : Type 0} (m : Meter V) (k : Founding V) (fit : AreFit m k.life k.linked.items k.spare.items k.callers.items) where
  -- each caller has a linked entry, or no such and a spare one
  abbrev pub Has : ℕ → Type 0
  Has who = ((i : ℕ) × (e : Entry V) × (get_elem? k.linked.items i ≡ some e) × (e.caller ≡ who) × (hand_for k who ≡ fresh true e))
      ⊎ ((i : ℕ) × (e : Entry V) × (get_elem? k.spare.items i ≡ some e) × (e.caller ≡ who) × (hand_for k who ≡ fresh false e) × ((j : ℕ) (o : Entry V) → get_elem? k.linked.items j ≡ some o → o.caller ≢ who))

  pub not_false : (b : Bool) → b ≡ false → not b ≡ true
  not_false true e = absurd (false≢true (sym e))
  not_false false e = refl

  pub entry_for : (i who : ℕ) → get_elem? k.callers.items i ≡ some who → Has who
  entry_for i who at = ⊎_elim
      (λ absent. ⊎_elim
      (λ none_spare.
      let no_linked = entry_none k.linked.items who absent in
      let lacks : has (map caller k.linked.items) who ≡ false = ⊎_elim (λ t. let p = has_at (map caller k.linked.items) who t in let q = at_mapped caller k.linked.items p.0 who p.1 in absurd (no_linked p.0 q.0 q.1 q.2)) (λ f. f) (cases_Bool (has (map caller k.linked.items) who)) in
      let kept = filter_keeps (λ c. not (has (map caller k.linked.items) c)) k.callers.items i who at (not_false _ lacks) in
      let there : get_elem? (map caller k.spare.items) kept.0 ≡ some who = ap (λ l. get_elem? l kept.0) fit.spares ∙ kept.1 in let q = at_mapped caller k.spare.items kept.0 who there in
      absurd (entry_none k.spare.items who none_spare kept.0 q.0 q.1 q.2))
      (λ found. let e = found.0 in let p = entry_at k.spare.items who e found.1 in inr (p.0, e, p.1, p.2, (λ x. or_else (option_map (fresh true) (absent x)) (option_map (fresh false) (found.1 x))), entry_none k.linked.items who absent))
      (cases_entry (entry_of k.spare.items who)))
      (λ found. let e = found.0 in let p = entry_at k.linked.items who e found.1 in inl (p.0, e, p.1, p.2, ap (λ (o : Option (Entry V)). or_else (option_map (fresh true) o) (option_map (fresh false) (entry_of k.spare.items who))) found.1))
      (cases_entry (entry_of k.linked.items who))

module _ {V : Type 0} (m : Meter V) (k : Founding V) (words : List ℕ) (fit : AreFit m k.life k.linked.items k.spare.items k.callers.items) (laid : IsLaid m k.linked.items k.callers.items words) where
  abbrev linked : List (Entry V)
  linked = k.linked.items

  abbrev spare : List (Entry V)
  spare = k.spare.items

  abbrev all : List (Entry V)
  all = linked ++ spare

  abbrev callers : List ℕ
  callers = k.callers.items

  abbrev strangers : List (Entry V)
  strangers = others_of linked callers

  abbrev homes : List (maybe.Option (Option V))
  homes = map some (replicate value_count None)

  has_entry : (i who : ℕ) → get_elem? callers i ≡ some who → Has m k fit who
  has_entry i who at = entry_for m k fit i who at

  holder : ℕ → maybe.Option ℕ
  holder = held_by all

  place : ℕ → maybe.Option (ℕ × ℕ)
  place = placed 0 callers

  standing : ℕ → Standing
  standing s = standing_of (slice_index words (state_at s))

  c : Core
  c = core (map node_of linked) standing

  in_linked : (i : ℕ) (e : Entry V) → get_elem? linked i ≡ some e → get_elem? all i ≡ some e
  in_linked i e at = at_more linked spare i e at

  -- two entries of one slot are one
  one_slot : (i j : ℕ) (a b : Entry V) → get_elem? all i ≡ some a → get_elem? all j ≡ some b → a.slot ≡ b.slot → a ≡ b
  one_slot i j a b p q e = let same = fit.slots i j b.slot (at_map slot all i a p ∙ ap (λ (z : ℕ). some z) e) (at_map slot all j b q) in at_one all j a b (ap (get_elem? all) (sym same) ∙ p) q

  home_at : (place : ℕ) → place < value_count → get_elem? homes place ≡ some (some None)
  home_at place low = at_map some (replicate value_count None) place None (nones value_count place low)

  own_home : (s : ℕ) → s < slot_count → get_elem? homes (value_at s) ≡ some (some None)
  own_home s low = home_at (value_at s) (omega arith)

  -- the slot of an entry whose caller has a seat shows nothing yet
  still_away : (i : ℕ) (e : Entry V) → get_elem? all i ≡ some e → ((j : ℕ) (o : Entry V) → get_elem? strangers j ≡ some o → o.caller ≢ e.caller) → standing e.slot ≡ away 0
  unfolding standing
  still_away i e at seated = ap standing_of (laid.away e.slot (fit.small i e at) (λ j o there same. let p = filter_tells (λ e. not (has callers e.caller)) linked j o there in
      seated j o there (ap caller (one_slot p.0 i o e (in_linked p.0 o p.1) at same)))) ∙ zero_stands

  seated_apart : (i who : ℕ) → get_elem? callers i ≡ some who → (j : ℕ) (o : Entry V) → get_elem? strangers j ≡ some o → o.caller ≢ who
  seated_apart i who at j o there = λ same. let p = filter_tells (λ e. not (has callers e.caller)) linked j o there in false≢true (sym (not_true _ p.2) ∙ ap (has callers) same ∙ at_has callers i who at)

  abbrev Hand' : ℕ → Hand V → Type 0
  Hand' i h = IsHand m k.life c words homes holder place 0 i h

  fresh_hand : (i who : ℕ) → get_elem? callers i ≡ some who → Hand' i (hand_for k who)
  unfolding c holder place
  fresh_hand i who at = ⊎_elim
      (λ t. let e = t.1 in let there = in_linked t.0 e t.2 in subst (λ (h : Hand V). Hand' i h) (sym t.4) record {
        here = placed_at 0 callers fit.callers_once i e.caller (at ∙ ap (λ (z : ℕ). some z) (sym t.3)) ∙ ap (λ (z : ℕ). some (0, z)) (let q : 0 + i ≡ i = omega arith in q);
        slot = fit.small t.0 e there;
        held = held_at all fit.slots t.0 e there;
        linked = λ is. (t.0, at_map node_of linked t.0 e t.2);
        spare = λ is. absurd (false≢true (sym is));
        noted = λ p is. absurd (none-some p is);
        hold = (still_away t.0 e there (λ j o a. λ same. seated_apart i who at j o a (same ∙ t.3)), own_home e.slot (fit.small t.0 e there));
      })
      (λ t. let e = t.1 in let there = at_behind linked spare t.0 e t.2 in subst (λ (h : Hand V). Hand' i h) (sym t.4) record {
        here = placed_at 0 callers fit.callers_once i e.caller (at ∙ ap (λ (z : ℕ). some z) (sym t.3)) ∙ ap (λ (z : ℕ). some (0, z)) (let q : 0 + i ≡ i = omega arith in q);
        slot = fit.small (length linked + t.0) e there;
        held = held_at all fit.slots (length linked + t.0) e there;
        linked = λ is. absurd (false≢true is);
        spare = λ is j n a. λ same. let q = at_mapped node_of linked j n a in t.5 j q.0 q.1 (ap (λ (n : Node). n.caller) q.2 ∙ same ∙ t.3);
        noted = λ p is. absurd (none-some p is);
        hold = (still_away (length linked + t.0) e there (λ j o a. λ same. seated_apart i who at j o a (same ∙ t.3)), own_home e.slot (fit.small (length linked + t.0) e there));
      })
      (has_entry i who at)

  abbrev v : View V
  v = first_view k

  stands_fresh : (i who : ℕ) → get_elem? callers i ≡ some who → Stands (v ∷ []) (hand_for k who).slot who
  stands_fresh i who at = (0, i, v, hand_for k who, refl, at_map (hand_for k) callers i who at, refl, ⊎_elim (λ t. ap (λ (h : Hand V). h.who) t.4 ∙ t.3) (λ t. ap (λ (h : Hand V). h.who) t.4 ∙ t.3) (has_entry i who at))

  -- the slot of a caller's hand is that of its linked entry, or else of its spare one
  slot_of_linked : (n i : ℕ) (e : Entry V) → get_elem? callers n ≡ some e.caller → get_elem? linked i ≡ some e → (hand_for k e.caller).slot ≡ e.slot
  slot_of_linked n i e seat at = ⊎_elim
      (λ x. let o = x.1 in let j = fit.linked_once x.0 i e.caller (at_map caller linked x.0 o x.2 ∙ ap (λ (z : ℕ). some z) x.3) (at_map caller linked i e at) in
      let same : o ≡ e = at_one linked i o e (ap (get_elem? linked) (sym j) ∙ x.2) at in ap (λ (h : Hand V). h.slot) x.4 ∙ ap slot same)
      (λ x. absurd (x.5 i e at refl))
      (has_entry n e.caller seat)

  slot_of_spare : (n j : ℕ) (e : Entry V) → get_elem? callers n ≡ some e.caller → get_elem? spare j ≡ some e → has (map caller linked) e.caller ≡ false → (hand_for k e.caller).slot ≡ e.slot
  slot_of_spare n j e seat at lacks = ⊎_elim
      (λ x. absurd (false≢true (sym lacks ∙ at_has (map caller linked) x.0 e.caller (at_map caller linked x.0 x.1 x.2 ∙ ap (λ (z : ℕ). some z) x.3))))
      (λ x. let o = x.1 in let once : Differ (map caller spare) = subst Differ (sym fit.spares) (differ_filter (λ c. not (has (map caller linked) c)) callers fit.callers_once) in
      let l = once x.0 j e.caller (at_map caller spare x.0 o x.2 ∙ ap (λ (z : ℕ). some z) x.3) (at_map caller spare j e at) in
      let same : o ≡ e = at_one spare j o e (ap (get_elem? spare) (sym l) ∙ x.2) at in ap (λ (h : Hand V). h.slot) x.4 ∙ ap slot same)
      (has_entry n e.caller seat)

  stands_as : (n : ℕ) (e : Entry V) → get_elem? callers n ≡ some e.caller → (hand_for k e.caller).slot ≡ e.slot → (s who : ℕ) → e.slot ≡ s → e.caller ≡ who → Stands (v ∷ []) s who
  unfolding stands_fresh
  stands_as n e seat is s who p q = let st = stands_fresh n e.caller seat in (st.0, st.1, st.2, st.3, st.4, st.5, is ∙ p, st.7 ∙ q)

  traced_from : (s who : ℕ) → holder s ≡ some who → Stands (v ∷ []) s who ⊎ IsOther strangers s who
  unfolding holder
  traced_from s who is = let r = held_tells all s who is in let i : ℕ = r.0 in let e = r.1 in ⊎_elim
      (λ at. ⊎_elim
      (λ t. let p = has_at callers e.caller t in inl (stands_as p.0 e p.1 (slot_of_linked p.0 i e p.1 at) s who r.3 r.4))
      (λ f. let kept = filter_keeps (λ (e : Entry V). not (has callers e.caller)) linked i e at (not_false m k fit _ f) in inr (kept.0, e, kept.1, r.3, r.4))
      (cases_Bool (has callers e.caller)))
      (λ at. let j : ℕ = at.0 in
      let there : get_elem? (without linked callers) j ≡ some e.caller = ap (λ l. get_elem? l j) (sym fit.spares) ∙ at_map caller spare j e at.2 in
      let p = filter_tells (λ (c : ℕ). not (has (map caller linked) c)) callers j e.caller there in
      inl (stands_as p.0 e p.1 (slot_of_spare p.0 j e p.1 at.2 (not_true _ p.2)) s who r.3 r.4))
      (at_append linked spare i e r.2)

  -- the rule holds at the start
  pub opens : Holds m k (opening words (replicate value_count None) (first_view k))
  unfolding c holder place standing
  opens = record {
    core = c;
    holder = holder;
    place = place;
    show = record {
      wide = laid.wide;
      head = laid.head;
      nodes = λ i n e. let q = at_mapped node_of linked i n e in subst (λ (n : Node). slice_index words (node_at n.slot) ≡ node_word n.caller (before (map node_of linked) i)) q.2 (laid.nodes i q.0 q.1);
      states = λ s low. word_back (slice_index words (state_at s));
    };
    slots = refl;
    listed = λ i n e. let q = at_mapped node_of linked i n e in subst (λ (n : Node). IsListed holder n) q.2 record { slot = fit.small i q.0 (in_linked i q.0 q.1); held = held_at all fit.slots i q.0 (in_linked i q.0 q.1) };
    callers = λ i j n o a b same. let p = at_mapped node_of linked i n a in let q = at_mapped node_of linked j o b in
        fit.linked_once i j q.0.caller (at_map caller linked i p.0 p.1 ∙ ap (λ (z : ℕ). some z) (ap (λ (n : Node). n.caller) p.2 ∙ same ∙ ap (λ (n : Node). n.caller) (sym q.2))) (at_map caller linked j q.0 q.1);
    hands = λ j i u h a b. let only = at_only v u j a in let here : get_elem? (map (hand_for k) callers) i ≡ some h = ap (λ (u : View V). get_elem? u.hands i) only.1 ∙ b in let q = at_mapped (hand_for k) callers i h here in
        (ap (λ (u : View V). u.base) (sym only.1), subst (λ (z : ℕ × Hand V). IsHand m k.life c words homes holder place z.0 i z.1) (λ x. (sym only.0 x, q.2 x)) (fresh_hand i q.0 q.1));
    known = λ j u a. subst (λ (u : View V). Knows c u) (at_only v u j a).1 record { seen = begins_itself (map node_of linked); room = refl; pasts = λ i nodes e. absurd (some-ne-none nodes (sym e)); sizes = λ s. let z = zeros slot_count s in omega arith };
    wards = λ i e a. let p = filter_tells (λ e. not (has callers e.caller)) linked i e a in let there = in_linked p.0 e p.1 in record {
      slot = fit.small p.0 e there;
      held = held_at all fit.slots p.0 e there;
      no_seat = placed_none 0 callers e.caller (not_true _ p.2);
      standing = odd_stands (m.used e.part) (slice_index words (state_at e.slot)) (laid.home i e a);
      fits = fit.parts p.0 e there;
      elsewhere = own_home e.slot (fit.small p.0 e there);
      linked = (p.0, at_map node_of linked p.0 e p.1);
    };
    traced = traced_from;
    idle = λ place low free. home_at place low;
    stand = λ i who e. ((hand_for k who).slot, stands_fresh i who e);
    started = begins_itself (map node_of linked);
    counted = (let a = len_map (hand_for k) callers in omega arith);
  }
