-- Two seats are joined: the hands of the second go behind those of the first, and nothing else changes.
use Rattle.std.proofs.Common.{◌≡◌, ℕ, zero, suc, ◌+◌, ◌<◌, ◌≤◌, ◌≢◌, ◌⊎◌, Bool, eqb, List, [], ◌∷◌, ◌++◌, length, set, sym, refl, ap, subst, ◌∙◌, inl, inr, ⊎_elim, arith, Option, eq-eqb, ne_eqb, max, cond, ltb}
use Rattle.std.specs.Prelude.{slice_index}
use Rattle.std.proofs.lemmas.List.{length-append}
use mathlib.Core.Option as maybe
use mathlib.Core.Option.{some, none, some-injective, some-ne-none}
use mathlib.Core.Logic.{dite}
use native.Mathlib.Decide.{ℕ_discrete}
use lib.ListN.{get_elem?}
use Rattle.atomic_table.specs.Table.{State, Joins}
use Rattle.atomic_table.proofs.Lists.{set_else, at_set}
use Rattle.arena_list.specs.declared.for_clauses.founding.Founding.{Founding}
use Rattle.arena_list.specs.declared.for_clauses.view.Node.{Node}
use Rattle.arena_list.specs.declared.for_clauses.view.Hand.{Hand}
use Rattle.arena_list.specs.declared.for_clauses.view.View.{View}
use Rattle.arena_list.specs.Words.Core.{slot_count}
use Rattle.arena_list.specs.Words.Nodes.{Begins}
use Rattle.arena_list.specs.Rule.Views.{hand}
use Rattle.arena_list.specs.Rule.Founded.{Meter}
use Rattle.arena_list.specs.Rule.Holds.{Holds, IsHand, Knows, Stands, hand_count}
use Rattle.arena_list.specs.Steps.Tales.{greater, longer, both, spent}
use Rattle.arena_list.proofs.Words.Lists.{at_one, at_replaced, at_more, total-set}
use Rattle.std.specs.Prelude.{replicate}
use Rattle.std.proofs.lemmas.Bool.{cases_Bool}
use Rattle.arena_list.proofs.Steps.Seats.{at_append, at_behind, rest_is, replaced, replaced_ward}

module _ (id other n : ℕ) (place : ℕ → maybe.Option (ℕ × ℕ)) where
  lift : maybe.Option (ℕ × ℕ) → maybe.Option (ℕ × ℕ)
  lift none = none
  lift (some p) = cond (eqb p.0 other) (some (id, n + p.1)) (some p)

  join_place : ℕ → maybe.Option (ℕ × ℕ)
  join_place x = lift (place x)

  join_moved : (x i : ℕ) → place x ≡ some (other, i) → join_place x ≡ some (id, n + i)
  unfolding join_place lift
  join_moved x i e = ap lift e ∙ ap (λ (b : Bool). cond b (some (id, n + i)) (some (other, i))) (eq-eqb other other refl)

  join_else : (x j i : ℕ) → j ≢ other → place x ≡ some (j, i) → join_place x ≡ some (j, i)
  unfolding join_place lift
  join_else x j i ne e = ap lift e ∙ ap (λ (b : Bool). cond b (some (id, n + i)) (some (j, i))) (ne_eqb j other ne)

  join_none : (x : ℕ) → place x ≡ none → join_place x ≡ none
  unfolding join_place lift
  join_none x e = ap lift e

-- ---- the greater sums
pub greater-length : (xs ys : List ℕ) → length xs ≡ length ys → length (greater xs ys) ≡ length xs
greater-length [] ys e = refl
greater-length (x ∷ xs) [] e = absurd (omega arith)
greater-length (x ∷ xs) (y ∷ ys) e = ap suc (greater-length xs ys (omega arith))

pub greater-most : (xs ys : List ℕ) (f : ℕ → ℕ) → ((i : ℕ) → slice_index xs i ≤ f i) → ((i : ℕ) → slice_index ys i ≤ f i) → (i : ℕ) → slice_index (greater xs ys) i ≤ f i
greater-most [] ys f a b i = a i
greater-most (x ∷ xs) [] f a b i = b i
greater-most (x ∷ xs) (y ∷ ys) f a b zero = let p : x ≤ f 0 = a 0 in let q : y ≤ f 0 = b 0 in omega arith
greater-most (x ∷ xs) (y ∷ ys) f a b (suc i) = greater-most xs ys (λ j. f (suc j)) (λ j. a (suc j)) (λ j. b (suc j)) i

pub greater-first : (xs ys : List ℕ) → length xs ≡ length ys → (i : ℕ) → slice_index xs i ≤ slice_index (greater xs ys) i
greater-first [] ys e i = omega arith
greater-first (x ∷ xs) [] e i = absurd (omega arith)
greater-first (x ∷ xs) (y ∷ ys) e zero = let z : x ≤ max x y = omega arith in z
greater-first (x ∷ xs) (y ∷ ys) e (suc i) = greater-first xs ys (omega arith) i

pub greater-second : (xs ys : List ℕ) → length xs ≡ length ys → (i : ℕ) → slice_index ys i ≤ slice_index (greater xs ys) i
greater-second [] [] e i = omega arith
greater-second [] (y ∷ ys) e i = absurd (omega arith)
greater-second (x ∷ xs) [] e i = absurd (omega arith)
greater-second (x ∷ xs) (y ∷ ys) e zero = let z : y ≤ max x y = omega arith in z
greater-second (x ∷ xs) (y ∷ ys) e (suc i) = greater-second xs ys (omega arith) i

pub zeros : (n i : ℕ) → slice_index (replicate n 0) i ≡ 0
zeros zero i = refl
zeros (suc n) zero = refl
zeros (suc n) (suc i) = zeros n i

longer_is : (xs ys : List Node) → (longer xs ys ≡ xs) ⊎ (longer xs ys ≡ ys)
longer_is xs ys = ⊎_elim (λ t. inr (ap (λ (b : Bool). cond b ys xs) t)) (λ f. inl (ap (λ (b : Bool). cond b ys xs) f)) (cases_Bool (ltb (length xs) (length ys)))

module _ {V : Type 0} (m : Meter V) (k : Founding V) (s : State (Option V) (View V)) (r : Holds m k s) where
  abbrev Old : ℕ → ℕ → Hand V → Type 0
  Old j i g = IsHand m k.life r.core s.words s.homes r.holder r.place j i g

  module _ (id other : ℕ) (v w : View V) (some_hand : 0 < length v.hands) (at : get_elem? s.views id ≡ some v) (apart : ¬ (other ≡ id)) (at_other : get_elem? s.views other ≡ some w) where
    abbrev one : View V
    one = both v w

    abbrev firsts : List (View V)
    firsts = set s.views id one

    abbrev views' : List (View V)
    views' = set firsts other spent

    abbrev n : ℕ
    n = length v.hands

    place' : ℕ → maybe.Option (ℕ × ℕ)
    place' = join_place id other n r.place

    abbrev New : ℕ → ℕ → Hand V → Type 0
    New j i g = IsHand m k.life r.core s.words s.homes r.holder place' j i g

    based : v.base ≡ k
    based = (r.hands id 0 v (hand v) at (ap (λ l. get_elem? l 0) (rest_is v.hands some_hand))).0

    other_there : get_elem? firsts other ≡ some w
    other_there = set_else s.views id other one apart ∙ at_other

    one_there : get_elem? views' id ≡ some one
    one_there = set_else firsts other id spent (λ e. apart (sym e)) ∙ at_replaced s.views id v one at

    join_hands : (j i : ℕ) (u : View V) (g : Hand V) → get_elem? views' j ≡ some u → get_elem? u.hands i ≡ some g → (u.base ≡ k) × New j i g
    unfolding place'
    join_hands j i u g a b = ⊎_elim
        (λ t. absurd (some-ne-none g (sym b ∙ ap (λ (u : View V). get_elem? u.hands i) (sym t.1))))
        (λ t. ⊎_elim
        (λ p. let here : get_elem? (v.hands ++ w.hands) i ≡ some g = ap (λ (u : View V). get_elem? u.hands i) p.1 ∙ b in (
          ap (λ (u : View V). u.base) (sym p.1) ∙ based,
          subst (λ (z : ℕ). New z i g) (sym p.0) (⊎_elim
              (λ q. let old = r.hands id i v g at q in replaced m k.life r.core s.words s.homes r.holder r.place place' id i id i g (join_else id other n r.place g.who id i (λ e. apart (sym e)) old.1.here) old.1)
              (λ q. let l : ℕ = q.0 in let old = r.hands other l w g at_other q.2 in subst (λ (z : ℕ). New id z g) (sym q.1) (replaced m k.life r.core s.words s.homes r.holder r.place place' other l id (n + l) g (join_moved id other n r.place g.who l old.1.here) old.1))
              (at_append v.hands w.hands i g here)),
        ))
        (λ p. let old = r.hands j i u g p.1 b in (old.0, replaced m k.life r.core s.words s.homes r.holder r.place place' j i j i g (join_else id other n r.place g.who j i t.0 old.1.here) old.1))
        (at_set s.views id j one u t.1))
        (at_set firsts other j spent u a)

    join_stands : (slot who : ℕ) → Stands s.views slot who → Stands views' slot who
    join_stands slot who x = let j = x.0 in let i : ℕ = x.1 in let u = x.2 in let g = x.3 in dite (ℕ_discrete j other)
        (λ e. let same : u ≡ w = at_one s.views j u w x.4 (ap (get_elem? s.views) e ∙ at_other) in
        (id, n + i, one, g, one_there, at_behind v.hands w.hands i g (ap (λ (u : View V). get_elem? u.hands i) (sym same) ∙ x.5), x.6, x.7))
        (λ ne. dite (ℕ_discrete j id)
        (λ e. let same : u ≡ v = at_one s.views j u v x.4 (ap (get_elem? s.views) e ∙ at) in
        (id, i, one, g, one_there, at_more v.hands w.hands i g (ap (λ (u : View V). get_elem? u.hands i) (sym same) ∙ x.5), x.6, x.7))
        (λ far. (j, i, u, g, set_else firsts other j spent ne ∙ (set_else s.views id j one far ∙ x.4), x.5, x.6, x.7)))

    pasts_both : (a b : View V) → Begins a.seen r.core.joined → Begins b.seen r.core.joined
        → ((i : ℕ) (nodes : List Node) → get_elem? a.pasts i ≡ some nodes → Begins nodes r.core.joined) → ((i : ℕ) (nodes : List Node) → get_elem? b.pasts i ≡ some nodes → Begins nodes r.core.joined)
        → (i : ℕ) (nodes : List Node) → get_elem? (both a b).pasts i ≡ some nodes → Begins nodes r.core.joined
    pasts_both a b p q first second zero nodes e = subst (λ (l : List Node). Begins l r.core.joined) (some-injective a.seen nodes e) p
    pasts_both a b p q first second (suc zero) nodes e = subst (λ (l : List Node). Begins l r.core.joined) (some-injective b.seen nodes e) q
    pasts_both a b p q first second (suc (suc i)) nodes e = ⊎_elim (λ t. first i nodes t) (λ t. second t.0 nodes t.2) (at_append a.pasts b.pasts i nodes e)

    knows_both : Knows r.core one
    knows_both = let a = r.known id v at in let b = r.known other w at_other in record {
      seen = ⊎_elim (λ e. subst (λ (l : List Node). Begins l r.core.joined) (sym e) a.seen) (λ e. subst (λ (l : List Node). Begins l r.core.joined) (sym e) b.seen) (longer_is v.seen w.seen);
      pasts = pasts_both v w a.seen b.seen a.pasts b.pasts;
      room = greater-length v.sizes w.sizes (a.room ∙ sym b.room) ∙ a.room;
      sizes = greater-most v.sizes w.sizes (λ slot. (r.core.standing slot).used) a.sizes b.sizes;
    }

    knows_spent : Knows r.core (spent {V = V})
    knows_spent = record {
      seen = record { short = omega arith; same = λ i n e. absurd (some-ne-none n (sym e)) };
      pasts = λ i nodes e. absurd (some-ne-none nodes (sym e));
      room = refl;
      sizes = λ slot. let z = zeros slot_count slot in omega arith;
    }

    pub join_holds : Holds m k record { words = s.words; homes = s.homes; views = views' }
    unfolding place'
    join_holds = record {
      core = r.core;
      holder = r.holder;
      place = place';
      show = r.show;
      slots = r.slots;
      listed = r.listed;
      callers = r.callers;
      started = r.started;
      hands = join_hands;
      known = λ j u a. ⊎_elim (λ t. subst (λ (u : View V). Knows r.core u) t.1 knows_spent)
          (λ t. ⊎_elim (λ p. subst (λ (u : View V). Knows r.core u) p.1 knows_both) (λ p. r.known j u p.1) (at_set s.views id j one u t.1))
          (at_set firsts other j spent u a);
      wards = λ i e a. let old = r.wards i e a in replaced_ward m k.life r.core s.words s.homes r.holder r.place place' e (join_none id other n r.place e.caller old.no_seat) old;
      traced = λ slot who e. ⊎_elim (λ t. inl (join_stands slot who t)) (λ t. inr t) (r.traced slot who e);
      idle = r.idle;
      stand = λ i who e. let x = r.stand i who e in (x.0, join_stands x.0 who x.1);
      counted = (let a = total-set hand_count s.views id v one at in let b = total-set hand_count firsts other w spent other_there in let c : length (v.hands ++ w.hands) ≡ length v.hands + length w.hands = length-append v.hands w.hands in let e = r.counted in omega arith);
    }

pub joins : {V : Type 0} (m : Meter V) (k : Founding V) (id other : ℕ) (v w : View V) → 0 < length v.hands → Joins (Holds m k) id v other w (both v w) spent
joins m k id other v w some_hand s r at apart at_other = join_holds m k s r id other v w some_hand at apart (sym (set_else s.views id other (both v w) apart) ∙ at_other)
