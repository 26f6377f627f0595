-- A seat is split off, and two seats are joined: each hand moves to its new place, and nothing else changes.
use Rattle.std.proofs.Common.{◌≡◌, ℕ, zero, suc, ◌+◌, ◌<◌, ◌≢◌, ◌⊎◌, Bool, eqb, List, [], ◌∷◌, ◌++◌, length, set, sym, refl, ap, subst, ◌∙◌, inl, inr, ⊎_elim, arith, Option, length-set, eq-eqb, ne_eqb, pred, cond}
use mathlib.Core.Option as maybe
use mathlib.Core.Option.{some, none, some-injective, some-ne-none}
use mathlib.Core.Logic.{dite}
use native.Mathlib.Decide.{ℕ_discrete}
use lib.ListN.{get_elem?}
use Rattle.atomic_table.specs.Table.{State, Splits}
use Rattle.atomic_table.proofs.Lists.{set_else, at_set}
use Rattle.arena_list.specs.declared.for_clauses.founding.Founding.{Founding}
use Rattle.arena_list.specs.declared.for_clauses.view.Hand.{Hand}
use Rattle.arena_list.specs.declared.for_clauses.view.View.{View}
use Rattle.arena_list.specs.Words.Core.{Core}
use Rattle.arena_list.specs.Rule.Views.{hand, first_hand}
use Rattle.arena_list.specs.declared.entry.Entry.{Entry}
use Rattle.arena_list.specs.Rule.Founded.{Meter}
use Rattle.arena_list.specs.Rule.Holds.{Holds, IsHand, Knows, IsWard, Stands, hand_count}
use Rattle.arena_list.specs.Steps.Tales.{dealt, undealt, rest_of}
use Rattle.arena_list.proofs.Words.Lists.{at_only, at_one, at_replaced, at_end, at_more, total-set, total-more}
use Rattle.arena_list.proofs.Rule.Moved.{Homes}

module _ {A : Type 0} where
  pub at_append : (l m : List A) (i : ℕ) (b : A) → get_elem? (l ++ m) i ≡ some b → (get_elem? l i ≡ some b) ⊎ ((j : ℕ) × (i ≡ length l + j) × (get_elem? m j ≡ some b))
  at_append [] m i b e = inr (i, (let z : i ≡ 0 + i = omega arith in z), e)
  at_append (x ∷ xs) m zero b e = inl e
  at_append (x ∷ xs) m (suc i) b e = ⊎_elim (λ t. inl t) (λ t. let j : ℕ = t.0 in let is : i ≡ length xs + j = t.1 in inr (j, (let z : suc i ≡ suc (length xs) + j = omega arith in z), t.2)) (at_append xs m i b e)

  pub at_behind : (l m : List A) (j : ℕ) (b : A) → get_elem? m j ≡ some b → get_elem? (l ++ m) (length l + j) ≡ some b
  at_behind [] m j b e = subst (λ (i : ℕ). get_elem? m i ≡ some b) (let z : j ≡ 0 + j = omega arith in z) e
  at_behind (x ∷ xs) m j b e = subst (λ (i : ℕ). get_elem? (x ∷ (xs ++ m)) i ≡ some b) (let z : suc (length xs + j) ≡ suc (length xs) + j = omega arith in z) (at_behind xs m j b e)

  pub at_end_of : (l : List A) (a : A) → get_elem? (l ++ a ∷ []) (length l) ≡ some a
  at_end_of [] a = refl
  at_end_of (x ∷ xs) a = at_end_of xs a

module _ {V : Type 0} (m : Meter V) (life : ℕ) (c : Core) (words : List ℕ) (homes : Homes V) (holder : ℕ → maybe.Option ℕ) (place place' : ℕ → maybe.Option (ℕ × ℕ)) where
  -- a hand at another place
  pub replaced : (j i j' i' : ℕ) (g : Hand V) → place' g.who ≡ some (j', i') → IsHand m life c words homes holder place j i g → IsHand m life c words homes holder place' j' i' g
  replaced j i j' i' g e o = record { here = e; slot = o.slot; held = o.held; linked = o.linked; spare = o.spare; noted = o.noted; hold = o.hold }

  pub replaced_ward : (e : Entry V) → place' e.caller ≡ none → IsWard m life c homes holder place e → IsWard m life c homes holder place' e
  replaced_ward e is o = record { slot = o.slot; held = o.held; no_seat = is; standing = o.standing; fits = o.fits; elsewhere = o.elsewhere; linked = o.linked }

-- ---- a split
module _ (id n who : ℕ) (place : ℕ → maybe.Option (ℕ × ℕ)) where
  shift : maybe.Option (ℕ × ℕ) → maybe.Option (ℕ × ℕ)
  shift none = none
  shift (some p) = cond (eqb p.0 id) (some (id, pred p.1)) (some p)

  split_place : ℕ → maybe.Option (ℕ × ℕ)
  split_place x = cond (eqb x who) (some (n, 0)) (shift (place x))

  split_own : split_place who ≡ some (n, 0)
  unfolding split_place
  split_own = ap (λ (b : Bool). cond b (some (n, 0)) (shift (place who))) (eq-eqb who who refl)

  split_other : (x : ℕ) → x ≢ who → split_place x ≡ shift (place x)
  unfolding split_place
  split_other x ne = ap (λ (b : Bool). cond b (some (n, 0)) (shift (place x))) (ne_eqb x who ne)

  split_rest : (x i : ℕ) → x ≢ who → place x ≡ some (id, suc i) → split_place x ≡ some (id, i)
  unfolding split_place shift
  split_rest x i ne e = split_other x ne ∙ ap shift e ∙ ap (λ (b : Bool). cond b (some (id, i)) (some (id, suc i))) (eq-eqb id id refl)

  split_else : (x j i : ℕ) → x ≢ who → j ≢ id → place x ≡ some (j, i) → split_place x ≡ some (j, i)
  unfolding split_place shift
  split_else x j i ne other e = split_other x ne ∙ ap shift e ∙ ap (λ (b : Bool). cond b (some (id, pred i)) (some (j, i))) (ne_eqb j id other)

  split_none : (x : ℕ) → x ≢ who → place x ≡ none → split_place x ≡ none
  unfolding split_place shift
  split_none x ne e = split_other x ne ∙ ap shift e

pub rest_is : {V : Type 0} (hs : List (Hand V)) → 0 < length hs → hs ≡ first_hand hs ∷ rest_of hs
rest_is [] e = absurd (omega arith)
rest_is (h ∷ hs) e = refl

module _ {V : Type 0} (m : Meter V) (k : Founding V) (s : State (Option V) (View V)) (r : Holds m k s) where
  abbrev Old : ℕ → ℕ → Hand V → Type 0
  Old j i g = IsHand m k.life r.core s.words s.homes r.holder r.place j i g

  module _ (id : ℕ) (v : View V) (some_hand : 0 < length v.hands) (at : get_elem? s.views id ≡ some v) where
    abbrev h : Hand V
    h = hand v

    abbrev hs : List (Hand V)
    hs = rest_of v.hands

    abbrev n : ℕ
    n = length s.views

    abbrev left : View V
    left = undealt v

    abbrev right : View V
    right = dealt v

    abbrev lefts : List (View V)
    lefts = set s.views id left

    is : v.hands ≡ h ∷ hs
    is = rest_is v.hands some_hand

    first : get_elem? v.hands 0 ≡ some h
    first = ap (λ l. get_elem? l 0) is

    own : (v.base ≡ k) × Old id 0 h
    own = r.hands id 0 v h at first

    place' : ℕ → maybe.Option (ℕ × ℕ)
    place' = split_place id n h.who r.place

    abbrev New : ℕ → ℕ → Hand V → Type 0
    New j i g = IsHand m k.life r.core s.words s.homes r.holder place' j i g

    who_apart : (j i : ℕ) (u : View V) (g : Hand V) → get_elem? s.views j ≡ some u → get_elem? u.hands i ≡ some g → (j ≡ id → i ≢ 0) → g.who ≢ h.who
    who_apart j i u g a b ne e = let p : (j, i) ≡ (id, 0) = some-injective _ _ (sym (r.hands j i u g a b).1.here ∙ ap r.place e ∙ own.1.here) in ne (ap (λ (z : ℕ × ℕ). z.0) p) (ap (λ (z : ℕ × ℕ). z.1) p)

    in_rest : (i : ℕ) (g : Hand V) → get_elem? hs i ≡ some g → get_elem? v.hands (suc i) ≡ some g
    in_rest i g e = ap (λ l. get_elem? l (suc i)) is ∙ e

    split_hands : (j i : ℕ) (u : View V) (g : Hand V) → get_elem? (lefts ++ right ∷ []) j ≡ some u → get_elem? u.hands i ≡ some g → (u.base ≡ k) × New j i g
    unfolding place'
    split_hands j i u g a b = ⊎_elim
        (λ t. ⊎_elim
        (λ p. let in_hs : get_elem? hs i ≡ some g = ap (λ (u : View V). get_elem? u.hands i) p.1 ∙ b in let there = in_rest i g in_hs in let old = r.hands id (suc i) v g at there in
        let ne = who_apart id (suc i) v g at there (λ same e. omega arith) in
        (ap (λ (u : View V). u.base) (sym p.1) ∙ own.0, subst (λ (z : ℕ). New z i g) (sym p.0) (replaced m k.life r.core s.words s.homes r.holder r.place place' id (suc i) id i g (split_rest id n h.who r.place g.who i ne old.1.here) old.1)))
        (λ p. let old = r.hands j i u g p.1 b in let ne = who_apart j i u g p.1 b (λ same e. p.0 same) in
        (old.0, replaced m k.life r.core s.words s.homes r.holder r.place place' j i j i g (split_else id n h.who r.place g.who j i ne p.0 old.1.here) old.1))
        (at_set s.views id j left u t))
        (λ t. let only = at_only h g i (ap (λ (u : View V). get_elem? u.hands i) t.1 ∙ b) in
        let new = replaced m k.life r.core s.words s.homes r.holder r.place place' id 0 n 0 h (split_own id n h.who r.place) own.1 in
        let long : j ≡ n = t.0 ∙ length-set s.views id left in
        (ap (λ (u : View V). u.base) (sym t.1) ∙ own.0, subst (λ (z : ℕ × ℕ × Hand V). New z.0 z.1 z.2) (λ x. (sym long x, sym only.0 x, only.1 x)) new))
        (at_end lefts right u j a)

    split_stands : (slot who : ℕ) → Stands s.views slot who → Stands (lefts ++ right ∷ []) slot who
    split_stands slot who x = let j = x.0 in let i : ℕ = x.1 in let u = x.2 in let g = x.3 in dite (ℕ_discrete j id)
        (λ e. let same : u ≡ v = at_one s.views j u v x.4 (ap (get_elem? s.views) e ∙ at) in
        let b : get_elem? (h ∷ hs) i ≡ some g = ap (λ l. get_elem? l i) (sym is) ∙ ap (λ (u : View V). get_elem? u.hands i) (sym same) ∙ x.5 in
        from_hand i g b x.6 x.7)
        (λ ne. (j, i, u, g, at_more lefts (right ∷ []) j u (set_else s.views id j left ne ∙ x.4), x.5, x.6, x.7)) where
          from_hand : (i : ℕ) (g : Hand V) → get_elem? (h ∷ hs) i ≡ some g → g.slot ≡ slot → g.who ≡ who → Stands (lefts ++ right ∷ []) slot who
          from_hand zero g b p q = let same : h ≡ g = some-injective h g b in
              (length lefts, 0, right, h, at_end_of lefts right, refl, ap (λ (g : Hand V). g.slot) same ∙ p, ap (λ (g : Hand V). g.who) same ∙ q)
          from_hand (suc i) g b p q = (id, i, left, g, at_more lefts (right ∷ []) id left (at_replaced s.views id v left at), b, p, q)

    split_holds : Holds m k record { words = s.words; homes = s.homes; views = lefts ++ right ∷ [] }
    unfolding place'
    split_holds = let knows = r.known id v at in record {
      core = r.core;
      holder = r.holder;
      place = place';
      show = r.show;
      slots = r.slots;
      listed = r.listed;
      callers = r.callers;
      started = r.started;
      hands = split_hands;
      known = λ j u a. ⊎_elim
          (λ t. ⊎_elim (λ p. subst (λ (u : View V). Knows r.core u) p.1 record { seen = knows.seen; room = knows.room; pasts = knows.pasts; sizes = knows.sizes }) (λ p. r.known j u p.1) (at_set s.views id j left u t))
          (λ t. subst (λ (u : View V). Knows r.core u) t.1 record { seen = knows.seen; room = knows.room; pasts = knows.pasts; sizes = knows.sizes })
          (at_end lefts right u j a);
      wards = λ i e a. let old = r.wards i e a in replaced_ward m k.life r.core s.words s.homes r.holder r.place place' e
          (split_none id n h.who r.place e.caller (λ same. some-ne-none _ (sym own.1.here ∙ ap r.place (sym same) ∙ old.no_seat)) old.no_seat) old;
      traced = λ slot who e. ⊎_elim (λ t. inl (split_stands slot who t)) (λ t. inr t) (r.traced slot who e);
      idle = r.idle;
      stand = λ i who e. let x = r.stand i who e in (x.0, split_stands x.0 who x.1);
      counted = (let a = total-set hand_count s.views id v left at in let b = total-more hand_count lefts right in let c : length v.hands ≡ length hs + 1 = ap length is ∙ (let z : suc (length hs) ≡ length hs + 1 = omega arith in z) in let e = r.counted in omega arith);
    }

pub splits : {V : Type 0} (m : Meter V) (k : Founding V) (id : ℕ) (v : View V) → 0 < length v.hands → Splits (Holds m k) id v (undealt v) (dealt v)
splits m k id v some_hand s r at = split_holds m k s r id v some_hand at
