-- A seat within a call, with the values that it holds seen as their marks.
use Rattle.std.proofs.Common.{◌≡◌, ℕ, Bool, List, [], ◌∷◌, map, sym, refl, ap, subst, ◌∙◌, Option, Some, None}
use base.Stored.{Coded}
use Rattle.atomic_table.specs.Table.{Me, Allows}
use Rattle.atomic_table.specs.Table.{rest as rest_of_slots}
use Rattle.arena_list.specs.declared.for_clauses.founding.Founding.{Founding}
use Rattle.arena_list.specs.declared.for_clauses.mark.Mark.{Mark}
use Rattle.arena_list.specs.declared.for_clauses.view.Hold.{Hold}
use Rattle.arena_list.specs.declared.for_clauses.view.Hold.TheVariants.{Rests}
use Rattle.arena_list.specs.declared.for_clauses.view.View.{View}
use Rattle.arena_list.specs.Rule.Founded.{Meter}
use Rattle.arena_list.specs.Marks.Image.{seen_slot, seen_me}
use Rattle.arena_list.specs.Rule.Holds.{Holds}
use Rattle.arena_list.specs.Steps.Tales.{Sat, sole, IsSeated}
use Rattle.arena_list.specs.Marks.OfParts.{marks, mark, marked, marked_founding, HoldsSeen}
use Rattle.arena_list.proofs.Marks.Marked.{step_seen}

pub some_one : {A : Type 0} (x y : A) → Some x ≡ Some y → x ≡ y
some_one x y e = cc

value_of : {A : Type 0} → Option A → List (ℕ × Option A) → Option A
value_of d [] = d
value_of d (x ∷ xs) = x.1

place_of : {A : Type 0} → List (ℕ × Option A) → ℕ
place_of [] = 0
place_of (x ∷ xs) = x.0

not_none : {A : Type 0} (x : A) → Some x ≡ None → ⊥
not_none x e = cc

rests_one : (x y : Mark) → (◌≡◌ {A = Hold Mark} (Rests x) (Rests y)) → x ≡ y
rests_one x y e = cc

-- one view, from its badge
pub lone : (views : List (View Mark)) (v : View Mark) → views ≡ v ∷ [] → views ≡ sole views ∷ []
lone views v is = is ∙ ap (λ (l : List (View Mark)). sole l ∷ []) (sym is)

module _ {V : Type 0} (c : Coded V) (m : Meter V) where
  abbrev pub f : Option V → Option Mark
  f = marked c m

  abbrev pub Own : Type 0
  Own = Me (Option V) (View Mark)

  abbrev pub seen : Own → Sat Mark
  seen me = seen_me f me

  -- ---- what the seat holds, from what is seen of it
  pub no_slot : (l : List (ℕ × Option V)) → map (seen_slot f) l ≡ [] → l ≡ []
  no_slot [] e = refl
  no_slot (x ∷ xs) e = absurd cc

  pub one_empty : (l : List (ℕ × Option V)) (n : ℕ) → map (seen_slot f) l ≡ (n, None) ∷ [] → l ≡ (n, None) ∷ []
  unfolding place_of value_of
  one_empty [] n e = absurd cc
  one_empty ((k, None) ∷ []) n e = ap (λ (z : ℕ). (z, None) ∷ []) (ap place_of e)
  one_empty ((k, Some y) ∷ xs) n e = absurd (not_none (mark c m y) (ap (value_of None) e))
  one_empty ((k, None) ∷ (x ∷ xs)) n e = absurd cc

  pub one_full : (l : List (ℕ × Option V)) (n : ℕ) (p : Mark) → map (seen_slot f) l ≡ (n, Some p) ∷ [] → (y : V) × (l ≡ (n, Some y) ∷ []) × (p ≡ mark c m y)
  unfolding place_of value_of
  one_full [] n p e = absurd cc
  one_full ((k, None) ∷ xs) n p e = absurd (not_none p (ap (value_of None) (sym e)))
  one_full ((k, Some y) ∷ []) n p e = (y, ap (λ (z : ℕ). (z, Some y) ∷ []) (ap place_of e), some_one p (mark c m y) (ap (value_of None) (sym e)))
  one_full ((k, Some y) ∷ (x ∷ xs)) n p e = absurd cc

  -- ---- taken up, and laid down again
  pub up_is : (views : List (View Mark)) (me : Own) → views ≡ me.0 ∷ [] → me.1 ≡ [] → me ≡ (sole views, [])
  up_is views me is free = λ i. (sym (ap sole is) i, free i)

  pub up : (me : Own) (v : View Mark) → me ≡ (v, []) → seen me ≡ (v, [])
  up me v is = ap (λ (x : Own). seen x) is

  -- what the badge has afterwards
  pub laid : (views : List (View Mark)) (me : Own) → views ≡ me.0 ∷ [] → (seen me).1 ≡ [] → seen me ≡ (sole views, [])
  laid views me is free = λ i. (sym (ap sole is) i, free i)

  pub laid_view : (views : List (View Mark)) (me : Own) → views ≡ me.0 ∷ [] → sole views ≡ me.0
  laid_view views me is = ap sole is

  -- ---- a step
  pub allows : (k : Founding V) (slots id : ℕ) (me : Own) (i : ℕ) (g : ℕ → ℕ) (T : Sat Mark → ℕ → Sat Mark → Type 0) (x : Sat Mark) → seen me ≡ x → Allows (Holds marks (marked_founding c m k)) slots id x i g (T x)
      → Allows (HoldsSeen c m k) slots id me i g (λ n after. T (seen me) n (seen after))
  allows k slots id me i g T x is a = step_seen c m k slots id me i g (T (seen me)) (subst (λ (y : Sat Mark). Allows (Holds marks (marked_founding c m k)) slots id y i g (T y)) (sym is) a)

  pub tells : (T : Sat Mark → ℕ → Sat Mark → Type 0) (me me' : Own) (r : ℕ) (x : Sat Mark) → seen me ≡ x → T (seen me) r (seen me') → T x r (seen me')
  tells T me me' r x is told = subst (λ (y : Sat Mark). T y r (seen me')) is told

  -- the same where the badge lies down again
  pub told : (T : Sat Mark → ℕ → Sat Mark → Type 0) (me me' : Own) (r : ℕ) (v : View Mark) (views : List (View Mark)) → me ≡ (v, []) → views ≡ me'.0 ∷ [] → me'.1 ≡ [] → T (seen me) r (seen me') → T (v, []) r (sole views, [])
  told T me me' r v views is after free t = subst (λ (y : Sat Mark). T (v, []) r y) (laid views me' after (ap (map (seen_slot f)) free)) (tells T me me' r (v, []) (up me v is) t)

  pub seated_laid : {caller slot used head : ℕ} {linked : Bool} (views : List (View Mark)) (me : Own) → views ≡ me.0 ∷ [] → IsSeated marks caller slot linked used head (seen me) → IsSeated marks caller slot linked used head (sole views, [])
  seated_laid {caller} {slot} {used} {head} {linked} views me is o = subst (λ (x : Sat Mark). IsSeated marks caller slot linked used head x) (laid views me is o.free) o

  -- ---- the slot's value
  pub filled : (slot : ℕ) (x y : Option V) (me me' : Own) → me.1 ≡ (slot, x) ∷ [] → me' ≡ (me.0, (slot, y) ∷ rest_of_slots me.1) → me' ≡ (me.0, (slot, y) ∷ [])
  filled slot x y me me' e is = is ∙ (λ i. (me.0, (slot, y) ∷ rest_of_slots (e i)))

  pub none_out : (l : List (ℕ × Option V)) (slot : ℕ) (y : V) (x : Option V) → l ≡ (slot, Some y) ∷ [] → l ≡ (slot, x) ∷ rest_of_slots l → x ≡ None → ⊥
  unfolding value_of
  none_out l slot y x a b is = not_none y (ap (value_of None) (sym a ∙ b) ∙ is)

  pub some_out : (l : List (ℕ × Option V)) (slot : ℕ) (y : V) (x : Option V) → l ≡ (slot, None) ∷ [] → l ≡ (slot, x) ∷ rest_of_slots l → x ≡ Some y → ⊥
  unfolding value_of
  some_out l slot y x a b is = not_none y (sym is ∙ ap (value_of None) (sym b ∙ a))

  -- a slot has one value at most
  pub one_value : (x y : V) → (◌≡◌ {A = Hold Mark} (Rests (mark c m x)) (Rests (mark c m y))) → x ≡ y
  one_value x y e = c.inj x y (ap (λ (p : Mark). p.code) (rests_one (mark c m x) (mark c m y) e))
