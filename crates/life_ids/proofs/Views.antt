-- Sums over the views of all seats, where one seat's view changes.
use Rattle.std.proofs.Common.{◌≡◌, ◌≢◌, ℕ, zero, suc, ◌+◌, ◌<◌, ◌≤◌, List, [], ◌∷◌, length, get_or, set, refl, sym, ap, arith}
use Rattle.std.specs.List.{sum_by}
use Rattle.std.proofs.lemmas.List.Sums.{sum_by-cons, sum_by-set, sum_by-le-sum_by, get_or-le-sum_by}
use mathlib.Core.Option.{some, some-injective, some-ne-none}
use lib.ListN.{get_elem?}
use Rattle.life_ids.specs.declared.view.View.{View}
use Rattle.life_ids.specs.Rule.{view_of, batches, share}

-- where a view stands
pub stands : (views : List View) (port : ℕ) (v : View) → get_elem? views port ≡ some v → (port < length views) × (get_or views port v ≡ v)
stands [] port v at = absurd (some-ne-none v (sym at))
stands (u ∷ views) zero v at = (omega arith, some-injective u v at)
stands (u ∷ views) (suc port) v at = let more = stands views port v at in (omega arith, more.1)

module _ (f : View → ℕ) (views : List View) (port : ℕ) (v : View) (at : get_elem? views port ≡ some v) where
  pub sum_set : (w : View) → sum_by f (set views port w) + f v ≡ sum_by f views + f w
  sum_set w =
      let here = stands views port v at in
      let e = sum_by-set f views port w v here.0 in let same = ap f here.1 in omega arith

  pub one_of : f v ≤ sum_by f views
  one_of = let here = stands views port v at in let e = get_or-le-sum_by f views port v here.0 in let same = ap f here.1 in omega arith

-- of two seats
pub two_of : (f : View → ℕ) (views : List View) (port other : ℕ) (v w : View) → port ≢ other → get_elem? views port ≡ some v → get_elem? views other ≡ some w → f v + f w ≤ sum_by f views
two_of f [] port other v w apart at at' = absurd (some-ne-none v (sym at))
two_of f (u ∷ views) zero zero v w apart at at' = absurd (apart refl)
two_of f (u ∷ views) zero (suc other) v w apart at at' =
    let here = ap f (some-injective u v at) in let there = one_of f views other w at' in let sum = sum_by-cons f u views in omega arith
two_of f (u ∷ views) (suc port) zero v w apart at at' =
    let here = ap f (some-injective u w at') in let there = one_of f views port v at in let sum = sum_by-cons f u views in omega arith
two_of f (u ∷ views) (suc port) (suc other) v w apart at at' =
    let there = two_of f views port other v w (λ e. apart (ap suc e)) at at' in let sum = sum_by-cons f u views in omega arith

-- the batches that were taken, and a quota
pub beside : (views : List View) (port : ℕ) (v : View) → get_elem? views port ≡ some v → sum_by batches views + v.quota ≤ sum_by share views
beside views port v at =
    let w : View = view_of v.total v.taken v.given 0 in
    let taken = sum_set batches views port v at w in
    let shared = sum_set share views port v at w in
    let fewer = sum_by-le-sum_by batches share (set views port w) (λ u. omega arith) in omega arith
