-- No id is in the batches of two seats that are joined, nor in those of a seat and in a batch that it takes.
use Rattle.std.proofs.Common.{◌≡◌, ◌∙◌, ℕ, ◌-◌, ◌≤◌, List, ◌++◌, length, take, drop, ap, sym, subst, arith}
use Rattle.std.specs.List.{Contains}
use Rattle.std.proofs.lemmas.List.{take-append-drop}
use Rattle.std.proofs.lemmas.List.Elements.{Contains-append_left, Contains-append_right}
use Rattle.std.proofs.lemmas.List.Concat.{flat_map-append}
use Rattle.life_ids.specs.declared.view.View.{View}
use Rattle.life_ids.specs.Batches.{batch, ids_of, ids_but}
use Rattle.life_ids.specs.Rule.{times_in}
use Rattle.life_ids.specs.Plays.{Took, joined}
use Rattle.life_ids.proofs.BatchIds.{in_batch, in_batches}
use Rattle.life_ids.proofs.Keeps.{joined_times, times_parts}

-- an id that was drawn is one of the batches
pub drawn_in : (rest : ℕ) (starts : List ℕ) (id : ℕ) → Contains (ids_but rest starts) id → Contains (ids_of starts) id
drawn_in rest starts id c =
    let n : ℕ = length (ids_of starts) - rest in
    subst (λ (xs : List ℕ). Contains xs id) (take-append-drop n (ids_of starts)) (Contains-append_left (take n (ids_of starts)) (drop n (ids_of starts)) id c)

-- an id that a seat drew stands in its batches
drawn_once : (v : View) (rest id : ℕ) → Contains (ids_but rest v.taken) id → 1 ≤ times_in id v
drawn_once v rest id c =
    let one = in_batches v.taken id (drawn_in rest v.taken id c) in let parts = times_parts id v in omega arith

-- v and w are joined to u, in which no id stands twice
module _ (v w u : View) (is : u ≡ joined v w) (once : (id : ℕ) → times_in id u ≤ 1) where
  not_in_both : (id : ℕ) → 1 ≤ times_in id v → ¬ (1 ≤ times_in id w)
  not_in_both id mine other =
      let both = ap (times_in id) is ∙ joined_times id v w in let most = once id in absurd (omega arith)

  pub held_apart : (id : ℕ) → Contains (ids_of (v.taken ++ v.given)) id → ¬ Contains (ids_of (w.taken ++ w.given)) id
  held_apart id mine other = not_in_both id (in_batches (v.taken ++ v.given) id mine) (in_batches (w.taken ++ w.given) id other)

  pub drawn_apart : (m n id : ℕ) → Contains (ids_but m v.taken) id → ¬ Contains (ids_but n w.taken) id
  drawn_apart m n id mine other = not_in_both id (drawn_once v m id mine) (drawn_once w n id other)

pub taken_apart : (v w : View) (found : ℕ) → Took v found w → (id : ℕ) → Contains (batch found) id → ¬ Contains (ids_of (v.taken ++ v.given)) id
taken_apart v w found took id new old =
    let one = in_batch found id new in let two = in_batches (v.taken ++ v.given) id old in let most = took.fresh id in absurd (omega arith)

-- an id that was drawn by a seat which was given back stands in the batches of the seat that took it in
pub gift_held : (taken given other others : List ℕ) (rest id : ℕ) → Contains (ids_but rest other) id → Contains (ids_of (taken ++ ((given ++ other) ++ others))) id
gift_held taken given other others rest id c =
    let joined : (xs ys : List ℕ) → Contains (ids_of xs ++ ids_of ys) id → Contains (ids_of (xs ++ ys)) id =
    λ xs ys. subst (λ (ids : List ℕ). Contains ids id) (sym (flat_map-append batch xs ys)) in
    let one = joined given other (Contains-append_right (ids_of given) (ids_of other) id (drawn_in rest other id c)) in
    let two = joined (given ++ other) others (Contains-append_left (ids_of (given ++ other)) (ids_of others) id one) in
    joined taken ((given ++ other) ++ others) (Contains-append_right (ids_of taken) (ids_of ((given ++ other) ++ others)) id two)
