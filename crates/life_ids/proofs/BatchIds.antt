-- Batches and the ids in them.
use Rattle.std.proofs.Common.{◌≡◌, ℕ, zero, suc, ◌+◌, ◌<◌, ◌≤◌, List, [], ◌∷◌, ◌++◌, length, get_or, fold, max, refl, sym, ◌∙◌, ⊎_elim, lt_of_not-le, length-append, arith}
use native.Mathlib.Decide.{dec_le}
use Rattle.std.proofs.Math.ListN.{get_or-append}
use Rattle.std.proofs.lemmas.List.{get_or_push}
use Rattle.std.specs.List.{sum_by, Contains}
use Rattle.std.specs.List.Sorted.{IsStrictlyIncreasing}
use Rattle.std.proofs.lemmas.List.Elements.{Contains-append_cases}
use Rattle.std.proofs.lemmas.List.FromFn.{length-range_with_len, get_or-range_with_len}
use Rattle.std.proofs.lemmas.List.Sums.{sum_by-cons, get_or-le-sum_by, fold-append}
use Rattle.life_ids.specs.Batches.{batch, ids_of, greatest, times}

-- an id of a batch stands there once
pub in_batch : (start id : ℕ) → Contains (batch start) id → times id start ≡ 1
unfolding batch
in_batch start id c =
    let at : id ≡ start + c.0 = sym c.2 ∙ get_or-range_with_len start 256 c.0 id (omega (arith, c.1, length-range_with_len start 256)) in
    let few : c.0 < 256 = omega (arith, c.1, length-range_with_len start 256) in omega arith

-- an id of these batches stands in one of them
pub in_batches : (starts : List ℕ) (id : ℕ) → Contains (ids_of starts) id → 1 ≤ sum_by (times id) starts
in_batches [] id c = absurd (omega (arith, c.1))
in_batches (start ∷ starts) id c =
    let sum = sum_by-cons (times id) start starts in
    ⊎_elim (λ here. let one = in_batch start id here in omega arith) (λ there. let more = in_batches starts id there in omega arith)
    (Contains-append_cases (batch start) (ids_of starts) id c)

-- the first id of a batch stands in it
pub first_id : (start : ℕ) → times start start ≡ 1
first_id start = omega arith

pub times_at : (starts : List ℕ) (k d : ℕ) → k < length starts → 1 ≤ sum_by (times (get_or starts k d)) starts
times_at starts k d less =
    let one = first_id (get_or starts k d) in let sum = get_or-le-sum_by (times (get_or starts k d)) starts k d less in omega arith

-- ids below a number have a greatest one below it
pub greatest_below : (ids : List ℕ) (a n : ℕ) → a < n → ((id : ℕ) → Contains ids id → id < n) → fold max a ids < n
greatest_below [] a n less below = less
greatest_below (id ∷ ids) a n less below =
    let here = below id (0, omega arith, refl) in
    greatest_below ids (max a id) n (omega arith) (λ other c. below other (suc c.0, omega (arith, c.1), c.2))

greatest_up : (ids : List ℕ) (a : ℕ) → a ≤ fold max a ids
greatest_up [] a = omega arith
greatest_up (id ∷ ids) a = let up = greatest_up ids (max a id) in omega arith

-- an id above the others is the greatest
pub greatest_push : (ids : List ℕ) (id : ℕ) → greatest ids < id → greatest (ids ++ id ∷ []) ≡ id
greatest_push ids id less = fold-append max 0 ids (id ∷ []) ∙ omega arith

push_at : (starts : List ℕ) (start k : ℕ) → Dec (k + 2 ≤ length starts) → IsStrictlyIncreasing starts → ((k : ℕ) → k < length starts → get_or starts k 0 < start) → k + 1 < length (starts ++ start ∷ [])
    → get_or (starts ++ start ∷ []) k 0 < get_or (starts ++ start ∷ []) (k + 1) 0
push_at starts start k (yes inside) up below less =
    rw (get_or-append starts (start ∷ []) 0 k (omega arith), get_or-append starts (start ∷ []) 0 (k + 1) (omega arith)) (up k (omega arith))
push_at starts start k (no outside) up below less =
    let last : length starts ≡ k + 1 = omega (arith, length-append starts (start ∷ []), lt_of_not-le outside) in
    rw (get_or-append starts (start ∷ []) 0 k (omega arith), get_or_push starts start 0 (k + 1) last) (below k (omega arith))

pub increasing_push : (starts : List ℕ) (start : ℕ) → IsStrictlyIncreasing starts → ((k : ℕ) → k < length starts → get_or starts k 0 < start) → IsStrictlyIncreasing (starts ++ start ∷ [])
increasing_push starts start up below k less = push_at starts start k (dec_le (k + 2) (length starts)) up below less

-- an id is at most the greatest
pub at_most_greatest : (ids : List ℕ) (a k : ℕ) → k < length ids → get_or ids k 0 ≤ fold max a ids
at_most_greatest [] a k less = absurd (omega arith)
at_most_greatest (id ∷ ids) a zero less = let up = greatest_up ids (max a id) in omega arith
at_most_greatest (id ∷ ids) a (suc k) less = at_most_greatest ids (max a id) k (omega arith)

-- an id above the others comes in order behind them
pub ascending_push : (ids : List ℕ) (id : ℕ) → IsStrictlyIncreasing ids → greatest ids < id → IsStrictlyIncreasing (ids ++ id ∷ [])
ascending_push ids id up less = increasing_push ids id up (λ k inside. let most = at_most_greatest ids 0 k inside in omega arith)
