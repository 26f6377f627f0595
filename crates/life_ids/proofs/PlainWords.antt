-- From the rule to what it says in plain words.
use Rattle.std.proofs.Common.{◌≡◌, ℕ, zero, suc, ◌+◌, ◌-◌, ◌<◌, ◌≤◌, List, [], ◌∷◌, ◌++◌, length, get_or, refl, sym, ap, ◌∙◌, subst, arith, lt_of_not-le, length-append}
use native.Mathlib.Decide.{dec_le}
use Rattle.std.specs.List.{sum_by}
use Rattle.std.specs.List.Sorted.{IsStrictlyIncreasing}
use Rattle.std.proofs.Math.ListN.{get_or-append}
use Rattle.std.proofs.lemmas.List.{get_or-append_right}
use Rattle.std.proofs.lemmas.List.FromFn.{length-range_with_len, get_or-range_with_len}
use Rattle.std.proofs.lemmas.List.Sums.{sum_by-cons, sum_by-append, get_or-le-sum_by}
use Rattle.life_ids.specs.declared.view.View.{View}
use Rattle.life_ids.specs.Batches.{batch, ids_of, times}
use Rattle.life_ids.specs.Rule.{IdRule, times_in, batches, share}
use Rattle.life_ids.specs.Laws.{BelowNext, FromOne, SeatsApart, BatchesApart, TakenApart, IdsAscend, HasRoom}
use Rattle.life_ids.proofs.BatchIds.{in_batch, in_batches, first_id}
use Rattle.life_ids.proofs.Views.{one_of, two_of}
use Rattle.life_ids.proofs.Keeps.{below_next, fresh_next}

-- ---- sums
two_in : (f : ℕ → ℕ) (xs : List ℕ) (i j : ℕ) → i < j → j < length xs → f (get_or xs i 0) + f (get_or xs j 0) ≤ sum_by f xs
two_in f [] i j less inside = absurd (omega arith)
two_in f (x ∷ xs) i zero less inside = absurd (omega arith)
two_in f (x ∷ xs) zero (suc j) less inside = let sum = sum_by-cons f x xs in let one = get_or-le-sum_by f xs j 0 (omega arith) in omega arith
two_in f (x ∷ xs) (suc i) (suc j) less inside = let sum = sum_by-cons f x xs in let two = two_in f xs i j (omega arith) (omega arith) in omega arith

share_parts : (views : List View) → sum_by share views ≡ sum_by (λ (v : View). v.quota) views + sum_by batches views
share_parts [] = refl
share_parts (v ∷ views) =
    let all = sum_by-cons share v views in
    let quota = sum_by-cons (λ (v : View). v.quota) v views in
    let taken = sum_by-cons batches v views in
    let rest = share_parts views in omega arith

-- ---- lists that ascend
seam_at : (xs ys : List ℕ) (k : ℕ) → Dec (k + 2 ≤ length xs) → Dec (length xs ≤ k) → IsStrictlyIncreasing xs → IsStrictlyIncreasing ys
    → ((k : ℕ) → k < length xs → 0 < length ys → get_or xs k 0 < get_or ys 0 0) → k + 1 < length (xs ++ ys) → get_or (xs ++ ys) k 0 < get_or (xs ++ ys) (k + 1) 0
seam_at xs ys k (yes inside) behind up up' seam less = rw (get_or-append xs ys 0 k (omega arith), get_or-append xs ys 0 (k + 1) (omega arith)) (up k (omega arith))
seam_at xs ys k (no outside) (yes behind) up up' seam less =
    let next : (k + 1) - length xs ≡ (k - length xs) + 1 = omega arith in
    rw (get_or-append_right xs ys (length xs) k 0 refl behind, get_or-append_right xs ys (length xs) (k + 1) 0 refl (omega arith), next)
    (up' (k - length xs) (omega (arith, length-append xs ys)))
seam_at xs ys k (no outside) (no before) up up' seam less =
    let here : length xs ≡ k + 1 = omega (arith, lt_of_not-le outside, lt_of_not-le before) in
    let first : (k + 1) - length xs ≡ 0 = omega arith in
    rw (get_or-append xs ys 0 k (omega arith), get_or-append_right xs ys (length xs) (k + 1) 0 refl (omega arith), first)
    (seam k (omega arith) (omega (arith, length-append xs ys)))

increasing_append : (xs ys : List ℕ) → IsStrictlyIncreasing xs → IsStrictlyIncreasing ys → ((k : ℕ) → k < length xs → 0 < length ys → get_or xs k 0 < get_or ys 0 0) → IsStrictlyIncreasing (xs ++ ys)
increasing_append xs ys up up' seam k less = seam_at xs ys k (dec_le (k + 2) (length xs)) (dec_le (length xs) k) up up' seam less

batch_len : (start : ℕ) → length (batch start) ≡ 256
unfolding batch
batch_len start = length-range_with_len start 256

batch_at : (start k : ℕ) → k < 256 → get_or (batch start) k 0 ≡ start + k
unfolding batch
batch_at start k less = get_or-range_with_len start 256 k 0 less

batch_ascends : (start : ℕ) → IsStrictlyIncreasing (batch start)
batch_ascends start k less =
    let len = batch_len start in rw (batch_at start k (omega arith), batch_at start (k + 1) (omega arith)) (omega arith)

first_of : (start : ℕ) (starts : List ℕ) → get_or (ids_of (start ∷ starts)) 0 0 ≡ start
first_of start starts = let len = batch_len start in get_or-append (batch start) (ids_of starts) 0 0 (omega arith) ∙ (batch_at start 0 (omega arith) ∙ omega arith)

-- the ids of batches that ascend and have no id in common ascend
ids_ascend : (starts : List ℕ) → ((k : ℕ) → k + 1 < length starts → get_or starts k 0 + 256 ≤ get_or starts (k + 1) 0) → IsStrictlyIncreasing (ids_of starts)
ids_ascend [] apart = λ k less. absurd (omega arith)
ids_ascend (start ∷ []) apart = increasing_append (batch start) [] (batch_ascends start) (λ k less. absurd (omega arith)) (λ k less some_there. absurd (omega arith))
ids_ascend (start ∷ next ∷ starts) apart =
    increasing_append (batch start) (ids_of (next ∷ starts)) (batch_ascends start) (ids_ascend (next ∷ starts) (λ k less. let later : suc k + 1 ≡ suc (k + 1) = omega arith in
    subst (λ (n : ℕ). get_or (next ∷ starts) k 0 + 256 ≤ get_or (start ∷ next ∷ starts) n 0) later (apart (suc k) (omega arith)))) (λ k less some_there.
    let len = batch_len start in
    let far = apart 0 (omega arith) in rw (batch_at start k (omega arith), first_of next starts) (omega arith))

-- ---- what the rule says
module _ (total : ℕ) (words : List ℕ) (views : List View) (r : IdRule total words views) where
  word : get_or words 0 0 ≡ r.next
  word = ap (λ (ws : List ℕ). get_or ws 0 0) r.word

  pub below : BelowNext words views
  below port v at id c = subst (λ (n : ℕ). id < n) (sym word) (below_next total words views r port v at id (in_batches (v.taken ++ v.given) id c))

  pub from_one : FromOne views
  from_one port v at id c =
      let there = in_batches (v.taken ++ v.given) id c in
      let mine = one_of (times_in id) views port v at in
      let most = r.once id in omega arith

  pub seats : SeatsApart views
  seats p q v w apart at at' id c c' =
      let one = in_batches (v.taken ++ v.given) id c in
      let two = in_batches (w.taken ++ w.given) id c' in
      let both = two_of (times_in id) views p q v w apart at at' in
      let most = r.once id in absurd (omega arith)

  pub one_batch : BatchesApart views
  one_batch port v at i j less inside id c c' =
      let one = in_batch (get_or (v.taken ++ v.given) i 0) id c in
      let two = in_batch (get_or (v.taken ++ v.given) j 0) id c' in
      let both = two_in (times id) (v.taken ++ v.given) i j less inside in
      let mine = one_of (times_in id) views port v at in
      let most = r.once id in absurd (omega arith)

  pub ascend : IdsAscend views
  ascend port v at = ids_ascend v.taken (λ k less.
      let up = r.ascending port v at k less in
      let id : ℕ = get_or v.taken (k + 1) 0 in
      let two = two_in (times id) v.taken k (k + 1) (omega arith) less in
      let here = first_id id in
      let mine = one_of (times_in id) views port v at in
      let parts = sum_by-append (times id) v.taken v.given in
      let most = r.once id in omega arith)

  pub room : HasRoom words views
  room =
      let counted = r.counted in
      let shared = r.shared in
      let few = r.few in
      let parts = share_parts views in
      let is = word in omega arith

pub taken_apart : TakenApart
taken_apart total start v w taken port u at id new old =
    let r = taken.before.rule in
    let is : start ≡ r.next = word total (start ∷ []) taken.views r in
    let one = in_batch start id new in
    let two = in_batches (u.taken ++ u.given) id old in
    let same : times id start ≡ times id r.next = ap (times id) is in
    let most = fresh_next total (start ∷ []) taken.views r port u at id in absurd (omega arith)
