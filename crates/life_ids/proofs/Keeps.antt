-- Each step keeps the rule of the counter, and tells its seat what it says it does.
use Rattle.std.proofs.Common.{◌≡◌, ℕ, ◌+◌, ◌-◌, ◌*◌, ◌%◌, ◌^◌, ◌<◌, ◌≤◌, List, [], ◌∷◌, ◌++◌, length, get_or, set, min, ⊎_elim, refl, sym, ap, ◌∙◌, subst, arith, length-append}
use Rattle.std.specs.List.{sum_by}
use Rattle.std.specs.List.Sorted.{IsStrictlyIncreasing}
use Rattle.std.proofs.lemmas.List.Sums.{sum_by-append, sum_by_push}
use mathlib.Core.Option.{none, some, some-ne-none}
use lib.ListN.{get_elem?}
use Rattle.atomic_table.specs.Table.{step, keeps, opening, Allows, Splits, Joins}
use Rattle.atomic_table.proofs.Lists.{at_set, at_snoc, set_again, set_here}
use Rattle.life_ids.specs.declared.view.View.{View}
use Rattle.life_ids.specs.Batches.{times, ids_of, greatest}
use Rattle.life_ids.specs.Rule.{view_of, times_in, batches, share, IdRule}
use Rattle.life_ids.specs.Moments.{Moment, TakenView, SeenView}
use Rattle.life_ids.specs.Plays.{Seated, Ruled, took, looked, kept, cut_off, joined, spent}
use Rattle.life_ids.proofs.BatchIds.{in_batches, times_at, greatest_below, increasing_push}
use Rattle.life_ids.proofs.Views.{stands, sum_set, one_of, beside}

-- how often an id stands in the batches of a view, said by its parts
pub times_parts : (id : ℕ) (v : View) → times_in id v ≡ sum_by (times id) v.taken + sum_by (times id) v.given
times_parts id v = sum_by-append (times id) v.taken v.given

module _ (total : ℕ) (words : List ℕ) (views : List View) (r : IdRule total words views) where
  -- an id of a batch that a seat took or was given lies below the counter
  pub below_next : (port : ℕ) (v : View) → get_elem? views port ≡ some v → (id : ℕ) → 1 ≤ times_in id v → id < r.next
  below_next port v at id there = let mine = one_of (times_in id) views port v at in let all = r.once id in omega arith

  -- a batch that a seat took lies below the counter
  pub start_below : (port : ℕ) (v : View) → get_elem? views port ≡ some v → (k : ℕ) → k < length v.taken → get_or v.taken k 0 < r.next
  start_below port v at k less =
      below_next port v at (get_or v.taken k 0) (let one = times_at v.taken k 0 less in let parts = times_parts (get_or v.taken k 0) v in omega arith)

  pub above_taken : (port : ℕ) (v : View) → get_elem? views port ≡ some v → greatest (ids_of v.taken) < r.next
  above_taken port v at =
      let one = r.counted in
      greatest_below (ids_of v.taken) 0 r.next (omega arith) (λ id c. below_next port v at id (let there = in_batches v.taken id c in let parts = times_parts id v in omega arith))

  -- no id of the next batch stands in a batch that a seat has
  pub fresh_next : (port : ℕ) (v : View) → get_elem? views port ≡ some v → (id : ℕ) → times id r.next + times_in id v ≤ 1
  fresh_next port v at id = let mine = one_of (times_in id) views port v at in let all = r.once id in omega arith

  -- the rule holds of other views with the same sums
  pub regroup : (others : List View) → sum_by batches others ≡ sum_by batches views → sum_by share others ≡ sum_by share views
      → ((id : ℕ) → sum_by (times_in id) others ≡ sum_by (times_in id) views)
      → ((port : ℕ) (v : View) → get_elem? others port ≡ some v → IsStrictlyIncreasing v.taken) → IdRule total words others
  regroup others same_batches same_share same_times up = record {
    next = r.next;
    word = r.word;
    counted = r.counted ∙ ap (λ (n : ℕ). 1 + 256 * n) (sym same_batches);
    shared = same_share ∙ r.shared;
    few = r.few;
    once = λ id. subst (λ (n : ℕ). n ≤ min 1 (min id (r.next - id))) (sym (same_times id)) (r.once id);
    ascending = up;
  }

  -- the moment of a step, with the view of a seat
  now : (port : ℕ) (v : View) → get_elem? views port ≡ some v → Moment total r.next views port v
  now port v at = record { rule = subst (λ (ws : List ℕ). IdRule total ws views) r.word r; stands = at }

  pub seen : (port : ℕ) (v : View) → get_elem? views port ≡ some v → SeenView total v
  seen port v at = record { next = r.next; views = views; port = port; moment = now port v at }

  module _ (port : ℕ) (v : View) (at : get_elem? views port ≡ some v) (some_left : 0 < v.quota) where
    abbrev pub taking : View
    taking = view_of v.total (v.taken ++ r.next ∷ []) v.given (v.quota - 1)

    more_times : (id : ℕ) → times_in id taking ≡ times_in id v + times id r.next
    more_times id =
        let parts = times_parts id v in let parts' = times_parts id taking in let push = sum_by_push (times id) v.taken r.next in omega arith

    pub takes : IdRule total ((r.next + 256) ∷ []) (set views port taking)
    takes =
        let len = length-append v.taken (r.next ∷ []) in
        let all = sum_set batches views port v at taking in
        let shares = sum_set share views port v at taking in
        let counted = r.counted in
        let shared = r.shared in record {
          next = r.next + 256;
          word = refl;
          counted = omega arith;
          shared = omega arith;
          few = r.few;
          once = λ id. let sum = sum_set (times_in id) views port v at taking in let more = more_times id in let was = r.once id in omega arith;
          ascending = λ other w at'. ⊎_elim
              (λ same. subst (λ (u : View). IsStrictlyIncreasing u.taken) same.1 (increasing_push v.taken r.next (r.ascending port v at) (start_below port v at)))
              (λ rest. r.ascending other w rest.1) (at_set views port other taking w at');
        }

    pub takes_now : TakenView total r.next v taking
    takes_now = record {
      views = views;
      port = port;
      before = now port v at;
      after = record { rule = takes; stands = set_here views port taking (stands views port v at).0 };
    }

-- with every batch that is taken or can be, the counter is where the seat's own batches end
alone_next : (total : ℕ) (words : List ℕ) (views : List View) (r : IdRule total words views) (port : ℕ) (v : View) → get_elem? views port ≡ some v → v.total ≡ total → share v ≡ v.total → r.next ≡ 1 + 256 * batches v
alone_next total words views r port v at own all =
    let counted = r.counted in
    let shared = r.shared in
    let most = beside views port v at in
    let least = one_of batches views port v at in
    let same : sum_by batches views ≡ batches v = omega arith in counted ∙ ap (λ (n : ℕ). 1 + 256 * n) same

pub may_take : (total slots port : ℕ) (me : Seated) → me.0.total ≡ total → 0 < me.0.quota
    → Allows (Ruled total) slots port me 0 (λ n. (n + 256) % 2 ^ 64) (took (step slots 0 256 0 none) me)
may_take total slots port me own some_left s r _ at _ =
    let v : View = me.0 in
    let is : get_or s.words 0 0 ≡ r.next = ap (λ (ws : List ℕ). get_or ws 0 0) r.word in
    let counted = r.counted in
    let shared = r.shared in
    let few = r.few in
    let most = beside s.views port v at in
    let room : r.next + 256 ≤ 2 ^ 63 + 1 = omega arith in
    let word : (r.next + 256) % 2 ^ 64 ≡ r.next + 256 = omega arith in
    let words : set s.words 0 ((get_or s.words 0 0 + 256) % 2 ^ 64) ≡ (r.next + 256) ∷ [] =
    ap (λ (ws : List ℕ). set ws 0 ((get_or ws 0 0 + 256) % 2 ^ 64)) r.word ∙ ap (λ (n : ℕ). n ∷ []) word in (
      taking total s.words s.views r port v at some_left,
      keeps,
      tt,
      subst (λ (ws : List ℕ). IdRule total ws (set s.views port (taking total s.words s.views r port v at some_left))) (sym words) (takes total s.words s.views r port v at some_left),
      (
        record {
          view = ap (λ (n : ℕ). view_of v.total (v.taken ++ n ∷ []) v.given (v.quota - 1)) (sym is);
          above = subst (λ (n : ℕ). greatest (ids_of v.taken) < n) (sym is) (above_taken total s.words s.views r port v at);
          room = omega arith;
          fresh = λ id. subst (λ (n : ℕ). times id n + times_in id v ≤ 1) (sym is) (fresh_next total s.words s.views r port v at id);
          alone = λ all. is ∙ alone_next total s.words s.views r port v at own all;
          moments = subst (λ (t : ℕ). TakenView t (get_or s.words 0 0) v (taking total s.words s.views r port v at some_left)) (sym own)
              (subst (λ (n : ℕ). TakenView total n v (taking total s.words s.views r port v at some_left)) (sym is) (takes_now total s.words s.views r port v at some_left));
        },
        refl,
      ),
    )

pub may_look : (total slots port : ℕ) (me : Seated) → me.0.total ≡ total → Allows (Ruled total) slots port me 0 (λ n. n) (looked (step slots 0 0 0 none) me)
may_look total slots port me own s r _ at _ =
    let v : View = me.0 in
    let words : set s.words 0 (get_or s.words 0 0) ≡ s.words = ap (λ (ws : List ℕ). set ws 0 (get_or ws 0 0)) r.word ∙ sym r.word in
    let shared = r.shared in
    let few = r.few in
    let mine = one_of share s.views port v at in (
      v,
      keeps,
      tt,
      subst (λ (ws : List ℕ). IdRule total ws (set s.views port v)) (sym words) (subst (λ (vs : List View). IdRule total s.words vs) (sym (set_again s.views port v at)) r),
      (
        record {
          view = refl;
          once = λ id. let most = one_of (times_in id) s.views port v at in let all = r.once id in omega arith;
          few = omega arith;
          moment = subst (λ (t : ℕ). SeenView t v) (sym own) (seen total s.words s.views r port v at);
        },
        refl,
      ),
    )

-- a view without batches
none_ascend : IsStrictlyIncreasing []
none_ascend k less = absurd (omega arith)

pub may_split : (total port quota : ℕ) (v : View) → quota ≤ v.quota → Splits (Ruled total) port v (kept quota v) (cut_off quota v)
may_split total port quota v has s r at =
    let sums : (f : View → ℕ) → f (kept quota v) + f (cut_off quota v) ≡ f v → sum_by f (set s.views port (kept quota v) ++ cut_off quota v ∷ []) ≡ sum_by f s.views =
    λ f parts. let left = sum_set f s.views port v at (kept quota v) in let all = sum_by_push f (set s.views port (kept quota v)) (cut_off quota v) in omega arith in
    regroup total s.words s.views r (set s.views port (kept quota v) ++ cut_off quota v ∷ [])
    (sums batches (omega arith))
    (sums share (omega arith))
    (λ id. sums (times_in id) (omega arith))
    (λ other w at'. ⊎_elim
    (λ old. ⊎_elim
    (λ same. subst (λ (u : View). IsStrictlyIncreasing u.taken) same.1 (r.ascending port v at))
    (λ rest. r.ascending other w rest.1) (at_set s.views port other (kept quota v) w old))
    (λ new. subst (λ (u : View). IsStrictlyIncreasing u.taken) new none_ascend)
    (at_snoc (set s.views port (kept quota v)) (cut_off quota v) w other at'))

-- the parts of a joined view
pub joined_times : (id : ℕ) (v w : View) → times_in id (joined v w) ≡ times_in id v + times_in id w
joined_times id v w =
    let all = times_parts id (joined v w) in
    let given = sum_by-append (times id) v.given (w.taken ++ w.given) in
    let mine = times_parts id v in omega arith

joined_batches : (v w : View) → batches (joined v w) ≡ batches v + batches w
joined_batches v w = let given = length-append v.given (w.taken ++ w.given) in let more = length-append w.taken w.given in omega arith

pub may_join : (total port other : ℕ) (v w : View) → Joins (Ruled total) port v other w (joined v w) spent
may_join total port other v w s r at apart at' =
    let first : List View = set s.views port (joined v w) in
    let sums : (f : View → ℕ) → f (joined v w) ≡ f v + f w → f spent ≡ 0 → sum_by f (set first other spent) ≡ sum_by f s.views =
    λ f parts none_left. let one = sum_set f s.views port v at (joined v w) in let two = sum_set f first other w at' spent in omega arith in
    regroup total s.words s.views r (set first other spent)
    (sums batches (joined_batches v w) refl)
    (sums share (let both = joined_batches v w in omega arith) refl)
    (λ id. sums (times_in id) (joined_times id v w) refl)
    (λ k u at''. ⊎_elim
    (λ same. subst (λ (x : View). IsStrictlyIncreasing x.taken) same.1 none_ascend)
    (λ rest. ⊎_elim
    (λ same. subst (λ (x : View). IsStrictlyIncreasing x.taken) same.1 (r.ascending port v at))
    (λ old. r.ascending k u old.1) (at_set s.views port k (joined v w) u rest.1))
    (at_set first other k spent u at''))

-- the counter as it is made
pub opens : (total : ℕ) → total ≤ 2 ^ 55 → Ruled total (opening (1 ∷ []) [] (view_of total [] [] total))
opens total few = record {
  next = 1;
  word = refl;
  counted = refl;
  shared = omega arith;
  few = few;
  once = λ id. omega arith;
  ascending = λ port v at. ⊎_elim (λ none_there. absurd (some-ne-none v (sym none_there))) (λ same. subst (λ (u : View). IsStrictlyIncreasing u.taken) same none_ascend) (at_snoc [] (view_of total [] [] total) v port at);
}
