-- What is left of a seat's batch, before and after an id is drawn.
use Rattle.std.proofs.Common.{◌≡◌, ℕ, suc, ◌+◌, ◌-◌, ◌<◌, List, [], ◌∷◌, ◌++◌, length, get_or, take, Option, Some, None, refl, sym, ap, ◌∙◌, subst, append_assoc, append-nil, arith, length-append}
use Rattle.std.specs.Prelude.{IfSome}
use Rattle.std.specs.List.{range_with_len}
use Rattle.std.specs.List.Sorted.{IsStrictlyIncreasing}
use Rattle.std.specs.declared.ops.Range.{Range}
use Rattle.std.proofs.iter.Yields.{nat_range_steps}
use Rattle.std.proofs.Math.Seq.{take-append_seam, take-length}
use Rattle.std.proofs.lemmas.List.{get_or_push}
use Rattle.std.proofs.lemmas.List.Concat.{flat_map-append}
use Rattle.std.proofs.lemmas.List.FromFn.{length-range_with_len}
use Rattle.life_ids.specs.declared.view.View.{View}
use Rattle.life_ids.specs.Batches.{batch, ids_of, ids_but, greatest}
use Rattle.life_ids.specs.Plays.{Took}
use Rattle.life_ids.specs.Fields.{IsRest}
use Rattle.life_ids.proofs.BatchIds.{greatest_push, ascending_push}

-- the ids before the rest
pub but_rest : (starts front rest : List ℕ) (n : ℕ) → ids_of starts ≡ front ++ rest → length rest ≡ n → ids_but n starts ≡ front
but_rest starts front rest n parts len =
    let all : length (ids_of starts) ≡ length front + n = ap length parts ∙ (length-append front rest ∙ ap (λ (k : ℕ). length front + k) len) in
    let many : length (ids_of starts) - n ≡ length front = omega arith in
    ap (λ (k : ℕ). take k (ids_of starts)) many ∙ (ap (take (length front)) parts ∙ take-append_seam front rest)

-- an id of the rest is drawn
pub one_less : (v : View) (from to quota : ℕ) → IsRest v from to quota → from < to
    → IsRest v (from + 1) to quota × (ids_but (to - (from + 1)) v.taken ≡ ids_but (to - from) v.taken ++ from ∷ [])
one_less v from to quota r some_left =
    let n : ℕ = to - (from + 1) in
    let front : List ℕ = ids_but (to - from) v.taken in
    let len : to - from ≡ suc n = omega arith in
    let parts : ids_of v.taken ≡ (front ++ from ∷ []) ++ range_with_len (from + 1) n =
    r.last ∙ (ap (λ (k : ℕ). front ++ range_with_len from k) len ∙ sym (append_assoc front (from ∷ []) (range_with_len (from + 1) n))) in
    let drawn : ids_but n v.taken ≡ front ++ from ∷ [] = but_rest v.taken (front ++ from ∷ []) (range_with_len (from + 1) n) n parts (length-range_with_len (from + 1) n) in
    let top : greatest (ids_but n v.taken) ≡ from = ap greatest drawn ∙ greatest_push front from (r.above some_left) in
    let order = r.in_order in
    let short = r.short in (
      record {
        quota_is = r.quota_is;
        few = r.few;
        in_order = omega arith;
        short = omega arith;
        last = parts ∙ ap (λ (xs : List ℕ). xs ++ range_with_len (from + 1) n) (sym drawn);
        first = λ more. let here = r.first some_left in omega arith;
        ascending = subst IsStrictlyIncreasing (sym drawn) (ascending_push front from r.ascending (r.above some_left));
        above = λ _. omega arith;
      },
      drawn,
    )

pub batch_parts : (start : ℕ) → batch start ≡ start ∷ range_with_len (start + 1) 255
unfolding batch
batch_parts start = refl

-- the ids of one batch more
ids_push : (starts : List ℕ) (start : ℕ) → ids_of (starts ++ start ∷ []) ≡ ids_of starts ++ start ∷ range_with_len (start + 1) 255
ids_push starts start =
    flat_map-append batch starts (start ∷ []) ∙ ap (λ (xs : List ℕ). ids_of starts ++ xs) (append-nil (batch start) ∙ batch_parts start)

-- a batch is taken, and its first id drawn
pub from_new_batch : (v w : View) (from to quota found : ℕ) (rest left : ℕ) → IsRest v from to quota → to - from ≡ rest → quota ≡ left → rest ≡ 0 → 0 < left → Took v found w
    → IsRest w (found + 1) (found + 256) (quota - 1) × (ids_but ((found + 256) - (found + 1)) w.taken ≡ ids_but (to - from) v.taken ++ found ∷ [])
from_new_batch v w from to quota found rest left r rest_is quota_left used_up some_left took =
    let ids : List ℕ = ids_of v.taken in
    let taken : w.taken ≡ v.taken ++ found ∷ [] = ap (λ (u : View). u.taken) took.view in
    let all : length ids - (to - from) ≡ length ids = omega arith in
    let before : ids_but (to - from) v.taken ≡ ids = ap (λ (k : ℕ). take k ids) all ∙ take-length ids in
    let parts : ids_of w.taken ≡ (ids ++ found ∷ []) ++ range_with_len (found + 1) 255 =
    ap ids_of taken ∙ (ids_push v.taken found ∙ sym (append_assoc ids (found ∷ []) (range_with_len (found + 1) 255))) in
    let drawn : ids_but 255 w.taken ≡ ids ++ found ∷ [] = but_rest w.taken (ids ++ found ∷ []) (range_with_len (found + 1) 255) 255 parts (length-range_with_len (found + 1) 255) in
    let top : greatest (ids_but 255 w.taken) ≡ found = ap greatest drawn ∙ greatest_push ids found took.above in
    let quota_is = r.quota_is in
    let less : w.quota ≡ v.quota - 1 = ap (λ (u : View). u.quota) took.view in
    let few = r.few in
    let last_start : get_or w.taken (length w.taken - 1) 0 ≡ found =
    ap (λ (xs : List ℕ). get_or xs (length xs - 1) 0) taken ∙ get_or_push v.taken found 0 (length (v.taken ++ found ∷ []) - 1) (omega (arith, length-append v.taken (found ∷ []))) in
    let len : (found + 256) - (found + 1) ≡ 255 = omega arith in (
      record {
        quota_is = omega arith;
        few = omega arith;
        in_order = omega arith;
        short = omega arith;
        last = parts
            ∙ (ap (λ (xs : List ℕ). xs ++ range_with_len (found + 1) 255) (sym drawn)
            ∙ ap (λ (k : ℕ). ids_but k w.taken ++ range_with_len (found + 1) k) (sym len));
        first = λ _. omega arith;
        ascending = subst (λ (k : ℕ). IsStrictlyIncreasing (ids_but k w.taken)) (sym len)
            (subst IsStrictlyIncreasing (sym drawn) (ascending_push ids found (subst IsStrictlyIncreasing before r.ascending) took.above));
        above = λ _. subst (λ (k : ℕ). greatest (ids_but k w.taken) < found + 1) (sym len) (omega arith);
      },
      ap (λ (k : ℕ). ids_but k w.taken) len ∙ (drawn ∙ ap (λ (xs : List ℕ). xs ++ found ∷ []) (sym before)),
    )

moved : (v : View) (from to from' to' quota : ℕ) → from ≡ from' → to ≡ to' → IsRest v from to quota → IsRest v from' to' quota
moved v from to from' to' quota e e' r = subst (λ (p : ℕ × ℕ). IsRest v p.0 p.1 quota) (λ i. (e i, e' i)) r

-- what `next` of the range leaves
pub steps_rest : (v : View) (s t : Range ℕ) (r : Option ℕ) (quota : ℕ) → IsRest v s.start s.end quota → nat_range_steps s r t
    → IsRest v t.start t.end quota × IfSome r (λ id. ids_but (t.end - t.start) v.taken ≡ ids_but (s.end - s.start) v.taken ++ id ∷ [])
steps_rest v s t None quota rest h = (moved v s.start s.end t.start t.end quota (sym h.1.1) (sym h.0) rest, tt)
steps_rest v s t (Some id) quota rest h =
    let less = one_less v s.start s.end quota rest (omega (arith, h.1.0)) in
    let start : s.start + 1 ≡ t.start = sym h.1.2 in
    let len : t.end - t.start ≡ s.end - (s.start + 1) = λ i. h.0 i - h.1.2 i in (
      moved v (s.start + 1) s.end t.start t.end quota start (sym h.0) less.0,
      ap (λ (k : ℕ). ids_but k v.taken) len ∙ (less.1 ∙ ap (λ (k : ℕ). ids_but (s.end - s.start) v.taken ++ k ∷ []) (sym h.1.1)),
    )
