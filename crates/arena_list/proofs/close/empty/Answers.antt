use Rattle.std.proofs.Common.{◌≡◌, ◌≢◌, ℕ, ◌+◌, ◌/◌, ◌<◌, ◌≤◌, ◌∷◌, [], true, false, length, vec_capacity, sym, ap, ◌∙◌, arith, ⊎_elim}
use Rattle.std.specs.Prelude.{slice_index_or, slice_set}
use Rattle.std.specs.Slots.{slots_items, slots_filled}
use Rattle.std.proofs.lemmas.List.{length-append, get_or-set_same, get_or-set_other}
use mathlib.Core.Option.{some}
use mathlib.Core.Logic.{dite}
use native.Mathlib.Decide.{ℕ_discrete}
use lib.ListN.{get_elem?}
use Rattle.arena_list.proofs.Words.Lists.{at_end}
use Rattle.arena_list.proofs.Closing.Gathering.{filled_low}
use Rattle.arena_list.specs.Words.Core.{slot_count}
use Rattle.arena_list.specs.Words.Written.{value_at, value_count}
use Rattle.arena_list.proofs.close.empty.Goals.{then-place-eq0+in_default, else-place-eq0+in-None}
use Rattle.arena_list.proofs.close.empty.Goals as goal

pub loop-place-preserved : goal.loop-place-preserved
loop-place-preserved g c = let i = c.loop-place.invariant in let t = c.take-value.ensures in let n : ℕ = c.loop-place.place in let low : n < value_count = c.loop-place-test.true in let filled = slots_filled c.loop-place.closed.slots in
    let here : slice_index_or filled n false ≡ true = i.7 n (omega arith) low in
    let parts : (length c.if-place-eq0.parts.items ≡ (n + 1 + 7) / 8) × (slot_count ≤ vec_capacity c.if-place-eq0.parts) × ((k : ℕ) (x : _) → get_elem? c.if-place-eq0.parts.items k ≡ some x → get_elem? (slots_items c.args.closed.now.slots) (value_at k) ≡ some x) = elim c.if-place-eq0.branch [
      | then-place-eq0+in_default w ↦
          let whole = w.if-place-eq0.true in let items = ap (λ p. p.items) w.parts-is ∙ w.in_default.ensures.items in let count = i.3 in (
            (let l = ap length items ∙ length-append c.loop-place.parts.items (c.take-value.result ∷ []) in omega arith),
            (let a = w.push.ensures.capacity in let b = i.4 in let e = ap (λ p. vec_capacity p) w.parts-is in omega arith),
            (λ k x at. ⊎_elim (λ e. i.5 k x e)
                (λ p. ap (get_elem? (slots_items c.args.closed.now.slots)) (let e : k ≡ length c.loop-place.parts.items = p.0 in let z : value_at k ≡ n = omega arith in z) ∙ ap (λ l. get_elem? l n) (sym i.0) ∙ t.value ∙ ap some p.1)
                (at_end c.loop-place.parts.items c.take-value.result x k (ap (λ l. get_elem? l k) (sym items) ∙ at))),
          )
      | else-place-eq0+in-None w ↦
          let part = w.if-place-eq0.false in let count = i.3 in (
            (let l = ap (λ p. length p.items) w.parts-is in omega arith),
            (let b = i.4 in let e = ap (λ p. vec_capacity p) w.parts-is in omega arith),
            (λ k x at. i.5 k x (ap (λ p. get_elem? p.items k) (sym w.parts-is) ∙ at)),
          )
    ] in (
      t.others.0 ∙ i.0,
      t.others.2 ∙ i.1,
      t.others.3 ∙ i.2,
      parts.0,
      parts.1,
      parts.2,
      (λ k h. ap (λ l. slice_index_or l k false) t.others.1 ∙ dite (ℕ_discrete k n)
          (λ (e : k ≡ n). ap (λ (z : ℕ). slice_index_or (slice_set filled n false) z false) e ∙ get_or-set_same filled n false false (filled_low filled n here))
          (λ (ne : k ≢ n). get_or-set_other filled n k false false ne ∙ i.6 k (omega arith))),
      (λ k h b. ap (λ l. slice_index_or l k false) t.others.1 ∙ get_or-set_other filled n k false false (λ (e : k ≡ n). omega arith) ∙ i.7 k (omega arith) b),
    )
