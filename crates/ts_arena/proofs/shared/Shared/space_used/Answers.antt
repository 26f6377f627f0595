use Rattle.std.proofs.Common.{◌≡◌, ℕ, ◌⊎◌, Bool, true, false, Some, None, ◌∙◌, ap, refl, inl, inr, ⊎_elim, arith}
use Rattle.std.specs.Prelude.{List, sum_by}
use Rattle.serial_arena.specs.Serial.{Placement, used_of}
use Rattle.arena_list.specs.declared.for_clauses.mark.Mark.{Mark}
use Rattle.arena_list.specs.declared.for_clauses.view.Hand.{Hand}
use Rattle.arena_list.specs.declared.for_clauses.view.View.{View}
use Rattle.arena_list.specs.Marks.OfParts.{marks}
use Rattle.arena_list.specs.Rule.Views.{hand, first_hand, mine, when}
use Rattle.arena_list.specs.Steps.After.{used_now}
use Rattle.arena_list.specs.Calls.Seats.{view}
use Rattle.ts_arena.proofs.Settled.{one_part}
use Rattle.ts_arena.proofs.shared.Shared.space_used.Goals as goal

joined_or_not : (v : View Mark) → ((s : ℕ) × (mine v ≡ Some s)) ⊎ (mine v ≡ None)
joined_or_not v = by_linked (hand v).linked (hand v).slot where
  by_linked : (b : Bool) (t : ℕ) → ((s : ℕ) × (when b t ≡ Some s)) ⊎ (when b t ≡ None)
  by_linked true t = inl (t, refl)
  by_linked false t = inr refl

pub returns-clause-own : goal.returns-clause-own
returns-clause-own c = λ s has. let seat = c.args.pass.now.seat in let v = view seat in let o = c.sizes.ensures.summed in
    ⊎_elim
    (λ t. let shown = o.own t.0 (ap (λ (hs : List (Hand Mark)). when (first_hand hs).linked (first_hand hs).slot) o.hands ∙ t.1) in
    let same = ap (used_now marks) (ap (λ (hs : List (Hand Mark)). (first_hand hs).hold) o.hands ∙ has) in omega arith)
    (λ n. let none_used = ap (λ (xs : List Placement). sum_by (λ (x : Placement). x.len) xs) (c.requires.made.empty n).no_placements in let same = ap used_of (one_part seat s c.requires.made.part has c.requires.made.has_part) in omega arith)
    (joined_or_not v)

pub returns-clause-summed : goal.returns-clause-summed
returns-clause-summed c = let o = c.sizes.ensures.summed in record {
  looked = o.looked;
  sum_is = refl;
  each = o.each;
  own = λ slot own. let most = o.own slot own in let sum = o.sum_is in omega arith;
  earlier = (let least = o.earlier in let sum = o.sum_is in omega arith);
  grown = o.grown;
  steps = o.steps;
  few_steps = o.few_steps;
  few = o.few;
  seen = o.seen;
  hands = o.hands;
  base = o.base;
}
