use Rattle.std.proofs.Common.{◌≡◌, ◌+◌, [], ◌∷◌, length, true, sym, subst, ◌∙◌, inr, Result, Ok, Err}
use Rattle.std.specs.Prelude.{IsSome, OnOk}
use Rattle.std.specs.Result.{is_ok}
use Rattle.std.proofs.lemmas.Bool.{false≢true}
use Rattle.ts_arena.specs.Arena.{ArenaState}
use Rattle.ts_arena.specs.Places.{IsPartOf}
use Rattle.ts_arena.proofs.Regions.{region_named}
use Rattle.ts_arena.proofs.Spots.{at_behind}
use Rattle.ts_arena.proofs.callers.adopt_first.Goals as goal

where_ok : {T E : Type 0} (r : Result T E) (X : Type 0) → OnOk r X → is_ok r ≡ true → X
where_ok (Ok x) X holds is = holds
where_ok (Err e) X holds is = absurd (false≢true is)

pub returns : goal.returns
returns c = record {
  live = λ is p live. let s = c.args.region in let old = c.args.arena.now in
      let new_is = where_ok c.adopt.result _ c.adopt.ensures.adopted (sym c.is_ok-is_adopted.ensures.value ∙ is) in
      subst IsSome (sym (c.lookups_go_to_the_region.ensures.places s p
      (subst (λ (a : ArenaState). IsPartOf a s) (sym new_is) (inr (length old.adopted + 0, at_behind old.adopted (s ∷ []) 0)))
      (region_named s p live))) live;
}
