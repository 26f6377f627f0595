use Rattle.std.proofs.Common.{◌≡◌, ◌<◌, ℕ, length, subst, ap, ◌∙◌}
use Rattle.ts_arena.specs.Arena.{ArenaState}
use Rattle.ts_arena.specs.Sharing.{Owners}
use Rattle.ts_arena.specs.Parts.{owner_at}
use Rattle.ts_arena.proofs.Entering.{can_enter, entered_same}
use Rattle.ts_arena.proofs.arena.Arena.own_place.Goals as goal

abbrev IsThere : ℕ → ℕ → Owners → Type 0
IsThere at who es = (at < length es) × ((owner_at es at).caller ≡ who)

pub returns-in-Some-clause-can : goal.returns-in-Some-clause-can
returns-in-Some-clause-can c = let there = subst (IsThere c.in-Some.at c.args.caller) (c.deref.ensures.value ∙ ap (λ (a : ArenaState). a.owners) c.self.view_is) c.in-Some.ensures.there in
    can_enter c.args.self.now.owners c.in-Some.at c.args.caller there.0 there.1

pub returns-in-Some-clause-entered : goal.returns-in-Some-clause-entered
returns-in-Some-clause-entered c = let there = subst (IsThere c.in-Some.at c.args.caller) (c.deref.ensures.value ∙ ap (λ (a : ArenaState). a.owners) c.self.view_is) c.in-Some.ensures.there in
    entered_same c.args.self.now c.in-Some.at c.args.caller there.0 there.1
