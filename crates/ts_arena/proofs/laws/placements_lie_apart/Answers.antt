use Rattle.std.proofs.Common.{◌≡◌, subst}
use Rattle.arena_mem.specs.declared.place.Place.{Place}
use Rattle.arena_mem.specs.Places.{Apart}
use Rattle.ts_arena.specs.Arena.{ArenaState}
use Rattle.ts_arena.specs.Places.{IsPlaceOf}
use Rattle.ts_arena.proofs.Regions.{all_apart}
use Rattle.ts_arena.proofs.laws.placements_lie_apart.Goals as goal

pub returns : goal.returns
returns c = subst (λ (a : ArenaState). (p q : Place) → IsPlaceOf a p → IsPlaceOf a q → (p ≡ q → ⊥) → Apart p q) c.arena.view_is (all_apart _ c.arena.invariant)
