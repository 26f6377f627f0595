-- An arena between two uses.
use Rattle.std.specs.Prelude.{◌≡◌, length}
use Rattle.ts_arena.specs.Passes.{AreAllOf, made_by}
use Rattle.ts_arena.specs.declared.side.Side.{Side}
use Rattle.ts_arena.specs.declared.side.Side.TheVariants.{Sole, Unsettled}

-- an unsettled side holds all passes that its shared arena made
abbrev pub HoldsPasses : Side → Type 0
HoldsPasses (Sole arena) = Unit {0}
HoldsPasses (Unsettled shared passes) = AreAllOf shared passes.items × (length passes.items ≡ made_by shared)
