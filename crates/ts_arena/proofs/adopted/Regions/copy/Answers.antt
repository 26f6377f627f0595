use Rattle.std.proofs.Common.{◌<◌, List, length, sym, subst, refl}
use Rattle.serial_arena.specs.Serial.{SerialState}
use Rattle.ts_arena.specs.Parts.{IsIndexed}
use Rattle.ts_arena.proofs.Indexed.{index_kept}
use Rattle.ts_arena.proofs.adopted.Regions.copy.Goals as goal

pub invariant_of-self : goal.invariant_of-self
invariant_of-self c = let i = c.self.inside in
    subst (IsIndexed i.index) (sym c.copy_in.ensures.wrote) (index_kept i.index i.items.items c.args.at _ c.self.invariant (subst (λ (l : List SerialState). c.args.at < length l) (sym c.self.view_is) c.requires.at) refl)
