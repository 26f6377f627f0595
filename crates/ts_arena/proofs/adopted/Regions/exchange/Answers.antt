use Rattle.std.proofs.Common.{◌≡◌, ◌<◌, List, length, sym, subst}
use Rattle.serial_arena.specs.Serial.{SerialState}
use Rattle.ts_arena.specs.Parts.{IsIndexed, region_at}
use Rattle.ts_arena.proofs.Indexed.{index_kept}
use Rattle.ts_arena.proofs.adopted.Regions.exchange.Goals as goal

pub invariant_of-self : goal.invariant_of-self
invariant_of-self c = let i = c.self.inside in let back = sym c.self.view_is in
    subst (IsIndexed i.index) (sym c.exchange_in.ensures.now) (index_kept i.index i.items.items c.args.at _ c.self.invariant (subst (λ (l : List SerialState). c.args.at < length l) back c.requires.at)
    (subst (λ (l : List SerialState). c.args.part.region ≡ (region_at l c.args.at).region) back c.requires.region))
