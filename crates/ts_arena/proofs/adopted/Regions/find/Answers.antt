use Rattle.std.proofs.Common.{◌≡◌, ◌<◌, length, List, sym, subst, ap, ◌∙◌}
use Rattle.std.specs.Option.{option_copied}
use Rattle.serial_arena.specs.Serial.{SerialState}
use Rattle.ts_arena.specs.Parts.{HasRegion, region_at}
use Rattle.ts_arena.proofs.Indexed.{index_there}
use Rattle.ts_arena.proofs.adopted.Regions.find.Goals as goal

pub returns-clause-there : goal.returns-clause-there
returns-clause-there c = let i = c.self.inside in let has = subst (λ (l : List SerialState). HasRegion l c.args.number) (sym c.self.view_is) c.requires in
    subst (λ (l : List SerialState). c.in-Some.at.now < length l) c.self.view_is
    (index_there i.index i.items.items c.args.number c.in-Some.at.now c.self.invariant has (sym c.get.ensures.value ∙ ap (λ r. option_copied r) c.in-Some.is)).0

pub returns-clause-number : goal.returns-clause-number
returns-clause-number c = let i = c.self.inside in let has = subst (λ (l : List SerialState). HasRegion l c.args.number) (sym c.self.view_is) c.requires in
    subst (λ (l : List SerialState). (region_at l c.in-Some.at.now).region ≡ c.args.number) c.self.view_is
    (index_there i.index i.items.items c.args.number c.in-Some.at.now c.self.invariant has (sym c.get.ensures.value ∙ ap (λ r. option_copied r) c.in-Some.is)).1
