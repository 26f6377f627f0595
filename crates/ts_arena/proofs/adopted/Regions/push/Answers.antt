use Rattle.std.proofs.Common.{◌≡◌, ℕ, ◌++◌, ◌∷◌, [], List, sym, subst, ap, ◌∙◌, arith}
use Rattle.std.specs.Prelude.{Some}
use Rattle.std.specs.Ordering.{nat_cmp}
use Rattle.std.specs.BTreeMap.{Updates}
use mathlib.Core.Option.{some}
use lib.ListN.{get_elem?}
use Rattle.serial_arena.specs.Serial.{SerialState}
use Rattle.ts_arena.specs.Parts.{IsIndexed}
use Rattle.ts_arena.proofs.Indexed.{index_more}
use Rattle.ts_arena.proofs.adopted.Regions.push.Goals as goal

pub invariant_of-self-2 : goal.invariant_of-self-2
invariant_of-self-2 c = let i = c.self.inside in let s = c.args.region in
    subst (IsIndexed c.insert.new.self) (sym (c.in-Ok-push.ensures.items ∙ ap (λ (l : List SerialState). l ++ s ∷ []) c.reserve.ensures.items))
    (index_more i.index c.insert.new.self i.items.items s c.len-at.result c.self.invariant (let n = c.len-at.ensures in let o = i.items.ok.0 in omega arith)
    (subst (λ (r : ℕ). Updates nat_cmp i.index c.insert.new.self r (Some c.len-at.result)) c.region.ensures c.in-Ok.ensures.updates)
    (λ k x at. c.requires.new k x (subst (λ (l : List SerialState). get_elem? l k ≡ some x) c.self.view_is at)))
