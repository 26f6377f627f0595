use Rattle.std.proofs.Common.{◌≡◌, [], length, sym, subst, refl, ap, arith}
use Rattle.ts_arena.specs.Arena.{ArenaState}
use Rattle.ts_arena.specs.Sharing.{Owners, AddsSpare}
use Rattle.ts_arena.specs.Sole.{OwnsNothing}
use Rattle.ts_arena.proofs.Sharing.{few_owners}
use Rattle.ts_arena.proofs.Entering.{owners_more}
use Rattle.ts_arena.proofs.arena.Arena.add_owner.Goals as goal

pub returns-then-owners-ge-SLOTS-clause-refused : goal.returns-then-owners-ge-SLOTS-clause-refused
returns-then-owners-ge-SLOTS-clause-refused c = let few = few_owners _ _ _ c.self.invariant.owners in let many = c.if-owners-ge-SLOTS.true in let count = c.owners-owners.ensures in
    let same = ap (λ (a : ArenaState). length a.owners) c.self.view_is in
    (c.requires, (let z : length c.args.self.now.owners ≡ 64 = omega arith in z), count, refl)

pub invariant_of-self-2 : goal.invariant_of-self-2
invariant_of-self-2 c = let i = c.self.inside in let o = c.self.invariant in let nothing = subst (λ (a : ArenaState). OwnsNothing a.owners c.args.caller) (sym c.self.view_is) c.requires in record {
  born = o.born;
  policy = o.policy;
  owners = owners_more i.life i.policy i.owners.items c.add_spare-added.new.spares.items c.args.caller o.policy o.owners nothing
      (subst (λ (es : Owners). AddsSpare i.policy i.life [] c.args.caller es c.add_spare-added.new.spares.items) c.reserve.ensures.items (c.in-Ok.ensures.added refl));
  adopted = o.adopted;
}
