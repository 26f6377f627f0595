use Rattle.std.proofs.Common.{sym, subst}
use Rattle.ts_arena.specs.declared.spot.Spot.{Spot}
use Rattle.ts_arena.specs.Arena.{ArenaState, AreOwners, AreAdopted}
use Rattle.ts_arena.specs.Parts.{IsSpot, CanStand}
use Rattle.ts_arena.proofs.Spots.{owners_with, adopted_with}
use Rattle.ts_arena.proofs.arena.Arena.exchange.Goals as goal

pub invariant_of-self : goal.invariant_of-self
invariant_of-self c = let i = c.self.inside in let o = c.self.invariant in let whole : ArenaState = record { life = i.life; policy = i.policy; owners = i.owners.items; adopted = i.adopted } in
    let there : IsSpot whole c.args.spot = subst (λ (a : ArenaState). IsSpot a c.args.spot) (sym c.self.view_is) c.requires.spot in
    let stands : CanStand whole c.args.spot c.args.part = subst (λ (a : ArenaState). CanStand a c.args.spot c.args.part) (sym c.self.view_is) c.requires.stands in record {
      born = o.born;
      policy = o.policy;
      owners = subst (AreOwners i.life i.policy) (sym c.exchange_for.ensures.now) (owners_with i.life i.policy i.owners.items c.in-Owner.at c.args.part o.owners (subst (IsSpot whole) c.in-Owner.is there) (subst (λ (p : Spot). CanStand whole p c.args.part) c.in-Owner.is stands));
      adopted = o.adopted;
    }

pub invariant_of-self-in-Adopted : goal.invariant_of-self-in-Adopted
invariant_of-self-in-Adopted c = let i = c.self.inside in let o = c.self.invariant in let whole : ArenaState = record { life = i.life; policy = i.policy; owners = i.owners.items; adopted = i.adopted } in
    let there : IsSpot whole c.args.spot = subst (λ (a : ArenaState). IsSpot a c.args.spot) (sym c.self.view_is) c.requires.spot in
    let stands : CanStand whole c.args.spot c.args.part = subst (λ (a : ArenaState). CanStand a c.args.spot c.args.part) (sym c.self.view_is) c.requires.stands in
    let stands_there = subst (λ (p : Spot). CanStand whole p c.args.part) c.in-Adopted.is stands in record {
      born = o.born;
      policy = o.policy;
      owners = o.owners;
      adopted = subst AreAdopted (sym c.exchange.ensures.now) (adopted_with i.adopted c.in-Adopted.at c.args.part o.adopted (subst (IsSpot whole) c.in-Adopted.is there) stands_there.0 stands_there.1);
    }
