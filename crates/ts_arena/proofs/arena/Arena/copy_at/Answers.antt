use Rattle.std.proofs.Common.{sym, subst, refl}
use Rattle.ts_arena.specs.Arena.{ArenaState}
use Rattle.ts_arena.specs.Parts.{IsSpot}
use Rattle.ts_arena.proofs.Spots.{owners_written, adopted_written}
use Rattle.ts_arena.proofs.arena.Arena.copy_at.Goals as goal

pub invariant_of-self : goal.invariant_of-self
invariant_of-self c = let i = c.self.inside in let o = c.self.invariant in let e = c.copy_for.ensures in record {
  born = o.born;
  policy = o.policy;
  owners = owners_written i.life i.policy i.owners.items c.copy_for.new.owners.items c.in-Owner.at _ o.owners
      (subst (IsSpot (record { life = i.life; policy = i.policy; owners = i.owners.items; adopted = i.adopted })) c.in-Owner.is (subst (λ (a : ArenaState). IsSpot a c.args.spot) (sym c.self.view_is) c.requires.spot)) refl e.wrote e.serial;
  adopted = o.adopted;
}

pub invariant_of-self-in-Adopted : goal.invariant_of-self-in-Adopted
invariant_of-self-in-Adopted c = let i = c.self.inside in let o = c.self.invariant in let e = c.copy.ensures in record {
  born = o.born;
  policy = o.policy;
  owners = o.owners;
  adopted = adopted_written i.adopted c.copy.new.self c.in-Adopted.at _ o.adopted
      (subst (IsSpot (record { life = i.life; policy = i.policy; owners = i.owners.items; adopted = i.adopted })) c.in-Adopted.is (subst (λ (a : ArenaState). IsSpot a c.args.spot) (sym c.self.view_is) c.requires.spot)) refl e.wrote e.serial;
}
