use Rattle.std.proofs.Common.{◌<◌, length, sym, subst, refl}
use Rattle.ts_arena.specs.Arena.{ArenaState}
use Rattle.ts_arena.proofs.Spots.{owners_after}
use Rattle.ts_arena.proofs.arena.Arena.place_for.Goals as goal

pub invariant_of-self : goal.invariant_of-self
invariant_of-self c = let i = c.self.inside in let o = c.self.invariant in let e = c.place_for.ensures in record {
  born = o.born;
  policy = o.policy;
  owners = owners_after c.place_for.result i.life i.policy i.owners.items c.place_for.new.owners.items c.args.at _ o.owners (subst (λ (a : ArenaState). c.args.at < length a.owners) (sym c.self.view_is) c.requires.at) refl e.placed e.same e.serial;
  adopted = o.adopted;
}
