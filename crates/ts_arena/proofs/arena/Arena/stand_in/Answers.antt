use Rattle.std.proofs.Common.{◌≡◌, sym, subst, ap, ◌∙◌, arith}
use Rattle.serial_arena.specs.Serial.{SerialState, IsSerial}
use Rattle.ts_arena.specs.declared.spot.Spot.{Spot}
use Rattle.ts_arena.specs.declared.spot.Spot.TheVariants.{Owner, Adopted}
use Rattle.ts_arena.specs.Arena.{ArenaState, IsArena}
use Rattle.ts_arena.specs.Parts.{IsSpot, CanStand, part_at, no_owner, no_part}
use Rattle.ts_arena.proofs.Spots.{at_or}
use Rattle.ts_arena.proofs.arena.Arena.stand_in.Goals as goal

-- a part of the same owner, life and region with the arena's policy
can_stand : (a : ArenaState) (p : Spot) (s : SerialState) → IsArena a → IsSpot a p → s.owner ≡ (part_at a p).owner → s.life ≡ (part_at a p).life → s.region ≡ (part_at a p).region → s.policy ≡ a.policy → IsSerial s → CanStand a p s
can_stand a (Owner k) s is h owner life region policy serial = let was = (is.owners.held.each k _ (at_or a.owners k no_owner h)).keyed in record {
  keyed = record { region_is = region ∙ was.region_is; owner_is = owner ∙ was.owner_is; life_is = life ∙ was.life_is; policy_is = policy };
  serial = serial;
}
can_stand a (Adopted k) s is h owner life region policy serial = let was = is.adopted.each k _ (at_or a.adopted k no_part h) in (
  record {
    high = (let low = was.high in omega arith);
    named = (let most = was.named in omega arith);
    life_is = life ∙ was.life_is;
    serial = serial;
  },
  region,
)

pub returns : goal.returns
returns c = let i = c.self.inside in let s = c.new-empty.result in let e = c.new-empty.ensures in let here = c.part_at-part.ensures ∙ ap (λ (a : ArenaState). part_at a c.args.spot) (sym c.self.view_is) in
    subst (λ (a : ArenaState). CanStand a c.args.spot s) c.self.view_is
    (can_stand _ c.args.spot s c.self.invariant (subst (λ (a : ArenaState). IsSpot a c.args.spot) (sym c.self.view_is) c.requires)
    (ap (λ (x : SerialState). x.owner) e ∙ c.owner.ensures ∙ ap (λ (x : SerialState). x.owner) here)
    (ap (λ (x : SerialState). x.life) e ∙ c.life.ensures ∙ ap (λ (x : SerialState). x.life) here)
    (ap (λ (x : SerialState). x.region) e ∙ c.region.ensures ∙ ap (λ (x : SerialState). x.region) here)
    (ap (λ (x : SerialState). x.policy) e) c.arena_is_laid.ensures)
