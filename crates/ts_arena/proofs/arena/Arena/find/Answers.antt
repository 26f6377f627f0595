use Rattle.std.proofs.Common.{◌≡◌, ℕ, ◌<◌, length, get_or, sym, subst, arith}
use Rattle.ts_arena.specs.declared.spot.Spot.TheVariants.{Owner}
use Rattle.ts_arena.specs.Arena.{ArenaState, IsArena}
use Rattle.ts_arena.specs.Parts.{HasRegion, part_at}
use Rattle.ts_arena.proofs.Spots.{found_owner, found_adopted}
use Rattle.ts_arena.proofs.arena.Arena.find.Goals as goal

pub bounds-table-region : goal.bounds-table-region
bounds-table-region c = let p = c.requires.part in let low = c.if-region-lt-FIRST_ADOPTED.true in let same = p.2 in
    let o = found_owner c.args.self.now (subst IsArena c.self.view_is c.self.invariant) p.0 c.args.table.now c.requires.table p.1 (omega arith) in
    let here = o.0 in omega arith

pub find-requires : goal.find-requires
find-requires c = let p = c.requires.part in let high = c.if-region-lt-FIRST_ADOPTED.false in let same = p.2 in
    subst (HasRegion c.self.inside.adopted) same (subst (λ (a : ArenaState). HasRegion a.adopted p.0.region) (sym c.self.view_is) (found_adopted c.args.self.now (subst IsArena c.self.view_is c.self.invariant) p.0 p.1 (omega arith)))

pub returns-then-region-lt-FIRST_ADOPTED-clause-spot : goal.returns-then-region-lt-FIRST_ADOPTED-clause-spot
returns-then-region-lt-FIRST_ADOPTED-clause-spot c = let p = c.requires.part in let low = c.if-region-lt-FIRST_ADOPTED.true in let same = p.2 in
    let o = found_owner c.args.self.now (subst IsArena c.self.view_is c.self.invariant) p.0 c.args.table.now c.requires.table p.1 (omega arith) in
    subst (λ (r : ℕ). get_or c.args.table.now r 0 < length c.args.self.now.owners) same o.1

pub returns-then-region-lt-FIRST_ADOPTED-clause-region : goal.returns-then-region-lt-FIRST_ADOPTED-clause-region
returns-then-region-lt-FIRST_ADOPTED-clause-region c = let p = c.requires.part in let low = c.if-region-lt-FIRST_ADOPTED.true in let same = p.2 in
    let o = found_owner c.args.self.now (subst IsArena c.self.view_is c.self.invariant) p.0 c.args.table.now c.requires.table p.1 (omega arith) in
    subst (λ (r : ℕ). (part_at c.args.self.now (Owner (get_or c.args.table.now r 0))).region ≡ r) same o.2
