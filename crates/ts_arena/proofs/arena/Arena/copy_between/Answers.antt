use Rattle.std.proofs.Common.{◌≡◌, take, sym, subst, ap, ◌∙◌}
use Rattle.arena_mem.specs.Places.{bytes_at}
use Rattle.serial_arena.specs.Key.{key_of}
use Rattle.serial_arena.specs.Serial.{places_of, with_bytes}
use Rattle.ts_arena.specs.Arena.{ArenaState, IsArena}
use Rattle.ts_arena.specs.Parts.{CanStand, part_at, with_part}
use Rattle.ts_arena.proofs.Spots.{part_beside, put_back, with_part_twice}
use Rattle.ts_arena.proofs.arena.Arena.copy_between.Goals as goal

pub exchange-requires-clause-stands : goal.exchange-requires-clause-stands
exchange-requires-clause-stands c = let e = c.exchange-part.ensures in
    subst (λ (a : ArenaState). CanStand a c.args.target c.write_front.new.part) (sym e.now)
    (put_back c.args.self.now c.args.target c.stand_in-stand_in.result c.write_front.new.part (subst IsArena c.self.view_is c.self.invariant) c.requires.target c.stand_in-stand_in.ensures
    (ap key_of c.write_front.ensures.wrote ∙ ap key_of e.was) c.write_front.ensures.serial)

pub returns-clause-wrote : goal.returns-clause-wrote
returns-clause-wrote c = let e = c.exchange-part.ensures in let a = c.args.self.now in
    let source : c.part_at.result.now ≡ part_at a c.args.source = c.part_at.ensures ∙ ap (λ (x : ArenaState). part_at x c.args.source) e.now ∙ part_beside a c.args.source c.args.target c.stand_in-stand_in.result c.requires.differ in
    c.exchange.ensures.now ∙ ap (λ (x : ArenaState). with_part x c.args.target c.write_front.new.part) e.now
    ∙ with_part_twice a c.args.target c.stand_in-stand_in.result c.write_front.new.part c.requires.target
    ∙ ap (with_part a c.args.target) (c.write_front.ensures.wrote ∙ (λ i. with_bytes (e.was i) c.args.to 0 (take c.args.bytes (bytes_at (places_of (source i)) c.args.from))))
