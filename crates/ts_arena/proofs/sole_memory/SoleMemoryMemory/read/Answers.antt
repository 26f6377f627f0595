use Rattle.std.proofs.Common.{sym, subst, ap, ◌∙◌}
use Rattle.std.specs.FinMap as fin
use Rattle.arena_mem.specs.Places.{IsLive}
use Rattle.serial_arena.specs.Serial.{SerialState, places_of}
use Rattle.ts_arena.proofs.Whole.{place_there, live_there, place_at}
use Rattle.ts_arena.proofs.sole_memory.SoleMemoryMemory.read.Goals as goal

pub find-spot-requires-clause-part : goal.find-spot-requires-clause-part
find-spot-requires-clause-part c = place_there c.args.self.now.arena.now c.args.place c.requires

pub read-requires : goal.read-requires
read-requires c = let f = c.find-spot.ensures in subst (λ (s : SerialState). IsLive (places_of s) c.args.place) (sym c.part_at.ensures)
    (live_there c.args.self.now.arena.now f.arena c.find-spot.result f.spot c.args.place f.region c.requires)

pub returns-clause-value : goal.returns-clause-value
returns-clause-value c = let f = c.find-spot.ensures in place_at c.args.self.now.arena.now f.arena c.find-spot.result f.spot c.args.place f.region
    ∙ ap (λ (s : SerialState). fin.get (places_of s) c.args.place) (sym c.part_at.ensures) ∙ c.read.ensures.value
