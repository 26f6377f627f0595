use Rattle.std.proofs.Common.{sym, subst, ap, ◌∙◌}
use Rattle.std.specs.FinMap as fin
use Rattle.arena_mem.specs.Places.{IsKept}
use Rattle.serial_arena.specs.Serial.{SerialState, buffers_of}
use Rattle.ts_arena.proofs.Whole.{buffer_there, kept_there, buffer_at}
use Rattle.ts_arena.proofs.sole_memory.SoleMemoryMemory.kept.Goals as goal

pub find-spot-requires-clause-part : goal.find-spot-requires-clause-part
find-spot-requires-clause-part c = buffer_there c.args.self.now.arena.now c.args.buffer c.requires

pub kept-requires : goal.kept-requires
kept-requires c = let f = c.find-spot.ensures in subst (λ (s : SerialState). IsKept (buffers_of s) c.args.buffer) (sym c.part_at.ensures)
    (kept_there c.args.self.now.arena.now f.arena c.find-spot.result f.spot c.args.buffer f.region c.requires)

pub returns : goal.returns
returns c = let f = c.find-spot.ensures in buffer_at c.args.self.now.arena.now f.arena c.find-spot.result f.spot c.args.buffer f.region
    ∙ ap (λ (s : SerialState). fin.get (buffers_of s) c.args.buffer) (sym c.part_at.ensures) ∙ c.kept.ensures
