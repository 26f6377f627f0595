use Rattle.std.proofs.Common.{ap}
use Rattle.ts_arena.specs.Arena.{ArenaState}
use Rattle.ts_arena.proofs.Whole.{place_there, live_there}
use Rattle.ts_arena.proofs.SoleCalls.{write_owns, write_frame, write_map, write_here, write_others, write_live, write_count, write_space, write_buffers, write_blocks}
use Rattle.ts_arena.proofs.sole_memory.SoleMemoryMemory.write.Goals as goal

pub find-spot-requires-clause-part : goal.find-spot-requires-clause-part
find-spot-requires-clause-part c = place_there c.args.self.now.arena.now c.args.place c.requires.live

pub write_at-requires-clause-live : goal.write_at-requires-clause-live
write_at-requires-clause-live c = let f = c.find-spot.ensures in live_there c.args.self.now.arena.now f.arena c.find-spot.result f.spot c.args.place f.region c.requires.live

pub invariant_of-self : goal.invariant_of-self
invariant_of-self c = let m = c.args.self.now in let f = c.find-spot.ensures in let o = write_owns m.at m.arena.now c.write_at.new.self c.find-spot.result c.args.place c.args.start c.args.bytes.now f.arena m.own f.spot f.region c.requires.live c.write_at.ensures.wrote m.slots m.known in record { own = o.own; known = o.known }

pub returns-clause-key : goal.returns-clause-key
returns-clause-key c = let m = c.args.self.now in let f = c.find-spot.ensures in ap (λ (a : ArenaState). (a, m.at, m.arena.ghost_name)) (write_frame m.at m.arena.now c.write_at.new.self c.find-spot.result c.args.place c.args.start c.args.bytes.now f.arena m.own f.spot f.region c.requires.live c.write_at.ensures.wrote)

pub returns-clause-map : goal.returns-clause-map
returns-clause-map c = let m = c.args.self.now in let f = c.find-spot.ensures in write_map m.at m.arena.now c.write_at.new.self c.find-spot.result c.args.place c.args.start c.args.bytes.now f.arena m.own f.spot f.region c.requires.live c.write_at.ensures.wrote

pub returns-clause-here : goal.returns-clause-here
returns-clause-here c = let m = c.args.self.now in let f = c.find-spot.ensures in write_here m.at m.arena.now c.write_at.new.self c.find-spot.result c.args.place c.args.start c.args.bytes.now f.arena m.own f.spot f.region c.requires.live c.write_at.ensures.wrote

pub returns-clause-others : goal.returns-clause-others
returns-clause-others c = let m = c.args.self.now in let f = c.find-spot.ensures in write_others m.at m.arena.now c.write_at.new.self c.find-spot.result c.args.place c.args.start c.args.bytes.now f.arena m.own f.spot f.region c.requires.live c.write_at.ensures.wrote

pub returns-clause-still_live : goal.returns-clause-still_live
returns-clause-still_live c = let m = c.args.self.now in let f = c.find-spot.ensures in write_live m.at m.arena.now c.write_at.new.self c.find-spot.result c.args.place c.args.start c.args.bytes.now f.arena m.own f.spot f.region c.requires.live c.write_at.ensures.wrote

pub returns-clause-count : goal.returns-clause-count
returns-clause-count c = let m = c.args.self.now in let f = c.find-spot.ensures in write_count m.at m.arena.now c.write_at.new.self c.find-spot.result c.args.place c.args.start c.args.bytes.now f.arena m.own f.spot f.region c.requires.live c.write_at.ensures.wrote

pub returns-clause-space : goal.returns-clause-space
returns-clause-space c = let m = c.args.self.now in let f = c.find-spot.ensures in write_space m.at m.arena.now c.write_at.new.self c.find-spot.result c.args.place c.args.start c.args.bytes.now f.arena m.own f.spot f.region c.requires.live c.write_at.ensures.wrote

pub returns-clause-buffers : goal.returns-clause-buffers
returns-clause-buffers c = let m = c.args.self.now in let f = c.find-spot.ensures in write_buffers m.at m.arena.now c.write_at.new.self c.find-spot.result c.args.place c.args.start c.args.bytes.now f.arena m.own f.spot f.region c.requires.live c.write_at.ensures.wrote

pub returns-clause-blocks : goal.returns-clause-blocks
returns-clause-blocks c = let m = c.args.self.now in let f = c.find-spot.ensures in write_blocks m.at m.arena.now c.write_at.new.self c.find-spot.result c.args.place c.args.start c.args.bytes.now f.arena m.own f.spot f.region c.requires.live c.write_at.ensures.wrote
