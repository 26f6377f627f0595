use Rattle.std.proofs.Common.{take, sym, ap, ◌∙◌}
use Rattle.arena_mem.specs.Places.{bytes_at}
use Rattle.ts_arena.specs.Arena.{ArenaState}
use Rattle.ts_arena.specs.Sole.{arena_places}
use Rattle.ts_arena.proofs.Whole.{place_there, live_there}
use Rattle.ts_arena.proofs.SoleCalls.{copied_is, write_owns, write_frame, write_map, write_here, write_others, write_live, write_count, write_space, write_buffers, write_blocks}
use Rattle.ts_arena.proofs.sole_memory.SoleMemoryMemory.copy_front.Goals as goal

pub find-source-requires-clause-part : goal.find-source-requires-clause-part
find-source-requires-clause-part c = place_there c.args.self.now.arena.now c.args.from c.requires.from_live

pub find-target-requires-clause-part : goal.find-target-requires-clause-part
find-target-requires-clause-part c = place_there c.args.self.now.arena.now c.args.to c.requires.to_live

pub copy_at-requires-clause-from_live : goal.copy_at-requires-clause-from_live
copy_at-requires-clause-from_live c = let f = c.find-target.ensures in live_there c.args.self.now.arena.now f.arena c.find-target.result f.spot c.args.from (f.region ∙ sym c.if-from-to.true) c.requires.from_live

pub copy_at-requires-clause-to_live : goal.copy_at-requires-clause-to_live
copy_at-requires-clause-to_live c = let f = c.find-target.ensures in live_there c.args.self.now.arena.now f.arena c.find-target.result f.spot c.args.to f.region c.requires.to_live

pub copy_between-requires-clause-from_live : goal.copy_between-requires-clause-from_live
copy_between-requires-clause-from_live c = let f = c.find-source.ensures in live_there c.args.self.now.arena.now f.arena c.find-source.result f.spot c.args.from f.region c.requires.from_live

pub copy_between-requires-clause-to_live : goal.copy_between-requires-clause-to_live
copy_between-requires-clause-to_live c = let f = c.find-target.ensures in live_there c.args.self.now.arena.now f.arena c.find-target.result f.spot c.args.to f.region c.requires.to_live

pub invariant_of-self : goal.invariant_of-self
invariant_of-self c = let m = c.args.self.now in let f = c.find-target.ensures in let o = write_owns m.at m.arena.now c.copy_at.new.self c.find-target.result c.args.to 0 (take c.args.bytes (bytes_at (arena_places m.arena.now) c.args.from)) f.arena m.own f.spot f.region c.requires.to_live (copied_is m.arena.now c.copy_at.new.self c.find-target.result c.find-target.result c.args.from c.args.to c.args.bytes f.arena c.find-target.ensures.spot (c.find-target.ensures.region ∙ sym c.if-from-to.true) c.copy_at.ensures.wrote) m.slots m.known in record { own = o.own; known = o.known }

pub returns-then-from-to-clause-key : goal.returns-then-from-to-clause-key
returns-then-from-to-clause-key c = let m = c.args.self.now in let f = c.find-target.ensures in ap (λ (a : ArenaState). (a, m.at, m.arena.ghost_name)) (write_frame m.at m.arena.now c.copy_at.new.self c.find-target.result c.args.to 0 (take c.args.bytes (bytes_at (arena_places m.arena.now) c.args.from)) f.arena m.own f.spot f.region c.requires.to_live (copied_is m.arena.now c.copy_at.new.self c.find-target.result c.find-target.result c.args.from c.args.to c.args.bytes f.arena c.find-target.ensures.spot (c.find-target.ensures.region ∙ sym c.if-from-to.true) c.copy_at.ensures.wrote))

pub returns-then-from-to-clause-map : goal.returns-then-from-to-clause-map
returns-then-from-to-clause-map c = let m = c.args.self.now in let f = c.find-target.ensures in write_map m.at m.arena.now c.copy_at.new.self c.find-target.result c.args.to 0 (take c.args.bytes (bytes_at (arena_places m.arena.now) c.args.from)) f.arena m.own f.spot f.region c.requires.to_live (copied_is m.arena.now c.copy_at.new.self c.find-target.result c.find-target.result c.args.from c.args.to c.args.bytes f.arena c.find-target.ensures.spot (c.find-target.ensures.region ∙ sym c.if-from-to.true) c.copy_at.ensures.wrote)

pub returns-then-from-to-clause-here : goal.returns-then-from-to-clause-here
returns-then-from-to-clause-here c = let m = c.args.self.now in let f = c.find-target.ensures in write_here m.at m.arena.now c.copy_at.new.self c.find-target.result c.args.to 0 (take c.args.bytes (bytes_at (arena_places m.arena.now) c.args.from)) f.arena m.own f.spot f.region c.requires.to_live (copied_is m.arena.now c.copy_at.new.self c.find-target.result c.find-target.result c.args.from c.args.to c.args.bytes f.arena c.find-target.ensures.spot (c.find-target.ensures.region ∙ sym c.if-from-to.true) c.copy_at.ensures.wrote)

pub returns-then-from-to-clause-others : goal.returns-then-from-to-clause-others
returns-then-from-to-clause-others c = let m = c.args.self.now in let f = c.find-target.ensures in write_others m.at m.arena.now c.copy_at.new.self c.find-target.result c.args.to 0 (take c.args.bytes (bytes_at (arena_places m.arena.now) c.args.from)) f.arena m.own f.spot f.region c.requires.to_live (copied_is m.arena.now c.copy_at.new.self c.find-target.result c.find-target.result c.args.from c.args.to c.args.bytes f.arena c.find-target.ensures.spot (c.find-target.ensures.region ∙ sym c.if-from-to.true) c.copy_at.ensures.wrote)

pub returns-then-from-to-clause-still_live : goal.returns-then-from-to-clause-still_live
returns-then-from-to-clause-still_live c = let m = c.args.self.now in let f = c.find-target.ensures in write_live m.at m.arena.now c.copy_at.new.self c.find-target.result c.args.to 0 (take c.args.bytes (bytes_at (arena_places m.arena.now) c.args.from)) f.arena m.own f.spot f.region c.requires.to_live (copied_is m.arena.now c.copy_at.new.self c.find-target.result c.find-target.result c.args.from c.args.to c.args.bytes f.arena c.find-target.ensures.spot (c.find-target.ensures.region ∙ sym c.if-from-to.true) c.copy_at.ensures.wrote)

pub returns-then-from-to-clause-count : goal.returns-then-from-to-clause-count
returns-then-from-to-clause-count c = let m = c.args.self.now in let f = c.find-target.ensures in write_count m.at m.arena.now c.copy_at.new.self c.find-target.result c.args.to 0 (take c.args.bytes (bytes_at (arena_places m.arena.now) c.args.from)) f.arena m.own f.spot f.region c.requires.to_live (copied_is m.arena.now c.copy_at.new.self c.find-target.result c.find-target.result c.args.from c.args.to c.args.bytes f.arena c.find-target.ensures.spot (c.find-target.ensures.region ∙ sym c.if-from-to.true) c.copy_at.ensures.wrote)

pub returns-then-from-to-clause-space : goal.returns-then-from-to-clause-space
returns-then-from-to-clause-space c = let m = c.args.self.now in let f = c.find-target.ensures in write_space m.at m.arena.now c.copy_at.new.self c.find-target.result c.args.to 0 (take c.args.bytes (bytes_at (arena_places m.arena.now) c.args.from)) f.arena m.own f.spot f.region c.requires.to_live (copied_is m.arena.now c.copy_at.new.self c.find-target.result c.find-target.result c.args.from c.args.to c.args.bytes f.arena c.find-target.ensures.spot (c.find-target.ensures.region ∙ sym c.if-from-to.true) c.copy_at.ensures.wrote)

pub returns-then-from-to-clause-buffers : goal.returns-then-from-to-clause-buffers
returns-then-from-to-clause-buffers c = let m = c.args.self.now in let f = c.find-target.ensures in write_buffers m.at m.arena.now c.copy_at.new.self c.find-target.result c.args.to 0 (take c.args.bytes (bytes_at (arena_places m.arena.now) c.args.from)) f.arena m.own f.spot f.region c.requires.to_live (copied_is m.arena.now c.copy_at.new.self c.find-target.result c.find-target.result c.args.from c.args.to c.args.bytes f.arena c.find-target.ensures.spot (c.find-target.ensures.region ∙ sym c.if-from-to.true) c.copy_at.ensures.wrote)

pub returns-then-from-to-clause-blocks : goal.returns-then-from-to-clause-blocks
returns-then-from-to-clause-blocks c = let m = c.args.self.now in let f = c.find-target.ensures in write_blocks m.at m.arena.now c.copy_at.new.self c.find-target.result c.args.to 0 (take c.args.bytes (bytes_at (arena_places m.arena.now) c.args.from)) f.arena m.own f.spot f.region c.requires.to_live (copied_is m.arena.now c.copy_at.new.self c.find-target.result c.find-target.result c.args.from c.args.to c.args.bytes f.arena c.find-target.ensures.spot (c.find-target.ensures.region ∙ sym c.if-from-to.true) c.copy_at.ensures.wrote)

pub invariant_of-self-else-from-to : goal.invariant_of-self-else-from-to
invariant_of-self-else-from-to c = let m = c.args.self.now in let f = c.find-target.ensures in let o = write_owns m.at m.arena.now c.copy_between.new.self c.find-target.result c.args.to 0 (take c.args.bytes (bytes_at (arena_places m.arena.now) c.args.from)) f.arena m.own f.spot f.region c.requires.to_live (copied_is m.arena.now c.copy_between.new.self c.find-source.result c.find-target.result c.args.from c.args.to c.args.bytes f.arena c.find-source.ensures.spot c.find-source.ensures.region c.copy_between.ensures.wrote) m.slots m.known in record { own = o.own; known = o.known }

pub returns-else-from-to-clause-key : goal.returns-else-from-to-clause-key
returns-else-from-to-clause-key c = let m = c.args.self.now in let f = c.find-target.ensures in ap (λ (a : ArenaState). (a, m.at, m.arena.ghost_name)) (write_frame m.at m.arena.now c.copy_between.new.self c.find-target.result c.args.to 0 (take c.args.bytes (bytes_at (arena_places m.arena.now) c.args.from)) f.arena m.own f.spot f.region c.requires.to_live (copied_is m.arena.now c.copy_between.new.self c.find-source.result c.find-target.result c.args.from c.args.to c.args.bytes f.arena c.find-source.ensures.spot c.find-source.ensures.region c.copy_between.ensures.wrote))

pub returns-else-from-to-clause-map : goal.returns-else-from-to-clause-map
returns-else-from-to-clause-map c = let m = c.args.self.now in let f = c.find-target.ensures in write_map m.at m.arena.now c.copy_between.new.self c.find-target.result c.args.to 0 (take c.args.bytes (bytes_at (arena_places m.arena.now) c.args.from)) f.arena m.own f.spot f.region c.requires.to_live (copied_is m.arena.now c.copy_between.new.self c.find-source.result c.find-target.result c.args.from c.args.to c.args.bytes f.arena c.find-source.ensures.spot c.find-source.ensures.region c.copy_between.ensures.wrote)

pub returns-else-from-to-clause-here : goal.returns-else-from-to-clause-here
returns-else-from-to-clause-here c = let m = c.args.self.now in let f = c.find-target.ensures in write_here m.at m.arena.now c.copy_between.new.self c.find-target.result c.args.to 0 (take c.args.bytes (bytes_at (arena_places m.arena.now) c.args.from)) f.arena m.own f.spot f.region c.requires.to_live (copied_is m.arena.now c.copy_between.new.self c.find-source.result c.find-target.result c.args.from c.args.to c.args.bytes f.arena c.find-source.ensures.spot c.find-source.ensures.region c.copy_between.ensures.wrote)

pub returns-else-from-to-clause-others : goal.returns-else-from-to-clause-others
returns-else-from-to-clause-others c = let m = c.args.self.now in let f = c.find-target.ensures in write_others m.at m.arena.now c.copy_between.new.self c.find-target.result c.args.to 0 (take c.args.bytes (bytes_at (arena_places m.arena.now) c.args.from)) f.arena m.own f.spot f.region c.requires.to_live (copied_is m.arena.now c.copy_between.new.self c.find-source.result c.find-target.result c.args.from c.args.to c.args.bytes f.arena c.find-source.ensures.spot c.find-source.ensures.region c.copy_between.ensures.wrote)

pub returns-else-from-to-clause-still_live : goal.returns-else-from-to-clause-still_live
returns-else-from-to-clause-still_live c = let m = c.args.self.now in let f = c.find-target.ensures in write_live m.at m.arena.now c.copy_between.new.self c.find-target.result c.args.to 0 (take c.args.bytes (bytes_at (arena_places m.arena.now) c.args.from)) f.arena m.own f.spot f.region c.requires.to_live (copied_is m.arena.now c.copy_between.new.self c.find-source.result c.find-target.result c.args.from c.args.to c.args.bytes f.arena c.find-source.ensures.spot c.find-source.ensures.region c.copy_between.ensures.wrote)

pub returns-else-from-to-clause-count : goal.returns-else-from-to-clause-count
returns-else-from-to-clause-count c = let m = c.args.self.now in let f = c.find-target.ensures in write_count m.at m.arena.now c.copy_between.new.self c.find-target.result c.args.to 0 (take c.args.bytes (bytes_at (arena_places m.arena.now) c.args.from)) f.arena m.own f.spot f.region c.requires.to_live (copied_is m.arena.now c.copy_between.new.self c.find-source.result c.find-target.result c.args.from c.args.to c.args.bytes f.arena c.find-source.ensures.spot c.find-source.ensures.region c.copy_between.ensures.wrote)

pub returns-else-from-to-clause-space : goal.returns-else-from-to-clause-space
returns-else-from-to-clause-space c = let m = c.args.self.now in let f = c.find-target.ensures in write_space m.at m.arena.now c.copy_between.new.self c.find-target.result c.args.to 0 (take c.args.bytes (bytes_at (arena_places m.arena.now) c.args.from)) f.arena m.own f.spot f.region c.requires.to_live (copied_is m.arena.now c.copy_between.new.self c.find-source.result c.find-target.result c.args.from c.args.to c.args.bytes f.arena c.find-source.ensures.spot c.find-source.ensures.region c.copy_between.ensures.wrote)

pub returns-else-from-to-clause-buffers : goal.returns-else-from-to-clause-buffers
returns-else-from-to-clause-buffers c = let m = c.args.self.now in let f = c.find-target.ensures in write_buffers m.at m.arena.now c.copy_between.new.self c.find-target.result c.args.to 0 (take c.args.bytes (bytes_at (arena_places m.arena.now) c.args.from)) f.arena m.own f.spot f.region c.requires.to_live (copied_is m.arena.now c.copy_between.new.self c.find-source.result c.find-target.result c.args.from c.args.to c.args.bytes f.arena c.find-source.ensures.spot c.find-source.ensures.region c.copy_between.ensures.wrote)

pub returns-else-from-to-clause-blocks : goal.returns-else-from-to-clause-blocks
returns-else-from-to-clause-blocks c = let m = c.args.self.now in let f = c.find-target.ensures in write_blocks m.at m.arena.now c.copy_between.new.self c.find-target.result c.args.to 0 (take c.args.bytes (bytes_at (arena_places m.arena.now) c.args.from)) f.arena m.own f.spot f.region c.requires.to_live (copied_is m.arena.now c.copy_between.new.self c.find-source.result c.find-target.result c.args.from c.args.to c.args.bytes f.arena c.find-source.ensures.spot c.find-source.ensures.region c.copy_between.ensures.wrote)
