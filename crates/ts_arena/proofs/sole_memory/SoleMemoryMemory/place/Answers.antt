use Rattle.std.proofs.Common.{refl, ap}
use Rattle.ts_arena.specs.Arena.{ArenaState}
use Rattle.ts_arena.proofs.SoleCalls.{place_owns, place_frame, place_fresh, place_map, place_zeros, place_count, place_space, place_rest, place_buffers, place_live, place_blocks, place_spent, place_grows, grown_through}
use Rattle.ts_arena.proofs.sole_memory.SoleMemoryMemory.place.Goals as goal

pub invariant_of-self : goal.invariant_of-self
invariant_of-self c = let m = c.args.self.now in let e = c.place_for.ensures in let o = place_owns m.at c.args.bytes m.arena.now c.place_for.new.self c.place_for.result e.arena m.own c.requires e.name e.placed e.same e.fault m.slots m.known in record { own = o.own; known = o.known }

pub returns-clause-key : goal.returns-clause-key
returns-clause-key c = let m = c.args.self.now in let e = c.place_for.ensures in ap (λ (a : ArenaState). (a, m.at, m.arena.ghost_name)) (place_frame m.at c.args.bytes m.arena.now c.place_for.new.self c.place_for.result e.arena m.own c.requires e.name e.placed e.same e.fault)

pub returns-clause-grows : goal.returns-clause-grows
returns-clause-grows c = let m = c.args.self.now in let e = c.place_for.ensures in
    grown_through _ _ _ _ _ _ m.at m.arena.now c.place_for.new.self _ _ (place_grows m.at c.args.bytes m.arena.now c.place_for.new.self c.place_for.result e.arena m.own c.requires e.name e.placed e.same e.fault) (ap (λ (a : ArenaState). (a, m.at, m.arena.ghost_name)) (place_frame m.at c.args.bytes m.arena.now c.place_for.new.self c.place_for.result e.arena m.own c.requires e.name e.placed e.same e.fault)) refl refl refl refl refl refl

pub returns-clause-fresh : goal.returns-clause-fresh
returns-clause-fresh c = let m = c.args.self.now in let e = c.place_for.ensures in place_fresh m.at c.args.bytes m.arena.now c.place_for.new.self c.place_for.result e.arena m.own c.requires e.name e.placed e.same e.fault

pub returns-clause-map : goal.returns-clause-map
returns-clause-map c = let m = c.args.self.now in let e = c.place_for.ensures in place_map m.at c.args.bytes m.arena.now c.place_for.new.self c.place_for.result e.arena m.own c.requires e.name e.placed e.same e.fault

pub returns-clause-zeros : goal.returns-clause-zeros
returns-clause-zeros c = let m = c.args.self.now in let e = c.place_for.ensures in place_zeros m.at c.args.bytes m.arena.now c.place_for.new.self c.place_for.result e.arena m.own c.requires e.name e.placed e.same e.fault

pub returns-clause-count : goal.returns-clause-count
returns-clause-count c = let m = c.args.self.now in let e = c.place_for.ensures in place_count m.at c.args.bytes m.arena.now c.place_for.new.self c.place_for.result e.arena m.own c.requires e.name e.placed e.same e.fault

pub returns-clause-space : goal.returns-clause-space
returns-clause-space c = let m = c.args.self.now in let e = c.place_for.ensures in place_space m.at c.args.bytes m.arena.now c.place_for.new.self c.place_for.result e.arena m.own c.requires e.name e.placed e.same e.fault

pub returns-clause-rest : goal.returns-clause-rest
returns-clause-rest c = let m = c.args.self.now in let e = c.place_for.ensures in place_rest m.at c.args.bytes m.arena.now c.place_for.new.self c.place_for.result e.arena m.own c.requires e.name e.placed e.same e.fault

pub returns-clause-buffers : goal.returns-clause-buffers
returns-clause-buffers c = let m = c.args.self.now in let e = c.place_for.ensures in place_buffers m.at c.args.bytes m.arena.now c.place_for.new.self c.place_for.result e.arena m.own c.requires e.name e.placed e.same e.fault

pub returns-clause-still_live : goal.returns-clause-still_live
returns-clause-still_live c = let m = c.args.self.now in let e = c.place_for.ensures in place_live m.at c.args.bytes m.arena.now c.place_for.new.self c.place_for.result e.arena m.own c.requires e.name e.placed e.same e.fault

pub returns-clause-blocks : goal.returns-clause-blocks
returns-clause-blocks c = let m = c.args.self.now in let e = c.place_for.ensures in place_blocks m.at c.args.bytes m.arena.now c.place_for.new.self c.place_for.result e.arena m.own c.requires e.name e.placed e.same e.fault

pub returns-clause-spent : goal.returns-clause-spent
returns-clause-spent c = let m = c.args.self.now in let e = c.place_for.ensures in place_spent m.at c.args.bytes m.arena.now c.place_for.new.self c.place_for.result e.arena m.own c.requires e.name e.placed e.same e.fault
