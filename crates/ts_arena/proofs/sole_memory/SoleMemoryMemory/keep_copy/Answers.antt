use Rattle.std.proofs.Common.{refl, ap}
use Rattle.ts_arena.specs.Arena.{ArenaState}
use Rattle.ts_arena.proofs.SoleCalls.{keep_owns, keep_frame, keep_fresh, keep_map, keep_value, keep_count, keep_rest, keep_places, keep_blocks, keep_grows, grown_through}
use Rattle.ts_arena.proofs.sole_memory.SoleMemoryMemory.keep_copy.Goals as goal

pub invariant_of-self : goal.invariant_of-self
invariant_of-self c = let m = c.args.self.now in let e = c.keep_copy_for.ensures in let o = keep_owns m.at c.args.bytes.now m.arena.now c.keep_copy_for.new.self c.keep_copy_for.result e.arena m.own e.name e.kept e.same m.slots m.known in record { own = o.own; known = o.known }

pub returns-clause-key : goal.returns-clause-key
returns-clause-key c = let m = c.args.self.now in let e = c.keep_copy_for.ensures in ap (λ (a : ArenaState). (a, m.at, m.arena.ghost_name)) (keep_frame m.at c.args.bytes.now m.arena.now c.keep_copy_for.new.self c.keep_copy_for.result e.arena m.own e.name e.kept e.same)

pub returns-clause-grows : goal.returns-clause-grows
returns-clause-grows c = let m = c.args.self.now in let e = c.keep_copy_for.ensures in
    grown_through _ _ _ _ _ _ m.at m.arena.now c.keep_copy_for.new.self _ _ (keep_grows m.at c.args.bytes.now m.arena.now c.keep_copy_for.new.self c.keep_copy_for.result e.arena m.own e.name e.kept e.same) (ap (λ (a : ArenaState). (a, m.at, m.arena.ghost_name)) (keep_frame m.at c.args.bytes.now m.arena.now c.keep_copy_for.new.self c.keep_copy_for.result e.arena m.own e.name e.kept e.same)) refl refl refl refl refl refl

pub returns-clause-fresh : goal.returns-clause-fresh
returns-clause-fresh c = let m = c.args.self.now in let e = c.keep_copy_for.ensures in keep_fresh m.at c.args.bytes.now m.arena.now c.keep_copy_for.new.self c.keep_copy_for.result e.arena m.own e.name e.kept e.same

pub returns-clause-map : goal.returns-clause-map
returns-clause-map c = let m = c.args.self.now in let e = c.keep_copy_for.ensures in keep_map m.at c.args.bytes.now m.arena.now c.keep_copy_for.new.self c.keep_copy_for.result e.arena m.own e.name e.kept e.same

pub returns-clause-value : goal.returns-clause-value
returns-clause-value c = let m = c.args.self.now in let e = c.keep_copy_for.ensures in keep_value m.at c.args.bytes.now m.arena.now c.keep_copy_for.new.self c.keep_copy_for.result e.arena m.own e.name e.kept e.same

pub returns-clause-count : goal.returns-clause-count
returns-clause-count c = let m = c.args.self.now in let e = c.keep_copy_for.ensures in keep_count m.at c.args.bytes.now m.arena.now c.keep_copy_for.new.self c.keep_copy_for.result e.arena m.own e.name e.kept e.same

pub returns-clause-rest : goal.returns-clause-rest
returns-clause-rest c = let m = c.args.self.now in let e = c.keep_copy_for.ensures in keep_rest m.at c.args.bytes.now m.arena.now c.keep_copy_for.new.self c.keep_copy_for.result e.arena m.own e.name e.kept e.same

pub returns-clause-places : goal.returns-clause-places
returns-clause-places c = let m = c.args.self.now in let e = c.keep_copy_for.ensures in keep_places m.at c.args.bytes.now m.arena.now c.keep_copy_for.new.self c.keep_copy_for.result e.arena m.own e.name e.kept e.same

pub returns-clause-blocks : goal.returns-clause-blocks
returns-clause-blocks c = let m = c.args.self.now in let e = c.keep_copy_for.ensures in keep_blocks m.at c.args.bytes.now m.arena.now c.keep_copy_for.new.self c.keep_copy_for.result e.arena m.own e.name e.kept e.same
