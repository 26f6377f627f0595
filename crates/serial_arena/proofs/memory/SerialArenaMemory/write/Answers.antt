use Rattle.std.proofs.Common.{sym, ap, subst, ◌∙◌, arith}
use Rattle.std.specs.FinMap as fin
use Rattle.arena_mem.specs.Places.{IsLive, used}
use Rattle.arena_mem.proofs.Maps.{len-written, used-written}
use Rattle.serial_arena.specs.Serial.{SerialState, places_of}
use Rattle.serial_arena.specs.Layout.{HoldsAll}
use Rattle.serial_arena.proofs.Names.{with_bytes_here, with_bytes_beside, with_bytes_is, with_bytes_live}
use Rattle.serial_arena.proofs.States.{held, lies_there, wrote, wrote_well, write_fits}
use Rattle.serial_arena.proofs.memory.SerialArenaMemory.write.Goals as goal

pub overflow_add-place : goal.overflow_add-place
overflow_add-place c = omega (arith, (lies_there _ _ _ _ _ _ _ _ _ _ c.self.view_is c.self.invariant c.args.place c.requires.live).small, c.requires.fits)

pub write_part-requires-clause-there : goal.write_part-requires-clause-there
write_part-requires-clause-there c = (lies_there _ _ _ _ _ _ _ _ _ _ c.self.view_is c.self.invariant c.args.place c.requires.live).block

pub write_part-requires-clause-part : goal.write_part-requires-clause-part
write_part-requires-clause-part c =
    let lies = lies_there _ _ _ _ _ _ _ _ _ _ c.self.view_is c.self.invariant c.args.place c.requires.live in
    record { behind = omega (arith, lies.behind); within = write_fits _ _ _ _ _ _ _ _ _ _ c.self.view_is c.self.invariant c.args.place c.args.start c.args.bytes.now c.requires.live c.requires.fits }

pub invariant_of-self : goal.invariant_of-self
invariant_of-self c =
    subst (λ blocks. HoldsAll c.self.inside.policy blocks c.self.inside.spans.items c.self.inside.used c.self.inside.allocated) (sym c.write_part.ensures)
    (wrote_well _ _ _ _ _ _ _ _ _ _ c.self.view_is c.self.invariant c.args.place c.args.start c.args.bytes.now c.requires.live c.requires.fits)

pub returns-clause-wrote : goal.returns-clause-wrote
returns-clause-wrote c =
    ap (λ blocks. held c.self.inside.owner c.self.inside.life c.self.inside.region c.self.inside.policy blocks c.self.inside.spans.items c.self.inside.kept) c.write_part.ensures
    ∙ wrote _ _ _ _ _ _ _ _ _ _ c.self.view_is c.self.invariant c.args.place c.args.start c.args.bytes.now c.requires.live c.requires.fits

pub returns-clause-here : goal.returns-clause-here
returns-clause-here c = ap (λ (s : SerialState). fin.get (places_of s) c.args.place) (returns-clause-wrote c) ∙ with_bytes_here c.args.self.now c.args.place c.args.start c.args.bytes.now c.requires.live

pub returns-clause-others : goal.returns-clause-others
returns-clause-others c q other = ap (λ (s : SerialState). fin.get (places_of s) q) (returns-clause-wrote c) ∙ with_bytes_beside c.args.self.now c.args.place c.args.start c.args.bytes.now c.requires.live q other

pub returns-clause-map : goal.returns-clause-map
returns-clause-map c = ap places_of (returns-clause-wrote c) ∙ with_bytes_is c.args.self.now c.args.place c.args.start c.args.bytes.now c.requires.live

pub returns-clause-still_live : goal.returns-clause-still_live
returns-clause-still_live c q there = subst (λ (s : SerialState). IsLive (places_of s) q) (sym (returns-clause-wrote c)) (with_bytes_live c.args.self.now c.args.place c.args.start c.args.bytes.now c.requires.live q there)

pub returns-clause-count : goal.returns-clause-count
returns-clause-count c = ap fin.len (returns-clause-map c) ∙ len-written (places_of c.args.self.now) c.args.place c.args.start c.args.bytes.now

pub returns-clause-space : goal.returns-clause-space
returns-clause-space c = ap used (returns-clause-map c) ∙ used-written (places_of c.args.self.now) c.args.place c.args.start c.args.bytes.now
