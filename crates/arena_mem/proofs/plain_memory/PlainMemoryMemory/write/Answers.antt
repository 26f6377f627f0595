use Rattle.std.proofs.Common.{◌≡◌, ◌∙◌, ap, sym, subst, arith, List, ℕ, length}
use Rattle.std.specs.FinMap as fin
use Rattle.arena_mem.specs.Places.{Places, IsLive, used, written}
use Rattle.arena_mem.specs.Plain.{PlainState, placed_from, places_of, block_at, IsPlain}
use Rattle.arena_mem.proofs.Maps.{len-written, used-written}
use Rattle.arena_mem.proofs.PlainLaws.{IsBlockOf, is_block, fits_block, written_is, written_plain, written_here, written_beside, written_lives}
use Rattle.arena_mem.proofs.plain_memory.PlainMemoryMemory.write.Goals as goal

pub write_block-requires-clause-there : goal.write_block-requires-clause-there
write_block-requires-clause-there c = (is_block c.self.inside.placed.items c.args.place (subst (λ (s : PlainState). IsLive (places_of s) c.args.place) (sym c.self.view_is) c.requires.live)).there

pub write_block-requires-clause-fits : goal.write_block-requires-clause-fits
write_block-requires-clause-fits c = omega (arith, c.requires.fits, fits_block c.self.inside.placed.items c.args.place (subst (λ (s : PlainState). IsLive (places_of s) c.args.place) (sym c.self.view_is) c.requires.live))

pub invariant_of-self : goal.invariant_of-self
invariant_of-self c =
    let lives = subst (λ (s : PlainState). IsLive (places_of s) c.args.place) (sym c.self.view_is) c.requires.live in
    subst IsPlain (sym c.write_block.ensures) (written_plain c.self.inside.placed.items c.args.place c.args.start c.args.bytes.now lives c.requires.fits c.self.invariant)

pub returns-clause-map : goal.returns-clause-map
returns-clause-map c =
    let lives = subst (λ (s : PlainState). IsLive (places_of s) c.args.place) (sym c.self.view_is) c.requires.live in
    ap (λ (placed : List (List ℕ)). fin.from_entries (placed_from 0 placed)) c.write_block.ensures
    ∙ written_is c.self.inside.placed.items c.args.place c.args.start c.args.bytes.now lives c.requires.fits
    ∙ ap (λ (s : PlainState). written (places_of s) c.args.place c.args.start c.args.bytes.now) c.self.view_is

pub returns-clause-here : goal.returns-clause-here
returns-clause-here c = ap (λ (m : Places). fin.get m c.args.place) (returns-clause-map c) ∙ written_here (places_of c.args.self.now) c.args.place c.args.start c.args.bytes.now c.requires.live

pub returns-clause-others : goal.returns-clause-others
returns-clause-others c q other = ap (λ (m : Places). fin.get m q) (returns-clause-map c) ∙ written_beside (places_of c.args.self.now) c.args.place c.args.start c.args.bytes.now c.requires.live q other

pub returns-clause-still_live : goal.returns-clause-still_live
returns-clause-still_live c q there = subst (λ (m : Places). IsLive m q) (sym (returns-clause-map c)) (written_lives (places_of c.args.self.now) c.args.place c.args.start c.args.bytes.now c.requires.live q there)

pub returns-clause-count : goal.returns-clause-count
returns-clause-count c = ap fin.len (returns-clause-map c) ∙ len-written (places_of c.args.self.now) c.args.place c.args.start c.args.bytes.now

pub returns-clause-space : goal.returns-clause-space
returns-clause-space c = ap used (returns-clause-map c) ∙ used-written (places_of c.args.self.now) c.args.place c.args.start c.args.bytes.now
