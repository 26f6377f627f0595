use Rattle.std.proofs.Common.{◌≡◌, ◌+◌, ◌<◌, ◌≤◌, ℕ, List, ◌++◌, length, take, drop, sym, ap, subst, ◌∙◌, arith}
use Rattle.std.specs.FinMap as fin
use Rattle.std.proofs.lemmas.List.{take_at}
use Rattle.arena_mem.specs.Places.{IsLive, bytes_at, used}
use Rattle.arena_mem.proofs.Maps.{len-written, used-written}
use Rattle.arena_block.specs.Block.{BlockState, part_of, IsPart}
use Rattle.serial_arena.specs.Serial.{SerialState, places_of}
use Rattle.serial_arena.specs.Layout.{HoldsAll, block_at, with_written}
use Rattle.serial_arena.proofs.Names.{with_bytes_here, with_bytes_beside, with_bytes_is, with_bytes_live}
use Rattle.serial_arena.proofs.States.{held, lies_there, wrote, wrote_well, front_is, front_count}
use Rattle.serial_arena.proofs.memory.SerialArenaMemory.copy_front.Goals as goal
use Rattle.serial_arena.proofs.memory.SerialArenaMemory.copy_front.Goals.{After-deref_mut, After-self-1}

-- ---- what the call requires
same_blocks : (c : After-deref_mut) → c.self.inside.blocks.items ≡ c.deref_mut.result.now
same_blocks c = sym c.deref_mut.ensures.value

pub copy_part-requires-clause-from_there : goal.copy_part-requires-clause-from_there
copy_part-requires-clause-from_there c = subst (λ (bs : List BlockState). c.args.from.block < length bs) (same_blocks c) (lies_there _ _ _ _ _ _ _ _ _ _ c.self.view_is c.self.invariant c.args.from c.requires.from_live).block

pub copy_part-requires-clause-to_there : goal.copy_part-requires-clause-to_there
copy_part-requires-clause-to_there c = subst (λ (bs : List BlockState). c.args.to.block < length bs) (same_blocks c) (lies_there _ _ _ _ _ _ _ _ _ _ c.self.view_is c.self.invariant c.args.to c.requires.to_live).block

pub copy_part-requires-clause-from_part : goal.copy_part-requires-clause-from_part
copy_part-requires-clause-from_part c =
    let lies = lies_there _ _ _ _ _ _ _ _ _ _ c.self.view_is c.self.invariant c.args.from c.requires.from_live in
    subst (λ bs. IsPart (block_at bs c.args.from.block) c.args.from.offset c.args.bytes) (same_blocks c) (record { behind = lies.behind; within = omega (arith, lies.fits, c.requires.from_fits) })

pub copy_part-requires-clause-to_part : goal.copy_part-requires-clause-to_part
copy_part-requires-clause-to_part c =
    let lies = lies_there _ _ _ _ _ _ _ _ _ _ c.self.view_is c.self.invariant c.args.to c.requires.to_live in
    subst (λ bs. IsPart (block_at bs c.args.to.block) c.args.to.offset c.args.bytes) (same_blocks c) (record { behind = lies.behind; within = omega (arith, lies.fits, c.requires.to_fits) })

-- ---- a write of the first bytes
abbrev front : After-self-1 → List ℕ
front c = take c.args.bytes (bytes_at (places_of c.args.self.now) c.args.from)

fits : (c : After-self-1) → 0 + length (front c) ≤ c.args.to.len
fits c = omega (arith, front_count _ _ _ _ _ _ _ _ _ _ c.self.view_is c.self.invariant c.args.from c.args.bytes c.requires.from_live c.requires.from_fits, c.requires.to_fits)

blocks_are : (c : After-self-1) → take c.self.inside.blocks.len (c.copy_part.new.blocks ++ drop (length c.copy_part.new.blocks) c.self.inside.blocks.items)
    ≡ with_written c.self.inside.blocks.items c.args.to.block (c.args.to.offset + 0) (front c)
blocks_are c =
    let count : length c.copy_part.new.blocks ≡ c.self.inside.blocks.len = omega (arith, c.copy_part.auto.blocks, c.deref_mut.ensures.len) in
    let bytes = front_is _ _ _ _ _ _ _ _ _ _ c.self.view_is c.self.invariant c.args.from c.args.bytes c.requires.from_live c.requires.from_fits in
    let offset : c.args.to.offset ≡ c.args.to.offset + 0 = omega arith in
    take_at c.copy_part.new.blocks _ c.self.inside.blocks.len count
    ∙ c.copy_part.ensures
    ∙ ap (λ bs. with_written bs c.args.to.block c.args.to.offset (part_of (block_at bs c.args.from.block) c.args.from.offset c.args.bytes)) c.deref_mut.ensures.value
    ∙ (λ i. with_written c.self.inside.blocks.items c.args.to.block (offset i) (sym bytes i))

pub invariant_of-self : goal.invariant_of-self
invariant_of-self c =
    subst (λ blocks. HoldsAll c.self.inside.policy blocks c.self.inside.spans.items c.self.inside.used c.self.inside.allocated) (sym (blocks_are c))
    (wrote_well _ _ _ _ _ _ _ _ _ _ c.self.view_is c.self.invariant c.args.to 0 (front c) c.requires.to_live (fits c))

pub returns-clause-wrote : goal.returns-clause-wrote
returns-clause-wrote c =
    ap (λ blocks. held c.self.inside.owner c.self.inside.life c.self.inside.region c.self.inside.policy blocks c.self.inside.spans.items c.self.inside.kept) (blocks_are c)
    ∙ wrote _ _ _ _ _ _ _ _ _ _ c.self.view_is c.self.invariant c.args.to 0 (front c) c.requires.to_live (fits c)

pub returns-clause-here : goal.returns-clause-here
returns-clause-here c = ap (λ (s : SerialState). fin.get (places_of s) c.args.to) (returns-clause-wrote c) ∙ with_bytes_here c.args.self.now c.args.to 0 (front c) c.requires.to_live

pub returns-clause-others : goal.returns-clause-others
returns-clause-others c q other = ap (λ (s : SerialState). fin.get (places_of s) q) (returns-clause-wrote c) ∙ with_bytes_beside c.args.self.now c.args.to 0 (front c) c.requires.to_live q other

pub returns-clause-map : goal.returns-clause-map
returns-clause-map c = ap places_of (returns-clause-wrote c) ∙ with_bytes_is c.args.self.now c.args.to 0 (front c) c.requires.to_live

pub returns-clause-still_live : goal.returns-clause-still_live
returns-clause-still_live c q there = subst (λ (s : SerialState). IsLive (places_of s) q) (sym (returns-clause-wrote c)) (with_bytes_live c.args.self.now c.args.to 0 (front c) c.requires.to_live q there)

pub returns-clause-count : goal.returns-clause-count
returns-clause-count c = ap fin.len (returns-clause-map c) ∙ len-written (places_of c.args.self.now) c.args.to 0 (front c)

pub returns-clause-space : goal.returns-clause-space
returns-clause-space c = ap used (returns-clause-map c) ∙ used-written (places_of c.args.self.now) c.args.to 0 (front c)
