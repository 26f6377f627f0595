use Rattle.std.proofs.Common.{◌≡◌, ◌∙◌, ◌+◌, ◌≤◌, ap, sym, subst, arith, List, [], ℕ, length}
use Rattle.std.specs.Prelude.{take, unwrap_or}
use Rattle.std.proofs.lemmas.List.{length-take-le}
use Rattle.std.specs.FinMap as fin
use Rattle.arena_mem.specs.declared.place.Place.{Place}
use Rattle.arena_mem.specs.Places.{Places, IsLive, used, written, bytes_at, front_copied}
use Rattle.arena_mem.specs.Plain.{PlainState, placed_from, places_of, block_at, IsPlain}
use Rattle.arena_mem.proofs.Maps.{len-written, used-written}
use Rattle.arena_mem.proofs.PlainLaws.{IsBlockOf, is_block, fits_block, written_is, written_plain, written_here, written_beside, written_lives}
use Rattle.arena_mem.proofs.plain_memory.PlainMemoryMemory.copy_front.Goals as goal

-- what the fields say of a place that the memory holds
holds : (placed kept : List (List ℕ)) (s : PlainState) (p : Place) → record { placed = placed; kept = kept } ≡ s → IsLive (places_of s) p → IsLive (places_of (record { placed = placed; kept = kept })) p
holds placed kept s p is live = subst (λ (s : PlainState). IsLive (places_of s) p) (sym is) live

-- the front that is copied
front_is : (placed kept : List (List ℕ)) (s : PlainState) (p : Place) (n : ℕ) → record { placed = placed; kept = kept } ≡ s → IsLive (places_of s) p → take n (block_at placed p.block) ≡ take n (bytes_at (places_of s) p)
front_is placed kept s p n is live =
    ap (λ r. take n (unwrap_or r [])) (sym (is_block placed p (holds placed kept s p is live)).bytes) ∙ ap (λ (s : PlainState). take n (bytes_at (places_of s) p)) is

front_fits : (placed kept : List (List ℕ)) (s : PlainState) (from to : Place) (n : ℕ) → record { placed = placed; kept = kept } ≡ s → IsLive (places_of s) from → n ≤ from.len → n ≤ to.len
    → 0 + length (take n (block_at placed from.block)) ≤ to.len
front_fits placed kept s from to n is live few fits = omega (arith, fits, length-take-le n (block_at placed from.block) (omega (arith, few, fits_block placed from (holds placed kept s from is live))))

pub copy_block-requires-clause-from_there : goal.copy_block-requires-clause-from_there
copy_block-requires-clause-from_there c = (is_block c.self.inside.placed.items c.args.from (holds _ _ _ _ c.self.view_is c.requires.from_live)).there

pub copy_block-requires-clause-to_there : goal.copy_block-requires-clause-to_there
copy_block-requires-clause-to_there c = (is_block c.self.inside.placed.items c.args.to (holds _ _ _ _ c.self.view_is c.requires.to_live)).there

pub copy_block-requires-clause-from_fits : goal.copy_block-requires-clause-from_fits
copy_block-requires-clause-from_fits c = omega (arith, c.requires.from_fits, fits_block c.self.inside.placed.items c.args.from (holds _ _ _ _ c.self.view_is c.requires.from_live))

pub copy_block-requires-clause-to_fits : goal.copy_block-requires-clause-to_fits
copy_block-requires-clause-to_fits c = omega (arith, c.requires.to_fits, fits_block c.self.inside.placed.items c.args.to (holds _ _ _ _ c.self.view_is c.requires.to_live))

pub invariant_of-self : goal.invariant_of-self
invariant_of-self c =
    let placed = c.self.inside.placed.items in
    subst IsPlain (sym c.copy_block.ensures) (written_plain placed c.args.to 0 (take c.args.bytes (block_at placed c.args.from.block)) (holds _ _ _ _ c.self.view_is c.requires.to_live) (front_fits placed _ _ c.args.from c.args.to c.args.bytes c.self.view_is c.requires.from_live c.requires.from_fits c.requires.to_fits) c.self.invariant)

pub returns-clause-map : goal.returns-clause-map
returns-clause-map c =
    let placed = c.self.inside.placed.items in
    let front = take c.args.bytes (block_at placed c.args.from.block) in
    ap (λ (placed : List (List ℕ)). fin.from_entries (placed_from 0 placed)) c.copy_block.ensures
    ∙ written_is placed c.args.to 0 front (holds _ _ _ _ c.self.view_is c.requires.to_live) (front_fits placed _ _ c.args.from c.args.to c.args.bytes c.self.view_is c.requires.from_live c.requires.from_fits c.requires.to_fits)
    ∙ ap (λ (s : PlainState). written (places_of s) c.args.to 0 front) c.self.view_is
    ∙ ap (written (places_of c.args.self.now) c.args.to 0) (front_is placed _ _ c.args.from c.args.bytes c.self.view_is c.requires.from_live)

pub returns-clause-here : goal.returns-clause-here
returns-clause-here c = ap (λ (m : Places). fin.get m c.args.to) (returns-clause-map c) ∙ written_here (places_of c.args.self.now) c.args.to 0 (take c.args.bytes (bytes_at (places_of c.args.self.now) c.args.from)) c.requires.to_live

pub returns-clause-others : goal.returns-clause-others
returns-clause-others c q other = ap (λ (m : Places). fin.get m q) (returns-clause-map c) ∙ written_beside (places_of c.args.self.now) c.args.to 0 (take c.args.bytes (bytes_at (places_of c.args.self.now) c.args.from)) c.requires.to_live q other

pub returns-clause-still_live : goal.returns-clause-still_live
returns-clause-still_live c q there = subst (λ (m : Places). IsLive m q) (sym (returns-clause-map c)) (written_lives (places_of c.args.self.now) c.args.to 0 (take c.args.bytes (bytes_at (places_of c.args.self.now) c.args.from)) c.requires.to_live q there)

pub returns-clause-count : goal.returns-clause-count
returns-clause-count c = ap fin.len (returns-clause-map c) ∙ len-written (places_of c.args.self.now) c.args.to 0 (take c.args.bytes (bytes_at (places_of c.args.self.now) c.args.from))

pub returns-clause-space : goal.returns-clause-space
returns-clause-space c = ap used (returns-clause-map c) ∙ used-written (places_of c.args.self.now) c.args.to 0 (take c.args.bytes (bytes_at (places_of c.args.self.now) c.args.from))
