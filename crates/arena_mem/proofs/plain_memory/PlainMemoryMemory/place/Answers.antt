use Rattle.std.proofs.Common.{◌≡◌, ◌∙◌, ap, sym, subst, refl, arith, List, ℕ, ◌++◌, ◌∷◌, []}
use Rattle.std.specs.Prelude.{replicate, Some}
use Rattle.std.proofs.lemmas.List.{length-replicate}
use Rattle.std.specs.FinMap as fin
use Rattle.arena_mem.specs.declared.place.Place.{Place}
use Rattle.arena_mem.specs.Places.{Places, round8, used, AddsAtMostABlock}
use Rattle.arena_mem.specs.Plain.{PlainState, placed_from, places_of, buffers_of, blocks_of}
use Rattle.arena_mem.proofs.Entries.{get_inserted, keeps_rest}
use Rattle.arena_mem.proofs.Maps.{places_total, exact_places, len-inserted, used-inserted, rest_lives}
use Rattle.arena_mem.proofs.Growth.{placed_grows}
use Rattle.arena_mem.proofs.PlainLaws.{next_place, next_is_new, push_inserts, one_block_more}
use Rattle.arena_mem.proofs.plain_memory.PlainMemoryMemory.place.Goals as goal
use Rattle.arena_mem.proofs.plain_memory.PlainMemoryMemory.place.Goals.{In_ok-place}

abbrev zeros : In_ok-place → List ℕ
zeros c = replicate (round8 c.args.bytes) 0

abbrev blocks : In_ok-place → List (List ℕ)
blocks c = c.self.inside.placed.items

is_next : (c : In_ok-place) → c.in_ok-place.place ≡ next_place (blocks c) (zeros c)
is_next c = c.in_ok-place.ensures.place

as_long : (c : In_ok-place) → replicate c.in_ok-place.place.len 0 ≡ zeros c
as_long c = ap (λ n. replicate n 0) (ap (λ (p : Place). p.len) (is_next c) ∙ length-replicate (round8 c.args.bytes) 0)

pub returns-clause-fresh : goal.returns-clause-fresh
returns-clause-fresh c =
    ap (fin.get (places_of c.args.self.now)) (is_next c)
    ∙ ap (λ (s : PlainState). fin.get (places_of s) (next_place (blocks c) (zeros c))) (sym c.self.view_is)
    ∙ next_is_new (blocks c) (zeros c)

pub returns-clause-map : goal.returns-clause-map
returns-clause-map c =
    ap (λ (placed : List (List ℕ)). fin.from_entries (placed_from 0 placed)) c.in_ok-place.ensures.added
    ∙ push_inserts (blocks c) (zeros c)
    ∙ ap (λ (s : PlainState). fin.insert (places_of s) (next_place (blocks c) (zeros c)) (zeros c)) c.self.view_is
    ∙ sym (λ i. fin.insert (places_of c.args.self.now) (is_next c i) (as_long c i))

pub returns-clause-zeros : goal.returns-clause-zeros
returns-clause-zeros c = ap (λ (m : Places). fin.get m c.in_ok-place.place) (returns-clause-map c) ∙ get_inserted places_total exact_places (places_of c.args.self.now) _ _

pub returns-clause-count : goal.returns-clause-count
returns-clause-count c = ap fin.len (returns-clause-map c) ∙ len-inserted (places_of c.args.self.now) _ _ (returns-clause-fresh c)

pub returns-clause-space : goal.returns-clause-space
returns-clause-space c = ap used (returns-clause-map c) ∙ used-inserted (places_of c.args.self.now) _ _ (returns-clause-fresh c)

pub returns-clause-rest : goal.returns-clause-rest
returns-clause-rest c q was is = ap (λ (m : Places). fin.get m q) (returns-clause-map c) ∙ keeps_rest places_total exact_places (places_of c.args.self.now) _ _ (returns-clause-fresh c) q was is

pub returns-clause-still_live : goal.returns-clause-still_live
returns-clause-still_live c = rest_lives _ _ (returns-clause-rest c)

pub returns-clause-grows : goal.returns-clause-grows
returns-clause-grows c =
    let kept = c.self.inside.kept.items in
    let adds = subst (λ (s : PlainState). AddsAtMostABlock (blocks_of s) (blocks_of (record { placed = c.add_block.new.placed.items; kept = kept }))) c.self.view_is
    (subst (λ (placed : List (List ℕ)). AddsAtMostABlock (blocks_of (record { placed = blocks c; kept = kept })) (blocks_of (record { placed = placed; kept = kept }))) (sym c.in_ok-place.ensures.added) (one_block_more kept (blocks c) (zeros c))) in
    placed_grows _ places_of buffers_of blocks_of _ _ refl (returns-clause-rest c) (returns-clause-count c) (ap buffers_of c.self.view_is) adds
