use Rattle.std.proofs.Common.{◌≡◌, ℕ, ◌-◌, ◌+◌, List, [], ◌∷◌, ◌++◌, length, Some, refl, sym, ap, subst, ◌∙◌, arith}
use Rattle.std.specs.Prelude.{replicate, is_ok, Result, Ok, Err, IsErr, IsErrAnd, IfErr}
use Rattle.std.specs.Result.{result_err}
use Rattle.std.proofs.lemmas.Option.{same_Some}
use Rattle.std.proofs.lemmas.Bool.{false≢true}
use Rattle.arena_mem.specs.declared.memory.MemFault.TheVariants.{BlocksSpent}
use Rattle.std.specs.FinMap as fin
use Rattle.arena_mem.specs.declared.place.Place.{Place}
use Rattle.arena_mem.specs.Places.{AddsAtMostABlock, round8, used}
use Rattle.arena_block.specs.Block.{BlockState}
use Rattle.serial_arena.specs.declared.span.Span.{Span}
use Rattle.serial_arena.specs.Laid.{Laid}
use Rattle.serial_arena.specs.Layout.{HoldsAll, newest, blocks_for, size_for, with_filled, AreSpent, Refused}
use Rattle.serial_arena.specs.Key.{key_of}
use Rattle.serial_arena.specs.Serial.{SerialState, Refuses, places_of, buffers_of, blocks_of, spans_of, with_place}
use Rattle.arena_mem.proofs.Maps.{len-inserted, used-inserted, rest_lives}
use Rattle.arena_mem.proofs.Growth.{placed_grows}
use Rattle.serial_arena.proofs.Names.{next_is_new, with_place_inserts, new_place_is_zero, with_place_keeps, one_block_more}
use Rattle.serial_arena.proofs.States.{held, state_serial, placed, holds_placed, here_named, are_spent, refuses}
use Rattle.serial_arena.proofs.memory.SerialArenaMemory.place.Goals as goal
use Rattle.serial_arena.proofs.memory.SerialArenaMemory.place.Goals.{After-from_residual, After-self-2-1}

-- ---- refused
-- what a `?` hands on
handed_on : {X E : Type 0} (P : E → Type 0) (r : Result X E) → IsErr r → IsErrAnd r P → (e : E) × (r ≡ Err e) × P e
handed_on P (Ok x) is p = absurd (false≢true is)
handed_on P (Err e) is p = (e, refl, p)

same_fault : (c : After-from_residual) → c.from_residual.result ≡ Err c.in_err-added.field-0.0
same_fault c = let on = handed_on _ c.from_residual.result c.from_residual.ensures.0 c.from_residual.ensures.1 in on.1 ∙ ap Err on.2

refused : (c : After-from_residual) → Refused c.self.inside.blocks.items (round8 c.args.bytes) c.self.inside.region c.in_err-added.field-0.0
refused c = subst (λ n. Refused c.self.inside.blocks.items n c.self.inside.region c.in_err-added.field-0.0) c.rounded-len.ensures.value c.in_err-added.ensures.refusal

pub returns-in_err-added-clause-refusal : goal.returns-in_err-added-clause-refusal
returns-in_err-added-clause-refusal c = subst (λ r. IfErr r (Refuses c.args.self.now c.args.bytes)) (sym (same_fault c)) (refuses _ _ _ _ _ _ _ _ _ _ c.self.view_is c.self.invariant c.args.bytes c.in_err-added.field-0.0 (refused c))

pub returns-in_err-added-clause-full : goal.returns-in_err-added-clause-full
returns-in_err-added-clause-full c = λ them.
    let spent = are_spent _ _ _ _ _ _ _ _ _ _ c.self.view_is c.self.invariant c.args.bytes them in
    let named : c.in_err-added.field-0.0 ≡ BlocksSpent c.self.inside.region = same_Some _ _ (ap result_err (c.in_err-added.ensures.full (subst (AreSpent c.self.inside.blocks.items) (sym c.rounded-len.ensures.value) spent))) in
    same_fault c ∙ ap Err (named ∙ ap (λ (s : SerialState). BlocksSpent s.region) c.self.view_is)

-- ---- placed
abbrev len : After-self-2-1 → ℕ
len c = round8 c.args.bytes

abbrev ready : After-self-2-1 → List BlockState
ready c = blocks_for c.self.inside.policy c.self.inside.blocks.items (len c)

ready_is : (c : After-self-2-1) → c.make_room.new.blocks.items ≡ ready c
ready_is c = c.in_ok-added.ensures.blocks ∙ ap (blocks_for c.self.inside.policy c.self.inside.blocks.items) c.rounded-len.ensures.value

abbrev here : After-self-2-1 → Span
here c = record { block = length (ready c) - 1; offset = length (newest (ready c)).bytes; len = len c }

blocks_are : (c : After-self-2-1) → c.fill_newest-offset.new.blocks.items ≡ with_filled (ready c) c.args.bytes
blocks_are c = c.fill_newest-offset.ensures.filled ∙ ap (λ blocks. with_filled blocks c.args.bytes) (ready_is c)

block_is : (c : After-self-2-1) → c.len.result - 1 ≡ length (ready c) - 1
block_is c = omega (arith, c.len.ensures, c.make_room.new.blocks.ok.0, ap (λ (blocks : List BlockState). length blocks) (ready_is c))

offset_is : (c : After-self-2-1) → c.fill_newest-offset.result ≡ length (newest (ready c)).bytes
offset_is c = c.fill_newest-offset.ensures.offset ∙ ap (λ blocks. length (newest blocks).bytes) (ready_is c)

here_is : (c : After-self-2-1) → record { block = c.len.result - 1; offset = c.fill_newest-offset.result; len = c.rounded-len.result } ≡ here c
here_is c = λ i. record { block = block_is c i; offset = offset_is c i; len = c.rounded-len.ensures.value i }

spans_are : (c : After-self-2-1) → c.with-self-inside.result.items ≡ c.self.inside.spans.items ++ here c ∷ []
spans_are c = c.with-self-inside.ensures ∙ (λ i. c.self.inside.spans.items ++ here_is c i ∷ [])

added_is : (c : After-self-2-1) → c.in_ok-added.added ≡ size_for c.self.inside.policy c.self.inside.blocks.items (len c)
added_is c = c.in_ok-added.ensures.size ∙ ap (size_for c.self.inside.policy c.self.inside.blocks.items) c.rounded-len.ensures.value

allocated_is : (c : After-self-2-1) → c.add_size.new.sum ≡ c.self.inside.allocated + size_for c.self.inside.policy c.self.inside.blocks.items (len c)
allocated_is c = c.add_size.ensures ∙ ap (λ n. c.self.inside.allocated + n) (added_is c)

laid : (c : After-self-2-1) → Laid c.args.self.now.policy c.args.self.now.sizes (spans_of c.args.self.now)
laid c = (state_serial _ _ _ _ _ _ _ _ _ _ c.self.view_is c.self.invariant).laid

unspent : (c : After-self-2-1) → AreSpent c.self.inside.blocks.items (len c) → ⊥
unspent c are = false≢true (sym (ap is_ok (c.in_ok-added.ensures.full (subst (AreSpent c.self.inside.blocks.items) (sym c.rounded-len.ensures.value) are))))

pub invariant_of-self-2 : goal.invariant_of-self-2
invariant_of-self-2 c =
    subst (λ (x : List BlockState × (List Span × (ℕ × ℕ))). HoldsAll c.self.inside.policy x.0 x.1.0 (c.self.inside.used + x.1.1.0) x.1.1.1)
    (λ i. (sym (blocks_are c) i, (sym (spans_are c) i, (sym c.rounded-len.ensures.value i, sym (allocated_is c) i))))
    (holds_placed _ _ _ _ _ _ _ _ _ _ c.self.view_is c.self.invariant c.args.bytes c.requires (unspent c))

pub returns-clause-placed : goal.returns-clause-placed
returns-clause-placed c =
    (λ i. held c.self.inside.owner c.self.inside.life c.self.inside.region c.self.inside.policy (blocks_are c i) (spans_are c i) c.self.inside.kept)
    ∙ placed _ _ _ _ _ _ _ _ _ _ c.self.view_is c.self.invariant c.args.bytes c.requires

abbrev answer : After-self-2-1 → Place
answer c = record { region = c.self.inside.region; block = c.len.result - 1; offset = c.fill_newest-offset.result; len = c.rounded-len.result }

pub returns-clause-name : goal.returns-clause-name
returns-clause-name c =
    (λ i. record { region = c.self.inside.region; block = block_is c i; offset = offset_is c i; len = c.rounded-len.ensures.value i })
    ∙ here_named _ _ _ _ _ _ _ _ _ _ c.self.view_is c.self.invariant c.args.bytes c.requires

pub returns-clause-fresh : goal.returns-clause-fresh
returns-clause-fresh c = ap (fin.get (places_of c.args.self.now)) (returns-clause-name c) ∙ next_is_new c.args.self.now (laid c) c.args.bytes c.requires

pub returns-clause-zeros : goal.returns-clause-zeros
returns-clause-zeros c = ap (λ (s : SerialState). fin.get (places_of s) (answer c)) (returns-clause-placed c)
    ∙ ap (fin.get (places_of (with_place c.args.self.now c.args.bytes))) (returns-clause-name c)
    ∙ new_place_is_zero c.args.self.now (laid c) c.args.bytes c.requires
    ∙ ap (λ n. Some (replicate n 0)) (sym c.rounded-len.ensures.value)

pub returns-clause-map : goal.returns-clause-map
returns-clause-map c = ap places_of (returns-clause-placed c)
    ∙ with_place_inserts c.args.self.now (laid c) c.args.bytes c.requires
    ∙ sym (λ i. fin.insert (places_of c.args.self.now) (returns-clause-name c i) (replicate (c.rounded-len.ensures.value i) 0))

pub returns-clause-rest : goal.returns-clause-rest
returns-clause-rest c q was is = ap (λ (s : SerialState). fin.get (places_of s) q) (returns-clause-placed c) ∙ with_place_keeps c.args.self.now (laid c) c.args.bytes c.requires q was is

pub returns-clause-blocks : goal.returns-clause-blocks
returns-clause-blocks c = subst (λ (s : SerialState). AddsAtMostABlock (blocks_of c.args.self.now) (blocks_of s)) (sym (returns-clause-placed c)) (one_block_more c.args.self.now c.args.bytes)

pub returns-clause-full : goal.returns-clause-full
returns-clause-full c = λ them. absurd (unspent c (are_spent _ _ _ _ _ _ _ _ _ _ c.self.view_is c.self.invariant c.args.bytes them))

pub returns-clause-count : goal.returns-clause-count
returns-clause-count c = ap fin.len (returns-clause-map c) ∙ len-inserted (places_of c.args.self.now) (answer c) _ (returns-clause-fresh c)

pub returns-clause-space : goal.returns-clause-space
returns-clause-space c = ap used (returns-clause-map c) ∙ used-inserted (places_of c.args.self.now) (answer c) _ (returns-clause-fresh c)

pub returns-clause-grows : goal.returns-clause-grows
returns-clause-grows c = placed_grows key_of places_of buffers_of blocks_of _ _ (ap key_of (returns-clause-placed c)) (returns-clause-rest c) (returns-clause-count c) (ap buffers_of (returns-clause-placed c)) (returns-clause-blocks c)

pub returns-clause-still_live : goal.returns-clause-still_live
returns-clause-still_live c = rest_lives _ _ (returns-clause-rest c)
