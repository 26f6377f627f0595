use Rattle.std.proofs.Common.{◌≡◌, ◌∙◌, ap, sym, subst, refl, arith, List, ℕ, ◌++◌, ◌∷◌, []}
use Rattle.std.specs.Prelude.{Some}
use Rattle.std.specs.FinMap as fin
use Rattle.arena_mem.specs.declared.place.Buffer.{Buffer}
use Rattle.arena_mem.specs.Places.{Buffers}
use Rattle.arena_mem.specs.Plain.{PlainState, kept_from, places_of, buffers_of, blocks_of}
use Rattle.arena_mem.proofs.Entries.{get_inserted, keeps_rest}
use Rattle.arena_mem.proofs.Maps.{buffers_total, exact_buffers, len-kept}
use Rattle.arena_mem.proofs.Growth.{kept_grows}
use Rattle.arena_mem.proofs.PlainLaws.{next_buffer, next_buffer_is_new, keep_inserts}
use Rattle.arena_mem.proofs.plain_memory.PlainMemoryMemory.keep.Goals as goal
use Rattle.arena_mem.proofs.plain_memory.PlainMemoryMemory.keep.Goals.{In_ok-buffer}

abbrev kept : In_ok-buffer → List (List ℕ)
kept c = c.self.inside.kept.items

is_next : (c : In_ok-buffer) → c.in_ok-buffer.buffer ≡ next_buffer (kept c)
is_next c = c.in_ok-buffer.ensures.name

pub returns-clause-fresh : goal.returns-clause-fresh
returns-clause-fresh c =
    ap (fin.get (buffers_of c.args.self.now)) (is_next c)
    ∙ ap (λ (s : PlainState). fin.get (buffers_of s) (next_buffer (kept c))) (sym c.self.view_is)
    ∙ next_buffer_is_new (kept c)

pub returns-clause-map : goal.returns-clause-map
returns-clause-map c =
    ap (λ (kept : List (List ℕ)). fin.from_entries (kept_from 0 kept)) c.in_ok-buffer.ensures.added
    ∙ keep_inserts (kept c) c.args.bytes.items
    ∙ ap (λ (s : PlainState). fin.insert (buffers_of s) (next_buffer (kept c)) c.args.bytes.items) c.self.view_is
    ∙ sym (ap (λ b. fin.insert (buffers_of c.args.self.now) b c.args.bytes.items) (is_next c))

pub returns-clause-value : goal.returns-clause-value
returns-clause-value c = ap (λ (m : Buffers). fin.get m c.in_ok-buffer.buffer) (returns-clause-map c) ∙ get_inserted buffers_total exact_buffers (buffers_of c.args.self.now) _ _

pub returns-clause-count : goal.returns-clause-count
returns-clause-count c = ap fin.len (returns-clause-map c) ∙ len-kept (buffers_of c.args.self.now) _ _ (returns-clause-fresh c)

pub returns-clause-rest : goal.returns-clause-rest
returns-clause-rest c q was is = ap (λ (m : Buffers). fin.get m q) (returns-clause-map c) ∙ keeps_rest buffers_total exact_buffers (buffers_of c.args.self.now) _ _ (returns-clause-fresh c) q was is

pub returns-clause-grows : goal.returns-clause-grows
returns-clause-grows c = kept_grows _ places_of buffers_of blocks_of _ _ refl (returns-clause-rest c) (returns-clause-count c) (ap places_of c.self.view_is) (λ region. ap (λ (s : PlainState). blocks_of s region) c.self.view_is)
