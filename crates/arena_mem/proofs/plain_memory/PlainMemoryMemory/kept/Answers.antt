use Rattle.std.proofs.Common.{◌≡◌, ◌∙◌, ap, sym, subst, arith, List, ℕ, length}
use Rattle.std.specs.Prelude.{Some}
use Rattle.std.specs.FinMap as fin
use Rattle.arena_mem.specs.Places.{IsKept}
use Rattle.arena_mem.specs.Plain.{PlainState, buffers_of, block_at}
use Rattle.arena_mem.proofs.PlainLaws.{is_kept}
use Rattle.arena_mem.proofs.plain_memory.PlainMemoryMemory.kept.Goals as goal

pub read_at-requires : goal.read_at-requires
read_at-requires c = rw c.deref.ensures.value (is_kept c.self.inside.kept.items c.args.buffer (subst (λ (s : PlainState). IsKept (buffers_of s) c.args.buffer) (sym c.self.view_is) c.requires)).0

pub returns : goal.returns
returns c =
    let lives = subst (λ (s : PlainState). IsKept (buffers_of s) c.args.buffer) (sym c.self.view_is) c.requires in
    ap (λ (s : PlainState). fin.get (buffers_of s) c.args.buffer) (sym c.self.view_is)
    ∙ (is_kept c.self.inside.kept.items c.args.buffer lives).1
    ∙ ap Some (sym (c.read_at.ensures ∙ ap (λ row. block_at row c.args.buffer.number) c.deref.ensures.value))
