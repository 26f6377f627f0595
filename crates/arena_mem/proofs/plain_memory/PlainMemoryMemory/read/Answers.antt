use Rattle.std.proofs.Common.{◌≡◌, ◌∙◌, ap, sym, subst, arith, List, ℕ, length}
use Rattle.std.specs.Prelude.{Some}
use Rattle.std.specs.FinMap as fin
use Rattle.arena_mem.specs.Places.{IsLive}
use Rattle.arena_mem.specs.Plain.{PlainState, places_of, block_at}
use Rattle.arena_mem.proofs.PlainLaws.{IsBlockOf, is_block, fits_block}
use Rattle.arena_mem.proofs.plain_memory.PlainMemoryMemory.read.Goals as goal

pub read_at-requires : goal.read_at-requires
read_at-requires c = rw c.deref.ensures.value (is_block c.self.inside.placed.items c.args.place (subst (λ (s : PlainState). IsLive (places_of s) c.args.place) (sym c.self.view_is) c.requires)).there

pub returns-clause-value : goal.returns-clause-value
returns-clause-value c =
    let lives = subst (λ (s : PlainState). IsLive (places_of s) c.args.place) (sym c.self.view_is) c.requires in
    ap (λ (s : PlainState). fin.get (places_of s) c.args.place) (sym c.self.view_is)
    ∙ (is_block c.self.inside.placed.items c.args.place lives).bytes
    ∙ ap Some (sym (c.read_at.ensures ∙ ap (λ row. block_at row c.args.place.block) c.deref.ensures.value))

pub returns-clause-len : goal.returns-clause-len
returns-clause-len c =
    let lives = subst (λ (s : PlainState). IsLive (places_of s) c.args.place) (sym c.self.view_is) c.requires in
    ap (λ (v : List ℕ). length v) (c.read_at.ensures ∙ ap (λ row. block_at row c.args.place.block) c.deref.ensures.value) ∙ fits_block c.self.inside.placed.items c.args.place lives
