use Rattle.std.proofs.Common.{◌≡◌, sym, ap, ◌∙◌, subst, arith}
use Rattle.std.specs.Prelude.{List, [], ℕ, get_or, set, take}
use Rattle.arena_mem.specs.Places.{splice}
use Rattle.arena_mem.specs.Plain.{block_at, with_written}
use Rattle.std.proofs.lemmas.List.{set-get_or, get_or_read, get_or-set_other, length-set}
use Rattle.arena_mem.proofs.PlainLaws.{put_back, same_front}
use Rattle.arena_mem.proofs.plain_bytes.copy_block.Goals as goal

-- where both are one block, its front is there already
pub returns-then-from-to : goal.returns-then-from-to
returns-then-from-to c =
    let blocks = c.args.blocks.now.items in
    sym (ap (set blocks c.args.to) (ap (λ k. splice 0 (take c.args.count (block_at blocks k)) (block_at blocks c.args.to)) c.if-from-to.true ∙ same_front (block_at blocks c.args.to) c.args.count c.requires.to_fits) ∙ set-get_or blocks c.args.to [])

pub returns : goal.returns
returns c =
    let blocks = c.args.blocks.now.items in
    let from = c.args.from in
    let to = c.args.to in
    let none = c.replace-source.new.dest in
    let source : c.replace-source.result ≡ block_at blocks from = c.replace-source.ensures.value ∙ get_or_read blocks from _ c.requires.from_there c.index_mut.ensures.value [] in
    let target : c.index_mut-2.result.now ≡ block_at blocks to = get_or_read (set blocks from none) to _ (omega (arith, c.requires.to_there, length-set blocks from none)) c.index_mut-2.ensures.value [] ∙ get_or-set_other blocks from to none [] (λ e. c.if-from-to.false (sym e)) in
    ap (λ v. set (set (set blocks from none) to c.overwrite.new.self) from v) source
    ∙ put_back blocks from to none c.overwrite.new.self c.if-from-to.false
    ∙ ap (set blocks to) (c.overwrite.ensures ∙ (λ i. splice 0 (c.front.ensures i) (target i)) ∙ ap (λ v. splice 0 (take c.args.count v) (block_at blocks to)) source)
