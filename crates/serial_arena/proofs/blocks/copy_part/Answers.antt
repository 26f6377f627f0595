use Rattle.std.proofs.Common.{◌≡◌, ◌-◌, ◌<◌, ℕ, List, ◌++◌, length, get_or, set, sym, ap, ◌∙◌, arith}
use Rattle.std.proofs.lemmas.List.{get_or_read, get_or_append_left, get_or-append_right, set-append_left, set-append_right}
use Rattle.arena_block.specs.Block.{BlockState, part_of, with_bytes}
use Rattle.serial_arena.specs.Layout.{no_block, block_at, with_written}
use Rattle.serial_arena.proofs.blocks.copy_part.Goals as goal

-- a block in front of the seam, and the first one behind it
in_front : (front back : List BlockState) (k : ℕ) (d : BlockState) → k < length front → d ≡ get_or front k d → get_or front k d ≡ block_at (front ++ back) k
in_front front back k d there is = sym is ∙ get_or_read front k d there is no_block ∙ sym (get_or_append_left front back no_block k there)

behind : (front back : List BlockState) (m : ℕ) (d : BlockState) → length front ≡ m → 0 < length back → d ≡ get_or back 0 d → get_or back 0 d ≡ block_at (front ++ back) m
behind front back m d count some is =
    let first : 0 ≡ m - m = omega arith in
    sym is ∙ get_or_read back 0 d some is no_block ∙ ap (λ n. get_or back n no_block) first ∙ sym (get_or-append_right front back m m no_block count (omega arith))

set_behind : (front back : List BlockState) (m : ℕ) (b : BlockState) → length front ≡ m → front ++ set back 0 b ≡ set (front ++ back) m b
set_behind front back m b count =
    let first : 0 ≡ m - m = omega arith in
    ap (λ n. front ++ set back n b) first ∙ sym (set-append_right front back m m b count (omega arith))

pub returns-then-from-to-2 : goal.returns-then-from-to-2
returns-then-from-to-2 c =
    let parts = c.split_at_mut-front.ensures in
    let front = c.split_at_mut-front.result.0.now in
    let back = c.split_at_mut-front.result.1.now in
    let source = in_front front back c.args.from c.index-front-from.result (omega (arith, parts.front_len)) c.index-front-from.is in
    let target = behind front back c.args.to c.index-back-0.result parts.front_len (omega (arith, parts.back_len)) c.index-back-0.is in
    ap (λ b. front ++ set back 0 b) (c.write.ensures ∙ (λ i. with_bytes (target i) c.args.to_offset (c.read.ensures i))
    ∙ (λ i. with_bytes (block_at (front ++ back) c.args.to) c.args.to_offset (part_of (source i) c.args.from_offset c.args.len)))
    ∙ set_behind front back c.args.to _ parts.front_len
    ∙ ap (λ bs. with_written bs c.args.to c.args.to_offset (part_of (block_at bs c.args.from) c.args.from_offset c.args.len)) (sym parts.value)

pub returns-else-from-to-2 : goal.returns-else-from-to-2
returns-else-from-to-2 c =
    let parts = c.split_at_mut-front-else-from-to-2.ensures in
    let front = c.split_at_mut-front-else-from-to-2.result.0.now in
    let back = c.split_at_mut-front-else-from-to-2.result.1.now in
    let there : c.args.to < length front = omega (arith, parts.front_len) in
    let source = behind front back c.args.from c.index-back-0-else-from-to-2.result parts.front_len (omega (arith, parts.back_len)) c.index-back-0-else-from-to-2.is in
    let target = in_front front back c.args.to c.index-front-to.result there c.index-front-to.is in
    ap (λ b. set front c.args.to b ++ back) (c.write-else-from-to-2.ensures ∙ (λ i. with_bytes (target i) c.args.to_offset (c.read-else-from-to-2.ensures i))
    ∙ (λ i. with_bytes (block_at (front ++ back) c.args.to) c.args.to_offset (part_of (source i) c.args.from_offset c.args.len)))
    ∙ sym (set-append_left front back c.args.to _ there)
    ∙ ap (λ bs. with_written bs c.args.to c.args.to_offset (part_of (block_at bs c.args.from) c.args.from_offset c.args.len)) (sym parts.value)
