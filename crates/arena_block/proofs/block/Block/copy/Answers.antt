use Rattle.std.proofs.Common.{◌≡◌, ◌+◌, ◌++◌, length, take, drop, sym, ap, ◌∙◌, arith}
use Rattle.std.proofs.lemmas.List.{length-take-le, length-drop, take_at}
use Rattle.arena_block.specs.Block.{BlockState, with_bytes, part_of}
use Rattle.arena_block.proofs.Fronts.{overwritten_front, part_front}
use Rattle.arena_block.proofs.block.Block.copy.Goals as goal
use Rattle.arena_block.proofs.block.Block.copy.Goals.{After-self-1}

-- how much is filled
filled_is : (c : After-self-1) → length c.args.self.now.bytes ≡ c.self.inside.filled
filled_is c = ap (λ (b : BlockState). length b.bytes) (sym c.self.view_is) ∙ length-take-le c.self.inside.filled c.self.inside.bytes.items c.self.invariant.1.there

-- what is copied, of what is filled and of the whole row
copied_is : (c : After-self-1) → take c.args.len (drop c.args.from c.self.inside.bytes.items) ≡ take c.args.len (drop c.args.from (take c.self.inside.filled c.self.inside.bytes.items))
copied_is c = sym (part_front c.self.inside.filled c.args.from c.args.len c.self.inside.bytes.items (omega (arith, c.requires.from.within, filled_is c)) c.self.invariant.1.there)

count_is : (c : After-self-1) → length (take c.args.len (drop c.args.from c.self.inside.bytes.items)) ≡ c.args.len
count_is c = length-take-le c.args.len (drop c.args.from c.self.inside.bytes.items)
    (omega (arith, length-drop c.args.from c.self.inside.bytes.items, c.requires.from.within, filled_is c, c.self.invariant.1.there))

row_is : (c : After-self-1) → take c.self.inside.bytes.len (c.copy_part.new.row ++ drop (length c.copy_part.new.row) c.self.inside.bytes.items)
    ≡ take c.args.to c.self.inside.bytes.items ++ take c.args.len (drop c.args.from c.self.inside.bytes.items) ++ drop (c.args.to + length (take c.args.len (drop c.args.from c.self.inside.bytes.items))) c.self.inside.bytes.items
row_is c =
    take_at c.copy_part.new.row _ c.self.inside.bytes.len (omega (arith, c.copy_part.auto.row, c.deref_mut.ensures.len))
    ∙ c.copy_part.ensures
    ∙ ap (λ row. take c.args.to row ++ take c.args.len (drop c.args.from row) ++ drop (c.args.to + c.args.len) row) c.deref_mut.ensures.value
    ∙ ap (λ n. take c.args.to c.self.inside.bytes.items ++ take c.args.len (drop c.args.from c.self.inside.bytes.items) ++ drop (c.args.to + n) c.self.inside.bytes.items) (sym (count_is c))

pub returns : goal.returns
returns c =
    ap (λ row. record { size = c.self.inside.size; bytes = take c.self.inside.filled row }) (row_is c)
    ∙ ap (λ bytes. record { size = c.self.inside.size; bytes = bytes })
    (overwritten_front c.self.inside.filled c.args.to c.self.inside.bytes.items (take c.args.len (drop c.args.from c.self.inside.bytes.items)) (omega (arith, c.requires.to.within, filled_is c, count_is c)) c.self.invariant.1.there)
    ∙ ap (λ bytes. with_bytes (record { size = c.self.inside.size; bytes = take c.self.inside.filled c.self.inside.bytes.items }) c.args.to bytes) (copied_is c)
    ∙ ap (λ block. with_bytes block c.args.to (part_of block c.args.from c.args.len)) c.self.view_is
