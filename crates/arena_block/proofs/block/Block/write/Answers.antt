use Rattle.std.proofs.Common.{◌≡◌, ◌+◌, ◌++◌, length, take, drop, sym, ap, ◌∙◌, arith}
use Rattle.std.proofs.lemmas.List.{length-take-le, take_at}
use Rattle.arena_block.specs.Block.{BlockState, with_bytes}
use Rattle.arena_block.proofs.Fronts.{overwritten_front}
use Rattle.arena_block.proofs.block.Block.write.Goals as goal
use Rattle.arena_block.proofs.block.Block.write.Goals.{After-self-1}

-- how much is filled
filled_is : (c : After-self-1) → length c.args.self.now.bytes ≡ c.self.inside.filled
filled_is c = ap (λ (b : BlockState). length b.bytes) (sym c.self.view_is) ∙ length-take-le c.self.inside.filled c.self.inside.bytes.items c.self.invariant.1.there

row_is : (c : After-self-1) → take c.self.inside.bytes.len (c.overwrite.new.row ++ drop (length c.overwrite.new.row) c.self.inside.bytes.items)
    ≡ take c.args.offset c.self.inside.bytes.items ++ c.args.bytes.now ++ drop (c.args.offset + length c.args.bytes.now) c.self.inside.bytes.items
row_is c =
    take_at c.overwrite.new.row _ c.self.inside.bytes.len (omega (arith, c.overwrite.auto.row, c.deref_mut.ensures.len))
    ∙ c.overwrite.ensures
    ∙ ap (λ row. take c.args.offset row ++ c.args.bytes.now ++ drop (c.args.offset + length c.args.bytes.now) row) c.deref_mut.ensures.value

pub returns : goal.returns
returns c =
    ap (λ row. record { size = c.self.inside.size; bytes = take c.self.inside.filled row }) (row_is c)
    ∙ ap (λ bytes. record { size = c.self.inside.size; bytes = bytes })
    (overwritten_front c.self.inside.filled c.args.offset c.self.inside.bytes.items c.args.bytes.now (omega (arith, c.requires.within, filled_is c)) c.self.invariant.1.there)
    ∙ ap (λ block. with_bytes block c.args.offset c.args.bytes.now) c.self.view_is
