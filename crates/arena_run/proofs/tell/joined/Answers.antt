use Rattle.std.proofs.Common.{◌++◌, take, sym, ap, ◌∙◌}
use Rattle.arena_run.specs.FaultTexts.{piece_text, pieces_text}
use Rattle.arena_run.proofs.Told.{pieces_more}
use Rattle.arena_run.proofs.tell.joined.Goals as goal

pub loop-piece-preserved : goal.loop-piece-preserved
loop-piece-preserved c =
    let pieces = c.args.pieces.now in
    let i = c.loop-piece.piece-index in
    let front = pieces_text (take i pieces) in
    c.in_ok-push_piece.ensures ∙ ap (λ s. s ++ piece_text c.piece-item.result) c.loop-piece.invariant
    ∙ sym (pieces_more pieces i c.piece-item.result c.loop-piece-test.true ∙ ap (λ piece. front ++ piece_text piece) (sym c.piece-item.is))
