use Rattle.std.proofs.Common.{◌+◌, ◌++◌, ap, drop, sym, ◌∙◌, subst, take, arith}
use Rattle.std.specs.Io.KnownBytes.{Appends}
use Rattle.std.proofs.KnownBytes.{Appends-trans}
use Rattle.arena_run.specs.FaultTexts.{piece_text, pieces_text}
use Rattle.arena_run.proofs.Told.{pieces_more, pieces_apart, part_behind}
use Rattle.arena_run.proofs.Written.{on_err}
use Rattle.arena_run.proofs.tell.write_pieces.Goals as goal

pub loop-piece-preserved : goal.loop-piece-preserved
loop-piece-preserved g c =
    let S = g.E.Sink in
    let pieces = c.args.pieces.now in
    let i = c.loop-piece.piece-index in
    let front = pieces_text (take i pieces) in
    record {
      taken = subst (Appends (S.taken c.args.err.now) (S.taken c.write_piece.new.err))
          (sym (pieces_more pieces i c.piece-item.result c.loop-piece-test.true ∙ ap (λ piece. front ++ piece_text piece) (sym c.piece-item.is)))
          (Appends-trans (S.taken c.args.err.now) (S.taken c.loop-piece.err) (S.taken c.write_piece.new.err) front (piece_text c.piece-item.result) c.loop-piece.invariant.taken c.in_ok-write_piece.ensures.ok);
      faults = omega (arith, c.loop-piece.invariant.faults, c.write_piece.ensures.cause.never_falls);
    }

pub returns-in_err-write_piece-clause-err : goal.returns-in_err-write_piece-clause-err
returns-in_err-write_piece-clause-err g c =
    let S = g.E.Sink in
    let pieces = c.args.pieces.now in
    let i = c.loop-piece.piece-index in
    let front = pieces_text (take i pieces) in
    let rest = pieces_text (drop (i + 1) pieces) in
    on_err c.from_residual.result _
    (part_behind (S.taken c.args.err.now) (S.taken c.loop-piece.err) (S.taken c.write_piece.new.err) front (piece_text c.piece-item.result) rest (pieces_text pieces) c.loop-piece.invariant.taken c.in_err-write_piece.ensures.err
    (pieces_apart pieces i c.piece-item.result c.loop-piece-test.true ∙ ap (λ piece. (front ++ piece_text piece) ++ rest) (sym c.piece-item.is)))
