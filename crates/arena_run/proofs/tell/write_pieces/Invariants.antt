use Rattle.std.proofs.Common.{◌≤◌, take}
use Rattle.std.specs.Io.KnownBytes.{Appends}
use Rattle.arena_run.specs.FaultTexts.{pieces_text}
use Rattle.arena_run.proofs.tell.write_pieces.Given as goal

-- the pieces so far were taken
abbrev pub invariant-loop-piece : goal.invariant-loop-piece
invariant-loop-piece g l =
    let S = g.E.Sink in
    record {
      taken : Appends (S.taken l.fn.err) (S.taken l.err) (pieces_text (take l.piece-index l.pieces));
      faults : S.faults l.fn.err ≤ S.faults l.err;
    }
