use Rattle.std.proofs.Common.{◌≡◌, take}
use Rattle.std.specs.String.{string_bytes}
use Rattle.arena_run.specs.FaultTexts.{pieces_text}
use Rattle.arena_run.proofs.tell.joined.Given as goal

-- the text so far is that of the pieces so far
abbrev pub invariant-loop-piece : goal.invariant-loop-piece
invariant-loop-piece l = string_bytes l.text ≡ pieces_text (take l.piece-index l.pieces)
