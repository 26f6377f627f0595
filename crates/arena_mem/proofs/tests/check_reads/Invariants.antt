use Rattle.std.proofs.Common.{◌≡◌, true}
use Rattle.arena_mem.proofs.tests.check_reads.Given as goal

-- the file stays open
abbrev pub invariant-loop-piece : goal.invariant-loop-piece
invariant-loop-piece g l = l.files.is_open ≡ true
