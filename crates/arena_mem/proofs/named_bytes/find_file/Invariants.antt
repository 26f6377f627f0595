use Rattle.std.proofs.Common.{◌≡◌, drop}
use Rattle.std.specs.FinMap as finite
use Rattle.arena_mem.specs.NamedBytes.{named_files}
use Rattle.arena_mem.proofs.named_bytes.find_file.Given as goal

-- no file before the index has that name
abbrev pub invariant-loop-i : goal.invariant-loop-i
invariant-loop-i l = finite.get (named_files (drop l.i l.files)) l.name ≡ finite.get (named_files l.files) l.name
