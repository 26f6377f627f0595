use Rattle.std.proofs.Common.{◌≡◌, take}
use Rattle.desc_pool.specs.Names.{names_of}
use Rattle.desc_pool.proofs.names.names_of.Given as goal

abbrev pub invariant-loop-file : goal.invariant-loop-file
invariant-loop-file l = l.list ≡ names_of (take l.file-index l.files)
