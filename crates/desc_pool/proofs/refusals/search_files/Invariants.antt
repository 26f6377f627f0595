use Rattle.std.proofs.Common.{◌≡◌, take, None}
use Rattle.desc_pool.specs.Refusals.{first_field}
use Rattle.desc_pool.specs.Rules.{found_by}
use Rattle.desc_pool.proofs.refusals.search_files.Given as goal

abbrev pub invariant-loop-file : goal.invariant-loop-file
invariant-loop-file l = first_field (found_by l.search l.names.list) (take l.file-index l.files) ≡ None
