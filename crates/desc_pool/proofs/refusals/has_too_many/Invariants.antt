use Rattle.std.proofs.Common.{◌≡◌, ◌+◌, take, length}
use Rattle.desc_pool.specs.Refusals.{all_messages}
use Rattle.desc_pool.proofs.refusals.has_too_many.Given as goal

abbrev pub invariant-loop-file : goal.invariant-loop-file
invariant-loop-file l = length (all_messages (take l.file-index l.files)) + l.room ≡ 4096
