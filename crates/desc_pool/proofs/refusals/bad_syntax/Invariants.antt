use Rattle.std.proofs.Common.{◌≡◌, take, None}
use Rattle.desc_pool.specs.Refusals.{syntax}
use Rattle.desc_pool.proofs.refusals.bad_syntax.Given as goal

abbrev pub invariant-loop-i : goal.invariant-loop-i
invariant-loop-i l = syntax (take l.i l.files) ≡ None
