use Rattle.std.proofs.Common.{◌≡◌, take, false}
use Rattle.arena_list.specs.Rule.Founded.{has}
use Rattle.arena_list.proofs.laying.is_among.Given as goal

abbrev pub invariant-loop-other : goal.invariant-loop-other
invariant-loop-other l = has (take l.other-index l.callers) l.caller ≡ false
