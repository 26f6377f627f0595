use Rattle.std.proofs.Common.{◌≡◌, ◌^◌, ◌<◌, drop}
use Rattle.arena_run.specs.Words.{number_in}
use Rattle.arena_run.proofs.Numbers.{number_behind}
use Rattle.arena_run.proofs.words.number_of.Given as goal

-- the digits that are left spell behind the number what all of them spell
abbrev pub invariant-loop-digit : goal.invariant-loop-digit
invariant-loop-digit l =
    record {
      same : number_behind l.number (drop l.digit-index l.spelled) ≡ number_in l.spelled;
      below : l.number < 10 ^ l.digit-index;
    }
