use Rattle.ts_arena.specs.Passes.{IsPassOf, FitsPass}
use Rattle.ts_arena.proofs.workers.enter_often.Given as goal

abbrev pub invariant-loop : goal.invariant-loop
invariant-loop l = IsPassOf l.shared l.pass × FitsPass l.cache l.pass
