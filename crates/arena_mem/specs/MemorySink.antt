-- What a `MemorySink` is seen as.
use Rattle.std.specs.Prelude.{ℕ, List}
use Rattle.arena_mem.specs.Calls.{CallCounts}

-- all the bytes that were taken, how many a call takes at the most, and the calls
pub record SinkState : Type 0 where
  pub taken : List ℕ
  pub per_call : ℕ
  pub calls : CallCounts
