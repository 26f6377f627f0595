-- What a `MemoryFiles` is seen as, and which picks of it succeed.
use Rattle.std.specs.Prelude.{ℕ, List, Bool, Option}
use Rattle.arena_mem.specs.NamedBytes.{FileBytes, opens}
use Rattle.arena_mem.specs.FileNames.{Names}
use Rattle.arena_mem.specs.Calls.{CallCounts, fails_next}

-- the files as they were handed in, what is left of the open one, whether one is open, the names, and the calls
pub record FilesState : Type 0 where
  pub files : List FileBytes
  pub left : List ℕ
  pub is_open : Bool
  pub names : Names
  pub calls : CallCounts

-- the bytes that the next call opens, where it picks that name; nothing where it fails
abbrev pub opened : FilesState → List ℕ → Option (List ℕ)
opened state name = opens state.files name (fails_next state.calls)
