-- What a `ListWatch` is seen as.
use Rattle.std.specs.Prelude.{ℕ, Bool, List, [], ◌∷◌, ◌++◌, Option, None, Some, length, nat_lt, if◌then◌else◌, true}
use Rattle.cleanup_list.specs.Told.{Triple}

-- how many triples it has room for, those that fitted, and whether more came
pub record WatchState : Type 0 where
  pub room : ℕ
  pub fitted : List Triple
  pub passed : Bool

-- the list, until the room is passed
abbrev pub told_of : WatchState → Option (List Triple)
told_of w = if w.passed then None else Some w.fitted

-- the watch that was told one triple more
abbrev pub with_triple : WatchState → Triple → WatchState
with_triple w triple = if nat_lt (length w.fitted) w.room then record w { fitted = w.fitted ++ triple ∷ [] } else record w { passed = true }
