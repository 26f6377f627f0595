-- The results of all workers, by the frames whose turns they are.
use Rattle.std.specs.Prelude.{◌≡◌, ◌+◌, ◌*◌, ◌<◌, ℕ, List, length}
use mathlib.Core.Option.{some}
use lib.ListN.{get_elem?}
use Rattle.parse_pool.specs.Workers.{WorkerState}

-- each of so many frames has a result, at its turn of its worker
abbrev pub AreCovered : List WorkerState → ℕ → Type 0
AreCovered workers count =
    (worker turn : ℕ) (w : WorkerState) → get_elem? workers worker ≡ some w → worker + turn * length workers < count
    → turn < length w.results
