-- Batches of 256 ids. A batch is named by its first id.
use Rattle.std.specs.Prelude.{ℕ, ◌+◌, ◌-◌, List, length, take, fold, max, slice_index}
use Rattle.std.specs.List.{flat_map, range_with_len}

-- the ids of a batch
unfoldable pub batch : ℕ → List ℕ
batch start = range_with_len start 256

-- the ids of these batches, in order
abbrev pub ids_of : List ℕ → List ℕ
ids_of starts = flat_map batch starts

-- all of them but the last ones
abbrev pub ids_but : ℕ → List ℕ → List ℕ
ids_but rest starts = take (length (ids_of starts) - rest) (ids_of starts)

-- the greatest of these ids, or 0
abbrev pub greatest : List ℕ → ℕ
greatest ids = fold max 0 ids

-- the first of these ids that is left, where the last `rest` of them are
abbrev pub first_left : ℕ → List ℕ → ℕ
first_left rest starts = slice_index starts (length starts - 1) + (256 - rest)

-- how often an id stands in a batch: 1 less how far it lies before the batch or behind it
abbrev pub times : ℕ → ℕ → ℕ
times id start = 1 - ((start - id) + (id - (start + 255)))
