-- What the rule says, in plain words.
use Rattle.std.specs.Prelude.{◌≡◌, ◌≢◌, ℕ, ◌+◌, ◌*◌, ◌^◌, ◌<◌, ◌≤◌, List, ◌++◌, length, slice_index}
use Rattle.std.specs.List.{sum_by, Contains}
use Rattle.std.specs.List.Sorted.{IsStrictlyIncreasing}
use mathlib.Core.Option.{some}
use lib.ListN.{get_elem?}
use Rattle.life_ids.specs.declared.view.View.{View}
use Rattle.life_ids.specs.Batches.{batch, ids_of}
use Rattle.life_ids.specs.Moments.{TakenView}

-- the batches of a view: those that its seat took, and those that came with other seats
abbrev pub all_batches : View → List ℕ
all_batches v = v.taken ++ v.given

-- every id of these batches is below the counter's word
abbrev pub BelowNext : List ℕ → List View → Type 0
BelowNext words views = (port : ℕ) (v : View) → get_elem? views port ≡ some v → (id : ℕ) → Contains (ids_of (all_batches v)) id → id < slice_index words 0

-- and from 1 on
abbrev pub FromOne : List View → Type 0
FromOne views = (port : ℕ) (v : View) → get_elem? views port ≡ some v → (id : ℕ) → Contains (ids_of (all_batches v)) id → 0 < id

-- no id stands in the batches of two seats
abbrev pub SeatsApart : List View → Type 0
SeatsApart views = (p q : ℕ) (v w : View) → p ≢ q → get_elem? views p ≡ some v → get_elem? views q ≡ some w
    → (id : ℕ) → Contains (ids_of (all_batches v)) id → ¬ Contains (ids_of (all_batches w)) id

-- nor in two batches of one seat
abbrev pub BatchesApart : List View → Type 0
BatchesApart views = (port : ℕ) (v : View) → get_elem? views port ≡ some v → (i j : ℕ) → i < j → j < length (all_batches v)
    → (id : ℕ) → Contains (batch (slice_index (all_batches v) i)) id → ¬ Contains (batch (slice_index (all_batches v) j)) id

-- a batch that is taken has no id of the batches that any seat has at that moment
abbrev pub TakenApart : Type 0
TakenApart = (total start : ℕ) (v w : View) (taken : TakenView total start v w) (port : ℕ) (u : View) → get_elem? taken.views port ≡ some u
    → (id : ℕ) → Contains (batch start) id → ¬ Contains (ids_of (all_batches u)) id

-- the ids of the batches that a seat took ascend
abbrev pub IdsAscend : List View → Type 0
IdsAscend views = (port : ℕ) (v : View) → get_elem? views port ≡ some v → IsStrictlyIncreasing (ids_of v.taken)

-- the batches that can still be taken have room below 2^63 + 1
abbrev pub HasRoom : List ℕ → List View → Type 0
HasRoom words views = slice_index words 0 + 256 * sum_by (λ (v : View). v.quota) views ≤ 2 ^ 63 + 1
