-- What contracts see of a counter and of its seats.
use Rattle.std.specs.Prelude.{◌≡◌, ℕ, ◌+◌, ◌*◌, List, [], ◌++◌, length}
use Rattle.std.specs.List.{Contains}
use Rattle.atomic_table.specs.Seated.{TableId}
use Rattle.life_ids.specs.Batches.{batch, ids_of, ids_but, first_left, greatest}

-- which counter it is, and how many batches it was made for
pub record Counter : Type 0 where
  pub table : TableId
  pub total : ℕ

-- A seat of a counter: the batches that it took, in order, those that came with seats given back to it, how many it may still take, and how many ids of its last batch it hasn't drawn
pub record SeatState : Type 0 where
  pub counter : Counter
  pub taken : List ℕ
  pub given : List ℕ
  pub quota : ℕ
  pub rest : ℕ

-- a seat that drew nothing
abbrev pub new_seat : Counter → ℕ → SeatState
new_seat counter quota = record { counter = counter; taken = []; given = []; quota = quota; rest = 0 }

-- the ids that a seat drew: those of the batches that it took, in order, without the rest
abbrev pub drawn : SeatState → List ℕ
drawn seat = ids_but seat.rest seat.taken

-- the id that it draws next, where its batch isn't used up
abbrev pub next_id : SeatState → ℕ
next_id seat = first_left seat.rest seat.taken

-- the greatest of them, or 0: each id that the seat draws from now on is greater
abbrev pub greatest_drawn : SeatState → ℕ
greatest_drawn seat = greatest (drawn seat)

-- all ids of its batches: of those that it took, and of those that came with other seats
abbrev pub ids_held : SeatState → List ℕ
ids_held seat = ids_of (seat.taken ++ seat.given)

-- no id of this batch stands in the batches of the seat, those that came with other seats among them
unfoldable pub IsFresh : ℕ → SeatState → Type 0
IsFresh start seat = (id : ℕ) → Contains (batch start) id → ¬ Contains (ids_held seat) id

-- how many ids the seat can still draw
abbrev pub ids_left : SeatState → ℕ
ids_left seat = 256 * seat.quota + seat.rest

-- no other seat took a batch, or can
abbrev pub IsAlone : SeatState → Type 0
IsAlone seat = seat.quota + (length seat.taken + length seat.given) ≡ seat.counter.total
