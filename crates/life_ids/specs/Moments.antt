-- What a step on the counter tells of all seats at its moment.
use Rattle.std.specs.Prelude.{◌≡◌, ℕ, ◌+◌, List, [], ◌∷◌, slice_set}
use mathlib.Core.Option.{some}
use lib.ListN.{get_elem?}
use Rattle.life_ids.specs.declared.view.View.{View}
use Rattle.life_ids.specs.Rule.{IdRule, view_of}
use Rattle.life_ids.specs.Seats.{SeatState}

-- A moment, by the counter's word and the views of all seats, the dropped ones among them: the rule holds, and one of the views is this
pub record Moment (total next : ℕ) (views : List View) (port : ℕ) (v : View) : Type 0 where
  pub rule : IdRule total (next ∷ []) views
  pub stands : get_elem? views port ≡ some v

-- There was a moment with this view
pub record SeenView (total : ℕ) (v : View) : Type 0 where
  pub next : ℕ
  pub views : List View
  pub port : ℕ
  pub moment : Moment total next views port v

-- There was a moment when the word was the first id of this batch, and one step later it was 256 more, and of all views only the seat's own had changed
pub record TakenView (total start : ℕ) (v w : View) : Type 0 where
  pub views : List View
  pub port : ℕ
  pub before : Moment total start views port v
  pub after : Moment total (start + 256) (slice_set views port w) port w

-- the view of a seat
abbrev pub view_of_seat : SeatState → View
view_of_seat seat = view_of seat.counter.total seat.taken seat.given seat.quota

-- the same of a seat
unfoldable pub IsRuled : SeatState → Type 0
IsRuled seat = SeenView seat.counter.total (view_of_seat seat)

unfoldable pub TookBatch : ℕ → SeatState → SeatState → Type 0
TookBatch start before after = TakenView before.counter.total start (view_of_seat before) (view_of_seat after)
