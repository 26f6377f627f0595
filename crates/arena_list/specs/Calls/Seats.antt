-- A list and a seat, as their callers see them.
use Rattle.std.specs.Prelude.{◌≡◌, ℕ, List, All, length}
use mathlib.Core.Option.{some}
use lib.ListN.{get_elem?}
use base.Stored.{Coded}
use Rattle.arena_list.specs.declared.entry.Entry.{Entry}
use Rattle.arena_list.specs.declared.for_clauses.founding.Founding.{Founding}
use Rattle.arena_list.specs.declared.list.ListSeat.{ListSeat}
use Rattle.arena_list.specs.declared.list.ArenaList.{ArenaList}
use Rattle.arena_list.specs.declared.for_clauses.mark.Mark.{Mark}
use Rattle.arena_list.specs.declared.for_clauses.view.View.{View}
use Rattle.arena_list.specs.declared.for_clauses.view.Hold.TheVariants.{Rests}
use Rattle.arena_list.specs.Rule.Founded.{Meter, Fits, others_of}
use Rattle.arena_list.specs.Marks.OfParts.{marks, mark, marked_founding}
use Rattle.arena_list.specs.Steps.Tales.{sole}
use Rattle.arena_list.specs.Rule.Views.{who, out, HasSeenOwn}

-- what a seat knows
abbrev pub view : ListSeat → View Mark
view s = sole s.badge.views

-- a seat after a step is of the list that it was of
abbrev pub SameList : ListSeat → ListSeat → Type 0
SameList old new = new.badge.table_id ≡ old.badge.table_id

module _ {V : Type 0} where
  -- the entry stands in the list of entries
  abbrev pub IsAmong : List (Entry V) → Entry V → Type 0
  IsAmong es e = (i : ℕ) × (get_elem? es i ≡ some e)

  -- the life of a list
  abbrev pub life_of : ArenaList V → ℕ
  life_of list = list.table.shared.key.life

  -- what a list was made with
  abbrev pub founding_of : ArenaList V → Founding V
  founding_of list = list.table.shared.key

  -- the callers that have a seat
  abbrev pub callers_of : ArenaList V → List ℕ
  callers_of list = (founding_of list).callers.items

  -- the wards of a list: the linked entries that it was made with whose callers have no seat, oldest first
  abbrev pub wards_of : ArenaList V → List (Entry V)
  wards_of list = others_of (founding_of list).linked.items (callers_of list)

  -- the seat is of this list
  abbrev pub IsSeatOf : ArenaList V → ListSeat → Type 0
  IsSeatOf list s = s.badge.table_id ≡ list.table.shared.table_id

  -- this value is in the seat's slot
  abbrev pub HasValue : Coded V → Meter V → ListSeat → V → Type 0
  HasValue c m s part = out (view s) ≡ Rests (mark c m part)

  -- the value of the seat's slot is in it, and fits
  abbrev pub RestsIn : ArenaList V → ListSeat → Type 0
  RestsIn list s = (part : Mark) × (out (view s) ≡ Rests part) × Fits marks (life_of list) (who (view s)) part

  -- the seat is of this list, its slot's value is home, its view has what the list was made with, and where its slot is in the list, it has seen its own node
  abbrev pub IsHome : Coded V → Meter V → ArenaList V → ListSeat → Type 0
  IsHome c m list s = IsSeatOf list s × RestsIn list s × ((view s).base ≡ marked_founding c m (founding_of list)) × HasSeenOwn (view s)

  -- these are n seats of this list, and so they stand
  pub record AreHome (c : Coded V) (m : Meter V) (list : ArenaList V) (n : ℕ) (seats : List ListSeat) : Type 0 where
    pub count : length seats ≡ n
    pub all : All (IsHome c m list) seats
