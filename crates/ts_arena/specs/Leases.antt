-- A lease, as its holder sees it.
use Rattle.std.specs.Prelude.{◌≡◌, ℕ, ◌≤◌, Bool, Some}
use Rattle.arena_mem.specs.Places.{used}
use Rattle.serial_arena.specs.Serial.{SerialState, places_of}
use Rattle.arena_list.specs.declared.list.ListSeat.{ListSeat}
use Rattle.arena_list.specs.declared.for_clauses.view.Hold.TheVariants.{Away}
use Rattle.arena_list.specs.Rule.Views.{who, mine, out, shown}
use Rattle.arena_list.specs.Calls.Seats.{view, IsSeatOf}
use Rattle.ts_arena.specs.Arena.{IsKeyed}
use Rattle.ts_arena.specs.Passes.{SharedState, HasEntry}

-- the shared arena, the caller's right in it, its slot, whether that was cached, and the serial arena
pub record LeaseState : Type 0 where
  pub shared : SharedState
  pub seat : ListSeat
  pub slot : ℕ
  pub cached : Bool
  pub part : SerialState

-- what every lease is
pub record IsLease (l : LeaseState) : Type 0 where
  pub of_list : IsSeatOf l.shared.list l.seat
  pub own : mine (view l.seat) ≡ Some l.slot
  pub entry : HasEntry l.shared l.slot (who (view l.seat))
  pub taken : ℕ
  pub out_is : out (view l.seat) ≡ Away taken
  pub grown : taken ≤ used (places_of l.part)
  pub keyed : IsKeyed l.shared.life l.shared.policy l.slot (who (view l.seat)) l.part

abbrev pub caller_in : LeaseState → ℕ
caller_in l = who (view l.seat)

-- how many list steps its pass made
abbrev pub steps_in : LeaseState → ℕ
steps_in l = (view l.seat).list_steps

-- what its pass was shown that the serial arenas use
abbrev pub shown_in : LeaseState → ℕ
shown_in l = shown (view l.seat)
