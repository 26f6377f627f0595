-- A shared arena and its passes, as their callers see them.
use Rattle.std.specs.Prelude.{◌≡◌, ℕ, ◌^◌, ◌<◌, ◌≤◌, List, ◌++◌, Option, Some, None, length, map, sum_by}
use mathlib.Core.Option.{some}
use lib.ListN.{get_elem?}
use Rattle.arena_block.specs.declared.policy.Policy.{Policy}
use Rattle.arena_block.specs.Policy.{IsValid}
use Rattle.serial_arena.specs.Serial.{SerialState, IsUnused, used_of}
use Rattle.ts_arena.specs.contracts.boxed.BoxedArena.{the_row}
use Rattle.life_ids.specs.Cache.{CacheState}
use Rattle.arena_list.specs.declared.entry.Entry.{Entry}
use Rattle.arena_list.specs.declared.list.ArenaList.{ArenaList}
use Rattle.arena_list.specs.declared.list.ListSeat.{ListSeat}
use Rattle.arena_list.specs.Rule.Founded.{Meter, Differ, slot, others_of}
use Rattle.arena_list.specs.Marks.OfParts.{marks}
use Rattle.arena_list.specs.Rule.Views.{hand, who, mine, shown}
use Rattle.arena_list.specs.Calls.Outcomes.{HasSummed}
use Rattle.arena_list.specs.Calls.Seats.{view, life_of, founding_of, callers_of, wards_of, IsSeatOf, IsAmong, HasValue}
use Rattle.ts_arena.specs.Arena.{ArenaState, IsOwned, AreAdopted}
use Rattle.ts_arena.specs.Sharing.{Owners, AreSpares}
use Rattle.ts_arena.specs.declared.pass.Pass.{Pass}

-- a shared arena: its life, its policy, the list of its serial arenas, and the regions that were adopted before
pub record SharedState : Type 0 where
  pub life : ℕ
  pub policy : Policy
  pub list : ArenaList SerialState
  pub adopted : List SerialState

-- owner, life and used sum of a serial arena
abbrev pub serial_meter : Meter SerialState
serial_meter = record { owner = λ s. s.owner; life = λ s. s.life; used = used_of }

-- how many passes it made
abbrev pub made_by : SharedState → ℕ
made_by sh = length (callers_of sh.list)

-- the owners that the arena had when it was shared
abbrev pub begun_with : SharedState → Owners
begun_with sh = (founding_of sh.list).linked.items

-- those of them that have no pass
abbrev pub resting : SharedState → Owners
resting sh = wards_of sh.list

-- the entries that the list was made with: of the owners, and a spare one of each caller that owned nothing
abbrev pub entries_of : SharedState → Owners
entries_of sh = (founding_of sh.list).linked.items ++ (founding_of sh.list).spare.items

-- one of these entries has this slot and this caller
unfoldable pub HasEntry : SharedState → ℕ → ℕ → Type 0
HasEntry sh at who = (e : Entry SerialState) × IsAmong (entries_of sh) e × (e.slot ≡ at) × (e.caller ≡ who)

-- what the adopted regions use together
abbrev pub adopted_used : SharedState → ℕ
adopted_used sh = sum_by used_of sh.adopted

-- this serial arena is in the slot of the seat's caller
abbrev pub SeatHas : ListSeat → SerialState → Type 0
SeatHas s part = HasValue the_row.coded serial_meter s part

-- ---- a pass
abbrev pub pass_of : ℕ → ListSeat → Pass
pass_of life s = record { seat = s; life = life }

abbrev pub caller_of : Pass → ℕ
caller_of p = who (view p.seat)

-- the caller's slot, once it has joined
abbrev pub slot_of : Pass → Option ℕ
slot_of p = mine (view p.seat)

-- the caller's slot, in the list or beside it
abbrev pub own_slot : Pass → ℕ
own_slot p = (hand (view p.seat)).slot

-- how many list steps it made
abbrev pub steps_of : Pass → ℕ
steps_of p = (view p.seat).list_steps

-- what it was shown that the serial arenas use
abbrev pub shown_to : Pass → ℕ
shown_to p = shown (view p.seat)

-- between these two the pass looked once at the list, and what it was shown since then of the state of each slot in it adds up to what it has been shown in all
abbrev pub HasAddedUp : Pass → Pass → Type 0
HasAddedUp old new = HasSummed marks (view old.seat) (view new.seat) (shown_to new)

-- this is the caller's serial arena, as it was left last, or as the arena had it when it was shared
abbrev pub HasPart : Pass → SerialState → Type 0
HasPart p part = SeatHas p.seat part

-- the pass was made by this shared arena
pub record IsPassOf (sh : SharedState) (p : Pass) : Type 0 where
  pub of_list : IsSeatOf sh.list p.seat
  pub life_is : p.life ≡ sh.life
  pub part : SerialState
  pub has_part : HasPart p part
  pub owned : IsOwned sh.life sh.policy (own_slot p) (caller_of p) part
  pub entry : HasEntry sh (own_slot p) (caller_of p)
  -- a caller that hasn't joined has placed and kept nothing
  pub empty : slot_of p ≡ None → IsUnused part

-- these passes were all made by this shared arena
abbrev pub AreAllOf : SharedState → List Pass → Type 0
AreAllOf sh passes = (k : ℕ) (p : Pass) → get_elem? passes k ≡ some p → IsPassOf sh p

-- the cache isn't of the pass's life, or it has the caller's joined slot
abbrev pub FitsPass : CacheState → Pass → Type 0
FitsPass cache p = cache.life ≡ p.life → slot_of p ≡ Some cache.slot

-- what every shared arena is
pub record IsShared (sh : SharedState) (made used : ℕ) : Type 0 where
  pub born : 1 ≤ sh.life
  pub policy : IsValid sh.policy
  pub life_is : life_of sh.list ≡ sh.life
  pub slots : Differ (map slot (entries_of sh))
  pub resting_are : (e : Entry SerialState) → IsAmong (resting sh) e → IsOwned sh.life sh.policy e.slot e.caller e.part
  pub adopted : AreAdopted sh.adopted
  pub made_is : made ≡ made_by sh
  pub used_is : used ≡ adopted_used sh
  pub small : used < 2 ^ 127

-- the arena, shared among these callers: the owners that aren't among them rest
pub record IsSharedFrom (a : ArenaState) (callers : List ℕ) (sh : SharedState) : Type 0 where
  pub life_is : sh.life ≡ a.life
  pub policy_is : sh.policy ≡ a.policy
  pub adopted_are : sh.adopted ≡ a.adopted
  pub begun : begun_with sh ≡ a.owners
  pub resting_are : resting sh ≡ others_of a.owners callers
  pub made : made_by sh ≡ length callers

-- the pass of a caller: of an owner with its slot and its serial arena, of another caller with its spare entry's
pub record IsFirstPass (sh : SharedState) (owners spares : Owners) (caller : ℕ) (p : Pass) : Type 0 where
  pub made : IsPassOf sh p
  pub who : caller_of p ≡ caller
  pub no_step : steps_of p ≡ 0
  pub own : (k : ℕ) (e : Entry SerialState) → get_elem? owners k ≡ some e → e.caller ≡ caller → (slot_of p ≡ Some e.slot) × HasPart p e.part
  pub beside : (k : ℕ) (e : Entry SerialState) → get_elem? spares k ≡ some e → e.caller ≡ caller → (slot_of p ≡ None) × ((hand (view p.seat)).slot ≡ e.slot) × HasPart p e.part

-- a pass for each caller, in their order
pub record AreFirstPasses (a : ArenaState) (callers : List ℕ) (sh : SharedState) (passes : List Pass) : Type 0 where
  pub count : length passes ≡ length callers
  pub all : AreAllOf sh passes
  pub spares : Owners
  pub spares_are : AreSpares a.policy a.life a.owners callers spares
  pub each : (i caller : ℕ) (p : Pass) → get_elem? callers i ≡ some caller → get_elem? passes i ≡ some p → IsFirstPass sh a.owners spares caller p
