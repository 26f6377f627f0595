-- How an arena is shared: who gets which slot, and when it is refused.
use Rattle.std.specs.Prelude.{◌≡◌, ℕ, ◌+◌, ◌<◌, ◌≤◌, true, false, List, [], ◌∷◌, ◌++◌, length, map, take}
use mathlib.Core.Option.{some}
use lib.ListN.{get_elem?}
use Rattle.arena_block.specs.declared.policy.Policy.{Policy}
use Rattle.serial_arena.specs.Serial.{SerialState}
use Rattle.arena_list.specs.declared.entry.Entry.{Entry}
use Rattle.arena_list.specs.Words.Core.{slot_count}
use Rattle.arena_list.specs.Rule.Founded.{Differ, has, slot, caller, without}
use Rattle.ts_arena.specs.declared.faults.ShareFault.{ShareFault}
use Rattle.ts_arena.specs.declared.faults.ShareFault.TheVariants.{SameCaller, TooManyCallers, NoMemory}

abbrev pub Owners : Type 0
Owners = List (Entry SerialState)

-- a serial arena that has nothing yet
abbrev pub empty_part : Policy → ℕ → ℕ → ℕ → SerialState
empty_part policy life caller slot = record { owner = caller; life = life; region = slot; policy = policy; sizes = []; placements = []; kept = [] }

-- the slots of these owners and of the entries that are added to them
abbrev pub slots_with : Owners → Owners → List ℕ
slots_with owners added = map slot (owners ++ added)

-- the least slot that isn't taken
pub record IsLeastFree (taken : List ℕ) (slot : ℕ) : Type 0 where
  pub free : has taken slot ≡ false
  pub least : (lower : ℕ) → lower < slot → has taken lower ≡ true

-- the entries of the callers that own nothing yet, in their order: each has the least slot that is free when its turn comes, and an empty serial arena
pub record AreSpares (policy : Policy) (life : ℕ) (owners : Owners) (callers : List ℕ) (spares : Owners) : Type 0 where
  pub callers_are : map caller spares ≡ without owners callers
  pub slots_are : (i : ℕ) (e : Entry SerialState) → get_elem? spares i ≡ some e → IsLeastFree (slots_with owners (take i spares)) e.slot
  pub empty : (i : ℕ) (e : Entry SerialState) → get_elem? spares i ≡ some e → e.part ≡ empty_part policy life e.caller e.slot

-- one entry more, for this caller
pub record AddsSpare (policy : Policy) (life : ℕ) (owners : Owners) (who : ℕ) (old new : Owners) : Type 0 where
  pub at : ℕ
  pub small : at < slot_count
  pub free : IsLeastFree (slots_with owners old) at
  pub added : new ≡ old ++ record { slot = at; caller = who; part = empty_part policy life who at } ∷ []

-- the second place is the least one whose caller stood before, and the first is where it stood
pub record IsRepeat (callers : List ℕ) (first second : ℕ) : Type 0 where
  pub before : first < second
  pub who : ℕ
  pub at_first : get_elem? callers first ≡ some who
  pub at_second : get_elem? callers second ≡ some who
  pub least : Differ (take second callers)

-- how many callers own nothing yet
abbrev pub asked_of : Owners → List ℕ → ℕ
asked_of owners callers = length (without owners callers)

-- the callers differ, and there is a slot for each
pub record CanShare (owners : Owners) (callers : List ℕ) : Type 0 where
  pub differ : Differ callers
  pub few : length owners + asked_of owners callers ≤ slot_count

-- why sharing is refused. Each cause excludes those before it
abbrev pub RefusesShare : Owners → List ℕ → ShareFault → Type 0
RefusesShare owners callers (SameCaller first second) = IsRepeat callers first second
RefusesShare owners callers (TooManyCallers held asked) = Differ callers × (held ≡ length owners) × (asked ≡ asked_of owners callers) × (slot_count < held + asked)
RefusesShare owners callers NoMemory = CanShare owners callers
