-- An arena as what it holds.
use Rattle.std.specs.Prelude.{◌≡◌, ℕ, ◌+◌, ◌^◌, ◌<◌, ◌≤◌, List, length, map, sum_by}
use mathlib.Core.Option.{some}
use lib.ListN.{get_elem?}
use Rattle.arena_block.specs.declared.policy.Policy.{Policy}
use Rattle.arena_block.specs.Policy.{IsValid}
use Rattle.serial_arena.specs.Serial.{SerialState, IsSerial, used_of, allocated_of}
use Rattle.arena_list.specs.declared.entry.Entry.{Entry}
use Rattle.arena_list.specs.Words.Core.{slot_count}
use Rattle.arena_list.specs.Rule.Founded.{Differ, slot, caller}

-- the life, the policy of all blocks, the owners of serial arenas in the order in which they joined, and the regions that were adopted, in that order
pub record ArenaState : Type 0 where
  pub life : ℕ
  pub policy : Policy
  pub owners : List (Entry SerialState)
  pub adopted : List SerialState

-- the least number of an adopted region
abbrev pub first_adopted : ℕ
first_adopted = 65536

abbrev pub region : SerialState → ℕ
region s = s.region

-- a serial arena of the arena, by what no call of a memory changes: its region is its slot
pub record IsKeyed (life : ℕ) (policy : Policy) (slot caller : ℕ) (s : SerialState) : Type 0 where
  pub region_is : s.region ≡ slot
  pub owner_is : s.owner ≡ caller
  pub life_is : s.life ≡ life
  pub policy_is : s.policy ≡ policy

-- such a serial arena, with its placements laid in its blocks by the policy
pub record IsOwned (life : ℕ) (policy : Policy) (slot caller : ℕ) (s : SerialState) : Type 0 where
  pub keyed : IsKeyed life policy slot caller s
  pub serial : IsSerial s

-- serial arenas, each in a slot of its own
pub record AreHeld (life : ℕ) (policy : Policy) (entries : List (Entry SerialState)) : Type 0 where
  pub slots : Differ (map slot entries)
  pub small : (i : ℕ) (e : Entry SerialState) → get_elem? entries i ≡ some e → e.slot < slot_count
  pub each : (i : ℕ) (e : Entry SerialState) → get_elem? entries i ≡ some e → IsOwned life policy e.slot e.caller e.part

-- each owner has a slot and a serial arena of its own
pub record AreOwners (life : ℕ) (policy : Policy) (owners : List (Entry SerialState)) : Type 0 where
  pub held : AreHeld life policy owners
  pub callers : Differ (map caller owners)

pub record IsAdopted (s : SerialState) : Type 0 where
  pub high : first_adopted ≤ s.region
  pub named : s.region < 2 ^ 32
  pub life_is : s.life ≡ 0
  pub serial : IsSerial s

-- each adopted region has a number of its own, above all slots
pub record AreAdopted (adopted : List SerialState) : Type 0 where
  pub regions : Differ (map region adopted)
  pub each : (i : ℕ) (s : SerialState) → get_elem? adopted i ≡ some s → IsAdopted s

-- what every arena is
pub record IsArena (a : ArenaState) : Type 0 where
  pub born : 1 ≤ a.life
  pub policy : IsValid a.policy
  pub owners : AreOwners a.life a.policy a.owners
  pub adopted : AreAdopted a.adopted

-- ---- sums over all serial arenas and adopted regions
abbrev pub used_at : Entry SerialState → ℕ
used_at e = used_of e.part

abbrev pub allocated_at : Entry SerialState → ℕ
allocated_at e = allocated_of e.part

abbrev pub registered_of : SerialState → ℕ
registered_of s = length s.kept

abbrev pub registered_at : Entry SerialState → ℕ
registered_at e = registered_of e.part

abbrev pub arena_used : ArenaState → ℕ
arena_used a = sum_by used_at a.owners + sum_by used_of a.adopted

abbrev pub arena_allocated : ArenaState → ℕ
arena_allocated a = sum_by allocated_at a.owners + sum_by allocated_of a.adopted

abbrev pub arena_registered : ArenaState → ℕ
arena_registered a = sum_by registered_at a.owners + sum_by registered_of a.adopted
