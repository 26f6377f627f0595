-- The parts of an arena: the serial arenas of its owners and its adopted regions, each by where it stands.
use Rattle.std.specs.Prelude.{◌≡◌, ℕ, ◌<◌, Some, List, [], length, get_or, set}
use Rattle.std.specs.Ordering.{nat_cmp}
use Rattle.std.specs.BTreeMap.{BTreeMap, get}
use mathlib.Core.Option.{some}
use lib.ListN.{get_elem?}
use Rattle.serial_arena.specs.Serial.{SerialState}
use Rattle.arena_list.specs.declared.entry.Entry.{Entry}
use Rattle.ts_arena.specs.Arena.{ArenaState, IsOwned, IsAdopted}
use Rattle.ts_arena.specs.declared.spot.Spot.{Spot}
use Rattle.ts_arena.specs.declared.spot.Spot.TheVariants.{Owner, Adopted}

-- what stands where there is nothing
abbrev pub no_part : SerialState
no_part = record { owner = 0; life = 0; region = 0; policy = record { start = 0; greatest = 0 }; sizes = []; placements = []; kept = [] }

abbrev pub no_owner : Entry SerialState
no_owner = record { slot = 0; caller = 0; part = no_part }

abbrev pub owner_at : List (Entry SerialState) → ℕ → Entry SerialState
owner_at owners k = get_or owners k no_owner

abbrev pub region_at : List SerialState → ℕ → SerialState
region_at regions k = get_or regions k no_part

-- the owners, with another serial arena for one of them
abbrev pub owner_with : List (Entry SerialState) → ℕ → SerialState → List (Entry SerialState)
owner_with owners k s = set owners k (record (owner_at owners k) { part = s })

abbrev pub IsSpot : ArenaState → Spot → Type 0
IsSpot a (Owner k) = k < length a.owners
IsSpot a (Adopted k) = k < length a.adopted

abbrev pub part_at : ArenaState → Spot → SerialState
part_at a (Owner k) = (owner_at a.owners k).part
part_at a (Adopted k) = region_at a.adopted k

-- the arena, with another part at one spot
abbrev pub with_part : ArenaState → Spot → SerialState → ArenaState
with_part a (Owner k) s = record a { owners = owner_with a.owners k s }
with_part a (Adopted k) s = record a { adopted = set a.adopted k s }

-- a part that may stand there in place of the one that does
abbrev pub CanStand : ArenaState → Spot → SerialState → Type 0
CanStand a (Owner k) s = IsOwned a.life a.policy (owner_at a.owners k).slot (owner_at a.owners k).caller s
CanStand a (Adopted k) s = IsAdopted s × (s.region ≡ (region_at a.adopted k).region)

-- one of these regions has the number
abbrev pub HasRegion : List SerialState → ℕ → Type 0
HasRegion regions number = (k : ℕ) × (s : SerialState) × (get_elem? regions k ≡ some s) × (s.region ≡ number)

-- the index finds each region by its number
pub record IsIndexed (index : BTreeMap ℕ ℕ) (regions : List SerialState) : Type 0 where
  pub each : (k : ℕ) (s : SerialState) → get_elem? regions k ≡ some s → get nat_cmp index s.region ≡ Some k

-- the table of 64 places finds each owner by its slot
pub record IsSlotTable (table : List ℕ) (owners : List (Entry SerialState)) : Type 0 where
  pub each : (k : ℕ) (e : Entry SerialState) → get_elem? owners k ≡ some e → get_or table e.slot 0 ≡ k
