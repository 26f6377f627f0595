-- An arena as one memory, and how a caller enters it alone.
use Rattle.std.specs.Prelude.{◌≡◌, ◌≢◌, ℕ, ◌<◌, true, false, List, [], ◌++◌, length, map, set, sum_by, flat_map}
use Rattle.std.specs.FinMap as fin
use mathlib.Core.Option.{some}
use lib.ListN.{get_elem?}
use Rattle.arena_mem.specs.Places.{Places, Buffers}
use Rattle.serial_arena.specs.Serial.{SerialState, Placement, places_of, buffers_of, blocks_of}
use Rattle.arena_list.specs.declared.entry.Entry.{Entry}
use Rattle.arena_list.specs.Words.Core.{slot_count}
use Rattle.arena_list.specs.Rule.Founded.{has, caller, node_of}
use Rattle.ts_arena.specs.Arena.{ArenaState}
use Rattle.ts_arena.specs.Sharing.{Owners, AddsSpare}
use Rattle.ts_arena.specs.Parts.{owner_at}
use Rattle.ts_arena.specs.declared.faults.SoleFault.{SoleFault}
use Rattle.ts_arena.specs.declared.faults.SoleFault.TheVariants.{TooManyCallers, NoMemory}

-- the serial arenas of the owners, in the order in which they joined, and then the adopted regions
abbrev pub parts_of : ArenaState → List SerialState
parts_of a = map (λ (e : Entry SerialState). e.part) a.owners ++ a.adopted

-- the live places of all these parts, each with its bytes
unfoldable pub all_places : List SerialState → Places
all_places parts = fin.from_entries (flat_map (λ (s : SerialState). fin.entries (places_of s)) parts)

-- the kept byte strings of all these parts
unfoldable pub all_buffers : List SerialState → Buffers
all_buffers parts = fin.from_entries (flat_map (λ (s : SerialState). fin.entries (buffers_of s)) parts)

-- how many blocks a region has in all these parts
unfoldable pub all_blocks : List SerialState → ℕ → ℕ
all_blocks parts region = sum_by (λ (s : SerialState). blocks_of s region) parts

abbrev pub arena_places : ArenaState → Places
arena_places a = all_places (parts_of a)

abbrev pub arena_buffers : ArenaState → Buffers
arena_buffers a = all_buffers (parts_of a)

abbrev pub arena_blocks : ArenaState → ℕ → ℕ
arena_blocks a = all_blocks (parts_of a)

-- ---- what a sole use doesn't change
-- a serial arena without the bytes of its placements, which writes change
abbrev pub unwritten : SerialState → SerialState
unwritten s = record s { placements = map (λ (x : Placement). record x { bytes = [] }) s.placements }

-- a serial arena that has nothing
abbrev pub emptied : SerialState → SerialState
emptied s = record s { sizes = []; placements = []; kept = [] }

abbrev pub unwritten_owner : Entry SerialState → Entry SerialState
unwritten_owner e = record e { part = unwritten e.part }

abbrev pub emptied_owner : Entry SerialState → Entry SerialState
emptied_owner e = record e { part = emptied e.part }

-- all of an arena but the bytes of placements, and what the owner at this place has: the life, the policy, the callers with their slots, and the blocks, placements and kept byte strings of each other part
unfoldable pub frame_of : ℕ → ArenaState → ArenaState
frame_of at a = record a {
  owners = set (map unwritten_owner a.owners) at (emptied_owner (owner_at a.owners at));
  adopted = map unwritten a.adopted;
}

-- ---- entering
-- the caller owns a serial arena
abbrev pub Owns : Owners → ℕ → Type 0
Owns owners who = has (map caller owners) who ≡ true

abbrev pub OwnsNothing : Owners → ℕ → Type 0
OwnsNothing owners who = has (map caller owners) who ≡ false

-- the caller's place among the owners. An owner is entered as the arena is, and another caller as the last of the owners, with the least free slot and nothing in its serial arena
pub record IsEntered (before : ArenaState) (who : ℕ) (after : ArenaState) (at : ℕ) : Type 0 where
  pub there : at < length after.owners
  pub own : (owner_at after.owners at).caller ≡ who
  pub same : Owns before.owners who → after ≡ before
  pub added : OwnsNothing before.owners who → AddsSpare before.policy before.life [] who before.owners after.owners × (at ≡ length before.owners) × (after ≡ record before { owners = after.owners })

-- the caller owns something, or there is a slot left
abbrev pub CanEnter : Owners → ℕ → Type 0
CanEnter owners who = OwnsNothing owners who → length owners < slot_count

-- why entering is refused. Each cause excludes those before it
abbrev pub RefusesSole : Owners → ℕ → SoleFault → Type 0
RefusesSole owners who (TooManyCallers held asked) = OwnsNothing owners who × (length owners ≡ slot_count) × (held ≡ length owners) × (asked ≡ 1)
RefusesSole owners who NoMemory = OwnsNothing owners who × (length owners < slot_count)

-- ---- leaving
-- what a sole use keeps: the life, the policy, who owns which slot, and of each part but the caller's own all but the bytes of its placements; of the caller's own its key
pub record KeepsAllElse (at : ℕ) (before after : ArenaState) : Type 0 where
  pub life_is : after.life ≡ before.life
  pub policy_is : after.policy ≡ before.policy
  pub nodes : map node_of after.owners ≡ map node_of before.owners
  pub others : (k : ℕ) (d e : Entry SerialState) → k ≢ at → get_elem? before.owners k ≡ some d → get_elem? after.owners k ≡ some e → unwritten e.part ≡ unwritten d.part
  pub own : (d e : Entry SerialState) → get_elem? before.owners at ≡ some d → get_elem? after.owners at ≡ some e → emptied e.part ≡ emptied d.part
  pub adopted : map unwritten after.adopted ≡ map unwritten before.adopted
