-- What a phase over a whole arena begins with: an arena whose owners are workers, and a cache for each worker.
use Rattle.std.specs.Prelude.{◌≡◌, ◌<◌, ℕ, List}
use mathlib.Core.Option.{some}
use lib.ListN.{get_elem?}
use Rattle.serial_arena.specs.Serial.{SerialState}
use Rattle.arena_list.specs.declared.entry.Entry.{Entry}
use Rattle.arena_list.specs.Calls.Seats.{IsAmong}
use Rattle.life_ids.specs.Cache.{CacheState}
use Rattle.ts_arena.specs.declared.pass.Pass.{Pass}
use Rattle.ts_arena.specs.Passes.{caller_of, FitsPass}
use Rattle.ts_arena.specs.Sharing.{Owners}

-- each of these numbers is its own place
abbrev pub AreCounted : List ℕ → Type 0
AreCounted numbers = (i x : ℕ) → get_elem? numbers i ≡ some x → x ≡ i

-- each owner has a number below this
abbrev pub AreBelow : ℕ → Owners → Type 0
AreBelow most owners = (e : Entry SerialState) → IsAmong owners e → e.caller < most

-- the caller owns a serial arena in this slot
abbrev pub HasSlot : Owners → ℕ → ℕ → Type 0
HasSlot owners who slot = (e : Entry SerialState) × IsAmong owners e × (e.caller ≡ who) × (e.slot ≡ slot)

-- a cache with this life has the slot of the owner whose number is the cache's place
abbrev pub FitOwners : ℕ → Owners → List CacheState → Type 0
FitOwners life owners caches = (k : ℕ) (cache : CacheState) → get_elem? caches k ≡ some cache → cache.life ≡ life → HasSlot owners k cache.slot

-- each pass is that of the caller with the number of its place
abbrev pub AreInOrder : List Pass → Type 0
AreInOrder passes = (k : ℕ) (p : Pass) → get_elem? passes k ≡ some p → caller_of p ≡ k

-- each cache fits the pass at its place
abbrev pub FitPasses : List CacheState → List Pass → Type 0
FitPasses caches passes = (k : ℕ) (cache : CacheState) (p : Pass) → get_elem? caches k ≡ some cache → get_elem? passes k ≡ some p → FitsPass cache p

-- each cache is of no life that an arena has
abbrev pub AreEmpty : List CacheState → Type 0
AreEmpty caches = (k : ℕ) (cache : CacheState) → get_elem? caches k ≡ some cache → cache.life ≡ 0
