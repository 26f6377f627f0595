-- A memory as two finite maps, from live places and from live buffers to their bytes.
use Rattle.std.specs.Prelude.{◌≡◌, ◌≢◌, ◌⊎◌, ◌+◌, ◌-◌, ◌*◌, ◌/◌, ◌^◌, ◌≤◌, ℕ, List, ◌++◌, length, take, drop, Option, None, Some, IsSome, sum_by, [], unwrap_or}
use Rattle.std.specs.Option.{option_map}
use Rattle.std.specs.Ordering.{nat_cmp, ordering_then}
use Rattle.std.specs.declared.cmp.Ordering.{Ordering}
use Rattle.std.specs.FinMap as map
use Rattle.arena_mem.specs.declared.place.Place.{Place}
use Rattle.arena_mem.specs.declared.place.Buffer.{Buffer}
use Rattle.arena_mem.specs.declared.memory.MemFault.{MemFault}
use Rattle.arena_mem.specs.declared.memory.MemFault.TheVariants.{NoMemory, BlocksSpent}

-- by region, then block, then offset, then length
abbrev pub place_cmp : Place → Place → Ordering
place_cmp p q = ordering_then (nat_cmp p.region q.region) (ordering_then (nat_cmp p.block q.block) (ordering_then (nat_cmp p.offset q.offset) (nat_cmp p.len q.len)))

-- by region, then number
abbrev pub buffer_cmp : Buffer → Buffer → Ordering
buffer_cmp a b = ordering_then (nat_cmp a.region b.region) (nat_cmp a.number b.number)

-- the live places, each with its bytes
abbrev pub Places : Type 0
Places = map.FinMap place_cmp (List ℕ)

-- the live buffers, each with its bytes
abbrev pub Buffers : Type 0
Buffers = map.FinMap buffer_cmp (List ℕ)

-- the least multiple of 8 that is at least n
abbrev pub round8 : ℕ → ℕ
round8 n = (n + 7) / 8 * 8

-- a length that can be placed: it isn't 0, and rounded up it leaves room for a header below 2^31
pub record IsPlaceable (bytes : ℕ) : Type 0 where
  pub some : 1 ≤ bytes
  pub most : bytes ≤ 2 ^ 31 - 8

abbrev pub IsLive : Places → Place → Type 0
IsLive places p = IsSome (map.get places p)

abbrev pub IsKept : Buffers → Buffer → Type 0
IsKept buffers b = IsSome (map.get buffers b)

-- what was live before has its bytes
abbrev pub KeepsRest : Places → Places → Type 0
KeepsRest old new = (q : Place) (was : List ℕ) → map.get old q ≡ Some was → map.get new q ≡ Some was

-- what was kept before has its bytes
abbrev pub KeepsBuffers : Buffers → Buffers → Type 0
KeepsBuffers old new = (b : Buffer) (was : List ℕ) → map.get old b ≡ Some was → map.get new b ≡ Some was

-- these bytes from start on, and the others as they were
abbrev pub splice : ℕ → List ℕ → List ℕ → List ℕ
splice start bytes was = take start was ++ bytes ++ drop (start + length bytes) was

-- the map with other bytes at one place, where it is live
abbrev pub replaced : Places → Place → Option (List ℕ) → Places
replaced places p None = places
replaced places p (Some now) = map.insert places p now

-- the map after a write to one live place
abbrev pub written : Places → Place → ℕ → List ℕ → Places
written places p start bytes = replaced places p (option_map (splice start bytes) (map.get places p))

-- at most one block more, in one region
abbrev pub AddsAtMostABlock : (ℕ → ℕ) → (ℕ → ℕ) → Type 0
AddsAtMostABlock old new = (region : ℕ) × ((new region ≡ old region) ⊎ (new region ≡ old region + 1)) × ((other : ℕ) → other ≢ region → new other ≡ old other)

-- the lengths of the live places together
unfoldable pub used : Places → ℕ
used places = sum_by (λ (p : Place). p.len) (map.keys places)

-- the bytes at a place, and none where it isn't live
abbrev pub bytes_at : Places → Place → List ℕ
bytes_at places p = unwrap_or (map.get places p) []

-- the map after the first n bytes of one place were copied to the front of another
abbrev pub front_copied : Places → Place → Place → ℕ → Places
front_copied places from to n = written places to 0 (take n (bytes_at places from))

-- no number of bytes stands in both: two regions, two blocks, or one behind the other
abbrev pub Apart : Place → Place → Type 0
Apart p q = (p.region ≢ q.region) ⊎ ((p.block ≢ q.block) ⊎ ((p.offset + p.len ≤ q.offset) ⊎ (q.offset + q.len ≤ p.offset)))

-- a fault for want of blocks names a region that has 2^32 - 1 of them
abbrev pub NamesFullRegion : (ℕ → ℕ) → MemFault → Type 0
NamesFullRegion blocks NoMemory = Unit {0}
NamesFullRegion blocks (BlocksSpent region) = blocks region ≡ 2 ^ 32 - 1
