-- A serial arena as what it holds, and the memory that this is.
use Rattle.std.specs.Prelude.{◌≡◌, ◌-◌, ◌^◌, ◌<◌, ℕ, suc, Bool, List, [], ◌∷◌, ◌++◌, ◌==◌, length, map, replicate, get_or, sum_by, nat_le, if◌then◌else◌}
use Rattle.std.specs.List.{sum}
use Rattle.std.specs.Ordering.{eq_by_cmp}
use Rattle.std.specs.FinMap as fin
use Rattle.arena_mem.specs.declared.place.Place.{Place}
use Rattle.arena_mem.specs.declared.place.Buffer.{Buffer}
use Rattle.arena_mem.specs.declared.memory.MemFault.{MemFault}
use Rattle.arena_mem.specs.declared.memory.MemFault.TheVariants.{NoMemory, BlocksSpent}
use Rattle.arena_mem.specs.Places.{Places, Buffers, place_cmp, round8, splice}
use Rattle.arena_block.specs.declared.policy.Policy.{Policy}
use Rattle.arena_block.specs.Policy.{IsValid, next_size}
use Rattle.serial_arena.specs.declared.span.Span.{Span}
use Rattle.serial_arena.specs.Laid.{Laid, size_at, size_before, filled_to}

-- a placement: where it lies, and its bytes
pub record Placement : Type 0 where
  pub block : ℕ
  pub offset : ℕ
  pub len : ℕ
  pub bytes : List ℕ

-- who owns the arena, in which life and region, its policy, the sizes of its blocks and its placements, both in
-- order, and the byte strings that it keeps
pub record SerialState : Type 0 where
  pub owner : ℕ
  pub life : ℕ
  pub region : ℕ
  pub policy : Policy
  pub sizes : List ℕ
  pub placements : List Placement
  pub kept : List (List ℕ)

-- a placement without its bytes
abbrev pub span_of : Placement → Span
span_of x = record { block = x.block; offset = x.offset; len = x.len }

abbrev pub spans_of : SerialState → List Span
spans_of s = map span_of s.placements

-- the name of a placement in its region
abbrev pub place_in : ℕ → Placement → Place
place_in region x = record { region = region; block = x.block; offset = x.offset; len = x.len }

-- the kept byte strings under their numbers, from this one on
abbrev pub numbered : ℕ → ℕ → List (List ℕ) → List (Buffer × List ℕ)
numbered region number [] = []
numbered region number (bytes ∷ kept) = (record { region = region; number = number }, bytes) ∷ numbered region (suc number) kept

-- each placement's place with its bytes
abbrev pub places_of : SerialState → Places
places_of s = fin.from_entries (map (λ (x : Placement). (place_in s.region x, x.bytes)) s.placements)

-- each kept byte string under its number
abbrev pub buffers_of : SerialState → Buffers
buffers_of s = fin.from_entries (numbered s.region 0 s.kept)

-- the blocks of the arena's own region
abbrev pub blocks_of : SerialState → ℕ → ℕ
blocks_of s region = if region == s.region then length s.sizes else 0

-- the lengths of the placements together
abbrev pub used_of : SerialState → ℕ
used_of s = sum_by (λ (x : Placement). x.len) s.placements

-- the sizes of the blocks together
abbrev pub allocated_of : SerialState → ℕ
allocated_of s = sum s.sizes

-- nothing was placed and nothing kept
pub record IsUnused (s : SerialState) : Type 0 where
  pub no_placements : s.placements ≡ []
  pub no_buffers : s.kept ≡ []

-- what is left in the newest block, and nothing where there is none
abbrev pub room_of : SerialState → ℕ
room_of s = size_at s.sizes (length s.sizes - 1) - filled_to (spans_of s)

-- so many bytes, rounded up, fit the newest block
abbrev pub fits : SerialState → ℕ → Bool
fits s bytes = nat_le (round8 bytes) (room_of s)

-- the size of the block that so many bytes would open
abbrev pub opened_size : SerialState → ℕ → ℕ
opened_size s bytes = next_size s.policy (size_before s.sizes (length s.sizes)) (round8 bytes)

-- the sizes once there is room for so many bytes: one block more where they don't fit the newest one
abbrev pub sizes_for : SerialState → ℕ → List ℕ
sizes_for s bytes = if fits s bytes then s.sizes else s.sizes ++ opened_size s bytes ∷ []

-- the placement that comes next, all of it zero: in the newest block where it is filled to, if it fits, else behind the
-- header of the next block
abbrev pub next_placement : SerialState → ℕ → Placement
next_placement s bytes = record {
  block = if fits s bytes then length s.sizes - 1 else length s.sizes;
  offset = if fits s bytes then filled_to (spans_of s) else 16;
  len = round8 bytes;
  bytes = replicate (round8 bytes) 0;
}

-- the arena with that placement
abbrev pub with_place : SerialState → ℕ → SerialState
with_place s bytes = record s { sizes = sizes_for s bytes; placements = s.placements ++ next_placement s bytes ∷ [] }

-- the placement after a write to this place: other bytes where it is the place's
abbrev pub rewritten : ℕ → Place → ℕ → List ℕ → Placement → Placement
rewritten region p start bytes x = record x { bytes = if eq_by_cmp place_cmp (place_in region x) p then splice start bytes x.bytes else x.bytes }

-- the arena after that write
abbrev pub with_bytes : SerialState → Place → ℕ → List ℕ → SerialState
with_bytes s p start bytes = record s { placements = map (rewritten s.region p start bytes) s.placements }

-- the arena that keeps one more byte string
abbrev pub with_kept : SerialState → List ℕ → SerialState
with_kept s bytes = record s { kept = s.kept ++ bytes ∷ [] }

-- the blocks are spent: there are 2^32 - 1 of them, and so many bytes want another one
pub record IsSpent (s : SerialState) (bytes : ℕ) : Type 0 where
  pub blocks : length s.sizes ≡ 2 ^ 32 - 1
  pub needed : room_of s < round8 bytes

-- why a placement is refused: `BlocksSpent` exactly where the blocks are spent
abbrev pub Refuses : SerialState → ℕ → MemFault → Type 0
Refuses s bytes NoMemory = IsSpent s bytes → ⊥
Refuses s bytes (BlocksSpent region) = (region ≡ s.region) × IsSpent s bytes

-- what every arena is: its placements are laid in its blocks by its policy, and a number names each block; what is used
-- stays within 63 bits
pub record IsSerial (s : SerialState) : Type 0 where
  pub few : length s.sizes < 2 ^ 32
  pub policy : IsValid s.policy
  pub laid : Laid s.policy s.sizes (spans_of s)
  pub bytes : (k : ℕ) (d : Placement) → k < length s.placements → length (get_or s.placements k d).bytes ≡ (get_or s.placements k d).len
  pub used : used_of s < 2 ^ 63
