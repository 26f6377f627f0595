-- What a function that places and keeps does to a memory at most.
use Rattle.std.specs.Prelude.{◌≡◌, ◌+◌, ◌≤◌, ℕ}
use Rattle.std.specs.FinMap as map
use Rattle.arena_mem.specs.Places.{Places, Buffers, KeepsRest, KeepsBuffers}

-- from the old state to the new one the memory grew by so many places and buffers at most, and nothing else changed;
-- the first four arguments are the memory's own members
pub record Grows {S K : Type 0} (key_of : S → K) (places_of : S → Places) (buffers_of : S → Buffers) (blocks_of : S → ℕ → ℕ) (most_places most_buffers : ℕ) (old new : S) : Type 0 where
  -- what no call changes
  pub key : key_of new ≡ key_of old
  -- what was live or kept has its bytes
  pub rest : KeepsRest (places_of old) (places_of new)
  pub buffers : KeepsBuffers (buffers_of old) (buffers_of new)
  -- how many there were, and how many more at most
  pub no_fewer_places : map.len (places_of old) ≤ map.len (places_of new)
  pub few_places : map.len (places_of new) ≤ map.len (places_of old) + most_places
  pub no_fewer_buffers : map.len (buffers_of old) ≤ map.len (buffers_of new)
  pub few_buffers : map.len (buffers_of new) ≤ map.len (buffers_of old) + most_buffers
  -- a block comes with a place alone
  pub no_fewer_blocks : (region : ℕ) → blocks_of old region ≤ blocks_of new region
  pub few_blocks : (region : ℕ) → blocks_of new region ≤ blocks_of old region + most_places
