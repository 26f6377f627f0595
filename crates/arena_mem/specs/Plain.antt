-- A plain memory as what it holds, and the two maps that this is.
use Rattle.std.specs.Prelude.{◌≡◌, ◌<◌, ◌≤◌, ◌*◌, ◌/◌, ◌^◌, ◌==◌, ℕ, suc, List, [], ◌∷◌, length, get_or, set, take, if◌then◌else◌}
use Rattle.std.specs.FinMap as fin
use Rattle.arena_mem.specs.declared.place.Place.{Place}
use Rattle.arena_mem.specs.declared.place.Buffer.{Buffer}
use Rattle.arena_mem.specs.Places.{Places, Buffers, splice}

-- the bytes of each block, which is one place, and the byte strings that are kept, both in order
pub record PlainState : Type 0 where
  pub placed : List (List ℕ)
  pub kept : List (List ℕ)

-- the place that is the whole of a block
abbrev pub whole_block : ℕ → List ℕ → Place
whole_block block bytes = record { region = 0; block = block; offset = 0; len = length bytes }

-- the blocks under their places, from this number on
abbrev pub placed_from : ℕ → List (List ℕ) → List (Place × List ℕ)
placed_from block [] = []
placed_from block (bytes ∷ rest) = (whole_block block bytes, bytes) ∷ placed_from (suc block) rest

-- the kept byte strings under their numbers, from this one on
abbrev pub kept_from : ℕ → List (List ℕ) → List (Buffer × List ℕ)
kept_from number [] = []
kept_from number (bytes ∷ rest) = (record { region = 0; number = number }, bytes) ∷ kept_from (suc number) rest

abbrev pub places_of : PlainState → Places
places_of s = fin.from_entries (placed_from 0 s.placed)

abbrev pub buffers_of : PlainState → Buffers
buffers_of s = fin.from_entries (kept_from 0 s.kept)

-- region 0 has a block for each place, and no other region has any
abbrev pub blocks_of : PlainState → ℕ → ℕ
blocks_of s region = if region == 0 then length s.placed else 0

-- the bytes of a block, and none where it isn't there
abbrev pub block_at : List (List ℕ) → ℕ → List ℕ
block_at placed block = get_or placed block []

-- these bytes in one block, from its byte start on
abbrev pub with_written : List (List ℕ) → ℕ → ℕ → List ℕ → List (List ℕ)
with_written placed block start bytes = set placed block (splice start bytes (block_at placed block))

-- the blocks have numbers, and their lengths too
pub record IsPlain (placed : List (List ℕ)) : Type 0 where
  pub few : length placed < 2 ^ 32
  pub short : (block : ℕ) → length (block_at placed block) < 2 ^ 31
