-- How placements lie in the blocks of an arena, in the order of placing.
use Rattle.std.specs.Prelude.{◌≡◌, ◌+◌, ◌-◌, ◌<◌, ◌≤◌, ℕ, zero, suc, List, length, get_or, Option, None, Some, ◌⊎◌}
use Rattle.arena_mem.specs.declared.place.Place.{Place}
use Rattle.arena_block.specs.declared.policy.Policy.{Policy}
use Rattle.arena_block.specs.Policy.{IsLength, next_size}
use Rattle.serial_arena.specs.declared.span.Span.{Span}

-- no placement at all
abbrev pub nowhere : Span
nowhere = record { block = 0; offset = 0; len = 0 }

-- the k-th placement
abbrev pub span_at : List Span → ℕ → Span
span_at spans k = get_or spans k nowhere

-- the offset behind a placement
abbrev pub end_of : Span → ℕ
end_of x = x.offset + x.len

-- where the newest block is filled to: the last placement ends there
abbrev pub filled_to : List Span → ℕ
filled_to spans = end_of (span_at spans (length spans - 1))

-- the size of a block
abbrev pub size_at : List ℕ → ℕ → ℕ
size_at sizes block = get_or sizes block 0

-- the size of the block before it
abbrev pub size_before : List ℕ → ℕ → Option ℕ
size_before sizes zero = None
size_before sizes (suc block) = Some (size_at sizes block)

-- the place of a placement in a region
abbrev pub place_of : ℕ → Span → Place
place_of region x = record { region = region; block = x.block; offset = x.offset; len = x.len }

-- y begins where x ends
pub record GoesOn (x y : Span) : Type 0 where
  pub block : y.block ≡ x.block
  pub offset : y.offset ≡ end_of x

-- y opens the block after x's, since it is longer than the room that is left behind x
pub record OpensNext (sizes : List ℕ) (x y : Span) : Type 0 where
  pub block : y.block ≡ x.block + 1
  pub offset : y.offset ≡ 16
  pub longer : size_at sizes x.block - end_of x < y.len

-- a placement in a block that is there, and not past its end
pub record Within (sizes : List ℕ) (x : Span) : Type 0 where
  pub block : x.block < length sizes
  pub fits : end_of x ≤ size_at sizes x.block

-- what holds of the blocks' sizes and the placements by a policy
pub record Laid (policy : Policy) (sizes : List ℕ) (spans : List Span) : Type 0 where
  -- each length is a multiple of 8 and at least 8
  pub lens : (k : ℕ) → k < length spans → IsLength (span_at spans k).len
  -- the first placement opens block 0 behind the header, and each other one goes on or opens the next block
  pub first_block : 0 < length spans → (span_at spans 0).block ≡ 0
  pub first_offset : 0 < length spans → (span_at spans 0).offset ≡ 16
  pub next : (k : ℕ) → suc k < length spans → GoesOn (span_at spans k) (span_at spans (suc k)) ⊎ OpensNext sizes (span_at spans k) (span_at spans (suc k))
  -- a block has the policy's size, by the size before and the length of the placement that opened it
  pub sized : (k : ℕ) → k < length spans → (span_at spans k).offset ≡ 16 → size_at sizes (span_at spans k).block ≡ next_size policy (size_before sizes (span_at spans k).block) (span_at spans k).len
  -- no placement passes its block's end
  pub within : (k : ℕ) → k < length spans → Within sizes (span_at spans k)
  -- no block is without a placement, and the last one lies in the newest
  pub held : (block : ℕ) → block < length sizes → (k : ℕ) × (k < length spans) × ((span_at spans k).block ≡ block)
  pub newest : 0 < length spans → (span_at spans (length spans - 1)).block + 1 ≡ length sizes
