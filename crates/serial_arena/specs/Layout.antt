-- How blocks hold placements.
use Rattle.std.specs.Prelude.{◌≡◌, ◌+◌, ◌*◌, ◌-◌, ◌<◌, ◌≤◌, ◌^◌, ℕ, Bool, List, [], ◌∷◌, ◌++◌, length, map, get_or, set, sum_by, nat_le, if◌then◌else◌, Result, Err, IfOk, IfErr, OnOk, OnErr}
use Rattle.std.specs.List.{sum}
use Rattle.arena_mem.specs.declared.memory.MemFault.{MemFault}
use Rattle.arena_mem.specs.declared.memory.MemFault.TheVariants.{NoMemory, BlocksSpent}
use Rattle.arena_block.specs.declared.policy.Policy.{Policy}
use Rattle.arena_block.specs.Policy.{IsValid, next_size}
use Rattle.arena_block.specs.Block.{BlockState, fresh_block, room_of, part_of, with_part, with_bytes}
use Rattle.serial_arena.specs.declared.span.Span.{Span}
use Rattle.serial_arena.specs.Laid.{Laid, span_at, end_of, filled_to, size_at, size_before}
use Rattle.serial_arena.specs.Serial.{Placement}

-- no block at all
abbrev pub no_block : BlockState
no_block = record { size = 0; bytes = [] }

abbrev pub block_at : List BlockState → ℕ → BlockState
block_at blocks b = get_or blocks b no_block

abbrev pub newest : List BlockState → BlockState
newest blocks = block_at blocks (length blocks - 1)

abbrev pub sizes_of : List BlockState → List ℕ
sizes_of blocks = map (λ (b : BlockState). b.size) blocks

-- a placement with its bytes, which are read from its block
abbrev pub placement_in : List BlockState → Span → Placement
placement_in blocks x = record {
  block = x.block;
  offset = x.offset;
  len = x.len;
  bytes = part_of (block_at blocks x.block) x.offset x.len;
}

-- a rounded length fits the newest block
abbrev pub has_room : List BlockState → ℕ → Bool
has_room blocks len = nat_le len (room_of (newest blocks))

-- the size of the block that a rounded length would open
abbrev pub opened : Policy → List BlockState → ℕ → ℕ
opened policy blocks len = next_size policy (size_before (sizes_of blocks) (length blocks)) len

-- the blocks once there is room for a rounded length
abbrev pub blocks_for : Policy → List BlockState → ℕ → List BlockState
blocks_for policy blocks len = if has_room blocks len then blocks else blocks ++ fresh_block (opened policy blocks len) ∷ []

-- the bytes that are allocated for that
abbrev pub size_for : Policy → List BlockState → ℕ → ℕ
size_for policy blocks len = if has_room blocks len then 0 else opened policy blocks len

-- the blocks after so many bytes were placed in the newest one
abbrev pub with_filled : List BlockState → ℕ → List BlockState
with_filled blocks bytes = set blocks (length blocks - 1) (with_part (newest blocks) bytes)

-- the blocks after a write into one of them, from an offset on
abbrev pub with_written : List BlockState → ℕ → ℕ → List ℕ → List BlockState
with_written blocks b offset bytes = set blocks b (with_bytes (block_at blocks b) offset bytes)

-- there are 2^32 - 1 blocks, and a rounded length wants another one
pub record AreSpent (blocks : List BlockState) (len : ℕ) : Type 0 where
  pub count : length blocks ≡ 2 ^ 32 - 1
  pub needed : room_of (newest blocks) < len

-- why there is no room: `BlocksSpent` exactly where the blocks are spent
abbrev pub Refused : List BlockState → ℕ → ℕ → MemFault → Type 0
Refused blocks len region NoMemory = AreSpent blocks len → ⊥
Refused blocks len region (BlocksSpent named) = (named ≡ region) × AreSpent blocks len

-- the blocks hold the placements, and two sums are kept beside them
pub record HoldsAll (policy : Policy) (blocks : List BlockState) (spans : List Span) (used allocated : ℕ) : Type 0 where
  pub few : length blocks < 2 ^ 32
  pub valid : IsValid policy
  pub laid : Laid policy (sizes_of blocks) spans
  pub small : (b : ℕ) → b < length (sizes_of blocks) → size_at (sizes_of blocks) b ≤ 2 ^ 31 + 8
  -- each placement lies in what is filled of its block, and the newest block is filled to the last one
  pub filled : (k : ℕ) → k < length spans → end_of (span_at spans k) ≤ length (block_at blocks (span_at spans k).block).bytes
  pub last : 0 < length blocks → length (newest blocks).bytes ≡ filled_to spans
  -- the sums are those of the lengths and of the sizes, and each stays within 64 bits
  pub used_is : used ≡ sum_by (λ (x : Span). x.len) spans
  pub used_few : used + room_of (newest blocks) ≤ 2 ^ 31 * length blocks
  pub allocated_is : allocated ≡ sum (sizes_of blocks)
  pub allocated_few : allocated ≤ 2 ^ 32 * length blocks

-- a try to make room for a rounded length: the blocks and the size of a new one, or 0; or why there is no room
pub record MakesRoom (policy : Policy) (region len : ℕ) (old new : List BlockState) (result : Result ℕ MemFault) : Type 0 where
  pub blocks : OnOk result (new ≡ blocks_for policy old len)
  pub size : IfOk result (λ size. size ≡ size_for policy old len)
  pub unchanged : OnErr result (new ≡ old)
  pub refusal : IfErr result (Refused old len region)
  -- not for want of memory where the blocks are spent
  pub full : AreSpent old len → result ≡ Err (BlocksSpent region)
