-- A region that an arena adopted with a message in it.
use Rattle.std.specs.Prelude.{◌≡◌, ◌+◌, ◌<◌, ℕ, [], ◌∷◌, ◌++◌, length, IsSome, None}
use Rattle.serial_arena.specs.Serial.{SerialState, places_of, buffers_of, used_of}
use Rattle.ts_arena.specs.Arena.{ArenaState, arena_used, arena_registered, registered_of}
use Rattle.ts_arena.specs.Parts.{owner_at}
use Rattle.ts_arena.specs.Sole.{KeepsAllElse, arena_places, arena_buffers}
use Rattle.dyn_message.specs.Feet.{Foot, KeepsOthers, foot_bytes}

-- the arena with the region behind those that it adopted before
abbrev pub with_region : ArenaState → SerialState → ArenaState
with_region a region = record a { adopted = a.adopted ++ region ∷ [] }

-- an arena was used alone by a caller that owns a serial arena in it: nothing else changed than the bytes of placements,
-- and what that serial arena has
pub record IsUsedBy (caller : ℕ) (before after : ArenaState) : Type 0 where
  pub at : ℕ
  pub there : at < length before.owners
  pub own : (owner_at before.owners at).caller ≡ caller
  pub keeps : KeepsAllElse at before after

-- all that is live or kept in the region and in the arena keeps its bytes where the region is adopted; nothing that is
-- live or kept in the region was so in the arena
pub record AreJoined (before : ArenaState) (region : SerialState) (after : ArenaState) : Type 0 where
  pub kept : KeepsOthers (arena_places before) (arena_buffers before) (arena_places after) (arena_buffers after) []
  pub region_kept : KeepsOthers (places_of region) (buffers_of region) (arena_places after) (arena_buffers after) []
  pub apart : (foot : Foot) → IsSome (foot_bytes (places_of region) (buffers_of region) foot) → foot_bytes (arena_places before) (arena_buffers before) foot ≡ None
  pub space : arena_used after ≡ arena_used before + used_of region
  pub registered : arena_registered after ≡ arena_registered before + registered_of region
