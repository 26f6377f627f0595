-- What a phase over a whole arena leaves.
use Rattle.std.specs.Prelude.{◌≡◌, ℕ, List}
use Rattle.life_ids.specs.Cache.{CacheState}
use Rattle.pb_schema.specs.declared.schema.Schema.{Schema}
use Rattle.pb_schema.specs.declared.wire_fault.WireFault.{WireFault}
use Rattle.dyn_message.specs.declared.msg_ref.MsgRef.{MsgRef}
use Rattle.ts_arena.specs.Arena.{ArenaState}
use Rattle.ts_arena.specs.Sides.{HoldsPasses}
use Rattle.ts_arena.specs.declared.side.Side.{Side}
use Rattle.parse_pool.specs.Arenas.{AreAfter, AreEarly, AreOwnersAfter, AreParsed, CostsArena, FitSide, GrowsTo, HasSpent, IfSole, IsBad, IsSole, KeepsKeys, most_made}
use Rattle.parse_pool.specs.declared.pool_end.PoolEnd.{PoolEnd}
use Rattle.parse_pool.specs.declared.pool_end.PoolEnd.TheVariants.{BadFrame, BlocksSpent, Done, NoMemory}

-- these payloads, of the frames from the first on, were parsed into an arena by so many workers, or why they weren't
pub record Leaves (schema : Schema) (root first : ℕ) (payloads : List (List ℕ)) (workers : ℕ) (before : ArenaState) (side : Side) (caches caches' : List CacheState) (messages : List MsgRef) (end : PoolEnd) : Type 0 where
  -- however it ended
  pub passes : HoldsPasses side
  pub keys : KeepsKeys before side
  pub settled : (end ≡ NoMemory → ⊥) → IsSole side
  pub owners : IfSole side (AreOwnersAfter workers before)
  pub grows : IfSole side (GrowsTo (most_made payloads) before)
  pub caches_are : AreAfter before.life caches caches'
  pub fit : FitSide side caches'
  -- how it ended
  pub parsed : end ≡ Done → IfSole side (λ after. AreParsed schema root before after payloads messages)
  pub costs : end ≡ Done → IfSole side (CostsArena schema root payloads before)
  pub early : end ≡ Done → IfSole side (λ after. AreEarly workers after messages)
  pub bad : (index : ℕ) (fault : WireFault) → end ≡ BadFrame index fault → IsBad schema root first payloads index fault
  pub spent : (region : ℕ) → end ≡ BlocksSpent region → IfSole side (λ after. HasSpent after region)
