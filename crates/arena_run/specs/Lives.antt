-- The last lives of a run: the heap regions of its registers, and its two arenas.
use Rattle.std.specs.Prelude.{◌≡◌, ◌^◌, ◌<◌, ℕ, List, [], ◌++◌, length, sum_by, flat_map, Option, None, Some, IsSome}
use Rattle.cleanup_list.specs.Told.{Triple, Gains, HasRoom}
use Rattle.serial_arena.specs.declared.arena.SerialRecord.{SerialRecord}
use Rattle.serial_arena.specs.Serial.{SerialState, used_of}
use Rattle.ts_arena.specs.declared.faults.SettleFault.TheVariants as settling
use Rattle.ts_arena.specs.declared.life_record.LifeRecord.{LifeRecord}
use Rattle.ts_arena.specs.declared.side.Side.{Side}
use Rattle.ts_arena.specs.declared.side.Side.TheVariants.{Sole, Unsettled}
use Rattle.ts_arena.specs.Arena.{ArenaState, registered_of}
use Rattle.ts_arena.specs.Ending.{part_told, cleanups, record_of}
use Rattle.ts_arena.specs.Sides.{HoldsPasses}
use Rattle.ts_arena.specs.Settling.{IsSettledFrom, RefusesSettle}
use Rattle.pb_script.specs.Registers.{RegisterState}

-- THE HEAP REGIONS

abbrev pub told_of : Option SerialState → List Triple
told_of None = []
told_of (Some s) = part_told s

abbrev pub count_of : (SerialState → ℕ) → Option SerialState → ℕ
count_of count None = 0
count_of count (Some s) = count s

-- the cleanups of a register's region, and what it has registered and used
abbrev pub region_told : RegisterState → List Triple
region_told r = told_of r.region

abbrev pub region_registered : RegisterState → ℕ
region_registered r = count_of registered_of r.region

abbrev pub region_used : RegisterState → ℕ
region_used r = count_of used_of r.region

-- the sums of all regions, of which each cleanup is run
abbrev pub heaps_record : List RegisterState → SerialRecord
heaps_record registers = record {
  registered = sum_by region_registered registers;
  cleaned = sum_by region_registered registers;
  used = sum_by region_used registers;
}

-- they stay within 63 bits
pub record HeapsFit (registers : List RegisterState) : Type 0 where
  pub registered : sum_by region_registered registers < 2 ^ 63
  pub used : sum_by region_used registers < 2 ^ 63

-- what the end of a run asks for: a side that isn't settled holds all its passes, and the sums of the heap regions are small
pub record CanEnd (registers : List RegisterState) (a b : Side) : Type 0 where
  pub sides : HoldsPasses a × HoldsPasses b
  pub heaps : HeapsFit registers

-- THE ARENAS

-- what the end of a side tells, and its record. An arena that isn't settled is settled first; where that is refused, which is for want
-- of memory, nothing is told and there is no record
abbrev pub EndsSide : Side → Option LifeRecord → List Triple → Type 0
EndsSide (Sole a) last told = (last ≡ Some (record_of a)) × (told ≡ cleanups a)
EndsSide (Unsettled shared passes) (Some last) told = (a : ArenaState) × IsSettledFrom shared passes.items a × (last ≡ record_of a) × (told ≡ cleanups a)
EndsSide (Unsettled shared passes) None told = RefusesSettle shared passes.items settling.NoMemory × (told ≡ [])

-- what a watch gained by the end of a side
pub record HasEnded (side : Side) (last : Option LifeRecord) (before : Option (List Triple)) (room : ℕ) (now : Option (List Triple)) : Type 0 where
  pub told : List Triple
  pub ends : EndsSide side last told
  pub gained : Gains before now told
  pub tells : HasRoom before room (length told) → IsSome now

-- what it gained by the end of a run: the cleanups of the heap regions in the order of the registers, then those of side a, and then those of side b
pub record HasEndedAll (registers : List RegisterState) (a b : Side) (last_a last_b : Option LifeRecord) (before : Option (List Triple)) (room : ℕ) (now : Option (List Triple)) : Type 0 where
  pub told_a : List Triple
  pub told_b : List Triple
  pub ends_a : EndsSide a last_a told_a
  pub ends_b : EndsSide b last_b told_b
  pub gained : Gains before now (flat_map region_told registers ++ told_a ++ told_b)
  pub tells : HasRoom before room (length (flat_map region_told registers ++ told_a ++ told_b)) → IsSome now
