-- The end of an arena's life: what a watch is told, and the record of it.
use Rattle.std.specs.Prelude.{ℕ, List, [], ◌++◌, length, flat_map}
use Rattle.serial_arena.specs.Serial.{SerialState}
use Rattle.arena_list.specs.declared.entry.Entry.{Entry}
use Rattle.cleanup_list.specs.Told.{Triple, block}
use Rattle.ts_arena.specs.declared.life_record.LifeRecord.{LifeRecord}
use Rattle.ts_arena.specs.Arena.{ArenaState, registered_of, registered_at, arena_registered, arena_used}

-- the cleanups of an owner, the last number first
abbrev pub owner_told : ℕ → Entry SerialState → List Triple
owner_told life e = block life e.slot (registered_at e)

-- the cleanups of an adopted region, which belong to no life
abbrev pub adopted_told : SerialState → List Triple
adopted_told s = block 0 s.region (registered_of s)

-- the cleanups of an arena: of each owner in the order in which they joined, then of each adopted region in the order of adoption
abbrev pub cleanups : ArenaState → List Triple
cleanups a = flat_map (owner_told a.life) a.owners ++ flat_map adopted_told a.adopted

-- what the end of one serial arena tells
abbrev pub part_told : SerialState → List Triple
part_told s = block s.life s.region (registered_of s)

-- how many there are, each cleaned, and what the arena used
abbrev pub record_of : ArenaState → LifeRecord
record_of a = record {
  life = a.life;
  serials = length a.owners;
  adopted = length a.adopted;
  registered = arena_registered a;
  cleaned = arena_registered a;
  used = arena_used a;
}

-- the arena of a new life
abbrev pub fresh_arena : ArenaState → ℕ → ArenaState
fresh_arena a life = record { life = life; policy = a.policy; owners = []; adopted = [] }
