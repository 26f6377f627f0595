-- What the fields of a serial arena say.
use Rattle.std.specs.Prelude.{map}
use Rattle.serial_arena.specs.Layout.{HoldsAll, placement_in, sizes_of}
use Rattle.serial_arena.specs.Serial.{SerialState}
use Rattle.serial_arena.specs.declared.arena.SerialArena.TheInside.{Inside}

-- what the fields of an arena say
abbrev pub state_of : Inside → SerialState
state_of a = record {
  owner = a.owner;
  life = a.life;
  region = a.region;
  policy = a.policy;
  sizes = sizes_of a.blocks.items;
  placements = map (placement_in a.blocks.items) a.spans.items;
  kept = a.kept;
}

abbrev pub HoldsBlocks : Inside → Type 0
HoldsBlocks a = HoldsAll a.policy a.blocks.items a.spans.items a.used a.allocated
