use Rattle.std.proofs.Common.{◌≡◌, take, sum_by}
use Rattle.ts_arena.specs.Arena.{registered_of}
use Rattle.serial_arena.specs.Serial.{used_of, allocated_of}
use Rattle.ts_arena.specs.Sums.{AreSmall}
use Rattle.ts_arena.proofs.arena.sums_in.Given as goal

abbrev pub invariant-loop-region : goal.invariant-loop-region
invariant-loop-region l = (l.sums.used ≡ sum_by used_of (take l.region-index l.regions)) × (l.sums.allocated ≡ sum_by allocated_of (take l.region-index l.regions)) × (l.sums.registered ≡ sum_by registered_of (take l.region-index l.regions)) × AreSmall l.sums l.region-index
