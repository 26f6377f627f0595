use Rattle.std.proofs.Common.{◌≡◌, ◌≤◌, ◌%◌, ◌^◌, length, drop}
use Rattle.pb_schema.specs.Varint.{seven_bits}
use Rattle.desc_pool.proofs.numbers.spelled.Given as goal

abbrev pub invariant-loop-left : goal.invariant-loop-left
invariant-loop-left l =
    record {
      within : l.left ≤ length l.payload;
      value : l.value ≡ seven_bits (drop l.left l.payload) % 2 ^ 64;
    }

abbrev pub decreases-loop-left : goal.decreases-loop-left
decreases-loop-left l = l.left
