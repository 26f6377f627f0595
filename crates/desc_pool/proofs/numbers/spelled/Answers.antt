use Rattle.std.proofs.Common.{◌≡◌, ◌+◌, ◌*◌, ◌%◌, ◌^◌, ◌<◌, ℕ, suc, List, length, drop, get_or, drop-cons, sym, ap, arith}
use Rattle.std.proofs.Math.Seq.{drop-length}
use Rattle.pb_schema.specs.Varint.{seven_bits}
use Rattle.desc_pool.proofs.numbers.spelled.Goals as goal

-- one byte more in front
one_more : (s : List ℕ) (i : ℕ) → i < length s → seven_bits (drop i s) ≡ get_or s i 0 % 128 + 128 * seven_bits (drop (suc i) s)
one_more s i h = ap seven_bits (drop-cons s i 0 h)

pub loop-left-init : goal.loop-left-init
loop-left-init c = record { within = omega arith; value = ap (λ s. seven_bits s % 2 ^ 64) (sym (drop-length c.args.payload.now)) }
