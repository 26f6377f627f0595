use Rattle.std.proofs.Common.{◌≡◌, ◌<◌, ℕ, length}
use mathlib.Core.Option.{some}
use lib.ListN.{get_elem?}
use Rattle.parse_pool.proofs.sharing.all_numbers.Given as goal

-- the numbers so far are their own places
abbrev pub invariant-loop-i : goal.invariant-loop-i
invariant-loop-i l = record {
  long : length l.numbers ≡ 64;
  own : (k x : ℕ) → k < l.i → get_elem? l.numbers k ≡ some x → x ≡ k;
}
