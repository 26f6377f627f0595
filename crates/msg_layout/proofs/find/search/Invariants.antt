-- The numbers before the part that is left are less, and those behind it greater.
use Rattle.std.proofs.Common.{ℕ, ◌-◌, ◌<◌, ◌≤◌, length, get_or}
use Rattle.msg_layout.specs.declared.entry.Entry.{Entry}
use Rattle.msg_layout.proofs.find.search.Given as goal

abbrev pub invariant-loop-low : goal.invariant-loop-low
invariant-loop-low l = record {
  order : l.low ≤ l.high;
  within : l.high ≤ length l.entries;
  less : (k : ℕ) (d : Entry) → k < l.low → (get_or l.entries k d).field.number < l.number;
  greater : (k : ℕ) (d : Entry) → l.high ≤ k → k < length l.entries → l.number < (get_or l.entries k d).field.number;
}

abbrev pub decreases-loop-low : goal.decreases-loop-low
decreases-loop-low l = l.high - l.low
