use Rattle.std.proofs.Common.{ℕ, ◌≡◌, ◌<◌, length, get_or}
use mathlib.Core.Option.{some}
use lib.ListN.{get_elem?}
use Rattle.serial_arena.specs.Serial.{SerialState}
use Rattle.arena_list.specs.declared.entry.Entry.{Entry}
use Rattle.ts_arena.proofs.sole.slot_table.Given as goal

abbrev pub invariant-loop-at : goal.invariant-loop-at
invariant-loop-at l = record { long : length l.table ≡ 64; done : (k : ℕ) (x : Entry SerialState) → k < l.at → get_elem? l.owners k ≡ some x → get_or l.table x.slot 0 ≡ k }
