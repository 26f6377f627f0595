-- The bytes in front are zero.
use Rattle.std.proofs.Common.{◌≡◌, ◌-◌, ◌≤◌, ℕ, List, Some, length}
use Rattle.std.specs.FinMap as fin
use Rattle.dyn_message.specs.Writes.{Rewritten, zeros_to}
use Rattle.dyn_message.proofs.message.zero_place.Given as goal

abbrev pub invariant-loop-at : goal.invariant-loop-at
invariant-loop-at g l =
    let M = g.M.Memory in
    record {
      within : l.at ≤ l.place.len;
      size : (bytes : List ℕ) → fin.get (M.places l.initial.mem) l.place ≡ Some bytes → length bytes ≡ l.place.len;
      rewritten : Rewritten M.key M.places M.buffers M.blocks l.place (zeros_to l.at) l.initial.mem l.mem;
    }

abbrev pub decreases-loop-at : goal.decreases-loop-at
decreases-loop-at g l = l.place.len - l.at
