use Rattle.std.proofs.Common.{◌-◌, ◌≤◌, length}
use Rattle.parse_pool.specs.Starting.{AreEmpty}
use Rattle.parse_pool.proofs.trials.empty_caches.Given as goal

abbrev pub invariant-loop-caches : goal.invariant-loop-caches
invariant-loop-caches l = (length l.caches.items ≤ l.workers) × AreEmpty l.caches.items

abbrev pub decreases-loop-caches : goal.decreases-loop-caches
decreases-loop-caches l = l.workers - length l.caches.items
