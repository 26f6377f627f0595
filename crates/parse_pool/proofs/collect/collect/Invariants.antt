use Rattle.std.proofs.Common.{◌≡◌, ◌+◌, ◌-◌, ◌*◌, ◌<◌, ◌≤◌, length, vec_capacity}
use Rattle.parse_pool.specs.Phased.{AreCollected}
use Rattle.parse_pool.proofs.collect.collect.Given as goal

abbrev pub invariant-loop-i : goal.invariant-loop-i
invariant-loop-i l = (l.worker < length l.workers) × (l.i ≡ l.worker + l.turn * length l.workers) × (l.turn ≤ l.i) × (l.i ≤ l.count) × (l.count ≤ vec_capacity l.messages) × AreCollected l.workers l.i l.messages.items

abbrev pub decreases-loop-i : goal.decreases-loop-i
decreases-loop-i l = l.count - l.i
