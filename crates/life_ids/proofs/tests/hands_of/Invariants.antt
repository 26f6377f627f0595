use Rattle.std.proofs.Common.{◌≡◌, ◌+◌, ◌*◌, ◌≤◌}
use Rattle.std.specs.List.{All}
use Rattle.life_ids.proofs.tests.hands_of.Given as goal

abbrev pub invariant-loop-made : goal.invariant-loop-made
invariant-loop-made l = record {
  own : l.seat.counter ≡ l.ids;
  quota : 2 * l.count ≤ l.seat.quota + 2 * l._made;
  all : All (λ h. h.seat.counter ≡ l.ids) l.hands.items;
}
