use Rattle.std.proofs.Common.{◌≡◌, ◌-◌, ◌^◌, ◌≤◌, ℕ, List, length, drop, min}
use Rattle.msg_layout.specs.Slots.{array_slot}
use Rattle.dyn_message.specs.Arrays.{HoldsArray}
use Rattle.dyn_message.specs.Feet.{Foot}
use Rattle.dyn_message.specs.Slots.{part}
use Rattle.dyn_message.specs.Stands.{PiecesStand}
use Rattle.msg_merge.specs.Extents.{pieces_bytes}
use Rattle.msg_merge.proofs.walk.unknown_bytes.Given as goal

-- the pieces from here on are counted
abbrev pub invariant-pieces : goal.invariant-pieces
invariant-pieces g l =
    record {
      within : l.i ≤ l.count;
      counted : (pieces : List (List ℕ)) (feet : List Foot) → HoldsArray (λ elements more. PiecesStand (g.M.Memory.places l.fn.mem) (g.M.Memory.buffers l.fn.mem) elements pieces more) (g.M.Memory.places l.fn.mem) array_slot (length pieces) (part l.fn.at array_slot l.fn.bytes) feet
          → l.total ≡ min (pieces_bytes (drop l.i pieces)) (2 ^ 64 - 1);
    }

abbrev pub decreases-pieces : goal.decreases-pieces
decreases-pieces g l = l.i
