use Rattle.std.proofs.Common.{◌≤◌, ℕ, List, length, drop}
use Rattle.std.specs.List.{concat}
use Rattle.msg_layout.specs.Slots.{array_slot}
use Rattle.dyn_message.specs.Arrays.{HoldsArray}
use Rattle.dyn_message.specs.Feet.{Foot}
use Rattle.dyn_message.specs.Slots.{part}
use Rattle.dyn_message.specs.Stands.{PiecesStand}
use Rattle.pb_write.specs.Puts.{Gains}
use Rattle.pb_write.proofs.backwards.put_pieces.Given as goal

-- the pieces from here on are put
abbrev pub invariant-pieces : goal.invariant-pieces
invariant-pieces g l =
    record {
      within : l.i ≤ l.count;
      gained : (pieces : List (List ℕ)) (feet : List Foot) → HoldsArray (λ elements more. PiecesStand (g.M.Memory.places l.fn.mem) (g.M.Memory.buffers l.fn.mem) elements pieces more) (g.M.Memory.places l.fn.mem) array_slot (length pieces) (part l.fn.at array_slot l.fn.bytes) feet
          → Gains (g.T.Target.holds l.fn.target) (g.T.Target.holds l.target) (concat (drop l.i pieces));
    }

abbrev pub decreases-pieces : goal.decreases-pieces
decreases-pieces g l = l.i
