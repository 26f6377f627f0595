use Rattle.std.proofs.Common.{◌-◌, ◌≤◌, ℕ, List, length, drop}
use Rattle.std.specs.List.{concat}
use Rattle.arena_mem.specs.Outside.{KeepsTaken}
use Rattle.msg_layout.specs.Slots.{array_slot}
use Rattle.dyn_message.specs.Arrays.{HoldsArray}
use Rattle.dyn_message.specs.Feet.{Foot}
use Rattle.dyn_message.specs.Slots.{part}
use Rattle.dyn_message.specs.Stands.{PiecesStand}
use Rattle.pb_write.specs.Writes.{Counts, gathered_in}
use Rattle.pb_write.proofs.Writing.{IsWritten}
use Rattle.pb_write.proofs.forwards.write_pieces.Given as goal

-- the pieces before this one are written
abbrev pub invariant-pieces : goal.invariant-pieces
invariant-pieces g l =
    record {
      within : l.i ≤ l.count;
      longer : KeepsTaken (g.S.Sink.taken l.fn.sink) (g.S.Sink.taken l.sink);
      counted : Counts (g.S.Sink.taken l.fn.sink) (g.S.Sink.taken l.sink) l.fn.out.taken l.out.taken;
      faults : g.S.Sink.faults l.fn.sink ≤ g.S.Sink.faults l.sink;
      written : (pieces : List (List ℕ)) (feet : List Foot) → HoldsArray (λ elements more. PiecesStand (g.M.Memory.places l.fn.mem) (g.M.Memory.buffers l.fn.mem) elements pieces more) (g.M.Memory.places l.fn.mem) array_slot (length pieces) (part l.fn.at array_slot l.fn.bytes) feet
          → IsWritten (g.S.Sink.taken l.fn.sink) (gathered_in l.fn.out) (g.S.Sink.taken l.sink) (gathered_in l.out) (concat pieces) (concat (drop l.i pieces));
    }

abbrev pub decreases-pieces : goal.decreases-pieces
decreases-pieces g l = l.count - l.i
