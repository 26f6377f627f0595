use Rattle.std.proofs.Common.{◌≤◌, ℕ, List, [], drop}
use Rattle.arena_mem.specs.Outside.{KeepsTaken}
use Rattle.pb_schema.specs.Payloads.{framed_texts}
use Rattle.pb_schema.specs.Tree.{Tree}
use Rattle.pb_write.specs.Waiting.{counted_in, waiting_in}
use Rattle.pb_write.specs.Writes.{Counts}
use Rattle.pb_write.proofs.Writing.{IsWritten}
use Rattle.arena_run.specs.Stands.{StandShort}
use Rattle.arena_run.proofs.write.write_messages.Given as goal

-- what the sink took and what waits are the texts of the messages so far
abbrev pub invariant-loop-message : goal.invariant-loop-message
invariant-loop-message g l =
    let O = g.O.Sink in
    let M = g.M.Memory in
    record {
      frames : (type_no : ℕ) (trees : List Tree) → StandShort l.types (M.places l.mem) (M.buffers l.mem) type_no l.messages trees
          → IsWritten (O.taken l.fn.out) [] (O.taken l.out) (waiting_in l.rooms) (framed_texts l.types type_no trees) (framed_texts l.types type_no (drop l.message-index trees));
      kept : KeepsTaken (O.taken l.fn.out) (O.taken l.out);
      faults : O.faults l.fn.out ≤ O.faults l.out;
      counted : Counts (O.taken l.fn.out) (O.taken l.out) (counted_in l.fn.rooms) (counted_in l.rooms);
    }
