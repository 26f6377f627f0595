use Rattle.std.proofs.Common.{◌-◌, ◌≤◌, length, take}
use Rattle.std.specs.Io.KnownBytes.{Appends}
use Rattle.pb_write.specs.Writes.{Counts}
use Rattle.pb_write.proofs.sending.hand_over.Given as goal

-- the front of the bytes was taken
abbrev pub invariant-loop-done : goal.invariant-loop-done
invariant-loop-done g l =
    let S = g.S.Sink in
    record {
      within : l.done ≤ length l.bytes;
      taken : Appends (S.taken l.fn.sink) (S.taken l.sink) (take l.done l.bytes);
      counted : Counts (S.taken l.fn.sink) (S.taken l.sink) l.fn.taken l.taken;
      faults : S.faults l.fn.sink ≤ S.faults l.sink;
    }

abbrev pub decreases-loop-done : goal.decreases-loop-done
decreases-loop-done g l = length l.bytes - l.done
