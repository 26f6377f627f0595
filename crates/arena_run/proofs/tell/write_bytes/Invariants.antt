use Rattle.std.proofs.Common.{◌-◌, ◌≤◌, length, take}
use Rattle.std.specs.Io.KnownBytes.{Appends}
use Rattle.arena_run.proofs.tell.write_bytes.Given as goal

-- the front of the bytes was taken
abbrev pub invariant-loop-done : goal.invariant-loop-done
invariant-loop-done g l =
    let S = g.E.Sink in
    record {
      within : l.done ≤ length l.bytes;
      taken : Appends (S.taken l.fn.err) (S.taken l.err) (take l.done l.bytes);
      faults : S.faults l.fn.err ≤ S.faults l.err;
    }

abbrev pub decreases-loop-done : goal.decreases-loop-done
decreases-loop-done g l = length l.bytes - l.done
