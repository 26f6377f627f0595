use Rattle.std.proofs.Common.{◌≡◌, ◌+◌, ◌-◌, ◌≤◌, length, IsTrue}
use Rattle.std.specs.Io.KnownBytes.{Consumes}
use Rattle.arena_run.proofs.input.read_picked.Given as goal

-- what was read so far is what the file lost, and the file is still the picked one
abbrev pub invariant-loop-room : goal.invariant-loop-room
invariant-loop-room g l =
    let F = g.F.Files in
    record {
      is_open : IsTrue (F.is_open l.files);
      picked : F.picked l.files ≡ F.picked l.fn.files;
      contents : F.contents l.files ≡ F.contents l.fn.files;
      blamed : F.blamed l.files ≡ F.blamed l.fn.files;
      faults : F.faults l.fn.files ≤ F.faults l.files;
      bytes : Consumes (F.left l.fn.files) (F.left l.files) l.bytes.items;
      limit : length l.bytes.items ≤ l.limit + 1;
      room : length l.room ≡ 65536;
    }

abbrev pub decreases-loop-room : goal.decreases-loop-room
decreases-loop-room g l = l.limit + 1 - length l.bytes.items
