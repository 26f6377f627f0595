use Rattle.std.proofs.Common.{◌≡◌, ◌+◌, ◌*◌, ◌/◌, ◌^◌, ◌≤◌, ◌++◌, length, take, drop}
use Rattle.pb_wire.proofs.Groups.{continued}
use Rattle.pb_wire.proofs.write.put_groups.Given as goal

-- the lowest groups stand behind the start, more behind each
abbrev pub invariant-loop-group : goal.invariant-loop-group
invariant-loop-group l =
    record {
      groups : take (l.start + l.group) l.room ≡ take l.start l.initial.room ++ continued l.group l.value;
      rest : l.rest ≡ l.value / 2 ^ (7 * l.group);
      room : l.start + 10 ≤ length l.room;
      beyond : drop (l.start + 10) l.room ≡ drop (l.start + 10) l.initial.room;
    }
