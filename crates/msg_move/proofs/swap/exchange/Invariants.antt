-- The bytes in front are exchanged.
use Rattle.std.proofs.Common.{◌≡◌, ◌-◌, ◌%◌, ◌≤◌}
use Rattle.msg_move.specs.Swapped.{Exchanged, front_of}
use Rattle.msg_move.proofs.swap.exchange.Given as goal

abbrev pub invariant-loop-at : goal.invariant-loop-at
invariant-loop-at g l =
    let M = g.M.Memory in
    record {
      within : l.at ≤ l.one.len;
      whole : l.at % 8 ≡ 0;
      exchanged : Exchanged M.key M.places M.buffers M.blocks l.one l.two (front_of l.at) l.initial.mem l.mem;
    }

abbrev pub decreases-loop-at : goal.decreases-loop-at
decreases-loop-at g l = l.one.len - l.at
