use Rattle.std.proofs.Common.{◌-◌, ◌^◌, ◌≤◌, length}
use Rattle.pb_wire.specs.FramePlaces.{payloads_at, AllBegin}
use Rattle.pb_wire.proofs.Framing.{ReadTo, FollowTo}
use Rattle.pb_wire.proofs.frames.find_frames.Given as goal

abbrev pub invariant-loop-at : goal.invariant-loop-at
invariant-loop-at l =
    record {
      within : l.at ≤ length l.bytes;
      few : length l.starts.items ≤ 2 ^ 20;
      begin : AllBegin l.bytes l.starts.items;
      follow : FollowTo l.bytes l.at l.starts.items;
      read : ReadTo l.bytes l.at (payloads_at l.bytes l.starts.items);
    }

abbrev pub decreases-loop-at : goal.decreases-loop-at
decreases-loop-at l = length l.bytes - l.at
