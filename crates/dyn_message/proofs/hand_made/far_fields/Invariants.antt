-- The fields so far are the first of those far apart.
use Rattle.std.proofs.Common.{◌≡◌}
use Rattle.msg_layout.proofs.FarFields.{far_fields}
use Rattle.dyn_message.proofs.hand_made.far_fields.Given as goal

abbrev pub invariant-loop-place : goal.invariant-loop-place
invariant-loop-place l = l.fields.items ≡ far_fields l.place
