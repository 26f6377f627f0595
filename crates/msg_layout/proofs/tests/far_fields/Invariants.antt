-- The fields so far are the first of those far apart.
use Rattle.std.proofs.Common.{◌≡◌}
use Rattle.msg_layout.proofs.FarFields.{far_fields}
use Rattle.msg_layout.proofs.tests.far_fields.Given as goal

abbrev pub invariant-loop-place : goal.invariant-loop-place
invariant-loop-place l = l.fields.items ≡ far_fields l.place
