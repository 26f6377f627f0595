use Rattle.std.proofs.Common.{◌≡◌, ◌≤◌, ◌-◌, List}
use Rattle.pb_schema.specs.Depth.{depth_of}
use Rattle.pb_schema.specs.Tree.{Shape}
use Rattle.dyn_message.specs.Feet.{Foot}
use Rattle.dyn_message.specs.Stands.{Stands}
use Rattle.msg_merge.proofs.tests.chain.Given as goal

-- the top is a node with no more levels in it than were linked
abbrev pub invariant-levels : goal.invariant-levels
invariant-levels g l =
    record {
      within : l.i ≤ l.fn.levels;
      node : l.top.type_no ≡ 1;
      stands : (t : Shape) × (feet : List Foot) × Stands l.fn.types (g.M.Memory.places l.mem) (g.M.Memory.buffers l.mem) l.top t feet × (depth_of t ≤ l.i);
    }

abbrev pub decreases-levels : goal.decreases-levels
decreases-levels g l = l.fn.levels - l.i
