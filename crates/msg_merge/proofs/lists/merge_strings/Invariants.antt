use Rattle.std.proofs.Common.{◌≡◌, ◌+◌, ◌*◌, ◌-◌, ◌≤◌, List}
use Rattle.std.specs.FinMap as fin
use Rattle.arena_mem.specs.Places.{used}
use Rattle.pb_schema.specs.HeldAt.{held_at}
use Rattle.pb_schema.specs.Meter.{array_bytes, cleanups, string_bytes}
use Rattle.pb_schema.specs.Put.{values_held}
use Rattle.pb_schema.specs.Tree.{Shape}
use Rattle.dyn_message.specs.Changes.{Changes}
use Rattle.dyn_message.specs.Feet.{Foot}
use Rattle.dyn_message.specs.Lists.{count_at}
use Rattle.dyn_message.specs.Stands.{Stands}
use Rattle.pb_write.proofs.Parts.{values_drop}
use Rattle.msg_merge.specs.Merging.{strings_cost}
use Rattle.msg_merge.proofs.Listed.{ListedTo}
use Rattle.msg_merge.proofs.lists.merge_strings.Given as goal

-- so many elements are copied
abbrev pub invariant-elements : goal.invariant-elements
invariant-elements g l =
    record {
      within : l.i ≤ l.len;
      listed : (t : Shape) (feet : List Foot) (u : Shape) (own : List Foot) → Stands l.fn.types (g.M.Memory.places l.fn.to_mem) (g.M.Memory.buffers l.fn.to_mem) l.fn.to t feet → Stands l.fn.types (g.N.Memory.places l.fn.from_mem) (g.N.Memory.buffers l.fn.from_mem) l.fn.from u own
          → ListedTo l.fn.types (g.M.Memory.places l.fn.to_mem) (g.M.Memory.buffers l.fn.to_mem) (g.M.Memory.places l.to_mem) (g.M.Memory.buffers l.to_mem) l.fn.to l.fn.field (values_held (held_at l.fn.types l.fn.to.type_no l.fn.field u)) l.i t feet;
      space : (t : Shape) (feet : List Foot) (u : Shape) (own : List Foot) → Stands l.fn.types (g.M.Memory.places l.fn.to_mem) (g.M.Memory.buffers l.fn.to_mem) l.fn.to t feet → Stands l.fn.types (g.N.Memory.places l.fn.from_mem) (g.N.Memory.buffers l.fn.from_mem) l.fn.from u own
          → used (g.M.Memory.places l.to_mem) + strings_cost string_bytes (values_drop l.i (values_held (held_at l.fn.types l.fn.to.type_no l.fn.field u))) ≡ used (g.M.Memory.places l.fn.to_mem) + array_bytes 24 (count_at l.fn.types l.fn.to.type_no l.fn.field t) (count_at l.fn.types l.fn.to.type_no l.fn.field t + l.i) + strings_cost string_bytes (values_held (held_at l.fn.types l.fn.to.type_no l.fn.field u));
      kept : (u : Shape) (own : List Foot) → Stands l.fn.types (g.N.Memory.places l.fn.from_mem) (g.N.Memory.buffers l.fn.from_mem) l.fn.from u own
          → fin.len (g.M.Memory.buffers l.to_mem) + strings_cost cleanups.bytes (values_drop l.i (values_held (held_at l.fn.types l.fn.to.type_no l.fn.field u))) ≡ fin.len (g.M.Memory.buffers l.fn.to_mem) + strings_cost cleanups.bytes (values_held (held_at l.fn.types l.fn.to.type_no l.fn.field u));
      changes : (t : Shape) (feet : List Foot) → Stands l.fn.types (g.M.Memory.places l.fn.to_mem) (g.M.Memory.buffers l.fn.to_mem) l.fn.to t feet
          → Changes g.M.Memory.key g.M.Memory.places g.M.Memory.buffers g.M.Memory.blocks (2 * l.i) l.i feet l.fn.to_mem l.to_mem;
    }

abbrev pub decreases-elements : goal.decreases-elements
decreases-elements g l = l.len - l.i
