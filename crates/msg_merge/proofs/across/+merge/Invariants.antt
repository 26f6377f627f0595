use Rattle.std.proofs.Common.{length, ◌-◌, ◌≡◌, ◌+◌, ◌*◌, ◌≤◌, List}
use Rattle.std.specs.FinMap as fin
use Rattle.arena_mem.specs.Places.{used}
use Rattle.pb_schema.specs.HeldAt.{held_at}
use Rattle.pb_schema.specs.MergeCost.{values_fresh_cost}
use Rattle.pb_schema.specs.Meter.{array_bytes, cleanups}
use Rattle.pb_schema.specs.Put.{values_held}
use Rattle.pb_schema.specs.Tree.{Shape, fields_held}
use Rattle.pb_schema.specs.Units.{fields_units, values_units}
use Rattle.dyn_message.specs.Changes.{Changes}
use Rattle.dyn_message.specs.Feet.{Foot}
use Rattle.dyn_message.specs.Lists.{count_at}
use Rattle.dyn_message.specs.Stands.{Stands}
use Rattle.pb_write.proofs.Parts.{fields_drop, values_drop}
use Rattle.msg_merge.specs.Across.{record_meter}
use Rattle.msg_merge.specs.Extents.{pieces_bytes}
use Rattle.msg_merge.proofs.Listed.{ListedTo}
use Rattle.msg_merge.proofs.WalkedOn.{WalkedTo}
use Rattle.msg_merge.proofs.across.+merge.Given as goal

-- a message calls itself with a level less, through the others in this order
abbrev pub decreases-append_element : goal.decreases-append_element
decreases-append_element g l = 4 * l.left

abbrev pub decreases-merge_elements : goal.decreases-merge_elements
decreases-merge_elements g l = 4 * l.left + 1

abbrev pub decreases-merge_sub : goal.decreases-merge_sub
decreases-merge_sub g l = 4 * l.left + 1

abbrev pub decreases-merge_field : goal.decreases-merge_field
decreases-merge_field g l = 4 * l.left + 2

abbrev pub decreases-merge_message : goal.decreases-merge_message
decreases-merge_message g l = 4 * l.left + 3

-- so many messages are copied
abbrev pub invariant-merge_elements-elements : goal.invariant-merge_elements-elements
invariant-merge_elements-elements g l =
    let M = g.M.Memory in
    let N = g.N.Memory in
    record {
      within : l.i ≤ l.len;
      listed : (t : Shape) (feet : List Foot) (u : Shape) (own : List Foot) → Stands l.fn.types (M.places l.fn.to_mem) (M.buffers l.fn.to_mem) l.fn.to t feet → Stands l.fn.types (N.places l.fn.from_mem) (N.buffers l.fn.from_mem) l.fn.from u own
          → ListedTo l.fn.types (M.places l.fn.to_mem) (M.buffers l.fn.to_mem) (M.places l.to_mem) (M.buffers l.to_mem) l.fn.to l.fn.field.number (values_held (held_at l.fn.types l.fn.to.type_no l.fn.field.number u)) l.i t feet;
      space : (t : Shape) (feet : List Foot) (u : Shape) (own : List Foot) → Stands l.fn.types (M.places l.fn.to_mem) (M.buffers l.fn.to_mem) l.fn.to t feet → Stands l.fn.types (N.places l.fn.from_mem) (N.buffers l.fn.from_mem) l.fn.from u own
          → used (M.places l.to_mem) + values_fresh_cost (record_meter l.fn.types) l.fn.types l.fn.field (values_drop l.i (values_held (held_at l.fn.types l.fn.to.type_no l.fn.field.number u)))
          ≡ used (M.places l.fn.to_mem) + array_bytes 16 (count_at l.fn.types l.fn.to.type_no l.fn.field.number t) (count_at l.fn.types l.fn.to.type_no l.fn.field.number t + l.i) + values_fresh_cost (record_meter l.fn.types) l.fn.types l.fn.field (values_held (held_at l.fn.types l.fn.to.type_no l.fn.field.number u));
      kept : (t : Shape) (feet : List Foot) (u : Shape) (own : List Foot) → Stands l.fn.types (M.places l.fn.to_mem) (M.buffers l.fn.to_mem) l.fn.to t feet → Stands l.fn.types (N.places l.fn.from_mem) (N.buffers l.fn.from_mem) l.fn.from u own
          → fin.len (M.buffers l.to_mem) + values_fresh_cost cleanups l.fn.types l.fn.field (values_drop l.i (values_held (held_at l.fn.types l.fn.to.type_no l.fn.field.number u)))
          ≡ fin.len (M.buffers l.fn.to_mem) + values_fresh_cost cleanups l.fn.types l.fn.field (values_held (held_at l.fn.types l.fn.to.type_no l.fn.field.number u));
      few : (u : Shape) (own : List Foot) → Stands l.fn.types (N.places l.fn.from_mem) (N.buffers l.fn.from_mem) l.fn.from u own
          → values_units pieces_bytes (values_drop l.i (values_held (held_at l.fn.types l.fn.to.type_no l.fn.field.number u))) ≤ values_units pieces_bytes (values_held (held_at l.fn.types l.fn.to.type_no l.fn.field.number u));
      changes : (t : Shape) (feet : List Foot) (u : Shape) (own : List Foot) → Stands l.fn.types (M.places l.fn.to_mem) (M.buffers l.fn.to_mem) l.fn.to t feet → Stands l.fn.types (N.places l.fn.from_mem) (N.buffers l.fn.from_mem) l.fn.from u own
          → Changes M.key M.places M.buffers M.blocks
          (4 * (values_units pieces_bytes (values_held (held_at l.fn.types l.fn.to.type_no l.fn.field.number u)) - values_units pieces_bytes (values_drop l.i (values_held (held_at l.fn.types l.fn.to.type_no l.fn.field.number u)))))
          (4 * (values_units pieces_bytes (values_held (held_at l.fn.types l.fn.to.type_no l.fn.field.number u)) - values_units pieces_bytes (values_drop l.i (values_held (held_at l.fn.types l.fn.to.type_no l.fn.field.number u)))))
          feet l.fn.to_mem l.to_mem;
    }

abbrev pub decreases-merge_elements-elements : goal.decreases-merge_elements-elements
decreases-merge_elements-elements g l = l.len - l.i

-- so many fields are merged
abbrev pub invariant-merge_message-fields : goal.invariant-merge_message-fields
invariant-merge_message-fields g l =
    let M = g.M.Memory in
    let N = g.N.Memory in
    record {
      within : l.i ≤ length l.entries;
      walked : (t : Shape) (feet : List Foot) (u : Shape) (own : List Foot) → Stands l.fn.types (M.places l.fn.to_mem) (M.buffers l.fn.to_mem) l.fn.to t feet → Stands l.fn.types (N.places l.fn.from_mem) (N.buffers l.fn.from_mem) l.fn.from u own
          → WalkedTo l.fn.types (M.places l.fn.to_mem) (M.buffers l.fn.to_mem) (M.places l.to_mem) (M.buffers l.to_mem) l.fn.to u l.i t feet;
      changes : (t : Shape) (feet : List Foot) (u : Shape) (own : List Foot) → Stands l.fn.types (M.places l.fn.to_mem) (M.buffers l.fn.to_mem) l.fn.to t feet → Stands l.fn.types (N.places l.fn.from_mem) (N.buffers l.fn.from_mem) l.fn.from u own
          → Changes M.key M.places M.buffers M.blocks
          (4 * (fields_units pieces_bytes (fields_held u) - fields_units pieces_bytes (fields_drop l.i (fields_held u))))
          (4 * (fields_units pieces_bytes (fields_held u) - fields_units pieces_bytes (fields_drop l.i (fields_held u))))
          feet l.fn.to_mem l.to_mem;
    }

abbrev pub decreases-merge_message-fields : goal.decreases-merge_message-fields
decreases-merge_message-fields g l = length l.entries - l.i
