use Rattle.std.proofs.Common.{◌≡◌, ◌+◌, ◌*◌, ◌≤◌, ℕ, List, length}
use Rattle.pb_schema.specs.Depth.{fields_levels, values_levels}
use Rattle.pb_schema.specs.Kinds.{value_type_of}
use Rattle.pb_schema.specs.Tree.{ValueListWith, HeldListWith, values_in_list}
use Rattle.pb_schema.specs.Units.{values_units, fields_units}
use Rattle.dyn_message.specs.Feet.{Foot}
use Rattle.dyn_message.specs.Stands.{ValuesStand, FieldsStand}
use Rattle.pb_write.proofs.Parts.{fields_drop, values_drop}
use Rattle.msg_merge.specs.Extents.{IsExtent, pieces_bytes}
use Rattle.msg_merge.proofs.walk.+walk.Given as goal

-- a message calls itself with a level less, through the others in this order
abbrev pub decreases-message_extent : goal.decreases-message_extent
decreases-message_extent g l = 10 * l.left + 9

abbrev pub decreases-fields_extent : goal.decreases-fields_extent
decreases-fields_extent g l = 10 * l.left + 8

abbrev pub decreases-field_extent : goal.decreases-field_extent
decreases-field_extent g l = 10 * l.left + 7

abbrev pub decreases-single_extent : goal.decreases-single_extent
decreases-single_extent g l = 10 * l.left + 6

abbrev pub decreases-list_extent : goal.decreases-list_extent
decreases-list_extent g l = 10 * l.left + 6

abbrev pub decreases-values_extent : goal.decreases-values_extent
decreases-values_extent g l = 10 * l.left + 5

abbrev pub decreases-value_extent : goal.decreases-value_extent
decreases-value_extent g l = 10 * l.left + 4

-- the values from here on are counted
abbrev pub invariant-values_extent-values : goal.invariant-values_extent-values
invariant-values_extent-values g l =
    record {
      within : l.i ≤ l.fn.count;
      counted : (values : ValueListWith (List (List ℕ))) (feet : List Foot) → ValuesStand l.fn.types (g.M.Memory.places l.fn.mem) (g.M.Memory.buffers l.fn.mem) (value_type_of l.fn.field.kind) l.fn.elements values feet → length (values_in_list values) ≡ l.fn.count
          → IsExtent (values_units pieces_bytes (values_drop l.i values)) (values_levels (values_drop l.i values)) l.total;
    }

abbrev pub decreases-values_extent-values : goal.decreases-values_extent-values
decreases-values_extent-values g l = l.i

-- the fields from here on are counted
abbrev pub invariant-fields_extent-fields : goal.invariant-fields_extent-fields
invariant-fields_extent-fields g l =
    record {
      within : l.i ≤ length l.fn.entries;
      counted : (held : HeldListWith (List (List ℕ))) (feet : List Foot) → FieldsStand l.fn.types (g.M.Memory.places l.fn.mem) (g.M.Memory.buffers l.fn.mem) l.fn.bytes l.fn.entries held feet
          → IsExtent (fields_units pieces_bytes (fields_drop l.i held)) (fields_levels (fields_drop l.i held)) l.total;
    }

abbrev pub decreases-fields_extent-fields : goal.decreases-fields_extent-fields
decreases-fields_extent-fields g l = l.i
