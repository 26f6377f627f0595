use Rattle.std.proofs.Common.{◌≡◌, ◌+◌, ◌*◌, ◌≤◌, ℕ, List, length, drop}
use Rattle.std.specs.List.{concat}
use Rattle.pb_schema.specs.Kinds.{value_type_of}
use Rattle.pb_schema.specs.Text.{values_text, fields_text}
use Rattle.pb_schema.specs.Tree.{ValueListWith, HeldListWith, values_in_list, values_map, fields_map}
use Rattle.dyn_message.specs.Feet.{Foot}
use Rattle.dyn_message.specs.Stands.{ValuesStand, FieldsStand}
use Rattle.pb_write.specs.Puts.{Gains, front_of, fields_in}
use Rattle.pb_write.proofs.Parts.{fields_drop, values_drop}
use Rattle.pb_write.proofs.backwards.+backwards.Given as goal

-- a message calls itself with a level less, through the others in this order
abbrev pub decreases-put_message : goal.decreases-put_message
decreases-put_message g l = 10 * l.left + 9

abbrev pub decreases-put_fields : goal.decreases-put_fields
decreases-put_fields g l = 10 * l.left + 8

abbrev pub decreases-put_some : goal.decreases-put_some
decreases-put_some g l = 10 * l.left + 7

abbrev pub decreases-put_single : goal.decreases-put_single
decreases-put_single g l = 10 * l.left + 6

abbrev pub decreases-put_list : goal.decreases-put_list
decreases-put_list g l = 10 * l.left + 6

abbrev pub decreases-put_elements : goal.decreases-put_elements
decreases-put_elements g l = 10 * l.left + 5

abbrev pub decreases-put_values : goal.decreases-put_values
decreases-put_values g l = 10 * l.left + 4

abbrev pub decreases-put_value : goal.decreases-put_value
decreases-put_value g l = 10 * l.left + 3

abbrev pub decreases-put_nested : goal.decreases-put_nested
decreases-put_nested g l = 10 * l.left + 10

-- the values from here on are put
abbrev pub invariant-put_values-values : goal.invariant-put_values-values
invariant-put_values-values g l =
    record {
      within : l.i ≤ l.fn.count;
      gained : (values : ValueListWith (List (List ℕ))) (feet : List Foot) → ValuesStand l.fn.types (g.M.Memory.places l.fn.mem) (g.M.Memory.buffers l.fn.mem) (value_type_of l.fn.field.kind) l.fn.elements values feet → length (values_in_list values) ≡ l.fn.count
          → Gains (g.T.Target.holds l.fn.target) (g.T.Target.holds l.target) (values_text l.fn.types l.fn.field (front_of l.fn.packed l.fn.field) (values_map concat (values_drop l.i values)));
    }

abbrev pub decreases-put_values-values : goal.decreases-put_values-values
decreases-put_values-values g l = l.i

-- the fields from here on are put
abbrev pub invariant-put_fields-fields : goal.invariant-put_fields-fields
invariant-put_fields-fields g l =
    record {
      within : l.i ≤ length l.fn.entries;
      gained : (held : HeldListWith (List (List ℕ))) (feet : List Foot) → FieldsStand l.fn.types (g.M.Memory.places l.fn.mem) (g.M.Memory.buffers l.fn.mem) l.fn.bytes l.fn.entries held feet
          → Gains (g.T.Target.holds l.fn.target) (g.T.Target.holds l.target) (fields_text l.fn.types (drop l.i (fields_in l.fn.entries)) (fields_map concat (fields_drop l.i held)));
    }

abbrev pub decreases-put_fields-fields : goal.decreases-put_fields-fields
decreases-put_fields-fields g l = l.i
