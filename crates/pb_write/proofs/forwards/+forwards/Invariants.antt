use Rattle.std.proofs.Common.{◌≡◌, ◌+◌, ◌-◌, ◌*◌, ◌^◌, ◌≤◌, ◌<◌, ℕ, List, length, drop}
use Rattle.std.specs.List.{concat}
use Rattle.arena_mem.specs.Outside.{KeepsTaken}
use Rattle.pb_schema.specs.Kinds.{value_type_of}
use Rattle.pb_schema.specs.Text.{values_text, fields_text}
use Rattle.pb_schema.specs.Tree.{ValueListWith, HeldListWith, values_in_list, values_map, fields_map}
use Rattle.dyn_message.specs.Feet.{Foot}
use Rattle.dyn_message.specs.Stands.{ValuesStand, FieldsStand}
use Rattle.pb_write.specs.Puts.{front_of, fields_in}
use Rattle.pb_write.specs.Writes.{Counts, gathered_in}
use Rattle.pb_write.proofs.Parts.{fields_drop, values_drop}
use Rattle.pb_write.proofs.Writing.{IsWritten}
use Rattle.pb_write.proofs.forwards.+forwards.Given as goal

-- a message calls itself with a level less, through the others in this order
abbrev pub decreases-write_text : goal.decreases-write_text
decreases-write_text g l = 8 * l.left + 7

abbrev pub decreases-write_fields : goal.decreases-write_fields
decreases-write_fields g l = 8 * l.left + 6

abbrev pub decreases-write_field : goal.decreases-write_field
decreases-write_field g l = 8 * l.left + 5

abbrev pub decreases-write_single : goal.decreases-write_single
decreases-write_single g l = 8 * l.left + 4

abbrev pub decreases-write_list : goal.decreases-write_list
decreases-write_list g l = 8 * l.left + 4

abbrev pub decreases-write_elements : goal.decreases-write_elements
decreases-write_elements g l = 8 * l.left + 3

abbrev pub decreases-write_value : goal.decreases-write_value
decreases-write_value g l = 8 * l.left + 2

abbrev pub decreases-write_nested : goal.decreases-write_nested
decreases-write_nested g l = 8 * l.left + 8

-- the values before this one are written
abbrev pub invariant-write_elements-values : goal.invariant-write_elements-values
invariant-write_elements-values g l =
    record {
      within : l.i ≤ l.fn.count;
      longer : KeepsTaken (g.S.Sink.taken l.fn.sink) (g.S.Sink.taken l.sink);
      counted : Counts (g.S.Sink.taken l.fn.sink) (g.S.Sink.taken l.sink) l.fn.out.taken l.out.taken;
      faults : g.S.Sink.faults l.fn.sink ≤ g.S.Sink.faults l.sink;
      written : (values : ValueListWith (List (List ℕ))) (feet : List Foot) → ValuesStand l.fn.types (g.M.Memory.places l.fn.mem) (g.M.Memory.buffers l.fn.mem) (value_type_of l.fn.field.kind) l.fn.elements values feet → length (values_in_list values) ≡ l.fn.count
          → length (values_text l.fn.types l.fn.field (front_of l.fn.packed l.fn.field) (values_map concat values)) < 2 ^ 63
          → IsWritten (g.S.Sink.taken l.fn.sink) (gathered_in l.fn.out) (g.S.Sink.taken l.sink) (gathered_in l.out) (values_text l.fn.types l.fn.field (front_of l.fn.packed l.fn.field) (values_map concat values)) (values_text l.fn.types l.fn.field (front_of l.fn.packed l.fn.field) (values_map concat (values_drop l.i values)));
    }

abbrev pub decreases-write_elements-values : goal.decreases-write_elements-values
decreases-write_elements-values g l = l.fn.count - l.i

-- the fields before this one are written
abbrev pub invariant-write_fields-fields : goal.invariant-write_fields-fields
invariant-write_fields-fields g l =
    record {
      within : l.i ≤ length l.fn.entries;
      longer : KeepsTaken (g.S.Sink.taken l.fn.sink) (g.S.Sink.taken l.sink);
      counted : Counts (g.S.Sink.taken l.fn.sink) (g.S.Sink.taken l.sink) l.fn.out.taken l.out.taken;
      faults : g.S.Sink.faults l.fn.sink ≤ g.S.Sink.faults l.sink;
      written : (held : HeldListWith (List (List ℕ))) (feet : List Foot) → FieldsStand l.fn.types (g.M.Memory.places l.fn.mem) (g.M.Memory.buffers l.fn.mem) l.fn.bytes l.fn.entries held feet
          → length (fields_text l.fn.types (fields_in l.fn.entries) (fields_map concat held)) < 2 ^ 63
          → IsWritten (g.S.Sink.taken l.fn.sink) (gathered_in l.fn.out) (g.S.Sink.taken l.sink) (gathered_in l.out) (fields_text l.fn.types (fields_in l.fn.entries) (fields_map concat held)) (fields_text l.fn.types (drop l.i (fields_in l.fn.entries)) (fields_map concat (fields_drop l.i held)));
    }

abbrev pub decreases-write_fields-fields : goal.decreases-write_fields-fields
decreases-write_fields-fields g l = length l.fn.entries - l.i
