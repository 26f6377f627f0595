use Rattle.std.proofs.Common.{◌≡◌, ◌≤◌, ℕ, List, length}
use Rattle.std.specs.List.{concat}
use Rattle.arena_mem.specs.Places.{Places, Buffers}
use Rattle.pb_schema.specs.declared.schema.Schema.{Schema}
use Rattle.pb_schema.specs.Kinds.{value_type_of}
use Rattle.pb_schema.specs.Text.{values_text}
use Rattle.pb_schema.specs.Tree.{ValueListWith, values_in_list, values_map}
use Rattle.dyn_message.specs.Feet.{Foot}
use Rattle.dyn_message.specs.Stands.{ValuesStand}
use Rattle.pb_write.specs.Puts.{Gains, front_of}
use Rattle.pb_write.proofs.Parts.{values_drop}
use Rattle.pb_write.proofs.number.put_numbers.Given as goal

-- the numbers from here on are put
abbrev pub invariant-numbers : goal.invariant-numbers
invariant-numbers g l =
    record {
      within : l.i ≤ l.fn.count;
      gained : (schema : Schema) (places : Places) (buffers : Buffers) (values : ValueListWith (List (List ℕ))) (feet : List Foot) → ValuesStand schema places buffers (value_type_of l.fn.field.kind) l.fn.elements values feet → length (values_in_list values) ≡ l.fn.count
          → Gains (g.T.Target.holds l.fn.target) (g.T.Target.holds l.target) (values_text schema l.fn.field (front_of l.fn.packed l.fn.field) (values_map concat (values_drop l.i values)));
    }

abbrev pub decreases-numbers : goal.decreases-numbers
decreases-numbers g l = l.i
