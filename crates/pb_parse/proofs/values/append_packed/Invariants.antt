use Rattle.std.proofs.Common.{◌≡◌, ◌-◌, ◌≤◌, List, drop, take}
use Rattle.pb_schema.specs.Kinds.{Coding, Scalar, value_type_of}
use Rattle.pb_schema.specs.Tree.{Shape}
use Rattle.pb_schema.specs.Walk.{numbers_end}
use Rattle.dyn_message.specs.Feet.{Foot}
use Rattle.dyn_message.specs.Stands.{Stands}
use Rattle.dyn_message.specs.Changes.{Changes}
use Rattle.dyn_message.specs.Fields.{IsMessageIn}
use Rattle.dyn_message.specs.Rooms.{IsListAt}
use Rattle.pb_parse.specs.Reading.{payload_at}
use Rattle.pb_parse.proofs.Packed.{PackedTo}
use Rattle.pb_parse.proofs.values.append_packed.Given as goal

-- the numbers up to the place are appended, and those behind it give what all did
abbrev pub invariant-loop-at : goal.invariant-loop-at
invariant-loop-at g l =
    let M = g.M.Memory in
    record {
      message : IsMessageIn l.types (M.places l.mem) (M.buffers l.mem) l.msg;
      from : l.found.payload ≤ l.at;
      to : l.at ≤ l.found.end;
      walk : (coding : Coding) → value_type_of l.field.kind ≡ Scalar coding → numbers_end coding.wire l.found.payload 0 (payload_at l.found l.bytes) ≡ numbers_end coding.wire l.at 0 (drop l.at (take l.found.end l.bytes));
      put : (coding : Coding) → value_type_of l.field.kind ≡ Scalar coding → (t : Shape) (feet : List Foot) → Stands l.types (M.places l.fn.mem) (M.buffers l.fn.mem) l.msg t feet
          → PackedTo l.types (M.places l.fn.mem) (M.buffers l.fn.mem) (M.places l.mem) (M.buffers l.mem) l.msg l.field.number coding (payload_at l.found l.bytes) (drop l.at (take l.found.end l.bytes)) t feet;
      told : IsListAt (M.places l.mem) l.msg.place l.entry.slot l.array l.count;
      changes : (t : Shape) (feet : List Foot) → Stands l.types (M.places l.fn.mem) (M.buffers l.fn.mem) l.msg t feet → Changes M.key M.places M.buffers M.blocks (l.at - l.found.payload) 0 feet l.fn.mem l.mem;
    }

abbrev pub decreases-loop-at : goal.decreases-loop-at
decreases-loop-at g l = l.found.end - l.at
