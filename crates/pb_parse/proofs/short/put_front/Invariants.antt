use Rattle.std.proofs.Common.{◌≡◌, ◌-◌, ◌≤◌, ℕ, List, [], drop, length}
use Rattle.pb_schema.specs.Fits.{fields_of}
use Rattle.pb_schema.specs.Tree.{Shape}
use Rattle.dyn_message.specs.Feet.{Foot}
use Rattle.dyn_message.specs.Stands.{Stands}
use Rattle.dyn_message.specs.Changes.{Changes}
use Rattle.dyn_message.specs.Fields.{IsMessageIn}
use Rattle.pb_parse.specs.Parsing.{Came}
use Rattle.pb_parse.specs.Reading.{walked}
use Rattle.pb_parse.proofs.short.put_front.Given as goal

-- the records up to the place are in the message, and those behind it make of it what all did
abbrev pub invariant-records : goal.invariant-records
invariant-records g l =
    let M = g.M.Memory in
    record {
      message : IsMessageIn l.types (M.places l.mem) (M.buffers l.mem) l.msg;
      within : l.at ≤ length l.bytes;
      walk : (left : ℕ) → walked l.types left (fields_of l.types l.msg.type_no) 0 l.bytes ≡ walked l.types left (fields_of l.types l.msg.type_no) l.at (drop l.at l.bytes);
      came : (left : ℕ) (t : Shape) (feet : List Foot) → Stands l.types (M.places l.fn.mem) (M.buffers l.fn.mem) l.msg t feet
          → Came l.types left (M.places l.fn.mem) (M.buffers l.fn.mem) (M.places l.mem) (M.buffers l.mem) l.msg l.bytes 0 l.at [] [] t feet;
      changes : (t : Shape) (feet : List Foot) → Stands l.types (M.places l.fn.mem) (M.buffers l.fn.mem) l.msg t feet
          → Changes M.key M.places M.buffers M.blocks 0 0 feet l.fn.mem l.mem;
    }

abbrev pub decreases-records : goal.decreases-records
decreases-records g l = length l.bytes - l.at
