use Rattle.std.proofs.Common.{◌≡◌, ◌+◌, ◌*◌, ◌-◌, ◌≤◌, List, [], drop, length}
use Rattle.pb_schema.specs.Fits.{fields_of}
use Rattle.pb_schema.specs.Records.{Record, Records}
use Rattle.pb_schema.specs.Tree.{Shape}
use Rattle.dyn_message.specs.Feet.{Foot}
use Rattle.dyn_message.specs.Stands.{Stands}
use Rattle.dyn_message.specs.Changes.{Changes}
use Rattle.dyn_message.specs.Fields.{IsMessageIn}
use Rattle.pb_parse.specs.Parsing.{Came, LiesBefore, pending}
use Rattle.pb_parse.specs.Reading.{walked}
use Rattle.pb_parse.proofs.message.+parse.Given as goal

abbrev pub decreases-parse_message : goal.decreases-parse_message
decreases-parse_message g l = 4 * l.left + 3

abbrev pub decreases-parse_record : goal.decreases-parse_record
decreases-parse_record g l = 4 * l.left + 2

abbrev pub decreases-parse_taken : goal.decreases-parse_taken
decreases-parse_taken g l = 4 * l.left + 1

abbrev pub decreases-parse_sub : goal.decreases-parse_sub
decreases-parse_sub g l = 4 * l.left

abbrev pub decreases-parse_element : goal.decreases-parse_element
decreases-parse_element g l = 4 * l.left

-- the records up to the place are in the message, and those behind it make of it what all did
abbrev pub invariant-parse_message-loop-at : goal.invariant-parse_message-loop-at
invariant-parse_message-loop-at g l =
    let M = g.M.Memory in
    record {
      message : IsMessageIn l.types (M.places l.mem) (M.buffers l.mem) l.msg;
      from : l.start ≤ l.at;
      lies : LiesBefore l.unknown l.bytes l.at;
      whole : (rs : List Record) × Records (pending l.unknown l.bytes) rs;
      walk : walked l.types l.left (fields_of l.types l.msg.type_no) l.start (drop l.start l.bytes) ≡ walked l.types l.left (fields_of l.types l.msg.type_no) l.at (drop l.at l.bytes);
      came : (t : Shape) (feet : List Foot) → Stands l.types (M.places l.fn.mem) (M.buffers l.fn.mem) l.msg t feet
          → Came l.types l.left (M.places l.fn.mem) (M.buffers l.fn.mem) (M.places l.mem) (M.buffers l.mem) l.msg l.bytes l.start l.at [] (pending l.unknown l.bytes) t feet;
      changes : (t : Shape) (feet : List Foot) → Stands l.types (M.places l.fn.mem) (M.buffers l.fn.mem) l.msg t feet
          → Changes M.key M.places M.buffers M.blocks (4 * (l.at - l.start)) (4 * (l.at - l.start)) feet l.fn.mem l.mem;
    }

abbrev pub decreases-parse_message-loop-at : goal.decreases-parse_message-loop-at
decreases-parse_message-loop-at g l = length l.bytes - l.at
