use Rattle.std.proofs.Common.{◌≡◌, ◌+◌, ◌*◌, ◌-◌, ◌≤◌, List, length, drop}
use Rattle.std.specs.FinMap as fin
use Rattle.arena_mem.specs.Places.{used}
use Rattle.pb_schema.specs.Meter.{array_bytes, cleanups, string_bytes}
use Rattle.pb_schema.specs.Tree.{Shape}
use Rattle.dyn_message.specs.Changes.{Changes}
use Rattle.dyn_message.specs.Feet.{Foot}
use Rattle.dyn_message.specs.Stands.{Stands}
use Rattle.dyn_message.specs.Unknown.{pieces_of}
use Rattle.msg_merge.specs.Merging.{pieces_count}
use Rattle.msg_merge.proofs.Pieced.{PiecedTo}
use Rattle.msg_merge.proofs.lists.merge_pieces.Given as goal

-- so many pieces are copied
abbrev pub invariant-pieces : goal.invariant-pieces
invariant-pieces g l =
    record {
      within : l.i ≤ l.len;
      listed : (t : Shape) (feet : List Foot) (u : Shape) (own : List Foot) → Stands l.fn.types (g.M.Memory.places l.fn.to_mem) (g.M.Memory.buffers l.fn.to_mem) l.fn.to t feet → Stands l.fn.types (g.N.Memory.places l.fn.from_mem) (g.N.Memory.buffers l.fn.from_mem) l.fn.from u own
          → PiecedTo l.fn.types (g.M.Memory.places l.fn.to_mem) (g.M.Memory.buffers l.fn.to_mem) (g.M.Memory.places l.to_mem) (g.M.Memory.buffers l.to_mem) l.fn.to (pieces_of u) l.i t feet;
      space : (t : Shape) (feet : List Foot) (u : Shape) (own : List Foot) → Stands l.fn.types (g.M.Memory.places l.fn.to_mem) (g.M.Memory.buffers l.fn.to_mem) l.fn.to t feet → Stands l.fn.types (g.N.Memory.places l.fn.from_mem) (g.N.Memory.buffers l.fn.from_mem) l.fn.from u own
          → used (g.M.Memory.places l.to_mem) + pieces_count string_bytes (drop l.i (pieces_of u)) ≡ used (g.M.Memory.places l.fn.to_mem) + array_bytes 24 (length (pieces_of t)) (length (pieces_of t) + l.i) + pieces_count string_bytes (pieces_of u);
      kept : (u : Shape) (own : List Foot) → Stands l.fn.types (g.N.Memory.places l.fn.from_mem) (g.N.Memory.buffers l.fn.from_mem) l.fn.from u own
          → fin.len (g.M.Memory.buffers l.to_mem) + pieces_count cleanups.bytes (drop l.i (pieces_of u)) ≡ fin.len (g.M.Memory.buffers l.fn.to_mem) + pieces_count cleanups.bytes (pieces_of u);
      changes : (t : Shape) (feet : List Foot) → Stands l.fn.types (g.M.Memory.places l.fn.to_mem) (g.M.Memory.buffers l.fn.to_mem) l.fn.to t feet
          → Changes g.M.Memory.key g.M.Memory.places g.M.Memory.buffers g.M.Memory.blocks (2 * l.i) l.i feet l.fn.to_mem l.to_mem;
    }

abbrev pub decreases-pieces : goal.decreases-pieces
decreases-pieces g l = l.len - l.i
