-- The registers of a run, in the arena that their messages stand in.
use Rattle.std.specs.Prelude.{◌≡◌, ◌≢◌, ◌<◌, ◌≤◌, ℕ, List, [], Option, None, Some}
use mathlib.Core.Option.{some}
use lib.ListN.{get_elem?}
use Rattle.std.specs.Io.KnownBytes.{Appends}
use Rattle.arena_mem.specs.Outside.{NamedFiles, TookPart}
use Rattle.pb_schema.specs.declared.schema.Schema.{Schema}
use Rattle.pb_schema.specs.Payloads.{framed_texts, trees_of}
use Rattle.pb_schema.specs.Tree.{Tree}
use Rattle.dyn_message.specs.declared.msg_ref.MsgRef.{MsgRef}
use Rattle.life_ids.specs.Seats.{SeatState, ids_left, greatest_drawn}
use Rattle.ts_arena.specs.Arena.{ArenaState}
use Rattle.ts_arena.specs.Sole.{arena_places, arena_buffers}
use Rattle.parse_pool.specs.Arenas.{StandsWith}
use Rattle.pb_script.specs.Registers.{RegisterState, cat_registers}
use Rattle.arena_run.specs.declared.fault.Fault.{Fault}
use Rattle.arena_run.specs.declared.fault.Fault.TheVariants.{WriteFault}
use Rattle.arena_run.specs.Lines.{TookLines}
use Rattle.arena_run.specs.Stands.{StandApart, StandWritten}

-- an arena of the profile's policy, without owners and adopted regions
pub record IsBlank (a : ArenaState) : Type 0 where
  pub start : a.policy.start ≡ 256
  pub greatest : a.policy.greatest ≡ 32768
  pub owners : a.owners ≡ []
  pub adopted : a.adopted ≡ []

-- what a run asks for: two such arenas of different lives, and ids enough for a new life in each line of a script, all greater than these
pub record CanRun (ids : SeatState) (a b : ArenaState) : Type 0 where
  pub blank : IsBlank a × IsBlank b
  pub lives : a.life ≢ b.life
  pub left : 65536 ≤ ids_left ids
  pub older : (a.life ≤ greatest_drawn ids) × (b.life ≤ greatest_drawn ids)

-- each register holds a message of arena A, and these stand in this arena for the trees, in order, on feet of their own
pub record RegistersStand (schema : Schema) (a : ArenaState) (type_no : ℕ) (registers : List RegisterState) (trees : List Tree) : Type 0 where
  pub messages : List MsgRef
  pub are : registers ≡ cat_registers messages
  pub apart : StandApart schema (arena_places a) (arena_buffers a) type_no messages trees

-- they stand for the trees of these payloads, and what a sink took is their text: all of it where the run ended well, and a front that
-- isn't all where the sink failed, in which so many texts lie whole
pub record HasWritten (schema : Schema) (root : ℕ) (payloads : List (List ℕ)) (a : ArenaState) (registers : List RegisterState) (end : Option Fault) (lines : ℕ) (was now : Option (List ℕ)) : Type 0 where
  pub trees : List Tree
  pub decoded : trees_of schema root payloads ≡ Some trees
  pub stand : RegistersStand schema a root registers trees
  pub all : end ≡ None → Appends was now (framed_texts schema root trees)
  pub part : end ≡ Some WriteFault → TookPart was now (framed_texts schema root trees)
  pub cut : end ≡ Some WriteFault → TookLines schema root trees was now lines

-- they stand for one list of trees, of which the sink took the text, or a front of it
pub record RegistersWritten (words : List (List ℕ)) (files : Option NamedFiles) (a : ArenaState) (registers : List RegisterState) (end : Option Fault) (lines : ℕ) (was now : Option (List ℕ)) : Type 0 where
  pub messages : List MsgRef
  pub are : registers ≡ cat_registers messages
  pub written : StandWritten words files (arena_places a) (arena_buffers a) messages end lines was now

-- the first registers' messages stand in the serial arenas of the callers of their numbers
abbrev pub AreEarlyIn : ℕ → ArenaState → List RegisterState → Type 0
AreEarlyIn workers a registers = (w : ℕ) (r : RegisterState) (msg : MsgRef) → w < workers → get_elem? registers w ≡ some r → r.msg ≡ Some msg → StandsWith a w msg
