-- What a run has read once it begins to parse, and what parsing leaves of the arena.
use Rattle.std.specs.Prelude.{◌≡◌, ◌+◌, ◌^◌, ◌<◌, ◌≤◌, ℕ, List, length, sum_by, Option, None, Some, Ok, IfSome}
use Rattle.arena_mem.specs.Outside.{NamedFiles, content_of}
use Rattle.pb_schema.specs.declared.schema.Schema.{Schema}
use Rattle.pb_schema.specs.Frames.{frames_of}
use Rattle.pb_schema.specs.Lawful.{Lawful}
use Rattle.ts_arena.specs.declared.side.Side.{Side}
use Rattle.ts_arena.specs.Arena.{ArenaState}
use Rattle.ts_arena.specs.Sides.{HoldsPasses}
use Rattle.parse_pool.specs.Arenas.{AreOwnersAfter, GrowsTo, IfSole, IsSole, KeepsKeys, most_made}
use Rattle.arena_run.specs.declared.fault.Fault.{Fault}
use Rattle.arena_run.specs.declared.fault.Fault.TheVariants.{NoMemory}
use Rattle.arena_run.specs.Causes.{ReadsFile, ReadsSet}
use Rattle.arena_run.specs.Sets.{set_given}
use Rattle.arena_run.specs.Words.{IsCat, AsksFor, IsTypeOf}

-- the payloads of a file that isn't too long, at a type that the schema has, for 1 to 64 workers
pub record IsSmall (schema : Schema) (root : ℕ) (payloads : List (List ℕ)) (workers : ℕ) : Type 0 where
  pub lawful : Lawful schema
  pub there : root < length schema.types
  pub fits : sum_by length payloads + length payloads ≤ 2 ^ 24
  pub few : length payloads ≤ 2 ^ 20
  pub some : 1 ≤ workers
  pub most : workers ≤ 64

-- the words name a set, a type and a frames file that were all read, and ask for so many workers: the schema is the one that the
-- set gives and has the type under this number, and these are the payloads of the file, where the files tell that
pub record HasRead {S : Type 0} (contents_of : S → Option NamedFiles) (faults_of : S → ℕ) (blamed_of : S → Option (List ℕ)) (words : List (List ℕ)) (old new : S) (schema : Schema) (root : ℕ) (payloads : List (List ℕ)) (workers : ℕ) : Type 0 where
  pub set : List ℕ
  pub type_name : List ℕ
  pub name : List ℕ
  pub cat : IsCat words set type_name name
  pub asks : AsksFor words workers
  pub given : IfSome (set_given (contents_of old) set) (λ answer. answer ≡ Ok schema)
  pub typed : IsTypeOf schema type_name root
  pub between : S
  pub set_read : ReadsSet contents_of faults_of blamed_of set old between None
  pub read : ReadsFile contents_of faults_of blamed_of name between new None
  pub small : IsSmall schema root payloads workers
  pub whole : IfSome (content_of (contents_of between) name) (λ content. (length content ≤ 2 ^ 24) × (frames_of content ≡ Ok payloads))

-- what parsing these payloads by so many workers leaves of an arena
pub record LeavesSide (workers : ℕ) (payloads : List (List ℕ)) (end : Option Fault) (before : ArenaState) (side : Side) : Type 0 where
  pub passes : HoldsPasses side
  pub keys : KeepsKeys before side
  pub settled : (end ≡ Some NoMemory → ⊥) → IsSole side
  pub owners : IfSole side (AreOwnersAfter workers before)
  pub grows : IfSole side (GrowsTo (most_made payloads) before)
