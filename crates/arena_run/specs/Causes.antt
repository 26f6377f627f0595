-- Why a run, or a part of it, ended as it did: by its words, by the files, and what it left of the arena.
use Rattle.std.specs.Prelude.{◌≡◌, ◌⊎◌, ◌↔◌, ◌*◌, ◌^◌, ◌≤◌, ℕ, true, false, List, Option, Some, IfOk, IfSome}
use Rattle.arena_mem.specs.Outside.{NamedFiles, Rose, IsThere}
use Rattle.pb_schema.specs.Frames.{frames_of}
use Rattle.ts_arena.specs.declared.side.Side.{Side}
use Rattle.ts_arena.specs.declared.side.Side.TheVariants.{Sole}
use Rattle.ts_arena.specs.Arena.{ArenaState}
use Rattle.ts_arena.specs.Sides.{HoldsPasses}
use Rattle.parse_pool.specs.Arenas.{AreOwnersAfter, GrowsTo, IfSole, IsSole, KeepsKeys, most_made}
use Rattle.arena_run.specs.declared.fault.Fault.{Fault}
use Rattle.arena_run.specs.declared.fault.Fault.TheVariants.{NoMemory, Usage, NoType, ReadFault, NotBuilt}
use Rattle.arena_run.specs.Contents.{OfContent}
use Rattle.arena_run.specs.Ends.{IsOfWords, IsPastWords, IsRead, IsSetRead, IsUnread, IsUnplaced, EndsBy, EndsBySet}
use Rattle.arena_run.specs.Faults.{first_fault}
use Rattle.arena_run.specs.Sets.{IsTypedBy, is_built_in, set_given}
use Rattle.arena_run.specs.Words.{HasNoForm, AsksFor, IsCat, IsUnbuilt}

-- THE WORDS

pub record EndsByWords (words : List (List ℕ)) (end : Option Fault) : Type 0 where
  -- these two come exactly by the words
  pub usage : (end ≡ Some Usage) ↔ HasNoForm words
  pub not_built : (end ≡ Some NotBuilt) ↔ IsUnbuilt words
  -- and no other end comes but with words that name the command
  pub command : IsPastWords end ↔ ((set : List ℕ) × (type_name : List ℕ) × (frames : List ℕ) × IsCat words set type_name frames)
  -- a type that isn't there is told by its name, which is the word
  pub no_type : (name : List ℕ) → end ≡ Some (NoType name) → (set : List ℕ) × (frames : List ℕ) × IsCat words set name frames

-- THE FILES, of which the first three arguments are the members: what they hold, their faults, and the name that is blamed

-- the file of that name was read, or it was tried
pub record ReadsFile {S : Type 0} (contents_of : S → Option NamedFiles) (faults_of : S → ℕ) (blamed_of : S → Option (List ℕ)) (name : List ℕ) (old new : S) (end : Option Fault) : Type 0 where
  -- no call changes what the files hold, and no count falls
  pub contents : contents_of new ≡ contents_of old
  pub counts : faults_of old ≤ faults_of new
  -- a fault of reading comes only where the count rose, and the name is to blame; else no other is than before
  pub read_fault : end ≡ Some ReadFault → Rose (faults_of old) (faults_of new)
  pub blamed : end ≡ Some ReadFault → blamed_of new ≡ Some name
  pub unblamed : (end ≡ Some ReadFault → ⊥) → blamed_of new ≡ blamed_of old
  -- what was read is there
  pub there : (end ≡ Some ReadFault → ⊥) → (end ≡ Some NoMemory → ⊥) → IsThere (contents_of old) name

-- the set of that name was read, or it was tried; the one that is built in is in no file
pub record ReadsSet {S : Type 0} (contents_of : S → Option NamedFiles) (faults_of : S → ℕ) (blamed_of : S → Option (List ℕ)) (set : List ℕ) (old new : S) (end : Option Fault) : Type 0 where
  pub built_in : is_built_in set ≡ true → (new ≡ old) × (end ≡ Some ReadFault → ⊥)
  pub in_file : is_built_in set ≡ false → ReadsFile contents_of faults_of blamed_of set old new end

-- a fault of reading is that of the set's file, or that of the frames file of a type that there is
abbrev pub IsBlamed : Option NamedFiles → List ℕ → List ℕ → List ℕ → Option (List ℕ) → Type 0
IsBlamed files set type_name frames blamed = ((is_built_in set ≡ false) × (blamed ≡ Some set)) ⊎ (IsTypedBy files set type_name × (blamed ≡ Some frames))

-- a run with these words
pub record EndsByFile {S : Type 0} (contents_of : S → Option NamedFiles) (faults_of : S → ℕ) (blamed_of : S → Option (List ℕ)) (words : List (List ℕ)) (old new : S) (end : Option Fault) : Type 0 where
  pub contents : contents_of new ≡ contents_of old
  pub counts : faults_of old ≤ faults_of new
  -- nothing is picked or read where it ended by its words, nor where it ended by its type with the set that is built in
  pub untouched : IsOfWords end → new ≡ old
  pub untouched_types : (set type_name frames : List ℕ) → IsCat words set type_name frames → is_built_in set ≡ true → IsUnread end → new ≡ old
  -- a fault of reading comes only where the count rose, and one of the two files is to blame; else no other is than before
  pub read_fault : end ≡ Some ReadFault → Rose (faults_of old) (faults_of new)
  pub blamed : end ≡ Some ReadFault → (set : List ℕ) × (type_name : List ℕ) × (frames : List ℕ) × IsCat words set type_name frames × IsBlamed (contents_of old) set type_name frames (blamed_of new)
  pub unblamed : (end ≡ Some ReadFault → ⊥) → blamed_of new ≡ blamed_of old
  -- what was read is there
  pub set_there : (set type_name frames : List ℕ) → IsCat words set type_name frames → is_built_in set ≡ false → IsSetRead end → IsThere (contents_of old) set
  pub there : (set type_name frames : List ℕ) → IsCat words set type_name frames → IsRead end → IsThere (contents_of old) frames
  -- the other faults come exactly where they are the first of what the set gives, of the type, and of what the frames file holds
  pub set : (set type_name frames : List ℕ) → IsCat words set type_name frames → IfSome (set_given (contents_of old) set) (λ answer. EndsBySet answer type_name end)
  pub first : OfContent words (contents_of old) (λ schema type_no content. EndsBy (first_fault schema type_no content) end)

-- THE ARENA

-- what a run with these words left of the arena that its registers stand in
pub record LeavesArena (words : List (List ℕ)) (files : Option NamedFiles) (end : Option Fault) (before : ArenaState) (side : Side) : Type 0 where
  -- it keeps its life, its policy and its adopted regions, and holds all its passes where it isn't settled, which comes in want of memory alone
  pub passes : HoldsPasses side
  pub keys : KeepsKeys before side
  pub settled : (end ≡ Some NoMemory → ⊥) → IsSole side
  -- it is as it was where the run ended before it parsed a payload
  pub unplaced : IsUnplaced end → side ≡ Sole before
  -- its owners are those from before, and some of the callers below the number of workers
  pub owners : (workers : ℕ) → AsksFor words workers → IfSole side (AreOwnersAfter workers before)
  -- it grew by what the payloads ask for, where the file is told, and by what those of any file ask for
  pub told : OfContent words files (λ schema type_no content. IfOk (frames_of content) (λ payloads. IfSole side (GrowsTo (most_made payloads) before)))
  pub grows : IfSole side (GrowsTo (4 * 2 ^ 24) before)
