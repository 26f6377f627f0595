-- How a run ends: the status of each fault, and the stage of the run at which it comes.
use Rattle.std.specs.Prelude.{◌≡◌, ◌⊎◌, ◌^◌, ◌<◌, ◌≤◌, ⊤, ℕ, List, Option, None, Some, Result, Ok, Err}
use Rattle.arena_run.specs.declared.fault.Fault.{Fault}
use Rattle.arena_run.specs.declared.fault.Fault.TheVariants.{NoMemory, Usage, Schema as SetFault, NoType, FrameCut, BadFrame, ReadFault, WriteFault, TooLong, NotBuilt}
use Rattle.arena_run.specs.declared.fault.InputKind.{InputKind}
use Rattle.arena_run.specs.declared.fault.InputKind.TheVariants.{SetBytes, FrameBytes, FrameCount}
use Rattle.pb_schema.specs.declared.schema.Schema.{Schema}
use Rattle.arena_run.specs.Words.{HasNoType, IsTypeOf}

-- THE STAGES, in their order: the words are read, the set is read and linked, the type is looked up, then comes the frames file, its
-- frames and their payloads, and then all is written

abbrev pub at_words : ℕ
at_words = 0

abbrev pub at_set_reading : ℕ
at_set_reading = 1

abbrev pub at_set : ℕ
at_set = 2

abbrev pub at_types : ℕ
at_types = 3

abbrev pub at_reading : ℕ
at_reading = 4

abbrev pub at_framing : ℕ
at_framing = 5

abbrev pub at_payloads : ℕ
at_payloads = 6

abbrev pub at_writing : ℕ
at_writing = 7

abbrev pub at_end : ℕ
at_end = 8

-- the stage at which an input is found to be too long
abbrev pub stage_of_input : InputKind → ℕ
stage_of_input SetBytes = at_set
stage_of_input FrameBytes = at_framing
stage_of_input FrameCount = at_framing

-- how much there may be of an input
abbrev pub limit_of : InputKind → ℕ
limit_of SetBytes = 2 ^ 22
limit_of FrameBytes = 2 ^ 24
limit_of FrameCount = 2 ^ 20

-- what is too long tells its own limit
abbrev pub IsLimited : Fault → Type 0
IsLimited (TooLong which limit) = limit ≡ limit_of which
IsLimited _ = ⊤

-- the status of a fault, and the stage at which it comes; want of memory comes up to that stage, and a fault of reading where a set or the
-- frames file is read
abbrev pub row_of : Fault → ℕ × ℕ
row_of NoMemory = (1, at_payloads)
row_of Usage = (2, at_words)
row_of (SetFault refused) = (3, at_set)
row_of (NoType name) = (3, at_types)
row_of (FrameCut index) = (4, at_framing)
row_of (BadFrame index fault) = (4, at_payloads)
row_of ReadFault = (6, at_reading)
row_of WriteFault = (7, at_writing)
row_of (TooLong which limit) = (8, stage_of_input which)
row_of NotBuilt = (9, at_words)

-- the status of a run, by its fault
abbrev pub status_of : Option Fault → ℕ
status_of None = 0
status_of (Some fault) = (row_of fault).0

-- the last stage at which a run with this fault ends, and the first
abbrev pub last_stage : Option Fault → ℕ
last_stage None = at_end
last_stage (Some fault) = (row_of fault).1

abbrev pub first_stage : Option Fault → ℕ
first_stage (Some NoMemory) = at_set_reading
first_stage (Some ReadFault) = at_set_reading
first_stage (Some fault) = (row_of fault).1
first_stage None = at_end

-- WHAT A FAULT TELLS OF THE RUN

-- it ended by its words
abbrev pub IsOfWords : Option Fault → Type 0
IsOfWords end = last_stage end ≤ at_words

-- it ended before it picked the frames file, and neither in want of memory nor by a fault of reading
abbrev pub IsUnread : Option Fault → Type 0
IsUnread end = last_stage end ≤ at_types

-- the set was read, and the run ended by what it holds, or later
abbrev pub IsSetRead : Option Fault → Type 0
IsSetRead end = at_set_reading < first_stage end

-- it ended before the type was looked up
abbrev pub IsUntyped : Option Fault → Type 0
IsUntyped end = last_stage end < at_types

-- it went past the look-up of the type
abbrev pub IsPastTypes : Option Fault → Type 0
IsPastTypes end = at_types < first_stage end

-- it went past its words
abbrev pub IsPastWords : Option Fault → Type 0
IsPastWords end = at_words < last_stage end

-- the frames file was read, and the run ended by what it holds, or by writing
abbrev pub IsRead : Option Fault → Type 0
IsRead end = at_reading < first_stage end

-- nothing was placed: it ended before it parsed a payload
abbrev pub IsUnplaced : Option Fault → Type 0
IsUnplaced end = last_stage end < at_payloads

-- the frames were read and cut: it ended by parsing, by writing or well
abbrev pub IsPastFrames : Option Fault → Type 0
IsPastFrames end = at_payloads ≤ last_stage end

-- it ended before it wrote
abbrev pub IsUnparsed : Option Fault → Type 0
IsUnparsed end = last_stage end < at_writing

-- all was read and parsed: it ended well, or failed to write
abbrev pub IsParsed : Option Fault → Type 0
IsParsed end = at_writing ≤ first_stage end

-- it ended well, or in want of memory
abbrev pub EndsWell : Option Fault → Type 0
EndsWell end = (end ≡ None) ⊎ (end ≡ Some NoMemory)

-- a run over a file whose content has this first fault, or none: it ends by that fault; want of memory and a fault of reading may come before it, a fault of writing where there is none
pub record EndsBy (first end : Option Fault) : Type 0 where
  pub fault : IsRead end → IsUnparsed end → first ≡ end
  pub none : IsParsed end → first ≡ None

-- PARTS OF THE RUN

-- the fault of a part that ends with a value or a fault
abbrev pub result_fault : {A : Type 0} → Result A Fault → Option Fault
result_fault (Ok x) = None
result_fault (Err fault) = Some fault

-- a run over a set that gives this schema, or has this fault, and a type of that name
pub record EndsBySet (answer : Result Schema Fault) (type_name : List ℕ) (end : Option Fault) : Type 0 where
  -- it ends by the fault of the set where it has one; want of memory and a fault of reading may come before it
  pub fault : IsSetRead end → IsUntyped end → result_fault answer ≡ end
  -- any later end comes only with a schema: one that hasn't the type, or one that has
  pub no_type : (name : List ℕ) → end ≡ Some (NoType name) → (schema : Schema) × (answer ≡ Ok schema) × HasNoType schema type_name
  pub type : IsPastTypes end → (schema : Schema) × (type_no : ℕ) × (answer ≡ Ok schema) × IsTypeOf schema type_name type_no

-- a fault that comes of reading an input that may have so many bytes
abbrev pub IsOfInput : InputKind → ℕ → Fault → Type 0
IsOfInput which limit fault = (fault ≡ NoMemory) ⊎ ((fault ≡ ReadFault) ⊎ (fault ≡ TooLong which limit))

-- a fault that comes of reading and linking the set
pub record IsOfSet (fault : Fault) : Type 0 where
  pub past : at_words < last_stage (Some fault)
  pub before : first_stage (Some fault) ≤ at_set

-- a part that read the set, and its answer, by what the set gives
abbrev pub Gives : Result Schema Fault → Result Schema Fault → Type 0
Gives answer (Ok schema) = answer ≡ Ok schema
Gives answer (Err fault) = IsSetRead (Some fault) → answer ≡ Err fault

-- a fault that comes of reading the frames file, before its payloads are looked at
pub record IsOfFile (fault : Fault) : Type 0 where
  pub past : at_types < last_stage (Some fault)
  pub before : first_stage (Some fault) < at_payloads

-- a fault that comes of parsing the payloads
abbrev pub IsOfPayloads : Fault → Type 0
IsOfPayloads fault = last_stage (Some fault) ≡ at_payloads
