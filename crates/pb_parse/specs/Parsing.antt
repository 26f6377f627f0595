-- What the parser's functions ask and tell.
use Rattle.std.specs.Prelude.{◌≡◌, ◌≢◌, ◌+◌, ◌-◌, ◌≤◌, ◌<◌, ◌^◌, ℕ, Bool, true, ⊤, List, ◌++◌, length, take, drop, Ok, Option, Some}
use Rattle.arena_mem.specs.Places.{Places, Buffers, NamesFullRegion}
use Rattle.pb_schema.specs.declared.kind.FieldType.{FieldType}
use Rattle.pb_schema.specs.declared.schema.Schema.{Schema}
use Rattle.pb_schema.specs.declared.wire_fault.WireFault.{WireFault}
use Rattle.pb_schema.specs.Fits.{fields_of, takes}
use Rattle.pb_schema.specs.Form.{read_scalar}
use Rattle.pb_schema.specs.Walk.{Stop}
use Rattle.pb_schema.specs.HeldAt.{field_at}
use Rattle.pb_schema.specs.Kinds.{ValueType, Characters}
use Rattle.std.specs.Str.{is_utf8}
use Rattle.pb_schema.specs.Tree.{Shape}
use Rattle.pb_wire.specs.declared.wire_record.WireRecord.{WireRecord}
use Rattle.dyn_message.specs.declared.msg_ref.MsgRef.{MsgRef}
use Rattle.dyn_message.specs.Feet.{Foot}
use Rattle.dyn_message.specs.Stands.{Stands}
use Rattle.dyn_message.specs.Changes.{NowStands}
use Rattle.pb_parse.specs.declared.stop.Halt.{Halt}
use Rattle.pb_parse.specs.declared.stop.Halt.TheVariants as halts
use Rattle.pb_parse.specs.declared.stop.ParseFault.{ParseFault}
use Rattle.pb_parse.specs.declared.stop.ParseFault.TheVariants as faults
use Rattle.pb_schema.specs.Records.{Record}
use Rattle.pb_parse.specs.Costs.{Costs, Spends, rest_cost, taken_cost}
use Rattle.pb_parse.specs.Reading.{finished, walked, record_at}

-- bytes that may be a value of a kind: text is UTF-8
abbrev pub fits_kind : ValueType → List ℕ → Bool
fits_kind Characters s = is_utf8 s
fits_kind _ s = true

-- for each shape that the message stands for, and what it stands on
abbrev pub Always : Schema → Places → Buffers → MsgRef → (Shape → List Foot → Type 0) → Type 0
Always schema places buffers msg P = (t : Shape) (feet : List Foot) → Stands schema places buffers msg t feet → P t feet

-- why a reading stopped: the bytes are broken, or the memory refused
abbrev pub IsCause : (ℕ → ℕ) → Type 0 → Halt → Type 0
IsCause blocks Broken halts.Bad = Broken
IsCause blocks Broken (halts.Refused fault) = NamesFullRegion blocks fault

-- why a payload with this fault, or none, was refused
abbrev pub IsParseFault : Option WireFault → (ℕ → ℕ) → ParseFault → Type 0
IsParseFault first blocks (faults.Bad fault) = first ≡ Some fault
IsParseFault first blocks faults.NoMemory = ⊤
IsParseFault first blocks (faults.BlocksSpent region) = blocks region ≡ 2 ^ 32 - 1

-- a field takes the record that was found; its payload lies behind a tag, and is a whole value where it is no length's
pub record IsFor (schema : Schema) (type_no : ℕ) (bytes : List ℕ) (found : WireRecord) (field : FieldType) : Type 0 where
  pub known : field_at schema type_no field.number ≡ Some field
  pub taken : takes schema field (record_at found bytes) ≡ true
  pub tag : found.start < found.payload
  pub payload : found.payload + found.payload_len ≡ found.end
  pub within : found.end ≤ length bytes
  pub value : found.wire ≢ 2 → read_scalar found.wire found.payload (drop found.payload bytes) ≡ Ok found.payload_len

-- the memory was made to hold what a record counts that a field of the message takes
abbrev pub CostsTaken : Schema → ℕ → Places → Buffers → Places → Buffers → MsgRef → FieldType → Record → Shape → Type 0
CostsTaken schema left places buffers places' buffers' msg field r t =
    Costs schema places buffers places' buffers' (λ meter. taken_cost meter schema left msg.type_no field r t)

-- some records in, the message stands for another shape, and what is left makes of it what all made of the first one,
-- and counts less than all did by what the memory was made to hold, where what is left has no fault
pub record Came (schema : Schema) (left : ℕ) (places : Places) (buffers : Buffers) (places' : Places) (buffers' : Buffers) (msg : MsgRef) (bytes : List ℕ) (at next : ℕ) (unknown unknown' : List ℕ) (t : Shape) (feet : List Foot) : Type 0 where
  pub shape : Shape
  pub stands : NowStands schema places buffers places' buffers' msg shape feet
  pub goes : (stop : Stop) → walked schema left (fields_of schema msg.type_no) next (drop next bytes) ≡ Ok stop
      → finished schema left (fields_of schema msg.type_no) t unknown (drop at bytes)
      ≡ finished schema left (fields_of schema msg.type_no) shape unknown' (drop next bytes)
  pub costs : (stop : Stop) → walked schema left (fields_of schema msg.type_no) next (drop next bytes) ≡ Ok stop
      → Spends schema places buffers places' buffers'
      (λ meter. rest_cost meter schema left msg.type_no t unknown (drop at bytes))
      (λ meter. rest_cost meter schema left msg.type_no shape unknown' (drop next bytes))

-- UNKNOWN BYTES

-- the unknown bytes of a payload so far: those that were copied, and a run that lies in the payload
pub record Pending : Type 0 where
  pub copied : List ℕ
  pub start : ℕ
  pub end : ℕ

abbrev pub pending : Pending → List ℕ → List ℕ
pending u bytes = u.copied ++ take (u.end - u.start) (drop u.start bytes)

-- the run lies in front of a place of the bytes
pub record LiesBefore (u : Pending) (bytes : List ℕ) (at : ℕ) : Type 0 where
  pub ordered : u.start ≤ u.end
  pub before : u.end ≤ at
  pub within : at ≤ length bytes
  pub few : length (pending u bytes) ≤ at
