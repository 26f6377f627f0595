-- Reading records in their order: the record at the front, or the first fault in it (encoding guide, "Message
-- Structure", "Groups" and "Length-Delimited Records"). In a record the form comes first, then the depth, then what it
-- holds. The bytes begin at the byte `at` of the frame's payload.
use Rattle.std.specs.Prelude.{◌+◌, ◌-◌, ℕ, zero, suc, Bool, true, false, ◌&&◌, ◌==◌, List, [], ◌∷◌, take, drop, Option, None, Some, Result, Ok, if◌then◌else◌}
use Rattle.std.specs.Str.{is_utf8}
use Rattle.pb_schema.specs.declared.kind.FieldType.{FieldType}
use Rattle.pb_schema.specs.declared.schema.Schema.{Schema}
use Rattle.pb_schema.specs.declared.wire_fault.WireKind.TheVariants.{Cut, GroupEnd, TooDeep, NotUtf8}
use Rattle.pb_schema.specs.declared.wire_fault.WireFault.{WireFault}
use Rattle.pb_schema.specs.Reads.{fault, ◌>>=◌}
use Rattle.pb_schema.specs.Form.{Form, form_at, read_scalar}
use Rattle.pb_schema.specs.Record.{record_of}
use Rattle.pb_schema.specs.Fits.{Contents, Anything, Numbers, Utf8, Message, contents_of, fields_of, fields_within}

-- WHERE RECORDS STAND

-- where records stand: in a message with these fields, and where they stand in a group, in the one of this number
pub record Inside : Type 0 where
  pub fields : List FieldType
  pub group : Option ℕ

abbrev pub in_message : List FieldType → Inside
in_message fields = record { fields = fields; group = None }

abbrev pub in_group : List FieldType → ℕ → Inside
in_group fields number = record { fields = fields; group = Some number }

-- where a run of records stops, and where what ends it is over: the same byte at the end of the bytes, and behind the
-- end tag in a group
abbrev pub Stop : Type 0
Stop = ℕ × ℕ

-- how the records one level deeper are read: by the byte of the tag in front of them, where they stand, the byte where
-- they begin, and the bytes from there on
abbrev pub Deeper : Type 0
Deeper = ℕ → Inside → ℕ → List ℕ → Result Stop WireFault

-- WHAT A RECORD HOLDS

-- numbers of this wire type, one after another, behind some bytes that are skipped
abbrev pub numbers_end : ℕ → ℕ → ℕ → List ℕ → Result ℕ WireFault
numbers_end wire at skip [] = Ok at
numbers_end wire at (suc skip) (b ∷ s) = numbers_end wire (suc at) skip s
numbers_end wire at zero (b ∷ s) = read_scalar wire at (b ∷ s) >>= λ n. numbers_end wire (suc at) (n - 1) s

-- a payload, which has to be this
abbrev pub read_contents : Schema → Deeper → ℕ → ℕ → List ℕ → Contents → Result ℕ WireFault
read_contents schema deeper tag at payload Anything = Ok at
read_contents schema deeper tag at payload (Numbers wire) = numbers_end wire at 0 payload
read_contents schema deeper tag at payload Utf8 = if is_utf8 payload then Ok at else fault NotUtf8 at
read_contents schema deeper tag at payload (Message type_no) =
    deeper tag (in_message (fields_of schema type_no)) at payload >>= λ stop. Ok stop.1

-- a record begins a group, or is an end tag
abbrev pub is_group : Form → Bool
is_group form = form.wire == 3

abbrev pub is_end_tag : Form → Bool
is_end_tag form = form.wire == 4

-- a group: what stands between its tags, and both tags with it
abbrev pub closed : Form → ℕ → Stop → Form
closed form at stop = record form { payload_len = stop.0 - (at + form.payload); size = stop.1 - at }

-- a group, whose records are read at what its payload has to be
abbrev pub read_group : Schema → Deeper → List FieldType → ℕ → List ℕ → Form → Result Form WireFault
read_group schema deeper fields at s form =
    let inner = fields_within schema (contents_of schema fields (record_of form s)) in
    deeper at (in_group inner form.number) (at + form.payload) (drop form.payload s)
    >>= λ stop. Ok (closed form at stop)

-- any record but a group and an end tag
abbrev pub read_plain : Schema → Deeper → List FieldType → ℕ → List ℕ → Form → Result Form WireFault
read_plain schema deeper fields at s form =
    let payload = take form.payload_len (drop form.payload s) in
    read_contents schema deeper at (at + form.payload) payload (contents_of schema fields (record_of form s))
    >>= λ _. Ok form

-- the record of this form at the front; an end tag is none
abbrev pub read_held : Schema → Deeper → List FieldType → ℕ → List ℕ → Form → Result Form WireFault
read_held schema deeper fields at s form = elim (is_group form) [
  | true ↦ read_group schema deeper fields at s form
  | false ↦ elim (is_end_tag form) [ true ↦ fault GroupEnd at | false ↦ read_plain schema deeper fields at s form ]
]

-- RECORDS ONE AFTER ANOTHER

-- the end tag of the group that the records stand in
abbrev pub ends : Option ℕ → Form → Bool
ends None form = false
ends (Some number) form = is_end_tag form && form.number == number

-- no more records: a group isn't closed
abbrev pub at_end : Option ℕ → ℕ → Result Stop WireFault
at_end None at = Ok (at, at)
at_end (Some number) at = fault Cut at

-- records, one after another, up to the end of their group, or of the bytes where they stand in none; behind some bytes
-- that are skipped
abbrev pub walk : Schema → Deeper → Inside → ℕ → ℕ → List ℕ → Result Stop WireFault
walk schema deeper inside at skip [] = at_end inside.group at
walk schema deeper inside at (suc skip) (b ∷ s) = walk schema deeper inside (suc at) skip s
walk schema deeper inside at zero (b ∷ s) = form_at at (b ∷ s) >>= λ form. elim (ends inside.group form) [
  | true ↦ Ok (at, at + form.size)
  | false ↦
      read_held schema deeper inside.fields at (b ∷ s) form
      >>= λ whole. walk schema deeper inside (suc at) (whole.size - 1) s
]

-- the records one level deeper than the last that is left
abbrev pub too_deep : Deeper
too_deep tag inside at s = fault TooDeep tag

-- records where so many levels are left below them
abbrev pub walk_left : Schema → ℕ → Deeper
walk_left schema zero tag inside at s = walk schema too_deep inside at 0 s
walk_left schema (suc left) tag inside at s = walk schema (walk_left schema left) inside at 0 s

-- how the records deeper are read
abbrev pub deeper_left : Schema → ℕ → Deeper
deeper_left schema zero = too_deep
deeper_left schema (suc left) = walk_left schema left

-- the record at the front, where so many levels are left below it
abbrev pub record_left : Schema → ℕ → List FieldType → ℕ → List ℕ → Result Form WireFault
record_left schema left fields at s =
    form_at at s >>= λ form. read_held schema (deeper_left schema left) fields at s form
