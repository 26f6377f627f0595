-- What reading the bytes of a payload from a place on makes of a message that is there, and of what was unknown so far.
use Rattle.std.specs.Prelude.{ℕ, zero, suc, List, [], ◌++◌, take, drop, Result, ◌-◌}
use Rattle.std.specs.List.{fold}
use Rattle.pb_schema.specs.declared.kind.FieldType.{FieldType}
use Rattle.pb_schema.specs.declared.schema.Schema.{Schema}
use Rattle.pb_schema.specs.declared.wire_fault.WireFault.{WireFault}
use Rattle.pb_schema.specs.Form.{Form}
use Rattle.pb_schema.specs.Record.{Record}
use Rattle.pb_schema.specs.Fits.{fields_of, no_types, contents_in}
use Rattle.pb_schema.specs.Walk.{Stop, in_message, walk, deeper_left, record_left, read_contents}
use Rattle.pb_schema.specs.Tree.{Shape, Message, fields_held, unknown_held}
use Rattle.pb_schema.specs.TreeOf.{records_in, unknown_of}
use Rattle.pb_schema.specs.ShapeOf.{piece}
use Rattle.pb_schema.specs.Put.{Onto, put, read_into, taken_put}
use Rattle.pb_schema.specs.HeldAt.{held_at, with_held}
use Rattle.pb_wire.specs.declared.wire_record.WireRecord.{WireRecord}

-- A WHOLE PAYLOAD

-- a payload read into a message that is there, where so many levels are left below it; its unknown bytes are one piece more
unfoldable pub read_left : Schema → ℕ → List FieldType → Shape → List ℕ → Shape
read_left schema left fields t s = read_into (λ pieces y. pieces ++ piece y) [] schema left fields t s

-- the same one level deeper, by the type of the message
unfoldable pub onto_left : Schema → ℕ → Onto (List (List ℕ))
onto_left schema zero type_no t inner = t
onto_left schema (suc left) type_no t inner = read_left schema left (fields_of schema type_no) t inner

-- THE REST OF A PAYLOAD

-- what the rest of a payload makes of the message that the records before it made, where these bytes before it were unknown
unfoldable pub finished : Schema → ℕ → List FieldType → Shape → List ℕ → List ℕ → Shape
finished schema left fields t unknown s =
    Message
    (fold (put schema [] (onto_left schema left) fields) (fields_held t) (records_in left s))
    (unknown_held t ++ piece (unknown ++ unknown_of schema fields (records_in left s)))

-- whether the rest has a fault
unfoldable pub walked : Schema → ℕ → List FieldType → ℕ → List ℕ → Result Stop WireFault
walked schema left fields at s = walk schema (deeper_left schema left) (in_message fields) at 0 s

-- ONE RECORD

-- the form of the record at the front, where no field is known
abbrev pub untyped : ℕ → ℕ → List ℕ → Result Form WireFault
untyped left at s = record_left no_types left [] at s

-- the message with a record put into the field that takes it
unfoldable pub with_taken : Schema → ℕ → ℕ → FieldType → Record → Shape → Shape
with_taken schema left type_no field r t =
    with_held schema type_no field.number (taken_put schema [] (onto_left schema left) field (held_at schema type_no field.number t) r field.card) t

-- the record that was found at a place of some bytes
abbrev pub payload_at : WireRecord → List ℕ → List ℕ
payload_at found bytes = take found.payload_len (drop found.payload bytes)

abbrev pub record_at : WireRecord → List ℕ → Record
record_at found bytes =
    record {
      number = found.number;
      wire = found.wire;
      payload = payload_at found bytes;
      span = take (found.end - found.start) (drop found.start bytes);
    }

-- whether its payload has a fault, where a field takes it
unfoldable pub contents_read : Schema → ℕ → FieldType → WireRecord → List ℕ → Result ℕ WireFault
contents_read schema left field found bytes =
    read_contents schema (deeper_left schema left) found.start found.payload (payload_at found bytes) (contents_in field (record_at found bytes))
