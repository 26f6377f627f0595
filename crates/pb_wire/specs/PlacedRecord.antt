-- A record at a place of some bytes, with its places counted from their start. The definition counts from the place.
use Rattle.std.specs.Prelude.{◌≡◌, ◌+◌, ◌-◌, ◌<◌, ◌≤◌, ℕ, List, [], drop, Result}
use Rattle.pb_schema.specs.declared.wire_fault.WireFault.{WireFault}
use Rattle.pb_schema.specs.Reads.{read_map}
use Rattle.pb_schema.specs.Form.{Form}
use Rattle.pb_schema.specs.Fits.{no_types}
use Rattle.pb_schema.specs.Fault.{most_levels}
use Rattle.pb_schema.specs.Walk.{record_left}
use Rattle.pb_wire.specs.declared.wire_record.WireRecord.{WireRecord}

abbrev pub placed : ℕ → Form → WireRecord
placed start form =
    record {
      number = form.number;
      wire = form.wire;
      start = start;
      payload = start + form.payload;
      payload_len = form.payload_len;
      end = start + form.size;
    }

-- the record at a place of some bytes, which stand at this depth, where no field is known; or its first fault
abbrev pub record_in : ℕ → ℕ → List ℕ → Result WireRecord WireFault
record_in depth start bytes = read_map (placed start) (record_left no_types (most_levels - depth) [] start (drop start bytes))

-- the record starts here and has a byte at least; it ends within so many bytes, and its payload lies in it
abbrev pub LiesFrom : ℕ → ℕ → WireRecord → Type 0
LiesFrom start size r = (r.start ≡ start) × (start < r.end) × (r.end ≤ size) × (r.payload + r.payload_len ≤ r.end)

-- the same of a record whose payload reaches to its end
abbrev pub FillsFrom : ℕ → ℕ → WireRecord → Type 0
FillsFrom start size r =
    (start < r.payload) × (r.payload ≤ r.end) × (r.end ≤ size) × (r.payload + r.payload_len ≡ r.end)
