-- A record of a field that holds one number, a varint.
use Rattle.std.specs.Prelude.{◌≡◌, ◌-◌, ◌<◌, ◌≤◌, ℕ, List, true, length, take, drop, Ok, Some}
use Rattle.pb_schema.specs.declared.schema.Schema.{Schema}
use Rattle.pb_schema.specs.Kinds.{Coding, Scalar, value_type_of}
use Rattle.pb_schema.specs.Form.{read_scalar}
use Rattle.pb_schema.specs.TreeOf.{pattern_in}
use Rattle.msg_layout.specs.declared.entry.Entry.{Entry}
use Rattle.msg_layout.specs.Layout.{entry_of}
use Rattle.dyn_message.specs.Stands.{IsSingle}
use Rattle.pb_parse.specs.Contents.{fits_wire}
use Rattle.pb_parse.specs.Reading.{untyped}

-- the number of the record's field and its entry, where the payload starts and ends, and the number's pattern
pub record IsShort (schema : Schema) (type_no : ℕ) (bytes : List ℕ) (at number : ℕ) (entry : Entry) (payload end bits : ℕ) : Type 0 where
  pub known : entry_of schema type_no number ≡ Some entry
  pub single : IsSingle entry.field.card
  pub fits : fits_wire entry.field 0 ≡ true
  pub tag : at < payload
  pub some : payload < end
  pub within : end ≤ length bytes
  pub here : (left : ℕ) → untyped left at (drop at bytes) ≡ Ok (record { number = number; wire = 0; payload = payload - at; payload_len = end - payload; size = end - at })
  pub value : (coding : Coding) → value_type_of entry.field.kind ≡ Scalar coding → (read_scalar coding.wire payload (drop payload bytes) ≡ Ok (end - payload))
      × (bits ≡ pattern_in coding (take (end - payload) (drop payload bytes))) × (bits < coding.patterns)
