-- A record of a message, and the record of a form at the front of some bytes (encoding guide, "Message Structure").
use Rattle.std.specs.Prelude.{ℕ, List, take, drop}
use Rattle.pb_schema.specs.Form.{Form}

-- a record: its field's number, its wire type, its payload, and its span, which is all of its bytes
pub record Record : Type 0 where
  pub number : ℕ
  pub wire : ℕ
  pub payload : List ℕ
  pub span : List ℕ

-- the record of this form at the front; of a group whose form is its start tag alone the payload is empty
abbrev pub record_of : Form → List ℕ → Record
record_of form s =
    record {
      number = form.number;
      wire = form.wire;
      payload = take form.payload_len (drop form.payload s);
      span = take form.size s;
    }
